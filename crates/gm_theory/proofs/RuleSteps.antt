-- The steps of a rule in range, with the conditions on structure and arcs: links are steps of both their ends, places are places of the word, and a step stands where a label is.
use Rattle.std.proofs.Common.{◌≡◌, ℕ, ◌<◌, ◌≤◌, ◌⊎◌, Bool, true, false, cond, ◌||◌, eqb, IsTrue, length, Option, Some, None, slice_get, refl, sym, ◌∙◌, ap, subst, inl, inr, arith}
use Rattle.std.proofs.lemmas.Bool.{eqb-true, eq-eqb}
use Rattle.std.proofs.lemmas.Option.{slice_get_within}
use Rattle.std.specs.List.{find, position}
use Rattle.gm_model.specs.declared.rule.Link.{Link}
use Rattle.gm_model.specs.declared.rule.Side.{Side}
use Rattle.gm_model.specs.declared.rule.Side.TheVariants.{Left, Right}
use Rattle.gm_model.specs.declared.schema.Schema.{Schema}
use Rattle.gm_model.specs.declared.step.Step.{Step}
use Rattle.gm_model.specs.declared.step.Step.TheVariants.{Absent, Exp, Imp}
use Rattle.gm_model.specs.Rules.{Rule, RuleNode, has_word, letters, links_on, is_end, is_label, other_end, step, step_by, width}
use Rattle.gm_model.specs.Structure.{IsInRange, HasIncidence, IsLinkInRange, HasOnce, HasLabel}
use Rattle.gm_model.specs.Unfolding.{IsStep}
use Rattle.gm_theory.proofs.Lists.{find_passes, find_has, find_counts, find_alone, find_none, position_within, position_none, position_counts}
use Rattle.gm_theory.proofs.Tests.{both_true, and_true, not_both}

-- a node with a word is a node
pub word_below : (rule : Rule) (side : Side) (x : ℕ) → IsTrue (has_word rule side x) → x < length rule.nodes
word_below rule side x h = go (slice_get rule.nodes x) refl
  where
    go : (node : Option RuleNode) → slice_get rule.nodes x ≡ node → x < length rule.nodes
    go None e = not_both false (rw e at h) refl
    go (Some node) e = slice_get_within rule.nodes x node e

-- ---- ends of links

pub end_parts : (x i : ℕ) (link : Link) → IsTrue (is_end x i link) → (link.label ≡ i) × ((link.from ≡ x) ⊎ ((link.to ≡ x) × (eqb link.from x ≡ false)))
end_parts x i link h = (eqb-true link.label i (both_true (eqb link.label i) (eqb link.from x || eqb link.to x) h).0, go (eqb link.from x) refl (both_true (eqb link.label i) (eqb link.from x || eqb link.to x) h).1)
  where
    go : (b : Bool) → eqb link.from x ≡ b → IsTrue (b || eqb link.to x) → (link.from ≡ x) ⊎ ((link.to ≡ x) × (eqb link.from x ≡ false))
    go true e k = inl (eqb-true link.from x e)
    go false e k = inr (eqb-true link.to x k, e)

-- the other end of a link is an end as well, whose other end is the first
pub other_is_end : (x i : ℕ) (link : Link) → IsTrue (is_end x i link) → IsTrue (is_end (other_end x link) i link) × (other_end (other_end x link) link ≡ x)
other_is_end x i link h = go (end_parts x i link h)
  where
    or_second : (a b : Bool) → IsTrue b → IsTrue (a || b)
    or_second true b k = refl
    or_second false b k = k

    or_first : (a b : Bool) → IsTrue a → IsTrue (a || b)
    or_first true b k = refl
    or_first false b k = not_both false k refl

    at_to : link.from ≡ x → (b : Bool) → eqb link.from link.to ≡ b → cond b link.to link.from ≡ x
    at_to e true f = sym (eqb-true link.from link.to f) ∙ e
    at_to e false f = e

    go : (link.label ≡ i) × ((link.from ≡ x) ⊎ ((link.to ≡ x) × (eqb link.from x ≡ false))) → IsTrue (is_end (other_end x link) i link) × (other_end (other_end x link) link ≡ x)
    go (l, inl e) = rw (eq-eqb link.from x e) (and_true (eqb link.label i) (eqb link.from link.to || eqb link.to link.to) (eq-eqb link.label i l) (or_second (eqb link.from link.to) (eqb link.to link.to) (eq-eqb link.to link.to refl)), at_to e (eqb link.from link.to) refl)
    go (l, inr (e, f)) = rw f (and_true (eqb link.label i) (eqb link.from link.from || eqb link.to link.from) (eq-eqb link.label i l) (or_first (eqb link.from link.from) (eqb link.to link.from) (eq-eqb link.from link.from refl)), rw (eq-eqb link.from link.from refl) e)

-- both ends of a link are nodes of its side
pub other_has_word : (n : ℕ) (rule : Rule) (side : Side) (x : ℕ) (link : Link) → IsLinkInRange n rule side link → IsTrue (has_word rule side (other_end x link))
other_has_word n rule side x link r = go (eqb link.from x)
  where
    go : (b : Bool) → IsTrue (has_word rule side (cond b link.to link.from))
    go true = r.to
    go false = r.from

-- ---- steps

pub step_link : (x y : ℕ) (link : Option Link) (place : Option ℕ) → step_by x link place ≡ Exp y → (l : Link) × (link ≡ Some l) × (other_end x l ≡ y)
step_link x y (Some l) place e = (l, refl, cc)
step_link x y None (Some m) e = absurd (cc)
step_link x y None None e = absurd (cc)

pub step_place : (x m : ℕ) (link : Option Link) (place : Option ℕ) → step_by x link place ≡ Imp m → (link ≡ None) × (place ≡ Some m)
step_place x m (Some l) place e = absurd (cc)
step_place x m None (Some k) e = (refl, cc)
step_place x m None None e = absurd (cc)

pub step_absent : (x : ℕ) (link : Option Link) (place : Option ℕ) → step_by x link place ≡ Absent → (link ≡ None) × (place ≡ None)
step_absent x (Some l) place e = absurd (cc)
step_absent x None (Some k) e = absurd (cc)
step_absent x None None e = (refl, refl)

module _ (schema : Schema) (rule : Rule) (in_range : IsInRange schema rule) (incidence : HasIncidence schema.dim rule) where
  pub once : (side : Side) (x i : ℕ) → IsTrue (has_word rule side x) → i ≤ schema.dim → HasOnce rule side x i
  once Left x i h b = (incidence.arcs x (word_below rule Left x h)).left_once i (omega arith)
  once Right x i h b = (incidence.arcs x (word_below rule Right x h)).right_once i (omega arith)

  -- a link is a step of both its ends
  pub step_back : (side : Side) (x i y : ℕ) → i ≤ schema.dim → step rule side x i ≡ Exp y → IsTrue (has_word rule side y) × (step rule side y i ≡ Exp x)
  step_back side x i y b e = go (step_link x y (find (is_end x i) (links_on rule side)) (position (is_label i) (letters rule side x)) e)
    where
      go : (l : Link) × (find (is_end x i) (links_on rule side) ≡ Some l) × (other_end x l ≡ y) → IsTrue (has_word rule side y) × (step rule side y i ≡ Exp x)
      go (l, found, o) = (word, rw again (ap Exp back))
        where
          passes : IsTrue (is_end x i l)
          passes = find_passes (is_end x i) (links_on rule side) l found

          word : IsTrue (has_word rule side y)
          word = subst (λ z. IsTrue (has_word rule side z)) o (other_has_word schema.dim rule side x l (find_has (IsLinkInRange schema.dim rule side) (is_end x i) (links_on rule side) l (in_range.links side) found))

          there : IsTrue (is_end y i l)
          there = subst (λ z. IsTrue (is_end z i l)) o (other_is_end x i l passes).0

          back : other_end y l ≡ x
          back = subst (λ z. other_end z l ≡ x) o (other_is_end x i l passes).1

          again : find (is_end y i) (links_on rule side) ≡ Some l
          again = find_alone (is_end x i) (is_end y i) (links_on rule side) l found there (let o : HasOnce rule side y i = once side y i word b in omega arith)

  pub step_within : (side : Side) (x i m : ℕ) → IsTrue (has_word rule side x) → step rule side x i ≡ Imp m → m < width rule
  step_within side x i m h e =
      let place : position (is_label i) (letters rule side x) ≡ Some m = (step_place x m (find (is_end x i) (links_on rule side)) (position (is_label i) (letters rule side x)) e).1 in
      let wide : length (letters rule side x) ≡ width rule = incidence.structured.widths x (word_below rule side x h) side h in
      subst (λ k. m < k) wide (position_within (is_label i) (letters rule side x) m place)

  pub label_step : (side : Side) (x i : ℕ) → HasLabel rule side x i → IsStep (step rule side x i)
  label_step side x i h = go (step rule side x i) refl
    where
      go : (s : Step) → step rule side x i ≡ s → IsStep (step rule side x i)
      go Absent e =
          let parts : (find (is_end x i) (links_on rule side) ≡ None) × (position (is_label i) (letters rule side x) ≡ None) = step_absent x (find (is_end x i) (links_on rule side)) (position (is_label i) (letters rule side x)) e in
          absurd (omega (arith, find_none (is_end x i) (links_on rule side) parts.0, position_none (is_label i) (letters rule side x) parts.1))
      go (Exp y) e = rw e tt
      go (Imp m) e = rw e tt

  pub step_label : (side : Side) (x i : ℕ) → IsStep (step rule side x i) → HasLabel rule side x i
  step_label side x i h = go (step rule side x i) refl
    where
      go : (s : Step) → step rule side x i ≡ s → HasLabel rule side x i
      go Absent e = absurd (rw e at h)
      go (Exp y) e = found (step_link x y (find (is_end x i) (links_on rule side)) (position (is_label i) (letters rule side x)) e)
        where
          found : (l : Link) × (find (is_end x i) (links_on rule side) ≡ Some l) × (other_end x l ≡ y) → HasLabel rule side x i
          found (l, f, o) = omega (arith, find_counts (is_end x i) (is_end x i) (links_on rule side) l f (find_passes (is_end x i) (links_on rule side) l f))
      go (Imp m) e = omega (arith, position_counts (is_label i) (letters rule side x) m (step_place x m (find (is_end x i) (links_on rule side)) (position (is_label i) (letters rule side x)) e).1)
