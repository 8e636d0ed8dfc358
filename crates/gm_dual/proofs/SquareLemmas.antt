-- The squares of the dual of a rule close: those of the rule, with their two labels in the other order.
use Rattle.std.proofs.Common.{◌≡◌, ℕ, ◌<◌, ◌≤◌, ◌⊎◌, Bool, true, false, cond, nat_lt, IsTrue, List, [], length, get_or, Option, Some, None, slice_get, refl, sym, ap, subst, ◌∙◌, inl, inr, arith}
use Rattle.std.specs.List.{find, position, position_or_len}
use Rattle.std.specs.Option.{option_and_then, option_map, unwrap_or}
use Rattle.std.proofs.lemmas.Bool.{ltb-true}
use Rattle.std.proofs.lemmas.List.Elements.{All-from_recursion}
use Rattle.std.proofs.lemmas.Option.{get_or_from_slice_get, slice_get-get_or, slice_get-map, slice_get_within}
use Rattle.gm_model.specs.declared.rule.Link.{Link}
use Rattle.gm_model.specs.declared.rule.Side.TheVariants.{Left, Right}
use Rattle.gm_model.specs.declared.schema.Schema.{Schema}
use Rattle.gm_model.specs.declared.step.Step.{Step}
use Rattle.gm_model.specs.declared.step.Step.TheVariants.{Absent, Exp, Imp}
use Rattle.gm_model.specs.declared.word.Letter.{Letter}
use Rattle.gm_model.specs.declared.word.Letter.TheVariants.{At, Gone}
use Rattle.gm_model.specs.Rules.{Rule, first_hook, has_word, hook_label, hook_word, is_end, is_label, label_at, label_of, letters, links_on, step, step_by, width, word_at}
use Rattle.gm_model.specs.Squares.{ClosesBy, HasSquares, IsApart, IsExcused}
use Rattle.gm_model.specs.Structure.{HasIncidence, IsInRange, IsPlainWord}
use Rattle.gm_model.proofs.Nodes.{node_below}
use Rattle.gm_theory.proofs.Corners.{closes_swap}
use Rattle.gm_dual.specs.Duals.{dual_label, dual_letter, dual_rule}
use Rattle.gm_dual.proofs.LabelLemmas.{dual_apart, dual_most}
use Rattle.gm_dual.proofs.RuleLemmas.{has_word_dual, hook_word_dual, preserved_dual, step_dual}

-- ---- labels of places

place_within : (p : Letter → Bool) (word : List Letter) (m : ℕ) → position p word ≡ Some m → m < length word
place_within p word m is = go (position_or_len p word) (nat_lt (position_or_len p word) (length word)) refl is
  where
    same : (a b : ℕ) → Some a ≡ Some b → a ≡ b
    same a b e = cc

    go : (k : ℕ) (b : Bool) → nat_lt k (length word) ≡ b → cond b (Some k) None ≡ Some m → m < length word
    go k true less e = let low = ltb-true k (length word) less in omega (arith, low, same k m e)
    go k false less e = absurd (cc)

step_place : (x m : ℕ) (o : Option Link) (place : Option ℕ) → step_by x o place ≡ Imp m → place ≡ Some m
step_place x m (Some link) place e = absurd (cc)
step_place x m None (Some p) e = ap Some (same p m e)
  where
    same : (a b : ℕ) → Imp a ≡ Imp b → a ≡ b
    same a b e = cc
step_place x m None None e = absurd (cc)

module _ (schema : Schema) (rule : Rule) (in_range : IsInRange schema rule) (incidence : HasIncidence schema.dim rule) where
  -- a right step by a letter is at a place of the first hook's word
  within_width : (x i m : ℕ) → IsTrue (has_word rule Right x) → x < length rule.nodes → step rule Right x i ≡ Imp m → m < width rule
  within_width x i m has low is =
      let place = step_place x m (find (is_end x i) (links_on rule Right)) (position (is_label i) (letters rule Right x)) is in
      let within = place_within (is_label i) (letters rule Right x) m place in
      let wide = incidence.structured.widths x low Right has in
      omega (arith, within, wide)

  -- and has a label there
  label_there : (m : ℕ) → m < width rule → (k : ℕ) × (slice_get (hook_word rule) m ≡ Some (At k)) × (k ≤ schema.dim)
  label_there m low = go (first_hook rule) refl low
    where
      go : (o : Option ℕ) → first_hook rule ≡ o → m < length (unwrap_or (option_and_then (word_at rule Left) o) []) → (k : ℕ) × (slice_get (unwrap_or (option_and_then (word_at rule Left) o) []) m ≡ Some (At k)) × (k ≤ schema.dim)
      go None is h = absurd (omega (arith, h))
      go (Some hook) is h = at (get_or (letters rule Left hook) m Gone) (slice_get-get_or (letters rule Left hook) m Gone h)
        where
          plain : IsPlainWord (letters rule Left hook)
          plain = incidence.structured.plain 0 (slice_get_within rule.hooks 0 hook is) hook is

          up : (letter : Letter) → slice_get (letters rule Left hook) m ≡ Some letter → (i : ℕ) → letter ≡ At i → i ≤ schema.dim
          up letter there = subst (λ (l : Letter). (i : ℕ) → l ≡ At i → i ≤ schema.dim) (get_or_from_slice_get (letters rule Left hook) m letter letter there) (All-from_recursion (λ letter. (i : ℕ) → letter ≡ At i → i ≤ schema.dim) (letters rule Left hook) (in_range.words Left hook) m letter h)

          at : (letter : Letter) → slice_get (letters rule Left hook) m ≡ Some letter → (k : ℕ) × (slice_get (letters rule Left hook) m ≡ Some (At k)) × (k ≤ schema.dim)
          at (At k) there = (k, there, up (At k) there k refl)
          at Gone there = absurd (plain.labels m there)

  pub hook_label_dual : (m : ℕ) → m < width rule → (hook_label (dual_rule schema.dim rule) m ≡ dual_label schema.dim (hook_label rule m)) × (hook_label rule m ≤ schema.dim)
  hook_label_dual m low =
      let l = label_there m low in
      let here : hook_label rule m ≡ l.0 = ap (λ o. unwrap_or (option_map label_of o) 0) l.1 in
      let dual : hook_label (dual_rule schema.dim rule) m ≡ dual_label schema.dim l.0 =
      ap (λ w. label_at w m) (hook_word_dual schema.dim rule) ∙ ap (λ o. unwrap_or (option_map label_of o) 0) (slice_get-map (dual_letter schema.dim) (hook_word rule) m ∙ ap (option_map (dual_letter schema.dim)) l.1) in
      (dual ∙ ap (dual_label schema.dim) (sym here), omega (arith, here, l.2))

  apart_dual : (a b : ℕ) → a ≤ schema.dim → b ≤ schema.dim → IsApart a b → IsApart (dual_label schema.dim a) (dual_label schema.dim b)
  apart_dual a b low high (inl h) = inr (dual_apart schema.dim a b h high)
  apart_dual a b low high (inr h) = inl (dual_apart schema.dim b a h low)

  closes_dual : (x i j : ℕ) → IsTrue (has_word rule Right x) → x < length rule.nodes → (s t : Step) → step rule Right x (dual_label schema.dim i) ≡ s → step rule Right x (dual_label schema.dim j) ≡ t
      → ClosesBy (step rule Right) (hook_label rule) (dual_label schema.dim i) (dual_label schema.dim j) s t → ClosesBy (step (dual_rule schema.dim rule) Right) (hook_label (dual_rule schema.dim rule)) i j s t
  closes_dual x i j has low (Exp y) (Exp z) e f (w, a, b) = (w, step_dual schema.dim rule Right y j ∙ a, step_dual schema.dim rule Right z i ∙ b)
  closes_dual x i j has low (Exp y) (Imp m) e f a = step_dual schema.dim rule Right y j ∙ a
  closes_dual x i j has low (Imp m) (Exp z) e f b = step_dual schema.dim rule Right z i ∙ b
  closes_dual x i j has low (Imp m) (Imp m') e f h =
      let one = hook_label_dual m (within_width x (dual_label schema.dim i) m has low e) in
      let two = hook_label_dual m' (within_width x (dual_label schema.dim j) m' has low f) in
      rw (one.0, two.0) (apart_dual (hook_label rule m) (hook_label rule m') one.1 two.1 h)
  closes_dual x i j has low Absent t e f h = elim h [ ]
  closes_dual x i j has low (Exp y) Absent e f h = elim h [ ]
  closes_dual x i j has low (Imp m) Absent e f h = elim h [ ]

  node_within : (x : ℕ) → IsTrue (has_word rule Right x) → x < length rule.nodes
  node_within x h = node_below rule Right x h

  pub squares_dual : HasSquares schema.dim rule → HasSquares schema.dim (dual_rule schema.dim rule)
  squares_dual squares x i j apart most has =
      let old = sym (has_word_dual schema.dim rule Right x) ∙ has in
      go old (squares x (dual_label schema.dim j) (dual_label schema.dim i) (dual_apart schema.dim i j apart most) (dual_most schema.dim i (omega arith)) old)
    where
      go : IsTrue (has_word rule Right x) → IsExcused rule x (dual_label schema.dim j) (dual_label schema.dim i) ⊎ ClosesBy (step rule Right) (hook_label rule) (dual_label schema.dim j) (dual_label schema.dim i) (step rule Right x (dual_label schema.dim j)) (step rule Right x (dual_label schema.dim i))
          → IsExcused (dual_rule schema.dim rule) x i j ⊎ ClosesBy (step (dual_rule schema.dim rule) Right) (hook_label (dual_rule schema.dim rule)) i j (step (dual_rule schema.dim rule) Right x i) (step (dual_rule schema.dim rule) Right x j)
      go old (inl e) = inl (record {
        preserved = preserved_dual schema.dim rule x ∙ e.preserved;
        same_i = step_dual schema.dim rule Left x i ∙ (e.same_j ∙ sym (step_dual schema.dim rule Right x i));
        same_j = step_dual schema.dim rule Left x j ∙ (e.same_i ∙ sym (step_dual schema.dim rule Right x j));
      })
      go old (inr c) = inr (rw (step_dual schema.dim rule Right x i, step_dual schema.dim rule Right x j) (closes_dual x i j old (node_within x old) (step rule Right x (dual_label schema.dim i)) (step rule Right x (dual_label schema.dim j)) refl refl (closes_swap (step rule Right) (hook_label rule) x (dual_label schema.dim j) (dual_label schema.dim i) c)))
