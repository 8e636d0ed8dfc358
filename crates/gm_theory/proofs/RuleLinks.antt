-- In a rule in range with its incident arcs in order, the links of a side are the link steps of their ends.
use Rattle.std.proofs.Common.{◌≡◌, ℕ, zero, suc, ◌<◌, ◌≤◌, ◌⊎◌, Bool, true, false, cond, ◌||◌, eqb, IsTrue, List, [], ◌∷◌, Some, refl, sym, ap, subst, inl, inr, arith}
use Rattle.std.proofs.lemmas.Bool.{eqb-true, eq-eqb}
use Rattle.std.specs.List.{find, count_by, AllByRecursion, Contains}
use Rattle.gm_model.specs.declared.rule.Link.{Link}
use Rattle.gm_model.specs.declared.rule.Side.{Side}
use Rattle.gm_model.specs.declared.schema.Schema.{Schema}
use Rattle.gm_model.specs.declared.step.Step.TheVariants.{Exp}
use Rattle.gm_model.specs.Rules.{Rule, has_word, links_on, is_end, other_end, link_from, IsLinked, step}
use Rattle.gm_model.specs.Structure.{IsInRange, HasIncidence, IsLinkInRange, HasOnce}
use Rattle.gm_theory.proofs.Lists.{count_yes, count_no}
use Rattle.gm_theory.proofs.RuleSteps.{once}
use Rattle.gm_theory.proofs.Tests.{true_or_false}

module _ {A : Type 0} where
  pub contains_counts : (p : A → Bool) (xs : List A) (x : A) → Contains xs x → IsTrue (p x) → 0 < count_by p xs
  contains_counts p [] x (k, h, e) t = absurd (omega arith)
  contains_counts p (y ∷ xs) x (zero, h, e) t = subst (λ n. 0 < n) (sym (count_yes p y xs (subst (λ z. IsTrue (p z)) (sym e) t))) (omega arith)
  contains_counts p (y ∷ xs) x (suc k, h, e) t = go (true_or_false (p y)) (contains_counts p xs x (k, omega arith, e) t)
    where
      go : IsTrue (p y) ⊎ (p y ≡ false) → 0 < count_by p xs → 0 < count_by p (y ∷ xs)
      go (inl s) rest = subst (λ n. 0 < n) (sym (count_yes p y xs s)) (omega arith)
      go (inr s) rest = subst (λ n. 0 < n) (sym (count_no p y xs s)) rest

  -- an element that alone passes is the one that is found
  pub contains_found : (p : A → Bool) (xs : List A) (x : A) → Contains xs x → IsTrue (p x) → count_by p xs ≤ 1 → find p xs ≡ Some x
  contains_found p [] x (k, h, e) t c = absurd (omega arith)
  contains_found p (y ∷ xs) x (zero, h, e) t c = rw (subst (λ z. IsTrue (p z)) (sym e) t) (ap Some e)
  contains_found p (y ∷ xs) x (suc k, h, e) t c = go (true_or_false (p y)) (λ d. contains_found p xs x (k, omega arith, e) t d)
    where
      rest_counts : 0 < count_by p xs
      rest_counts = contains_counts p xs x (k, omega arith, e) t

      go : IsTrue (p y) ⊎ (p y ≡ false) → (count_by p xs ≤ 1 → find p xs ≡ Some x) → find p (y ∷ xs) ≡ Some x
      go (inl s) rest = absurd (omega (arith, rest_counts, count_yes p y xs s))
      go (inr s) rest = rw s (rest (subst (λ n. n ≤ 1) (count_no p y xs s) c))

  pub contains_has : (P : A → Type 0) (xs : List A) (x : A) → AllByRecursion P xs → Contains xs x → P x
  contains_has P [] x all (k, h, e) = absurd (omega arith)
  contains_has P (y ∷ xs) x all (zero, h, e) = subst P e all.0
  contains_has P (y ∷ xs) x all (suc k, h, e) = contains_has P xs x all.1 (k, omega arith, e)

module _ (schema : Schema) (rule : Rule) (in_range : IsInRange schema rule) (incidence : HasIncidence schema.dim rule) where
  -- x and y are nodes of the side, and the label is one of the map
  pub linked_in_range : (side : Side) (x i y : ℕ) → IsLinked (links_on rule side) x i y → IsTrue (has_word rule side x) × IsTrue (has_word rule side y) × (i ≤ schema.dim)
  linked_in_range side x i y (inl c) = let r : IsLinkInRange schema.dim rule side (link_from x i y) = contains_has (IsLinkInRange schema.dim rule side) (links_on rule side) (link_from x i y) (in_range.links side) c in (r.from, r.to, r.label)
  linked_in_range side x i y (inr c) = let r : IsLinkInRange schema.dim rule side (link_from y i x) = contains_has (IsLinkInRange schema.dim rule side) (links_on rule side) (link_from y i x) (in_range.links side) c in (r.to, r.from, r.label)

  -- a link that joins x and y is the step of x
  pub linked_step : (side : Side) (x i y : ℕ) → IsLinked (links_on rule side) x i y → step rule side x i ≡ Exp y
  linked_step side x i y l = go l
    where
      range : IsTrue (has_word rule side x) × IsTrue (has_word rule side y) × (i ≤ schema.dim)
      range = linked_in_range side x i y l

      alone : count_by (is_end x i) (links_on rule side) ≤ 1
      alone = let o : HasOnce rule side x i = once schema rule in_range incidence side x i range.0 range.2 in omega arith

      by : (link : Link) → find (is_end x i) (links_on rule side) ≡ Some link → other_end x link ≡ y → step rule side x i ≡ Exp y
      by link f e = rw f (ap Exp e)

      here : IsTrue (eqb x x)
      here = eq-eqb x x refl

      label : IsTrue (eqb i i)
      label = eq-eqb i i refl

      back : (b : Bool) → eqb y x ≡ b → cond b x y ≡ y
      back true e = sym (eqb-true y x e)
      back false e = refl

      or_true : (b : Bool) → IsTrue (b || true)
      or_true true = refl
      or_true false = refl

      go : IsLinked (links_on rule side) x i y → step rule side x i ≡ Exp y
      go (inl c) = by (link_from x i y) (contains_found (is_end x i) (links_on rule side) (link_from x i y) c (rw (label, here) refl) alone) (rw here refl)
      go (inr c) = by (link_from y i x) (contains_found (is_end x i) (links_on rule side) (link_from y i x) c (rw (label, here) (or_true (eqb y x))) alone) (back (eqb y x) refl)
