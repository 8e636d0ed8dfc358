-- A square closes over the table of steps as it does over the rule, and what makes it good.
use Rattle.std.proofs.Common.{◌≡◌, ◌≢◌, ℕ, ◌+◌, ◌<◌, inl, inr, ◌↔◌, Bool, true, false, List, length, get_or, set, below_more, arith, refl, sym, subst, ◌∙◌}
use Rattle.std.proofs.lemmas.List.{get_or-set_same, get_or-set_other}
use Rattle.gm_model.specs.declared.rule.Side.TheVariants.{Right}
use Rattle.gm_model.specs.declared.step.Step.{Step}
use Rattle.gm_model.specs.declared.step.Step.TheVariants.{Absent, Exp, Imp}
use Rattle.gm_model.specs.Rules.{Rule, has_word, step, hook_label}
use Rattle.gm_model.specs.Squares.{ClosesBy, Closes, ClosesRight, IsSquareGood}
use Rattle.gm_cycle.specs.inner.NodeSquares.{TellsStays}
use Rattle.gm_cycle.specs.inner.StepRows.{step_of, HasEnds, HasRows}

module _ (f g : ℕ → ℕ → Step) (label : ℕ → ℕ) (i j : ℕ) where
  closes_by-same : (s t : Step) → ((y : ℕ) → s ≡ Exp y → f y j ≡ g y j) → ((z : ℕ) → t ≡ Exp z → f z i ≡ g z i) → ClosesBy f label i j s t → ClosesBy g label i j s t
  closes_by-same (Exp y) (Exp z) a b h = (h.0, sym (a y refl) ∙ h.1, sym (b z refl) ∙ h.2)
  closes_by-same (Exp y) (Imp m) a b h = sym (a y refl) ∙ h
  closes_by-same (Imp m) (Exp z) a b h = sym (b z refl) ∙ h
  closes_by-same (Imp m) (Imp m') a b h = h
  closes_by-same Absent t a b h = absurd h
  closes_by-same (Exp y) Absent a b h = absurd h
  closes_by-same (Imp m) Absent a b h = absurd h

  closes-same : (x : ℕ) → f x i ≡ g x i → f x j ≡ g x j → ((y : ℕ) → f x i ≡ Exp y → f y j ≡ g y j) → ((z : ℕ) → f x j ≡ Exp z → f z i ≡ g z i) → Closes f label x i j → Closes g label x i j
  closes-same x p q a b h =
      let here : ClosesBy g label i j (f x i) (f x j) = closes_by-same (f x i) (f x j) a b h in
      subst (λ s. ClosesBy g label i j s (g x j)) p (subst (λ t. ClosesBy g label i j (f x i) t) q here)

module _ (rule : Rule) (rows : List (List Step)) (r : HasRows rule rows (length rule.nodes)) (ends : HasEnds rows (length rule.nodes)) (x i j : ℕ)
    (bx : x < length rule.nodes) (bi : i < 8) (bj : j < 8) where
  closes_right : Closes (step_of rows) (hook_label rule) x i j → ClosesRight rule x i j
  closes_right = closes-same (step_of rows) (step rule Right) (hook_label rule) i j x (r x i bx bi) (r x j bx bj)
      (λ y e. r y j (ends x i y bx bi e) bj) (λ z e. r z i (ends x j z bx bj e) bi)

  closes_rows : ClosesRight rule x i j → Closes (step_of rows) (hook_label rule) x i j
  closes_rows = closes-same (step rule Right) (step_of rows) (hook_label rule) i j x (sym (r x i bx bi)) (sym (r x j bx bj))
      (λ y e. sym (r y j (ends x i y bx bi (r x i bx bi ∙ e)) bj)) (λ z e. sym (r z i (ends x j z bx bj (r x j bx bj ∙ e)) bi))

  module _ (stays : List Bool) (tells : TellsStays rule x stays) (on_right : has_word rule Right x ≡ true) where
    pub good_excused : get_or stays i false ≡ true → get_or stays j false ≡ true → IsSquareGood rule x i j
    good_excused p q = λ _. inl record { preserved = ((tells i bi).0 p).0; same_i = ((tells i bi).0 p).1; same_j = ((tells j bj).0 q).1 }

    pub good_closed : Closes (step_of rows) (hook_label rule) x i j → IsSquareGood rule x i j
    good_closed h = λ _. inr (closes_right h)

    pub not_good : (get_or stays i false ≡ true → get_or stays j false ≡ true → ⊥) → (Closes (step_of rows) (hook_label rule) x i j → ⊥) → IsSquareGood rule x i j → ⊥
    not_good a b h = elim (h on_right) [
      | inl e ↦ a ((tells i bi).1 (e.preserved, e.same_i)) ((tells j bj).1 (e.preserved, e.same_j))
      | inr c ↦ b (closes_rows c)
    ]

-- one more label of the table that tells which steps are the same
pub told_more : (stays : List Bool) (k : ℕ) (b : Bool) (Same : ℕ → Type 0) → k < length stays → (b ≡ true → Same k) → (Same k → b ≡ true) →
    ((i : ℕ) → i < k → (get_or stays i false ≡ true) ↔ Same i) → (i : ℕ) → i < k + 1 → (get_or (set stays k b) i false ≡ true) ↔ Same i
told_more stays k b Same w to from held = below_more (λ i. (get_or (set stays k b) i false ≡ true) ↔ Same i) k
    (λ i h. let ne : i ≢ k = omega arith in rw (get_or-set_other stays k i b false ne) (held i h))
    (rw (get_or-set_same stays k b false w) (to, from))
