-- When a rule has as many hooks as it needs, and when the word of each is plain.
use Rattle.std.proofs.Common.{◌≡◌, ℕ, zero, suc, ◌<◌, Bool, true, false, eqb, IsTrue, IsFalse, List, [], ◌∷◌, length, Some, refl, subst, sym, ap, ◌∙◌, arith}
use Rattle.std.specs.Bool.{beq}
use Rattle.std.specs.List.{slice_get, slice_index}
use Rattle.std.proofs.Math.Dec.{eqb-suc-zero}
use Rattle.std.proofs.lemmas.Bool.{false_from_ne_true, false≢true, true≢false}
use Rattle.gm_model.specs.declared.rule.Side.TheVariants.{Left}
use Rattle.gm_model.specs.Rules.{Rule, has_word, letters}
use Rattle.gm_model.specs.Structure.{HasHook, IsPlainWord, HasPlainHook}
use Rattle.gm_incident.specs.inner.Ranges.{HasLeftFirst}

first_left : (rule : Rule) → HasLeftFirst rule → (x : ℕ) → has_word rule Left x ≡ true → has_word rule Left 0 ≡ true
first_left rule lf zero h = h
first_left rule lf (suc x) h = lf 0 (suc x) (omega arith) h

no_left : (rule : Rule) → HasLeftFirst rule → has_word rule Left 0 ≡ false → (x : ℕ) → has_word rule Left x ≡ false
no_left rule lf h x = false_from_ne_true (has_word rule Left x) (λ e. let t : has_word rule Left 0 ≡ true = first_left rule lf x e in cc)

-- whether there are hooks tells whether there are as many as the rule needs
module _ (rule : Rule) (first : HasLeftFirst rule) where
  pub hooks_enough : (left : Bool) → has_word rule Left 0 ≡ left → beq (eqb (length rule.hooks) 0) left ≡ false → HasHook rule
  hooks_enough left h e = go left rule.hooks h e
    where
      go : (left : Bool) (hooks : List ℕ) → has_word rule Left 0 ≡ left → beq (eqb (length hooks) 0) left ≡ false → ((x : ℕ) → IsTrue (has_word rule Left x) → 0 < length hooks) × (((x : ℕ) → IsFalse (has_word rule Left x)) → hooks ≡ [])
      go true [] h e = absurd (true≢false e)
      go true (hook ∷ hooks) h e = ((λ x w. omega arith), (λ none. absurd (false≢true (sym (none 0) ∙ h))))
      go false [] h e = ((λ x w. absurd (false≢true (sym h ∙ first_left rule first x w))), (λ none. refl))
      go false (hook ∷ hooks) h e = absurd (true≢false (ap (λ none. beq none false) (sym (eqb-suc-zero (length hooks))) ∙ e))

  pub hooks_wrong : (left : Bool) → has_word rule Left 0 ≡ left → beq (eqb (length rule.hooks) 0) left ≡ true → HasHook rule → ⊥
  hooks_wrong left h e hook = go left rule.hooks h e hook
    where
      go : (left : Bool) (hooks : List ℕ) → has_word rule Left 0 ≡ left → beq (eqb (length hooks) 0) left ≡ true → ((x : ℕ) → IsTrue (has_word rule Left x) → 0 < length hooks) × (((x : ℕ) → IsFalse (has_word rule Left x)) → hooks ≡ []) → ⊥
      go true [] h e hook = omega (arith, hook.0 0 h)
      go true (hook ∷ hooks) h e all = false≢true (ap (λ none. beq none true) (sym (eqb-suc-zero (length hooks))) ∙ e)
      go false [] h e all = false≢true e
      go false (hook ∷ hooks) h e all = some_none (all.1 (no_left rule first h))
        where
          some_none : hook ∷ hooks ≡ [] → ⊥
          some_none same = cc

-- ---- the words of the hooks

module _ (rule : Rule) (k : ℕ) (h : slice_get rule.hooks k ≡ Some (slice_index rule.hooks k)) where
  pub plain_hook : IsPlainWord (letters rule Left (slice_index rule.hooks k)) → HasPlainHook rule k
  plain_hook p h' e = let same : slice_index rule.hooks k ≡ h' = (let e' : Some (slice_index rule.hooks k) ≡ Some h' = sym h ∙ e in cc) in
      subst (λ y. IsPlainWord (letters rule Left y)) same p

  pub unplain_hook : (IsPlainWord (letters rule Left (slice_index rule.hooks k)) → ⊥) → HasPlainHook rule k → ⊥
  unplain_hook n good = n (good (slice_index rule.hooks k) h)
