-- The darts in ascending order of their names, one after another.
use Rattle.std.proofs.Common.{◌≡◌, ℕ, ◌+◌, ◌<◌, ◌≤◌, ◌⊎◌, Some, is_some, sym, ap, ◌∙◌, inl, inr, arith}
use Rattle.std.proofs.lemmas.Bool.{cases_lt, false≢true}
use Rattle.gm_arena.specs.inner.ArenaMap.{ArenaMap, IsAt, IsLiveName}
use Rattle.gm_arena.specs.inner.InOrder.{HasNoneFrom, IsFirstFrom}

some_same : (x y : ℕ) → Some x ≡ Some y → x ≡ y
some_same x y e = cc

module _ (m : ArenaMap) (from : ℕ) where
  module _ (slot name : ℕ) (at : IsAt m slot name) (first : IsFirstFrom m from slot) where
    is : first.name ≡ name
    is = some_same first.name name (sym first.at ∙ at)

    pub name_up : from ≤ name
    name_up = omega (arith, first.above, is)

    pub none_between : (d : ℕ) → from ≤ d → d < name → IsLiveName m d → ⊥
    none_between d low high live = false≢true (sym (ap is_some (first.least d low (omega (arith, high, is)))) ∙ live)

    -- a live dart up to this one is it or comes before the number
    pub earlier_or_this : (d : ℕ) → IsLiveName m d → d < name + 1 → (d < from) ⊎ (d ≡ name)
    earlier_or_this d live less = elim (cases_lt d from) [
      | inl l ↦ inl l
      | inr l ↦ elim (cases_lt d name) [
        | inl b ↦ absurd (none_between d l b live)
        | inr a ↦ inr (omega (arith, a, less))
      ]
    ]

  pub below_all : HasNoneFrom m from → (d : ℕ) → IsLiveName m d → d < from
  below_all none d live = elim (cases_lt d from) [ inl l ↦ l | inr l ↦ absurd (false≢true (sym (ap is_some (none d l)) ∙ live)) ]
