-- The least name that isn't below a number, one row more.
use Rattle.std.proofs.Common.{◌≡◌, ℕ, ◌+◌, ◌<◌, ◌≤◌, min, List, [], ◌∷◌, ◌++◌, Option, Some, None, is_some, ◌⊎◌, inl, inr, sym, ap, subst, ◌∙◌, arith}
use Rattle.std.specs.Prelude.{MatchOption}
use Rattle.std.proofs.lemmas.Bool.{cases_eq, cases_lt}
use Rattle.gm_model.specs.GMap.{Row, IsLive}
use Rattle.gm_mapfile.specs.MapFaults.{AreBelow, IsLeastNotBelow}
use Rattle.gm_mapfile.specs.inner.Building.{IsNotBelow}
use Rattle.gm_mapfile.proofs.Named.{row_of_push_other, live_push}

pub none_above : (next : ℕ) → IsNotBelow [] next None
none_above next d live = absurd cc

module _ (rows : List Row) (row : Row) (next : ℕ) where
  -- it was there before, or is the new row's
  live_is : (d : ℕ) → IsLive (rows ++ row ∷ []) d → (d ≡ row.name) ⊎ IsLive rows d
  live_is d live = elim (cases_eq d row.name) [
    | inl e ↦ inl e
    | inr apart ↦ inr (sym (ap is_some (row_of_push_other rows row d apart)) ∙ live)
  ]

  live_was : (d : ℕ) → IsLive rows d → IsLive (rows ++ row ∷ []) d
  live_was d live = elim (cases_eq d row.name) [
    | inl e ↦ rw e (live_push rows row)
    | inr apart ↦ ap is_some (row_of_push_other rows row d apart) ∙ live
  ]

  low_more : (found : Option ℕ) → row.name < next → IsNotBelow rows next found → IsNotBelow (rows ++ row ∷ []) next found
  low_more None low below = λ d live. elim (live_is d live) [
    | inl e ↦ omega (arith, e, low)
    | inr was ↦ below d was
  ]
  low_more (Some t) low least = record {
    live = live_was t least.live;
    above = least.above;
    least = λ e lt live. elim (live_is e live) [
      | inl same ↦ omega (arith, same, low)
      | inr was ↦ least.least e lt was
    ];
  }

  -- this name is the least of those that aren't below
  least_here : next ≤ row.name → ((e : ℕ) → e < row.name → IsLive rows e → e < next) → IsLeastNotBelow (rows ++ row ∷ []) next row.name
  least_here high before = record {
    live = live_push rows row;
    above = high;
    least = λ e lt live. elim (live_is e live) [
      | inl same ↦ absurd (omega (arith, same, lt))
      | inr was ↦ before e lt was
    ];
  }

  least_before : (t : ℕ) → t < row.name → IsLeastNotBelow rows next t → IsLeastNotBelow (rows ++ row ∷ []) next t
  least_before t lt least = record {
    live = live_was t least.live;
    above = least.above;
    least = λ e below live. elim (live_is e live) [
      | inl same ↦ absurd (omega (arith, same, lt, below))
      | inr was ↦ least.least e below was
    ];
  }

  high_more : (found : Option ℕ) (t : ℕ) → next ≤ row.name → MatchOption found (t ≡ row.name) (λ least. t ≡ min least row.name) → IsNotBelow rows next found → IsNotBelow (rows ++ row ∷ []) next (Some t)
  high_more None t high is below = subst (IsLeastNotBelow (rows ++ row ∷ []) next) (sym is) (least_here high (λ e lt live. below e live))
  high_more (Some old) t high is least = elim (cases_lt old row.name) [
    | inl lt ↦ let same : old ≡ t = omega (arith, is, lt) in subst (IsLeastNotBelow (rows ++ row ∷ []) next) same (least_before old lt least)
    | inr ge ↦ let same : row.name ≡ t = omega (arith, is, ge) in subst (IsLeastNotBelow (rows ++ row ∷ []) next) same (least_here high (λ e lt live. least.least e (omega (arith, lt, ge)) live))
  ]

  -- the same by the name that the code reads
  pub low_more_named : (name : ℕ) (found : Option ℕ) → row.name ≡ name → name < next → IsNotBelow rows next found → IsNotBelow (rows ++ row ∷ []) next found
  low_more_named name found same low = low_more found (omega (arith, same, low))

  pub high_more_named : (name : ℕ) (found : Option ℕ) (t : ℕ) → row.name ≡ name → next ≤ name → MatchOption found (t ≡ name) (λ least. t ≡ min least name) → IsNotBelow rows next found → IsNotBelow (rows ++ row ∷ []) next (Some t)
  high_more_named name found t same = subst (λ k. next ≤ k → MatchOption found (t ≡ k) (λ least. t ≡ min least k) → IsNotBelow rows next found → IsNotBelow (rows ++ row ∷ []) next (Some t)) same (high_more found t)

-- with a row whose name isn't below the number, each is below the next to that name
pub below_more : (rows : List Row) (row : Row) (name end : ℕ) → row.name ≡ name → end ≤ name → AreBelow rows end → AreBelow (rows ++ row ∷ []) (name + 1)
below_more rows row name end same above below d live = elim (live_is rows row 0 d live) [
  | inl e ↦ omega (arith, e, same)
  | inr was ↦ omega (arith, below d was, above)
]
