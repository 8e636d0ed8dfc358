-- A table of ranks, where one more node gets a rank.
use Rattle.std.proofs.Common.{◌≡◌, ◌≢◌, ℕ, ◌+◌, ◌<◌, ◌⊎◌, inl, inr, List, [], ◌∷◌, ◌++◌, length, take, replicate, set, Option, Some, None, get_or, sym, ap, subst, ◌∙◌, arith}
use Rattle.std.proofs.lemmas.Bool.{cases_lt}
use Rattle.std.proofs.lemmas.List.{get_or-replicate, get_or-set_other, get_or-set_same, get_or_past, length-replicate, take_more}
use Rattle.std.proofs.lemmas.List.Elements.{Contains-append_cases, Contains-append_left, Contains-append_right}
use Rattle.std.specs.List.{Contains}
use Rattle.gm_plan.specs.inner.Searches.{rank_at, AreHookRanks}
use Rattle.gm_plan.proofs.Extended.{only_element}
use Rattle.gm_theory.proofs.Lists.{none_some, some_same}
use Rattle.gm_theory.proofs.Tests.{same_or_not}

module _ (ranks : List (Option ℕ)) (y t : ℕ) where
  pub rank_new : y < length ranks → rank_at (set ranks y (Some t)) y ≡ Some t
  rank_new b = get_or-set_same ranks y (Some t) None b

  pub rank_other : (x : ℕ) → x ≢ y → rank_at (set ranks y (Some t)) x ≡ rank_at ranks x
  rank_other x differ = get_or-set_other ranks y x (Some t) None differ

-- ---- the hooks

none_ranked : (n x t : ℕ) → rank_at (replicate n None) x ≡ Some t → ⊥
none_ranked n x t e = elim (cases_lt x n) [
  | inl b ↦ none_some t (sym (get_or-replicate n x None None b) ∙ e)
  | inr b ↦
      let long : length {A = Option ℕ} (replicate n None) ≡ n = length-replicate n None in
      none_some t (sym (get_or_past (replicate n None) x None (omega (arith, b, long))) ∙ e)
]

pub no_hook_ranked : (hooks : List ℕ) (n : ℕ) → AreHookRanks (take 0 hooks) (replicate n None)
no_hook_ranked hooks n x t = ((λ e. absurd (none_ranked n x t e)), (λ c. absurd (omega (arith, c.0.1))))

pub one_hook_more : (hooks : List ℕ) (k : ℕ) (ranks : List (Option ℕ)) → k < length hooks → get_or hooks k 0 < length ranks → AreHookRanks (take k hooks) ranks →
    AreHookRanks (take (k + 1) hooks) (set ranks (get_or hooks k 0) (Some 0))
one_hook_more hooks k ranks b within held x t = rw (take_more hooks k 0 b) (ranked, (λ c. hooked c.1 (Contains-append_cases (take k hooks) (get_or hooks k 0 ∷ []) x c.0)))
  where
    ranked : rank_at (set ranks (get_or hooks k 0) (Some 0)) x ≡ Some t → Contains (take k hooks ++ get_or hooks k 0 ∷ []) x × (t ≡ 0)
    ranked e = elim (same_or_not x (get_or hooks k 0)) [
      | inl same ↦ (Contains-append_right (take k hooks) (get_or hooks k 0 ∷ []) x (0, omega arith, sym same), some_same t 0 (sym e ∙ ap (rank_at (set ranks (get_or hooks k 0) (Some 0))) same ∙ rank_new ranks (get_or hooks k 0) 0 within))
      | inr differ ↦
          let old : Contains (take k hooks) x × (t ≡ 0) = (held x t).0 (sym (rank_other ranks (get_or hooks k 0) 0 x differ) ∙ e) in
          (Contains-append_left (take k hooks) (get_or hooks k 0 ∷ []) x old.0, old.1)
    ]

    hooked : t ≡ 0 → Contains (take k hooks) x ⊎ Contains (get_or hooks k 0 ∷ []) x → rank_at (set ranks (get_or hooks k 0) (Some 0)) x ≡ Some t
    hooked z (inr c) = subst (λ w. rank_at (set ranks (get_or hooks k 0) (Some 0)) w ≡ Some t) (only_element (get_or hooks k 0) x c) (rank_new ranks (get_or hooks k 0) 0 within ∙ ap Some (sym z))
    hooked z (inl c) = elim (same_or_not x (get_or hooks k 0)) [
      | inl same ↦ subst (λ w. rank_at (set ranks (get_or hooks k 0) (Some 0)) w ≡ Some t) (sym same) (rank_new ranks (get_or hooks k 0) 0 within ∙ ap Some (sym z))
      | inr differ ↦ rank_other ranks (get_or hooks k 0) 0 x differ ∙ (held x t).1 (c, z)
    ]
