-- The first breach by law, dart and label, from the first dart and its first label.
use Rattle.std.proofs.Common.{ℕ, ◌+◌, ◌≤◌, sym, subst, inl, inr, arith}
use Rattle.gm_model.specs.Breaches.{IsTripleBefore, IsFirstOneWay, IsFirstCrossing}
use Rattle.gm_model.specs.Orbits.{IsPairBefore}
use Rattle.gm_arena.specs.inner.ArenaMap.{ArenaMap, IsLiveName, alpha}
use Rattle.gm_laws.specs.inner.Darts.{IsFirst, IsLabel, LeadsBack, IsBack, Commute as DoCommute, Commutes, IsFirstPair}
use Rattle.gm_laws.specs.inner.Faults.{ArePointedBack}

module _ (m : ArenaMap) where
  pub one_way : (d i : ℕ) → IsFirst (IsLiveName m) (IsBack m) d → IsFirst (IsLabel m) (LeadsBack m d) i → IsFirstOneWay m.schema.dim (IsLiveName m) (alpha m) d i
  one_way d i dart label = record {
    live = dart.one;
    label = label.one;
    fails = label.fails;
    before = λ e j before live within. go e j before live within;
  }
    where
      go : (e j : ℕ) → IsPairBefore e j d i → IsLiveName m e → j ≤ m.schema.dim → LeadsBack m e j
      go e j (inl less) live within = dart.before e less live j within
      go e j (inr (same, less)) live within = let P : ℕ → Type 0 = λ x. LeadsBack m x j in subst P (sym same) (label.before j less within)

  pub crossing : (d i j : ℕ) → ArePointedBack m → IsFirst (IsLiveName m) (Commutes m) d → IsFirstPair m d (i, j) → IsFirstCrossing m.schema.dim (IsLiveName m) (alpha m) d i j
  crossing d i j back dart pair = record {
    back = back;
    live = dart.one;
    apart = pair.1.one.0;
    label = pair.1.one.1;
    fails = pair.1.fails;
    before = λ e k l before live apart within. go e k l before live apart within;
  }
    where
      go : (e k l : ℕ) → IsTripleBefore e k l d i j → IsLiveName m e → k + 2 ≤ l → l ≤ m.schema.dim → DoCommute m e k l
      go e k l (inl less) live apart within = dart.before e less live k (omega arith) l (apart, within)
      go e k l (inr (same, inl less)) live apart within = let P : ℕ → Type 0 = λ x. DoCommute m x k l in subst P (sym same) (pair.0.before k less (omega arith) l (apart, within))
      go e k l (inr (same, inr (alike, less))) live apart within =
          let P : ℕ → ℕ → Type 0 = λ x y. DoCommute m x y l in
          subst (λ x. P x k) (sym same) (subst (P d) (sym alike) (pair.1.before l less (subst (λ y. y + 2 ≤ l) alike apart, within)))
