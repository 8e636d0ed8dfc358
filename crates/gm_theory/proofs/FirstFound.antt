-- The first pair of numbers with a property, where the property can be decided.
use Rattle.std.proofs.Common.{ℕ, ◌<◌, ◌⊎◌, subst, inl, inr}
use Rattle.gm_model.specs.Orbits.{IsPairBefore}
use Rattle.gm_theory.proofs.ValuesFound.{IsLeast, least_below}
use Rattle.gm_theory.proofs.ValuesReach.{IsDecided}

-- the second number lies below m
module _ (P : ℕ → ℕ → Type 0) (decide : (x p : ℕ) → IsDecided (P x p)) (m : ℕ) where
  abbrev HasFirstAt : ℕ → Type 0
  HasFirstAt x = (p : ℕ) × (p < m) × IsLeast (P x) p

  pub record IsFirstPair (x p : ℕ) : Type 0 where
    pub within : p < m
    pub here : P x p
    pub before : (y q : ℕ) → IsPairBefore y q x p → q < m → P y q → ⊥

  first_at : (x : ℕ) → HasFirstAt x ⊎ ((p : ℕ) → p < m → P x p → ⊥)
  first_at x = least_below (P x) (decide x) m

  decide_at : (x : ℕ) → IsDecided (HasFirstAt x)
  decide_at x = go (first_at x)
    where
      go : HasFirstAt x ⊎ ((p : ℕ) → p < m → P x p → ⊥) → IsDecided (HasFirstAt x)
      go (inl first) = inl first
      go (inr none) = inr (λ first. none first.0 first.1 first.2.0)

  none_at : (x : ℕ) → (HasFirstAt x → ⊥) → (p : ℕ) → p < m → P x p → ⊥
  none_at x none p b h = go (first_at x)
    where
      go : HasFirstAt x ⊎ ((p : ℕ) → p < m → P x p → ⊥) → ⊥
      go (inl first) = none first
      go (inr nowhere) = nowhere p b h

  pub first_pair : (n : ℕ) → ((x : ℕ) × (p : ℕ) × (x < n) × IsFirstPair x p) ⊎ ((x p : ℕ) → x < n → p < m → P x p → ⊥)
  first_pair n = go (least_below HasFirstAt decide_at n)
    where
      go : ((x : ℕ) × (x < n) × IsLeast HasFirstAt x) ⊎ ((x : ℕ) → x < n → HasFirstAt x → ⊥) → ((x : ℕ) × (p : ℕ) × (x < n) × IsFirstPair x p) ⊎ ((x p : ℕ) → x < n → p < m → P x p → ⊥)
      go (inr none) = inr (λ x p b c h. none_at x (none x b) p c h)
      go (inl (x, b, ((p, c, (here, least)), earlier))) = inl (x, p, b, record { within = c; here = here; before = before })
        where
          before : (y q : ℕ) → IsPairBefore y q x p → q < m → P y q → ⊥
          before y q (inl h) d k = none_at y (earlier y h) q d k
          before y q (inr (e, h)) d k = least q h (subst (λ z. P z q) e k)

  -- there is a pair below the bounds, or none
  pub decide_pair_below : (n : ℕ) → ((x : ℕ) × (p : ℕ) × (x < n) × (p < m) × P x p) ⊎ ((x p : ℕ) → x < n → p < m → P x p → ⊥)
  decide_pair_below n = go (first_pair n)
    where
      go : ((x : ℕ) × (p : ℕ) × (x < n) × IsFirstPair x p) ⊎ ((x p : ℕ) → x < n → p < m → P x p → ⊥) → ((x : ℕ) × (p : ℕ) × (x < n) × (p < m) × P x p) ⊎ ((x p : ℕ) → x < n → p < m → P x p → ⊥)
      go (inl (x, p, b, first)) = inl (x, p, b, first.within, first.here)
      go (inr none) = inr none
