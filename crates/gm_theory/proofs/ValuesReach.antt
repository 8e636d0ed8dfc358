-- Whether a path of labels leads from one dart to another can be decided, where the darts lie below a bound.
use Rattle.std.proofs.Common.{◌≡◌, ℕ, zero, suc, ◌+◌, ◌<◌, ◌≤◌, false, ◌⊎◌, List, [], ◌∷◌, IsTrue, refl, sym, subst, inl, inr, arith}
use Rattle.std.proofs.lemmas.Bool.{cases_eq, cases_order}
use Rattle.gm_model.specs.Orbits.{Labels, IsPathIn, IsInOrbit, follow}
use Rattle.gm_theory.proofs.Tests.{true_or_false, not_both, search_below}

pub orbit_through : (alpha : ℕ → ℕ → ℕ) (o : Labels) (d c e : ℕ) → IsInOrbit alpha o d c → IsInOrbit alpha o c e → IsInOrbit alpha o d e
orbit_through alpha o d c e (path, all, f) further = go path d all f
  where
    go : (path : List ℕ) (d : ℕ) → IsPathIn o path → follow alpha path d ≡ c → IsInOrbit alpha o d e
    go [] d all f = subst (λ u. IsInOrbit alpha o u e) (sym f) further
    go (i ∷ path) d all f = let rest : IsInOrbit alpha o (alpha i d) e = go path (alpha i d) all.1 f in (i ∷ rest.0, (all.0, rest.1), rest.2)

abbrev pub IsDecided : Type 0 → Type 0
IsDecided P = P ⊎ (P → ⊥)

module _ (n : ℕ) (alpha : ℕ → ℕ → ℕ) (o : Labels) where
  abbrev IsStepTo : ℕ → ℕ → Type 0
  IsStepTo d e = (i : ℕ) × (i < n + 1) × (IsTrue (o i) × (alpha i d ≡ e))

  -- d is e, or leads there by way of darts below k alone
  abbrev LeadsBelow : ℕ → ℕ → ℕ → Type 0
  LeadsBelow zero d e = (d ≡ e) ⊎ IsStepTo d e
  LeadsBelow (suc k) d e = LeadsBelow k d e ⊎ (LeadsBelow k d k × LeadsBelow k k e)

  decide_step : (d e : ℕ) → IsDecided (IsStepTo d e)
  decide_step d e = go (search_below (λ i. IsTrue (o i) × (alpha i d ≡ e)) decide (n + 1))
    where
      both : (i : ℕ) → IsTrue (o i) ⊎ (o i ≡ false) → (alpha i d ≡ e) ⊎ (alpha i d ≡ e → ⊥) → IsDecided (IsTrue (o i) × (alpha i d ≡ e))
      both i (inl t) (inl f) = inl (t, f)
      both i (inr t) side = inr (λ p. not_both (o i) p.0 t)
      both i (inl t) (inr f) = inr (λ p. f p.1)

      decide : (i : ℕ) → IsDecided (IsTrue (o i) × (alpha i d ≡ e))
      decide i = both i (true_or_false (o i)) (cases_eq (alpha i d) e)

      go : ((i : ℕ) × (i < n + 1) × (IsTrue (o i) × (alpha i d ≡ e))) ⊎ ((i : ℕ) → i < n + 1 → IsTrue (o i) × (alpha i d ≡ e) → ⊥) → IsDecided (IsStepTo d e)
      go (inl found) = inl found
      go (inr none) = inr (λ s. none s.0 s.1 s.2)

  decide_leads : (k d e : ℕ) → IsDecided (LeadsBelow k d e)
  decide_leads zero d e = go (cases_eq d e) (decide_step d e)
    where
      go : (d ≡ e) ⊎ (d ≡ e → ⊥) → IsDecided (IsStepTo d e) → IsDecided (LeadsBelow zero d e)
      go (inl f) side = inl (inl f)
      go (inr f) (inl s) = inl (inr s)
      go (inr f) (inr s) = inr neither
        where
          neither : (d ≡ e) ⊎ IsStepTo d e → ⊥
          neither (inl g) = f g
          neither (inr g) = s g
  decide_leads (suc k) d e = go (decide_leads k d e) (decide_leads k d k) (decide_leads k k e)
    where
      go : IsDecided (LeadsBelow k d e) → IsDecided (LeadsBelow k d k) → IsDecided (LeadsBelow k k e) → IsDecided (LeadsBelow (suc k) d e)
      go (inl a) b c = inl (inl a)
      go (inr a) (inl b) (inl c) = inl (inr (b, c))
      go (inr a) (inr b) c = inr neither
        where
          neither : LeadsBelow k d e ⊎ (LeadsBelow k d k × LeadsBelow k k e) → ⊥
          neither (inl g) = a g
          neither (inr g) = b g.0
      go (inr a) (inl b) (inr c) = inr neither
        where
          neither : LeadsBelow k d e ⊎ (LeadsBelow k d k × LeadsBelow k k e) → ⊥
          neither (inl g) = a g
          neither (inr g) = c g.1

  leads_on : (k d e : ℕ) → LeadsBelow k d e → IsInOrbit alpha o d e
  leads_on zero d e (inl f) = ([], tt, f)
  leads_on zero d e (inr (i, b, (t, f))) = (i ∷ [], (t, tt), f)
  leads_on (suc k) d e (inl a) = leads_on k d e a
  leads_on (suc k) d e (inr (a, b)) = orbit_through alpha o d k e (leads_on k d k a) (leads_on k k e b)

  from_first : (k d e : ℕ) → LeadsBelow zero d e → LeadsBelow k d e
  from_first zero d e a = a
  from_first (suc k) d e a = inl (from_first k d e a)

  -- a step to a dart below k, and from there
  step_then : (k d c e : ℕ) → IsStepTo d c → c < k → LeadsBelow k c e → LeadsBelow k d e
  step_then zero d c e s h a = absurd (omega arith)
  step_then (suc k) d c e s h a = go (cases_order c k) a (λ u b l. step_then k d c u s b l)
    where
      last : LeadsBelow (suc k) k e → LeadsBelow k k e
      last (inl b) = b
      last (inr b) = b.1

      go : (c ≡ k) ⊎ ((c < k) ⊎ (k < c)) → LeadsBelow (suc k) c e → ((u : ℕ) → c < k → LeadsBelow k c u → LeadsBelow k d u) → LeadsBelow (suc k) d e
      go (inl f) b further = inr (from_first k d k (inr (subst (IsStepTo d) f s)), last (subst (λ u. LeadsBelow (suc k) u e) f b))
      go (inr (inl b)) (inl l) further = inl (further e b l)
      go (inr (inl b)) (inr (l, m)) further = inr (further k b l, m)
      go (inr (inr b)) l further = absurd (omega arith)

  module _ (IsLive : ℕ → Type 0) (bound : ℕ) (labels : (i : ℕ) → IsTrue (o i) → i ≤ n) (stays : (d i : ℕ) → IsLive d → i ≤ n → IsLive (alpha i d)) (below : (d : ℕ) → IsLive d → d < bound) where
    leads_back : (path : List ℕ) (d e : ℕ) → IsLive d → IsPathIn o path → follow alpha path d ≡ e → LeadsBelow bound d e
    leads_back [] d e live all f = from_first bound d e (inl f)
    leads_back (i ∷ path) d e live all f =
        let there : IsLive (alpha i d) = stays d i live (labels i all.0) in
        step_then bound d (alpha i d) e (i, (let h : i ≤ n = labels i all.0 in omega arith), (all.0, refl)) (below (alpha i d) there) (leads_back path (alpha i d) e there all.1 f)

    pub decide_orbit : (d e : ℕ) → IsLive d → IsDecided (IsInOrbit alpha o d e)
    decide_orbit d e live = go (decide_leads bound d e)
      where
        go : IsDecided (LeadsBelow bound d e) → IsDecided (IsInOrbit alpha o d e)
        go (inl a) = inl (leads_on bound d e a)
        go (inr none) = inr (λ h. none (leads_back h.0 d e live h.1 h.2))
