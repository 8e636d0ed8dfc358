-- What is read in order costs no more than all that is read.
use Rattle.std.proofs.Common.{◌≡◌, ℕ, zero, suc, ◌+◌, ◌≤◌, ◌⊎◌, inl, inr, List, [], ◌∷◌, sum, refl, sym, subst, arith}
use Rattle.std.specs.List.{Contains, AllZip}
use Rattle.std.proofs.lemmas.List.Sums.{sum_by-cons}
use Rattle.gm_model.specs.Applications.{Decider, IsDeciderBefore}

pub sum_cons : (u : ℕ) (units : List ℕ) → sum (u ∷ units) ≡ u + sum units
sum_cons u units = sum_by-cons (λ n. n) u units

-- each before all behind it
abbrev pub AreOrdered : List Decider → Type 0
AreOrdered [] = Unit {0}
AreOrdered (decider ∷ deciders) = ((other : Decider) → Contains deciders other → IsDeciderBefore decider other) × AreOrdered deciders

here : (d : Decider) (ds : List Decider) → Contains (d ∷ ds) d
here d ds = (0, omega arith, refl)

later : (d e : Decider) (ds : List Decider) → Contains ds e → Contains (d ∷ ds) e
later d e ds (k, within, is) = (suc k, omega (arith, within), is)

either : (e d : Decider) (ds : List Decider) → Contains (d ∷ ds) e → (e ≡ d) ⊎ Contains ds e
either e d ds (zero, within, is) = inl (sym is)
either e d ds (suc k, within, is) = inr (k, omega (arith, within), is)

not_before_itself : (d : Decider) → IsDeciderBefore d d → ⊥
not_before_itself d (inl less) = omega (arith, less)
not_before_itself d (inr (e, inl less)) = omega (arith, less)
not_before_itself d (inr (e, inr (f, less))) = omega (arith, less)

before_both_ways : (d e : Decider) → IsDeciderBefore d e → IsDeciderBefore e d → ⊥
before_both_ways d e (inl less) (inl more) = omega (arith, less, more)
before_both_ways d e (inl less) (inr (same, h)) = omega (arith, less, same)
before_both_ways d e (inr (same, h)) (inl more) = omega (arith, more, same)
before_both_ways d e (inr (same, inl less)) (inr (same', inl more)) = omega (arith, less, more)
before_both_ways d e (inr (same, inl less)) (inr (same', inr (f, h))) = omega (arith, less, f)
before_both_ways d e (inr (same, inr (f, h))) (inr (same', inl more)) = omega (arith, more, f)
before_both_ways d e (inr (same, inr (f, h))) (inr (same', inr (g, k))) = omega (arith, h, k)

-- the elements of an ordered list are among those of another: so are the first one's behind it, where it is the first of the other
behind : (d : Decider) (ds es : List Decider) → ((e : Decider) → Contains ds e → IsDeciderBefore d e) → ((e : Decider) → Contains ds e → Contains (d ∷ es) e) → (e : Decider) → Contains ds e → Contains es e
behind d ds es first among e c = go (either e d es (among e c))
  where
    go : (e ≡ d) ⊎ Contains es e → Contains es e
    go (inl same) = absurd (not_before_itself d (subst (λ o. IsDeciderBefore d o) same (first e c)))
    go (inr there) = there

module _ (IsUnit : Decider → ℕ → Type 0) where
  -- the units of a list
  pub record HasUnitsOf (seen : List Decider) (most : ℕ) : Type 0 where
    pub units : List ℕ
    pub units_are : AllZip IsUnit seen units
    pub few : sum units ≤ most

  pub units_among : (seen read : List Decider) (units : List ℕ) → AreOrdered seen → AreOrdered read → ((d : Decider) → Contains seen d → Contains read d) → AllZip IsUnit read units → HasUnitsOf seen (sum units)
  units_among [] read units ordered order among all = record { units = []; units_are = tt; few = omega arith }
  units_among (d ∷ seen) [] units ordered order among all = absurd (let c = among d (here d seen) in omega (arith, c.1))
  units_among (d ∷ seen) (r ∷ read) [] ordered order among all = absurd all
  units_among (d ∷ seen) (r ∷ read) (u ∷ units) ordered order among all =
      go (either d r read (among d (here d seen)))
      (λ inside. units_among seen read units ordered.1 order.1 inside all.1) (λ inside. units_among (d ∷ seen) read units ordered order.1 inside all.1)
    where
      go : (d ≡ r) ⊎ Contains read d → (((e : Decider) → Contains seen e → Contains read e) → HasUnitsOf seen (sum units)) → (((e : Decider) → Contains (d ∷ seen) e → Contains read e) → HasUnitsOf (d ∷ seen) (sum units))
          → HasUnitsOf (d ∷ seen) (sum (u ∷ units))
      go (inl same) take skip =
          let first : (e : Decider) → Contains seen e → IsDeciderBefore r e = subst (λ o. (e : Decider) → Contains seen e → IsDeciderBefore o e) same ordered.0 in
          let rest = take (behind r seen read first (λ e c. among e (later d e seen c))) in
          record { units = u ∷ rest.units; units_are = (subst (λ o. IsUnit o u) (sym same) all.0, rest.units_are); few = let few = rest.few in omega (arith, few, sum_cons u rest.units, sum_cons u units) }
      go (inr there) take skip =
          let rest = skip within in
          record { units = rest.units; units_are = rest.units_are; few = let few = rest.few in omega (arith, few, sum_cons u units) }
        where
          within : (e : Decider) → Contains (d ∷ seen) e → Contains read e
          within e c = by (either e r read (among e c)) (either e d seen c)
            where
              by : (e ≡ r) ⊎ Contains read e → (e ≡ d) ⊎ Contains seen e → Contains read e
              by (inr c) side = c
              by (inl same) (inl is) = subst (Contains read) (sym is) there
              by (inl same) (inr c) = absurd (before_both_ways r d (order.0 d there) (subst (λ o. IsDeciderBefore d o) same (ordered.0 e c)))
