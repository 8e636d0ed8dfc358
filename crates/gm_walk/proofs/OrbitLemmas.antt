-- Orbits of a generalised map: each dart of one is in the orbit of each other.
use Rattle.std.proofs.Common.{ℕ, ◌≤◌, List, [], ◌∷◌, IsTrue, refl, sym, ap, subst, ◌∙◌}
use Rattle.gm_model.specs.GMap.{IsGMap}
use Rattle.gm_model.specs.Orbits.{Labels, IsPathIn, IsInOrbit, IsLead, HasOrbits, follow}
use Rattle.gm_walk.proofs.CountLemmas.{count_alike}

module _ (n : ℕ) (IsLive : ℕ → Type 0) (alpha : ℕ → ℕ → ℕ) (o : Labels) (gmap : IsGMap n IsLive alpha) (few : (i : ℕ) → IsTrue (o i) → i ≤ n) where
  pub live_along : (path : List ℕ) (d : ℕ) → IsLive d → IsPathIn o path → IsLive (follow alpha path d)
  live_along [] d live inside = live
  live_along (i ∷ path) d live inside = live_along path (alpha i d) (gmap.stays d i live (few i inside.0)) inside.1

  turn : (path : List ℕ) (d e : ℕ) → IsLive d → IsPathIn o path → IsInOrbit alpha o d e → IsInOrbit alpha o (follow alpha path d) e
  turn [] d e live inside to = to
  turn (i ∷ path) d e live inside to =
      turn path (alpha i d) e (gmap.stays d i live (few i inside.0)) inside.1 (i ∷ to.0, (inside.0, to.1), ap (follow alpha to.0) (gmap.back d i live (few i inside.0)) ∙ to.2)

  pub orbit_back : (d e : ℕ) → IsLive d → IsInOrbit alpha o d e → IsInOrbit alpha o e d
  orbit_back d e live to = subst (λ x. IsInOrbit alpha o x d) to.2 (turn to.0 d d live to.1 ([], tt, refl))

module _ (alpha : ℕ → ℕ → ℕ) (o : Labels) where
  pub orbit_on : (path : List ℕ) (d f : ℕ) → IsPathIn o path → IsInOrbit alpha o (follow alpha path d) f → IsInOrbit alpha o d f
  orbit_on [] d f inside to = to
  orbit_on (i ∷ path) d f inside to = let r = orbit_on path (alpha i d) f inside.1 to in (i ∷ r.0, (inside.0, r.1), r.2)

  pub orbit_join : (d e f : ℕ) → IsInOrbit alpha o d e → IsInOrbit alpha o e f → IsInOrbit alpha o d f
  orbit_join d e f to on = orbit_on to.0 d f to.1 (subst (λ x. IsInOrbit alpha o x f) (sym to.2) on)

-- ---- sets of labels

path_alike : (o p : Labels) → ((i : ℕ) → IsTrue (o i) → IsTrue (p i)) → (path : List ℕ) → IsPathIn o path → IsPathIn p path
path_alike o p to [] inside = tt
path_alike o p to (i ∷ path) inside = (to i inside.0, path_alike o p to path inside.1)

orbit_alike : (alpha : ℕ → ℕ → ℕ) (o p : Labels) → ((i : ℕ) → IsTrue (o i) → IsTrue (p i)) → (d e : ℕ) → IsInOrbit alpha o d e → IsInOrbit alpha p d e
orbit_alike alpha o p to d e in_orbit = (in_orbit.0, path_alike o p to in_orbit.0 in_orbit.1, in_orbit.2)

-- the same labels, the same number of orbits
pub orbits_alike : (IsLive : ℕ → Type 0) (alpha : ℕ → ℕ → ℕ) (o p : Labels) → ((i : ℕ) → IsTrue (o i) → IsTrue (p i)) → ((i : ℕ) → IsTrue (p i) → IsTrue (o i)) → (count : ℕ) → HasOrbits IsLive alpha o count → HasOrbits IsLive alpha p count
orbits_alike IsLive alpha o p to from count h = count_alike (IsLead IsLive alpha o) (IsLead IsLive alpha p)
    (λ d lead. record { live = lead.live; least = λ e in_orbit live. lead.least e (orbit_alike alpha p o from d e in_orbit) live })
    (λ d lead. record { live = lead.live; least = λ e in_orbit live. lead.least e (orbit_alike alpha o p to d e in_orbit) live })
    count h
