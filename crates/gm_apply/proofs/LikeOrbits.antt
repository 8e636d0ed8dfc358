-- Neighbours that are the same at live darts lead along the same paths, and so over the same orbits.
use Rattle.std.proofs.Common.{◌≡◌, ℕ, ◌≤◌, List, [], ◌∷◌, IsTrue, refl, sym, ap, subst, ◌∙◌}
use Rattle.std.specs.List.{AllByRecursion}
use Rattle.gm_model.specs.Orbits.{Labels, IsPathIn, IsInOrbit, follow}

-- paths of a set of low labels have low labels
pub labels_low : (n : ℕ) (o : Labels) → ((i : ℕ) → IsTrue (o i) → i ≤ n) → (path : List ℕ) → IsPathIn o path → AllByRecursion (λ i. i ≤ n) path
labels_low n o low [] all = tt
labels_low n o low (i ∷ path) all = (low i all.0, labels_low n o low path all.1)

module _ (n : ℕ) (IsLive : ℕ → Type 0) (alpha beta : ℕ → ℕ → ℕ) (stays : (d i : ℕ) → IsLive d → i ≤ n → IsLive (alpha i d)) (same : (d i : ℕ) → IsLive d → i ≤ n → alpha i d ≡ beta i d) where
  pub follow_same : (path : List ℕ) (d : ℕ) → AllByRecursion (λ i. i ≤ n) path → IsLive d → follow alpha path d ≡ follow beta path d
  follow_same [] d all live = refl
  follow_same (i ∷ path) d all live = follow_same path (alpha i d) all.1 (stays d i live all.0) ∙ ap (follow beta path) (same d i live all.0)

  pub follow_live : (path : List ℕ) (d : ℕ) → AllByRecursion (λ i. i ≤ n) path → IsLive d → IsLive (follow alpha path d)
  follow_live [] d all live = live
  follow_live (i ∷ path) d all live = follow_live path (alpha i d) all.1 (stays d i live all.0)

  module _ (o : Labels) (low : (i : ℕ) → IsTrue (o i) → i ≤ n) where
    pub orbit_same : (d e : ℕ) → IsLive d → IsInOrbit alpha o d e → IsInOrbit beta o d e
    orbit_same d e live (path, all, is) = (path, all, sym (follow_same path d (labels_low n o low path all) live) ∙ is)

    pub orbit_live : (d e : ℕ) → IsLive d → IsInOrbit alpha o d e → IsLive e
    orbit_live d e live (path, all, is) = subst IsLive is (follow_live path d (labels_low n o low path all) live)
