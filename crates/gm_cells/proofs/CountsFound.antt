-- The numbers of a generalised map whose names lie below its next name: what is counted can be decided of each dart.
use Rattle.std.proofs.Common.{◌≡◌, ℕ, ◌+◌, ◌<◌, ◌≤◌, false, ◌⊎◌, IsTrue, List, length, slice_index, refl, subst, inl, inr, arith}
use Rattle.std.proofs.lemmas.Bool.{cases_lt, cases_eq, leb-true}
use Rattle.std.proofs.lemmas.Option.{slice_get-get_or}
use Rattle.gm_model.specs.Maps.{Map, IsDart, IsGeneralised, dimension}
use Rattle.gm_model.specs.Orbits.{Labels, IsInOrbit, IsLead, HasCount, HasOrbits}
use Rattle.gm_cells.specs.declared.counts.Counts.{Counts}
use Rattle.gm_cells.specs.Cells.{labels_to, labels_but, HasCellsOf, HasFree, AreByLabel, AreCounts}
use Rattle.gm_cells.proofs.LabelLemmas.{but_within}
use Rattle.gm_theory.proofs.ListsGathered.{tabulated}
use Rattle.gm_theory.proofs.OrbitsListed.{list_all_of}
use Rattle.gm_theory.proofs.Tests.{true_or_false, not_both, search_below}
use Rattle.gm_theory.proofs.ValuesReach.{IsDecided, decide_orbit}

module _ (map : Map) (below : (d : ℕ) → IsDart map d → d < map.next) (gmap : IsGeneralised map) where
  pub decide_dart : (d : ℕ) → IsDecided (IsDart map d)
  decide_dart d = go (true_or_false (map.live d))
    where
      go : IsDart map d ⊎ (map.live d ≡ false) → IsDecided (IsDart map d)
      go (inl live) = inl live
      go (inr dead) = inr (λ live. not_both (map.live d) live dead)

  counted : (P : ℕ → Type 0) → ((d : ℕ) → IsDecided (P d)) → ((d : ℕ) → P d → IsDart map d) → (count : ℕ) × HasCount P count
  counted P decide live = let l = list_all_of P decide map.next (λ d has. below d (live d has)) in (length l.0, (l.0, l.1, refl))

  -- ---- orbits

  module _ (o : Labels) (labels : (i : ℕ) → IsTrue (o i) → i ≤ dimension map) where
    pub decide_joined : (d e : ℕ) → IsDart map d → IsDecided (IsInOrbit map.alpha o d e)
    decide_joined = decide_orbit (dimension map) map.alpha o (IsDart map) map.next labels gmap.stays below

    -- a dart of the orbit
    abbrev IsOther : ℕ → ℕ → Type 0
    IsOther d e = IsDart map e × IsInOrbit map.alpha o d e

    decide_other : (d : ℕ) → IsDart map d → (e : ℕ) → IsDecided (IsOther d e)
    decide_other d live e = go (decide_dart e) (decide_joined d e live)
      where
        go : IsDecided (IsDart map e) → IsDecided (IsInOrbit map.alpha o d e) → IsDecided (IsOther d e)
        go (inl l) (inl j) = inl (l, j)
        go (inl l) (inr none) = inr (λ h. none h.1)
        go (inr dead) j = inr (λ h. dead h.0)

    pub decide_lead : (d : ℕ) → IsDecided (IsLead (IsDart map) map.alpha o d)
    decide_lead d = go (decide_dart d)
      where
        at : IsDart map d → ((e : ℕ) × (e < d) × IsOther d e) ⊎ ((e : ℕ) → e < d → IsOther d e → ⊥) → IsDecided (IsLead (IsDart map) map.alpha o d)
        at live (inl (e, b, l)) = inr (λ lead. let above : d ≤ e = lead.least e l.1 l.0 in omega arith)
        at live (inr none) = inl (record { live = live; least = λ e j l. by e j l (cases_lt e d) })
          where
            by : (e : ℕ) → IsInOrbit map.alpha o d e → IsDart map e → (e < d) ⊎ (d ≤ e) → d ≤ e
            by e j l (inl less) = absurd (none e less (l, j))
            by e j l (inr more) = more

        go : IsDecided (IsDart map d) → IsDecided (IsLead (IsDart map) map.alpha o d)
        go (inl live) = at live (search_below (IsOther d) (decide_other d live) d)
        go (inr dead) = inr (λ lead. dead lead.live)

    orbits_exist : (count : ℕ) × HasOrbits (IsDart map) map.alpha o count
    orbits_exist = counted (IsLead (IsDart map) map.alpha o) decide_lead (λ d lead. lead.live)

  -- ---- the numbers

  cells_exist : (i : ℕ) → (count : ℕ) × HasCellsOf map i count
  cells_exist i = orbits_exist (labels_but (dimension map) i) (λ j h. but_within (dimension map) i j h)

  decide_free : (i d : ℕ) → IsDecided (IsDart map d × (map.alpha i d ≡ d))
  decide_free i d = go (decide_dart d) (cases_eq (map.alpha i d) d)
    where
      go : IsDecided (IsDart map d) → (map.alpha i d ≡ d) ⊎ (map.alpha i d ≡ d → ⊥) → IsDecided (IsDart map d × (map.alpha i d ≡ d))
      go (inl live) (inl same) = inl (live, same)
      go (inl live) (inr moves) = inr (λ h. moves h.1)
      go (inr dead) same = inr (λ h. dead h.0)

  free_exist : (i : ℕ) → (count : ℕ) × HasFree map i count
  free_exist i = counted (λ d. IsDart map d × (map.alpha i d ≡ d)) (decide_free i) (λ d h. h.0)

  by_label : (Is : ℕ → ℕ → Type 0) → ((i : ℕ) → (count : ℕ) × Is i count) → (counts : List ℕ) × AreByLabel (dimension map) Is counts
  by_label Is each = let t = tabulated Is 0 (dimension map + 1) (λ k h. each k) in
      (t.0, record { one_each = t.1; each = λ i within. (let same : 0 + i ≡ i = omega arith in subst (λ k. Is k (slice_index t.0 i)) same (t.2 i (slice_index t.0 i) (slice_get-get_or t.0 i 0 (omega (arith, t.1, within))))) })

  pub counts_exist : (counts : Counts) × AreCounts map counts
  counts_exist =
      let darts = counted (IsDart map) decide_dart (λ d live. live) in
      let cells = by_label (HasCellsOf map) cells_exist in
      let components = orbits_exist (labels_to (dimension map)) (λ i h. leb-true i (dimension map) h) in
      let free = by_label (HasFree map) free_exist in (
        record { darts = darts.0; cells = cells.0; components = components.0; free = free.0 },
        record { darts = darts.1; cells = cells.1; components = components.1; free = free.1 },
      )
