-- The least dart of each orbit can be listed, in ascending order.
use Rattle.std.proofs.Common.{◌≡◌, ℕ, zero, suc, ◌+◌, ◌<◌, ◌≤◌, ◌⊎◌, false, IsTrue, List, [], ◌∷◌, slice_index, sym, subst, inl, inr, arith}
use Rattle.std.proofs.lemmas.Bool.{cases_order}
use Rattle.std.proofs.lemmas.List.Kept.{AllPairs-from_increasing}
use Rattle.std.specs.List.Sorted.{IsStrictlyIncreasing}
use Rattle.gm_model.specs.declared.word.Mask.{Mask}
use Rattle.gm_model.specs.Labels.{has}
use Rattle.gm_model.specs.Maps.{Map, IsDart, IsSound, dimension}
use Rattle.gm_model.specs.Orbits.{IsInOrbit, IsLead, HasNoRepeats}
use Rattle.gm_model.specs.Runs.{AreLeads}
use Rattle.gm_theory.proofs.Tests.{true_or_false, not_both, search_below}
use Rattle.gm_theory.proofs.ValuesLists.{IsIn, in_contained, contains_in}
use Rattle.gm_theory.proofs.ValuesReach.{IsDecided, decide_orbit}

-- ---- ascending lists

-- each is above the one before it, and the first is no less than this
abbrev Ascends : ℕ → List ℕ → Type 0
Ascends start [] = Unit {0}
Ascends start (d ∷ ds) = (start ≤ d) × Ascends (suc d) ds

ascends_from : (start first : ℕ) (ds : List ℕ) → start ≤ first → Ascends first ds → Ascends start ds
ascends_from start first [] h up = tt
ascends_from start first (d ∷ ds) h up = (omega (arith, up.0), up.1)

rising : (start : ℕ) (ds : List ℕ) → Ascends start ds → IsStrictlyIncreasing ds
rising start [] up k h = absurd (omega arith)
rising start (d ∷ []) up k h = absurd (omega arith)
rising start (d ∷ e ∷ ds) up zero h = omega (arith, up.1.0)
rising start (d ∷ e ∷ ds) up (suc k) h = let next : suc k + 1 ≡ suc (k + 1) = omega arith in rw next (rising (suc d) (e ∷ ds) up.1 k (omega arith))

pub increasing_differ : (ds : List ℕ) → IsStrictlyIncreasing ds → HasNoRepeats ds
increasing_differ ds up p q less within same = let below : slice_index ds p < slice_index ds q = AllPairs-from_increasing ds up p q 0 less within in omega arith

-- all of so many numbers from the start on that have P
module _ (P : ℕ → Type 0) (decide : (d : ℕ) → IsDecided (P d)) where
  record IsAscendingOf (start count : ℕ) (ds : List ℕ) : Type 0 where
    up : Ascends start ds
    into : (d : ℕ) → IsIn d ds → (start ≤ d) × (d < start + count) × P d
    from : (d : ℕ) → start ≤ d → d < start + count → P d → IsIn d ds

  ascending : (start count : ℕ) → (ds : List ℕ) × IsAscendingOf start count ds
  ascending start zero = ([], record { up = tt; into = λ d i. absurd i; from = λ d h b p. absurd (omega arith) })
  ascending start (suc count) = go (decide start) (ascending (suc start) count)
    where
      go : IsDecided (P start) → (ds : List ℕ) × IsAscendingOf (suc start) count ds → (ds : List ℕ) × IsAscendingOf start (suc count) ds
      go (inl p) (ds, l) = (start ∷ ds, record { up = (omega arith, l.up); into = into; from = from })
        where
          into : (d : ℕ) → IsIn d (start ∷ ds) → (start ≤ d) × (d < start + suc count) × P d
          into d (inl e) = (omega arith, omega arith, subst P e p)
          into d (inr i) = let r : (suc start ≤ d) × (d < suc start + count) × P d = l.into d i in (omega (arith, r.0), omega (arith, r.1), r.2)

          from : (d : ℕ) → start ≤ d → d < start + suc count → P d → IsIn d (start ∷ ds)
          from d h b q = by (cases_order start d)
            where
              by : (start ≡ d) ⊎ ((start < d) ⊎ (d < start)) → IsIn d (start ∷ ds)
              by (inl e) = inl e
              by (inr (inl k)) = inr (l.from d (omega arith) (omega arith) q)
              by (inr (inr k)) = absurd (omega arith)
      go (inr none) (ds, l) = (ds, record { up = ascends_from start (suc start) ds (omega arith) l.up; into = into; from = from })
        where
          into : (d : ℕ) → IsIn d ds → (start ≤ d) × (d < start + suc count) × P d
          into d i = let r : (suc start ≤ d) × (d < suc start + count) × P d = l.into d i in (omega (arith, r.0), omega (arith, r.1), r.2)

          from : (d : ℕ) → start ≤ d → d < start + suc count → P d → IsIn d ds
          from d h b q = by (cases_order start d)
            where
              by : (start ≡ d) ⊎ ((start < d) ⊎ (d < start)) → IsIn d ds
              by (inl e) = absurd (none (subst P (sym e) q))
              by (inr (inl k)) = l.from d (omega arith) (omega arith) q
              by (inr (inr k)) = absurd (omega arith)

-- ---- leads

module _ (map : Map) (sound : IsSound map) (mask : Mask) (labels : (i : ℕ) → IsTrue (has mask i) → i ≤ dimension map) where
  abbrev IsLeadHere : ℕ → Type 0
  IsLeadHere d = IsLead (IsDart map) map.alpha (has mask) d

  -- a dart of the orbit that comes before it
  abbrev IsLower : ℕ → ℕ → Type 0
  IsLower d e = IsDart map e × IsInOrbit map.alpha (has mask) d e

  decide_lead : (d : ℕ) → IsDecided (IsLeadHere d)
  decide_lead d = go (true_or_false (map.live d))
    where
      decide_lower : IsDart map d → (e : ℕ) → IsDecided (IsLower d e)
      decide_lower live e = by (true_or_false (map.live e)) (decide_orbit (dimension map) map.alpha (has mask) (IsDart map) map.next labels sound.generalised.stays sound.is_map.below d e live)
        where
          by : IsDart map e ⊎ (map.live e ≡ false) → IsDecided (IsInOrbit map.alpha (has mask) d e) → IsDecided (IsLower d e)
          by (inl l) (inl o) = inl (l, o)
          by (inl l) (inr none) = inr (λ h. none h.1)
          by (inr dead) o = inr (λ h. not_both (map.live e) h.0 dead)

      at : IsDart map d → ((e : ℕ) × (e < d) × IsLower d e) ⊎ ((e : ℕ) → e < d → IsLower d e → ⊥) → IsDecided (IsLeadHere d)
      at live (inl (e, b, l)) = inr (λ lead. let above : d ≤ e = lead.least e l.1 l.0 in omega arith)
      at live (inr none) = inl (record { live = live; least = λ e o l. by e o l (cases_order d e) })
        where
          by : (e : ℕ) → IsInOrbit map.alpha (has mask) d e → IsDart map e → (d ≡ e) ⊎ ((d < e) ⊎ (e < d)) → d ≤ e
          by e o l (inl f) = omega arith
          by e o l (inr (inl h)) = omega arith
          by e o l (inr (inr h)) = absurd (none e h (l, o))

      go : IsDart map d ⊎ (map.live d ≡ false) → IsDecided (IsLeadHere d)
      go (inl live) = at live (search_below (IsLower d) (decide_lower live) d)
      go (inr dead) = inr (λ lead. not_both (map.live d) lead.live dead)

  pub leads_exist : (leads : List ℕ) × AreLeads map mask leads
  leads_exist = go (ascending IsLeadHere decide_lead 0 map.next)
    where
      go : (ds : List ℕ) × IsAscendingOf IsLeadHere decide_lead 0 map.next ds → (leads : List ℕ) × AreLeads map mask leads
      go (ds, l) = (
        ds,
        record {
          ascending = rising 0 ds l.up;
          same = record {
            distinct = increasing_differ ds (rising 0 ds l.up);
            same = λ d. (
              λ c. (l.into d (in_contained ds d c)).2,
              λ lead. contains_in ds d (l.from d (omega arith) (let below : d < map.next = sound.is_map.below d lead.live in omega arith) lead),
            );
          };
        },
      )
