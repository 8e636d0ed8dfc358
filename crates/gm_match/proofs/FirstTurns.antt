-- Which turn is the first that leads to a position.
use Rattle.std.proofs.Common.{◌≡◌, ◌≢◌, ℕ, suc, ◌+◌, ◌*◌, ◌/◌, ◌%◌, ◌<◌, ◌≤◌, ◌⊎◌, inl, inr, List, length, Some, sym, ap, subst, ◌∙◌, arith}
use Rattle.std.proofs.Math.Nat.{mod-lt, le_antisymm, mul-le-mul_right}
use Rattle.std.proofs.lemmas.Bool.{cases_lt, cases_order}
use Rattle.std.proofs.lemmas.Nat.{div-add-mod', mul-add-lt}
use Rattle.std.proofs.lemmas.Option.{get_or_from_slice_get}
use Rattle.std.specs.List.{slice_get}
use Rattle.std.specs.Prelude.{slice_index}
use Rattle.gm_model.specs.declared.word.Letter.{Letter}
use Rattle.gm_model.specs.Orbits.{IsPairBefore, IsLeastStep, IsWalk}
use Rattle.gm_arena.specs.inner.ArenaMap.{ArenaMap}
use Rattle.gm_theory.proofs.Walks.{contains_before, same_place}
use Rattle.gm_walk.specs.inner.Turns.{IsTurn}
use Rattle.gm_walk.specs.inner.Walks.{along}
use Rattle.gm_walk.specs.inner.Cells.{AreCells}
use Rattle.gm_match.specs.inner.Layout.{HaveFirstTurns, LeadBefore, IsFirstTo}

-- earlier turns are those of earlier pairs of a position and a place
pair_before : (k places q l : ℕ) → l < places → k < q * places + l → IsPairBefore (k / places) (k % places) q l
pair_before k places q l low less = go (cases_order (k / places) q)
  where
    whole : k / places * places + k % places ≡ k
    whole = div-add-mod' k places

    go : (k / places ≡ q) ⊎ ((k / places < q) ⊎ (q < k / places)) → IsPairBefore (k / places) (k % places) q l
    go (inl same) = let here : k / places * places ≡ q * places = ap (λ n. n * places) same in inr (same, omega (arith, whole, here, less))
    go (inr (inl earlier)) = inl earlier
    go (inr (inr later)) = let above : suc q * places ≤ k / places * places = mul-le-mul_right places later in absurd (omega (arith, whole, above, less, low))

-- the turn at a pair that turns to a position as none before it does is the first to that position
pub is_first : (turns : List ℕ) (places p q l k : ℕ) → slice_index turns (q * places + l) ≡ p → l < places → ((q' l' : ℕ) → IsPairBefore q' l' q l → l' < places → slice_index turns (q' * places + l') ≢ p) → IsFirstTo turns p k → k ≡ q * places + l
is_first turns places p q l k here low first is = go (cases_order k (q * places + l))
  where
    some : 0 < places
    some = omega (arith, low)

    there : slice_index turns (k / places * places + k % places) ≡ p
    there = ap (slice_index turns) (div-add-mod' k places) ∙ get_or_from_slice_get turns k p 0 is.here

    go : (k ≡ q * places + l) ⊎ ((k < q * places + l) ⊎ (q * places + l < k)) → k ≡ q * places + l
    go (inl same) = same
    go (inr (inl less)) = absurd (first (k / places) (k % places) (pair_before k places q l low less) (mod-lt k some) there)
    go (inr (inr more)) = absurd (omega (arith, is.before (q * places + l) more, here))

-- each later position of a walk is first turned to by its least pair
module _ (m : ArenaMap) (word : List Letter) (d : ℕ) (walk turns : List ℕ) (is_walk : IsWalk (along m word) (length word) d walk) (cells : AreCells (IsTurn m word walk) (length walk) (length word) turns) where
  -- the turn at a pair leads to the place of the neighbour
  lands : (q l p : ℕ) → q < length walk → l < length word → p < length walk → slice_index walk p ≡ along m word (slice_index walk q) l → slice_get turns (q * length word + l) ≡ Some p
  lands q l p within low inside leads = go (cells.each q l within low)
    where
      go : (v : ℕ) × (slice_get turns (q * length word + l) ≡ Some v) × IsTurn m word walk q l v → slice_get turns (q * length word + l) ≡ Some p
      go (v, at, turn) = at ∙ ap Some (same_place walk v p is_walk.distinct turn.within inside (turn.leads ∙ sym leads))

  pub have_first : HaveFirstTurns turns (length walk) (length word)
  have_first p some inside = go (is_walk.least p some inside)
    where
      go : (q : ℕ) × (l : ℕ) × IsLeastStep (along m word) (length word) walk p q l → (k : ℕ) × (k < p * length word) × IsFirstTo turns p k
      go (q, l, step) = (q * length word + l, omega (arith, mul-add-lt q (length word) l p step.earlier step.place), record { here = lands q l p (omega (arith, step.earlier, inside)) step.place inside step.leads; before = before })
        where
          before : (j : ℕ) → j < q * length word + l → slice_index turns j < p
          before j less = by (contains_before walk p (along m word (slice_index walk (j / length word)) (j % length word)) (step.least (j / length word) (j % length word) (pair_before j (length word) q l step.place less) low))
            where
              low : j % length word < length word
              low = mod-lt j (omega (arith, step.place))

              within : j / length word < length walk
              within = elim (pair_before j (length word) q l step.place less) [
                | inl earlier ↦ omega (arith, earlier, step.earlier, inside)
                | inr same ↦ omega (arith, same.0, step.earlier, inside)
              ]

              by : (k : ℕ) × (k < p) × (k < length walk) × (slice_index walk k ≡ along m word (slice_index walk (j / length word)) (j % length word)) → slice_index turns j < p
              by (k, below, there, leads) =
                  let at : slice_index turns j ≡ k = ap (slice_index turns) (sym (div-add-mod' j (length word))) ∙ get_or_from_slice_get turns (j / length word * length word + j % length word) k 0 (lands (j / length word) (j % length word) k within low there leads) in
                  subst (λ n. n < p) (sym at) below

-- ---- the search for the first turn

pub not_before : (turns : List ℕ) (from p k : ℕ) → LeadBefore turns from p → IsFirstTo turns p k → from ≤ k
not_before turns from p k before first = elim (cases_lt k from) [
  | inl less ↦ absurd (omega (arith, before k less, get_or_from_slice_get turns k p 0 first.here))
  | inr more ↦ more
]

pub not_here : (turns : List ℕ) (turn p k : ℕ) → IsFirstTo turns p k → turn ≤ k → slice_index turns turn ≢ p → turn + 1 ≤ k
not_here turns turn p k first most other = elim (cases_lt turn k) [
  | inl less ↦ omega (arith, less)
  | inr more ↦ absurd (other (ap (slice_index turns) (le_antisymm most more) ∙ get_or_from_slice_get turns k p 0 first.here))
]
