-- How the slots that are taken grow, and what a slot that is taken already tells.
use Rattle.std.proofs.Common.{◌≡◌, ℕ, ◌+◌, ◌*◌, ◌/◌, ◌%◌, ◌<◌, ◌≤◌, ◌⊎◌, inl, inr, List, [], ◌∷◌, ◌++◌, length, get_or, Option, Some, None, refl, sym, ap, subst, ◌∙◌, arith}
use Rattle.std.proofs.Math.Nat.{mul-le-mul_right}
use Rattle.std.proofs.lemmas.Bool.{cases_lt, cases_order}
use Rattle.std.proofs.lemmas.List.{get_or_push, length_push}
use Rattle.std.proofs.lemmas.Nat.{div-add-mod'}
use Rattle.std.proofs.lemmas.Option.{slice_get-get_or, slice_get_within, get_or_from_slice_get}
use Rattle.std.specs.List.{slice_get, All, Contains}
use Rattle.std.specs.Option.{MatchOption, IsSome}
use Rattle.gm_model.specs.Orbits.{IsPairBefore}
use Rattle.gm_arena.specs.declared.slot.Slot.{Slot}
use Rattle.gm_plan.specs.inner.Placed.{Placed, slot_at}
use Rattle.gm_walk.specs.inner.Room.{Room, TakesIn}
use Rattle.gm_walk.specs.inner.Room.TakesIn.{Known, Added}
use Rattle.gm_match.specs.declared.fault.MatchFault.TheVariants as faults
use Rattle.gm_match.specs.inner.Taken.{IsTaken, IsFirstTwice}
use Rattle.gm_match.specs.inner.Taken.IsFirstTwice.{Twice}
use Rattle.gm_walk.proofs.CellLemmas.{get_left}

-- the pairs before the next are those before this one, and this one
pub before_next : (y q x p : ℕ) → IsPairBefore y q x (p + 1) → IsPairBefore y q x p ⊎ ((y ≡ x) × (q ≡ p))
before_next y q x p (inl less) = inl (inl less)
before_next y q x p (inr (e, less)) = elim (cases_lt q p) [ inl h ↦ inl (inr (e, h)) | inr h ↦ inr (e, omega arith) ]

module _ (found : Placed) where
  pub none_taken : IsTaken found 0 0 []
  none_taken = record {
    long = omega arith;
    here = λ y q before h. absurd (none y q before);
    distinct = λ y q z r earlier before h k. absurd (none z r before);
  }
    where
      none : (y q : ℕ) → IsPairBefore y q 0 0 → ⊥
      none y q (inl less) = omega arith
      none y q (inr (e, less)) = omega arith

  -- the slots of a node are all taken
  pub node_taken : (x p : ℕ) (slots : List Slot) → p ≡ found.positions → IsTaken found x p slots → IsTaken found (x + 1) 0 slots
  node_taken x p slots all taken = record {
    long = taken.long ∙ ap (λ n. x * found.positions + n) all ∙ (omega arith);
    here = λ y q before h. taken.here y q (earlier y q before h) h;
    distinct = λ y q z r first before h k. taken.distinct y q z r first (earlier z r before k) h k;
  }
    where
      earlier : (y q : ℕ) → IsPairBefore y q (x + 1) 0 → q < found.positions → IsPairBefore y q x p
      earlier y q (inl less) h = elim (cases_lt y x) [ inl l ↦ inl l | inr l ↦ inr (omega arith, omega arith) ]
      earlier y q (inr (e, less)) h = absurd (omega arith)

  module _ (x p : ℕ) (slots : List Slot) (taken : IsTaken found x p slots) (s : Slot) (here : slot_at found x p ≡ Some s) (within : p < found.positions) where
    -- the place of an instance among the slots
    place_below : (y q : ℕ) → IsPairBefore y q x p → q < found.positions → y * found.positions + q < x * found.positions + p
    place_below y q (inl less) h = omega (arith, mul-le-mul_right found.positions less)
    place_below y q (inr (e, less)) h = rw e (omega arith)

    -- a slot that was not taken is taken
    one_more : (Contains slots s → ⊥) → IsTaken found x (p + 1) (slots ++ s ∷ [])
    one_more lacks = record {
      long = omega (arith, taken.long, length_push slots s);
      here = at;
      distinct = λ y q z r first before h k. elim (before_next z r x p before) [
        | inl less ↦ taken.distinct y q z r first less h k
        | inr (e, f) ↦ (λ same. new y q (subst (λ w. IsPairBefore y q x w) f (subst (λ w. IsPairBefore y q w r) e first)) h (same ∙ ap (λ w. slot_at found w r) e ∙ ap (slot_at found x) f))
      ];
    }
      where
        at : (y q : ℕ) → IsPairBefore y q x (p + 1) → q < found.positions → slice_get (slots ++ s ∷ []) (y * found.positions + q) ≡ slot_at found y q
        at y q before h = elim (before_next y q x p before) [
          | inl less ↦ old y q less h
          | inr (e, f) ↦
              let end : length slots ≡ y * found.positions + q = taken.long ∙ sym (ap (λ w. w * found.positions + q) e ∙ ap (λ w. x * found.positions + w) f) in
              slice_get-get_or (slots ++ s ∷ []) (y * found.positions + q) s (omega (arith, length_push slots s)) ∙ ap Some (get_or_push slots s s (y * found.positions + q) end) ∙ sym here ∙ sym (ap (λ w. slot_at found w q) e ∙ ap (slot_at found x) f)
        ]
          where
            old : (y q : ℕ) → IsPairBefore y q x p → q < found.positions → slice_get (slots ++ s ∷ []) (y * found.positions + q) ≡ slot_at found y q
            old y q less h =
                let place = y * found.positions + q in
                let b : place < length slots = omega (arith, taken.long, place_below y q less h) in
                let there : slice_get slots place ≡ Some (get_or slots place s) = slice_get-get_or slots place s b in
                get_left slots (s ∷ []) place (get_or slots place s) there ∙ sym there ∙ taken.here y q less h

        new : (y q : ℕ) → IsPairBefore y q x p → q < found.positions → slot_at found y q ≡ slot_at found x p → ⊥
        new y q before h same =
            let e : slice_get slots (y * found.positions + q) ≡ Some s = taken.here y q before h ∙ same ∙ here in
            lacks (y * found.positions + q, slice_get_within slots (y * found.positions + q) s e, get_or_from_slice_get slots (y * found.positions + q) s s e)

    pub slot_taken : (old new : Room) → old.walked ≡ slots → TakesIn old s new → (Contains slots s → ⊥) → IsTaken found x (p + 1) new.walked
    slot_taken old new same (Known c e) lacks = absurd (lacks (subst (λ ws. Contains ws s) same c))
    slot_taken old new same (Added c e) lacks = subst (IsTaken found x (p + 1)) (sym (ap (λ (r : Room). r.walked) e ∙ ap (λ ws. ws ++ s ∷ []) same)) (one_more lacks)

    -- a slot that was taken is at the place of an earlier instance
    pub earlier : (place : ℕ) → slice_get slots place ≡ Some s → IsPairBefore (place / found.positions) (place % found.positions) x p
    earlier place e = elim (cases_order (place / found.positions) x) [
      | inl same ↦ inr (same, let b : place / found.positions * found.positions ≡ x * found.positions = ap (λ n. n * found.positions) same in omega (arith, parts, below))
      | inr (inl less) ↦ inl less
      | inr (inr more) ↦ absurd (omega (arith, mul-le-mul_right found.positions more, parts, below))
    ]
      where
        parts : place / found.positions * found.positions + place % found.positions ≡ place
        parts = div-add-mod' place found.positions

        below : place < x * found.positions + p
        below = omega (arith, slice_get_within slots place s e, taken.long)

    pub earlier_node : (place : ℕ) → slice_get slots place ≡ Some s → place / found.positions ≤ x
    earlier_node place e = elim (earlier place e) [ inl less ↦ omega arith | inr (same, _) ↦ omega arith ]

    pub taken_twice : (place : ℕ) → x < found.nodes → slice_get slots place ≡ Some s → IsFirstTwice found (faults.Same (place / found.positions) (place % found.positions) x p)
    taken_twice place node e = Twice y q x p node q_in within (earlier place e) (sym (taken.here y q (earlier place e) q_in) ∙ ap (slice_get slots) parts ∙ e ∙ sym here) taken.distinct
      where
        y : ℕ
        y = place / found.positions

        q : ℕ
        q = place % found.positions

        some : 0 < found.positions
        some = omega arith

        parts : place / found.positions * found.positions + place % found.positions ≡ place
        parts = div-add-mod' place found.positions

        q_in : place % found.positions < found.positions
        q_in = omega arith

pub slot_below : (found : Placed) (bound : ℕ) → All (λ (s : Slot). s.at < bound) found.slots → (x p : ℕ) (s : Slot) → slot_at found x p ≡ Some s → s.at < bound
slot_below found bound all x p s e = let at = p * found.nodes + x in subst (λ (t : Slot). t.at < bound) (get_or_from_slice_get found.slots at s s e) (all at s (slice_get_within found.slots at s e))

-- the place that is told of a slot
pub placed : (slots : List Slot) (s : Slot) (answer : Option ℕ) (place : ℕ) → MatchOption answer (Contains slots s → ⊥) (λ p. slice_get slots p ≡ Some s) → answer ≡ Some place → slice_get slots place ≡ Some s
placed slots s answer place told e = subst (λ o. MatchOption o (Contains slots s → ⊥) (λ p. slice_get slots p ≡ Some s)) e told

-- a slot that is among those taken has a place
pub known_place : (slots : List Slot) (s : Slot) (answer : Option ℕ) → MatchOption answer (Contains slots s → ⊥) (λ p. slice_get slots p ≡ Some s) → Contains slots s → IsSome answer
known_place slots s (Some p) told among = refl
known_place slots s None told among = absurd (told among)

pub bound_kept : (old : Room) (s : Slot) (new : Room) → TakesIn old s new → new.bound ≡ old.bound
bound_kept old s new (Known c e) = ap (λ (r : Room). r.bound) e
bound_kept old s new (Added c e) = ap (λ (r : Room). r.bound) e
