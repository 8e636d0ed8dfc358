-- How the instances' slots are taken one after another, and which is the first that is taken twice.
use Rattle.std.specs.Prelude.{◌≡◌, ◌≢◌, ℕ, ◌+◌, ◌*◌, ◌<◌, ◌⊎◌, List, length, Some, slice_get}
use Rattle.std.specs.List.{Contains}
use Rattle.gm_arena.specs.declared.slot.Slot.{Slot}
use Rattle.gm_model.specs.Orbits.{IsPairBefore}
use Rattle.gm_plan.specs.inner.Placed.{Placed, slot_at}
use Rattle.gm_match.specs.declared.fault.MatchFault.{MatchFault}
use Rattle.gm_match.specs.declared.fault.MatchFault.TheVariants as faults

module _ (found : Placed) where
  -- no instance before (x, p) has the slot of an earlier one
  abbrev pub TakeEachOnceBefore : ℕ → ℕ → Type 0
  TakeEachOnceBefore x p = (y q z r : ℕ) → IsPairBefore y q z r → IsPairBefore z r x p → q < found.positions → r < found.positions → slot_at found y q ≢ slot_at found z r

  abbrev pub TakeEachOnce : Type 0
  TakeEachOnce = TakeEachOnceBefore found.nodes 0

  -- no two instances of node x have one slot
  abbrev pub TakesEachOnce : ℕ → Type 0
  TakesEachOnce x = (p q : ℕ) → p < q → q < found.positions → slot_at found x p ≢ slot_at found x q

  -- the slots are those of node x, by position
  abbrev pub AreSlotsOf : ℕ → List Slot → Type 0
  AreSlotsOf x slots = (p : ℕ) → p < found.positions → slot_at found x p ≡ slice_get slots p

  -- an instance of node h, or one before (x, p)
  abbrev pub IsAmong : ℕ → ℕ → ℕ → ℕ → ℕ → Type 0
  IsAmong h x p y q = (q < found.positions) × ((y ≡ h) ⊎ IsPairBefore y q x p)

  -- the slots have those of these instances, of which no two have one slot
  pub record AreApart (h x p : ℕ) (slots : List Slot) : Type 0 where
    pub here : (y q : ℕ) (s : Slot) → IsAmong h x p y q → slot_at found y q ≡ Some s → Contains slots s
    pub distinct : (y q z r : ℕ) → IsAmong h x p y q → IsAmong h x p z r → IsPairBefore y q z r → slot_at found y q ≢ slot_at found z r

  -- the slots of the instances before (x, p), by node and position
  pub record IsTaken (x p : ℕ) (slots : List Slot) : Type 0 where
    pub long : length slots ≡ x * found.positions + p
    pub here : (y q : ℕ) → IsPairBefore y q x p → q < found.positions → slice_get slots (y * found.positions + q) ≡ slot_at found y q
    pub distinct : TakeEachOnceBefore x p

  -- the second instance is the first that has the slot of an earlier one, and this is the first instance
  pub data IsFirstTwice : MatchFault → Type 0 where
    Twice : (x p y q : ℕ) → y < found.nodes → p < found.positions → q < found.positions → IsPairBefore x p y q → slot_at found x p ≡ slot_at found y q → TakeEachOnceBefore y q → IsFirstTwice (faults.Same x p y q)
