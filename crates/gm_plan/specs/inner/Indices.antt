-- What stands under the numbers of darts.
use Rattle.std.specs.Prelude.{◌≡◌, ◌≢◌, ℕ, zero, suc, ◌*◌, ◌/◌, ◌%◌, ◌<◌, List, length, get_or, nat_eq, nat_lt, Bool, ◌&&◌, cond, true, false, Option, Some, None}
use Rattle.std.specs.HashMap.{get}
use Rattle.gm_plan.specs.declared.index.Index.{Index}

-- a table has one more than an index, or 0 for none
abbrev pub one_less : ℕ → Option ℕ
one_less zero = None
one_less (suc k) = Some k

-- the number is that of an old dart whose slot has a place in the table
abbrev pub has_place : List ℕ → ℕ → Bool
has_place by_slot key = nat_eq (key % 2) 0 && nat_lt (key / 2) (length by_slot)

-- what stands under a number
abbrev pub index_at : Index → ℕ → Option ℕ
index_at index key = cond (has_place index.by_slot.items key) (one_less (get_or index.by_slot.items (key / 2) 0)) (get nat_eq index.others key)

-- one index more stands under a number, and under each other one what stood there
abbrev pub IsOneMore : (ℕ → Option ℕ) → (ℕ → Option ℕ) → ℕ → ℕ → Type 0
IsOneMore old new key k = (new key ≡ Some k) × ((other : ℕ) → other ≢ key → new other ≡ old other)

abbrev pub AreTheSame : (ℕ → Option ℕ) → (ℕ → Option ℕ) → Type 0
AreTheSame old new = (key : ℕ) → new key ≡ old key

abbrev pub IsElsewhere : List ℕ → ℕ → Type 0
IsElsewhere by_slot key = has_place by_slot key ≡ false

abbrev pub IsPlaceOf : List ℕ → ℕ → ℕ → Type 0
IsPlaceOf by_slot key place = (has_place by_slot key ≡ true) × (place < length by_slot) × (key ≡ place * 2)
