-- How a scratch keeps a walk: a queue of slots, and for each slot a mark that tells its place. No public clause cites this module.
use Rattle.std.specs.Prelude.{◌≡◌, ℕ, ◌+◌, ◌<◌, ◌≤◌, ◌==◌, List, map, length, slice_index}
use Rattle.std.specs.List.{count_by}
use Rattle.gm_arena.specs.declared.slot.Slot.{Slot}

-- the numbers of the slots
abbrev pub numbers : List Slot → List ℕ
numbers slots = map (λ (s : Slot). s.at) slots

-- how many slots are not in the queue
abbrev pub unmarked : List ℕ → ℕ
unmarked marks = count_by (λ mark. mark == 0) marks

-- the mark of a slot in the queue is one more than its place, and each other mark is 0
pub record IsMarked (queue marks : List ℕ) : Type 0 where
  pub within : (p : ℕ) → p < length queue → slice_index queue p < length marks
  pub marked : (p : ℕ) → p < length queue → slice_index marks (slice_index queue p) ≡ p + 1
  pub queued : (slot p : ℕ) → slice_index marks slot ≡ p + 1 → (p < length queue) × (slice_index queue p ≡ slot)
  -- so the queue is no longer than the marks
  pub counted : length queue + unmarked marks ≡ length marks

pub record IsKept (queue : List Slot) (marks : List ℕ) (capacity : ℕ) : Type 0 where
  pub marked : IsMarked (numbers queue) marks
  -- each slot that is not in the queue has room there
  pub room : length marks ≤ capacity
  -- a place is below 2 ^ 32
  pub few : length marks ≤ 4294967295
