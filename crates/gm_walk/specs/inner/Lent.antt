-- What contracts see of a walk: its slots, and the scratch that was lent to it.
use Rattle.std.specs.Prelude.{ℕ, List}
use Rattle.gm_arena.specs.declared.slot.Slot.{Slot}
use Rattle.gm_walk.specs.declared.walk.Walk.{Walk}

-- the slots of the walk, in its order
abbrev pub slots_of : Walk → List Slot
slots_of walk = walk.scratch.now.walked

-- its scratch has room for the slots below this
abbrev pub bound_of : Walk → ℕ
bound_of walk = walk.scratch.now.bound

-- the name of the borrow of its scratch: what the walk leaves there is what its lender finds there
abbrev pub lender_of : Walk → ℕ
lender_of walk = walk.scratch.ghost_name
