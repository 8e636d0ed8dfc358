-- The arcs of a result, as a commit writes them.
use Rattle.std.specs.Prelude.{ℕ}
use Rattle.gm_arena.specs.declared.slot.Slot.{Slot}

-- a dart of the result: one of the old map, or the new one of this number
pub data End : Type 0 where
  Old : Slot → End
  New : ℕ → End

-- that the dart at one end has the other as its neighbour along the label
pub record Arc : Type 0 where
  pub from : End
  pub label : ℕ
  pub to : End
