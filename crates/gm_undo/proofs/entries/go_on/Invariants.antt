use Rattle.std.proofs.Common.{◌≤◌, ℕ, ◌+◌}
use Rattle.gm_undo.specs.inner.Costs.{cost_to}
use Rattle.gm_undo.specs.inner.Layout.{changes_in}
use Rattle.gm_undo.specs.inner.Standing.{AreChained, Rows}
use Rattle.gm_undo.specs.inner.Writing.{HasRoomOf}
use Rattle.gm_undo.proofs.entries.go_on.Given as goal

abbrev pub invariant-loop-index : goal.invariant-loop-index
invariant-loop-index g l = record {
  chained : (states : ℕ → Rows) → AreChained (changes_in l.rows.rows l.changes) l.fn.arena states l.fn.start → AreChained (changes_in l.rows.rows l.changes) l.arena states l.index;
  room : HasRoomOf l.fn.arena l.arena;
  most : l.steps + cost_to l.fn.arena.schema.dim (changes_in l.rows.rows l.changes) l.fn.start ≤ l.fn.steps + cost_to l.fn.arena.schema.dim (changes_in l.rows.rows l.changes) l.index;
  rises : l.fn.steps ≤ l.steps;
}
