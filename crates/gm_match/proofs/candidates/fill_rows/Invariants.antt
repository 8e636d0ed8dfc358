use Rattle.std.proofs.Common.{◌+◌, ◌*◌, ◌≤◌, length, vec_capacity}
use Rattle.gm_model.specs.Rules.{rule_of}
use Rattle.gm_walk.specs.inner.Walks.{AreLive, names_of}
use Rattle.gm_match.specs.inner.Layout.{AreRows, LeadBefore}
use Rattle.gm_match.proofs.candidates.fill_rows.Given as goal

abbrev pub invariant-loop-position : goal.invariant-loop-position
invariant-loop-position g l = record {
  rows : AreRows l.arena (rule_of l.plan.table) (names_of l.arena l.darts) (names_of l.arena l.walk) l.turns l.nodes l.position l.slots.items;
  row_live : AreLive l.arena l.row;
  capacity : length l.walk * l.nodes ≤ vec_capacity l.slots;
  before : LeadBefore l.turns l.turn l.position;
  cost : l.steps + l.position ≤ l.fn.steps + l.position * length (rule_of l.plan.table).nodes;
  least : l.fn.steps ≤ l.steps;
}
