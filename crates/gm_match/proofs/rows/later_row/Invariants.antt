use Rattle.std.proofs.Common.{◌≡◌, ℕ, ◌+◌, ◌<◌, Some, length}
use Rattle.std.specs.List.{slice_get}
use Rattle.gm_arena.specs.inner.ArenaMap.{name_at}
use Rattle.gm_model.specs.Rules.{rule_of, first_hook}
use Rattle.gm_plan.specs.inner.Plans.{IsLeftCount}
use Rattle.gm_walk.specs.inner.Walks.{AreLive}
use Rattle.gm_match.specs.inner.Layout.{dart_in, stepped}
use Rattle.gm_match.proofs.rows.later_row.Given as goal

abbrev pub invariant-loop-index : goal.invariant-loop-index
invariant-loop-index g l = record {
  whole : length l.row ≡ 32;
  live : AreLive l.arena l.row;
  first : (h : ℕ) → first_hook (rule_of l.plan.table) ≡ Some h → dart_in l.arena l.row h ≡ name_at l.arena l.fn.first.at;
  later : (t h nodes : ℕ) → 0 < t → t < l.index → slice_get (rule_of l.plan.table).hooks t ≡ Some h → IsLeftCount (rule_of l.plan.table) nodes → dart_in l.arena l.row h ≡ stepped l.arena (rule_of l.plan.table) nodes l.slots l.turn h;
  cost : l.steps + 1 ≡ l.fn.steps + l.index;
}
