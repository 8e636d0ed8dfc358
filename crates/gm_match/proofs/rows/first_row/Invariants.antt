use Rattle.std.proofs.Common.{◌≡◌, ℕ, ◌<◌, Some, length}
use Rattle.std.specs.List.{slice_get}
use Rattle.std.specs.Prelude.{slice_index}
use Rattle.gm_model.specs.Rules.{rule_of}
use Rattle.gm_walk.specs.inner.Walks.{AreLive, names_of}
use Rattle.gm_match.specs.inner.Layout.{dart_in}
use Rattle.gm_match.proofs.rows.first_row.Given as goal

abbrev pub invariant-loop-index : goal.invariant-loop-index
invariant-loop-index g l = record {
  whole : length l.row ≡ 32;
  live : AreLive l.arena l.row;
  placed : (t h : ℕ) → t < l.index → slice_get (rule_of l.plan.table).hooks t ≡ Some h → dart_in l.arena l.row h ≡ slice_index (names_of l.arena l.darts) t;
}
