use Rattle.std.specs.List.{sum_by}
use Rattle.std.proofs.Common.{◌≡◌, ◌+◌, ◌≤◌, drop, length, take, vec_capacity}
use Rattle.gm_model.specs.Maps.{IsSound}
use Rattle.gm_model.specs.Runs.{AreInOrder}
use Rattle.gm_arena.specs.inner.ArenaAsMap.{as_map}
use Rattle.gm_run.specs.inner.Progress.{rules_of}
use Rattle.gm_run.specs.inner.Standing.{KeepsEnough, going}
use Rattle.gm_run.proofs.Through.{IsThrough, is_open}
use Rattle.gm_run.proofs.running.run.Given as goal

abbrev pub invariant-loop-index : goal.invariant-loop-index
invariant-loop-index g l = record {
  sound : IsSound (as_map l.arena);
  schema : l.arena.schema ≡ l.fn.arena.schema;
  spare : l.fn.arena.count + l.fn.arena.spare ≤ l.arena.count + l.arena.spare;
  reserved : l.fn.arena.reserved ≤ l.arena.reserved;
  long : length l.outcomes.items ≡ l.index;
  capacity : l.count ≤ vec_capacity l.outcomes;
  enough : KeepsEnough l.standing;
  reach : l.standing.keeps.reach ≡ sum_by going (drop l.index l.script.stats);
  order : AreInOrder (is_open l.standing.group) (drop l.index l.script.stats);
  through : IsThrough (rules_of l.plans) (as_map l.fn.arena) (take l.index l.script.stats) l.outcomes.items l.standing l.arena l.fn.steps l.steps;
}
