use Rattle.std.proofs.Common.{◌≡◌, ◌+◌, ◌≤◌, take}
use Rattle.gm_model.specs.Budgets.{Entries}
use Rattle.gm_model.specs.Histories as definition
use Rattle.gm_model.specs.Histories.{begun_at}
use Rattle.gm_model.specs.Maps.{IsSound}
use Rattle.gm_arena.specs.inner.ArenaAsMap.{as_map}
use Rattle.gm_run.specs.inner.Progress.{rules_of}
use Rattle.gm_run.specs.inner.Standing.{MayGoBack, Remembers}
use Rattle.gm_run.specs.inner.Turns.{HaveTurns, entered_turns}
use Rattle.gm_run.proofs.each.take_turns.Given as goal

abbrev pub invariant-loop-lead : goal.invariant-loop-lead
invariant-loop-lead g l = record {
  sound : IsSound (as_map l.arena);
  schema : l.arena.schema ≡ l.fn.arena.schema;
  spare : l.fn.arena.count + l.fn.arena.spare ≤ l.arena.count + l.arena.spare;
  reserved : l.fn.arena.reserved ≤ l.arena.reserved;
  keeps : l.standing.keeps ≡ l.fn.standing.keeps;
  group : l.standing.group ≡ l.fn.standing.group;
  sum : l.counts.done + l.counts.refused + l.counts.passed ≡ l.lead-index;
  stands : (told : definition.History) × Remembers l.standing l.arena told;
  turns : (told : definition.History) (entries : Entries) → Remembers l.fn.standing l.fn.arena (begun_at (as_map l.fn.arena) told) → MayGoBack l.fn.standing l.fn.arena.schema.dim (entered_turns entries 0 0)
      → HaveTurns (rules_of l.plans) l.rule l.params (as_map l.fn.arena) told entries (take l.lead-index l.leads) l.counts l.standing l.arena l.fn.steps l.steps;
}
