use Rattle.std.proofs.Common.{◌≡◌, ◌+◌, drop, length}
use Rattle.gm_pending.specs.inner.ValueSources.{given_of}
use Rattle.gm_commit.specs.inner.OldDartValues.{told_of}
use Rattle.gm_commit.specs.inner.WrittenMap.{with_values}
use Rattle.gm_commit.proofs.old_darts.set_values_of.Given as goal

abbrev pub invariant-loop-mark : goal.invariant-loop-mark
invariant-loop-mark g l = record {
  known : l.value ≡ given_of l.instances l.last;
  slots : l.arena.slots ≡ l.fn.arena.slots;
  schema : l.arena.schema ≡ l.fn.arena.schema;
  rest : with_values l.arena (told_of l.embed l.instances (drop l.mark-index l.marks)) ≡ with_values l.fn.arena (told_of l.embed l.instances l.marks);
  cost : l.steps + length (told_of l.embed l.instances (drop l.mark-index l.marks)) ≡ l.fn.steps + length (told_of l.embed l.instances l.marks);
}
