use Rattle.std.proofs.Common.{◌≡◌, ◌+◌, drop, length}
use Rattle.gm_commit.specs.inner.OldDartValues.{told_from, values_told}
use Rattle.gm_commit.specs.inner.WrittenMap.{with_values}
use Rattle.gm_commit.proofs.old_darts.set_values.Given as goal

abbrev pub invariant-loop-embed : goal.invariant-loop-embed
invariant-loop-embed g l = record {
  slots : l.arena.slots ≡ l.fn.arena.slots;
  schema : l.arena.schema ≡ l.fn.arena.schema;
  rest : with_values l.arena (told_from l.embed (drop l.embed l.by_embed)) ≡ with_values l.fn.arena (values_told l.by_embed);
  cost : l.steps + length (told_from l.embed (drop l.embed l.by_embed)) ≡ l.fn.steps + length (values_told l.by_embed);
}
