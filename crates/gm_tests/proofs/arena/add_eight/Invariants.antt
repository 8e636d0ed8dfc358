use Rattle.std.proofs.Common.{◌≡◌, ◌+◌}
use Rattle.gm_tests.proofs.arena.add_eight.Given as goal

abbrev pub invariant-loop-name : goal.invariant-loop-name
invariant-loop-name g l = record {
  schema : l.arena.schema ≡ l.fn.arena.schema;
  room : l.arena.spare + l.name ≡ l.fn.arena.spare + l.first;
  names : l.arena.reserved ≡ l.fn.arena.reserved;
}
