use Rattle.std.proofs.Common.{◌≡◌, ℕ, ◌+◌, ◌<◌}
use Rattle.gm_arena.specs.inner.ArenaMap.{IsLiveName, alpha}
use Rattle.gm_tests.proofs.arena.remove_eight.Given as goal

abbrev pub invariant-loop-name : goal.invariant-loop-name
invariant-loop-name g l = record {
  free : (name label : ℕ) → IsLiveName l.arena name → label < 3 → alpha l.arena label name ≡ name;
  only : (name : ℕ) → IsLiveName l.arena name → name < 8;
  schema : l.arena.schema ≡ l.fn.arena.schema;
  room : l.arena.spare ≡ l.fn.arena.spare + l.name;
  names : l.arena.reserved ≡ l.fn.arena.reserved;
}
