use Rattle.std.proofs.Common.{◌≡◌, ℕ, ◌<◌}
use Rattle.gm_arena.specs.inner.ArenaMap.{IsAt, alpha}
use Rattle.gm_tests.proofs.arena.set_free.Given as goal

abbrev pub invariant-loop-name : goal.invariant-loop-name
invariant-loop-name g l = record {
  free : (name label : ℕ) → name < l.name → label < 3 → alpha l.arena label name ≡ name;
  schema : l.arena.schema ≡ l.fn.arena.schema;
  room : l.arena.spare ≡ l.fn.arena.spare;
  names : l.arena.reserved ≡ l.fn.arena.reserved;
}

abbrev pub invariant-loop-label : goal.invariant-loop-label
invariant-loop-label g l = record {
  at : IsAt l.arena l.slot.at l.name;
  before : (name label : ℕ) → name < l.name → label < 3 → alpha l.arena label name ≡ name;
  here : (label : ℕ) → label < l.label → alpha l.arena label l.name ≡ l.name;
  schema : l.arena.schema ≡ l.fn.arena.schema;
  room : l.arena.spare ≡ l.fn.arena.spare;
  names : l.arena.reserved ≡ l.fn.arena.reserved;
}
