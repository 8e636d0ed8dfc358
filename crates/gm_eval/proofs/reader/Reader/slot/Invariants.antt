use Rattle.std.proofs.Common.{◌≡◌, ◌+◌}
use Rattle.gm_arena.specs.inner.ArenaMap.{IsAt}
use Rattle.gm_eval.proofs.Terms.{dart_after}
use Rattle.gm_eval.proofs.reader.Reader.slot.Given as goal

abbrev pub invariant-loop-label : goal.invariant-loop-label
invariant-loop-label g l = record {
  at : IsAt l.self.arena.now l.slot.at (dart_after l.self l.term l.label-index);
  cost : l.steps ≡ l.fn.steps + l.label-index;
}
