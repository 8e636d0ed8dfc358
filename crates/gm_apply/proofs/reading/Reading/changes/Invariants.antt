use Rattle.std.proofs.Common.{◌≡◌, ℕ, List}
use Rattle.gm_apply.specs.inner.Reads.{IsReadable, HasRead}
use Rattle.gm_apply.proofs.reading.Reading.changes.Given as goal

abbrev pub invariant-loop-embed : goal.invariant-loop-embed
invariant-loop-embed g l = record {
  read : (hooks : List ℕ) → IsReadable l.self hooks → HasRead l.self hooks l.pending l.embed l.embed 0 l.fn.steps l.steps;
  room : l.scratch.bound ≡ l.fn.scratch.bound;
}
