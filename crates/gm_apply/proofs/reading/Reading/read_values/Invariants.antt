use Rattle.std.proofs.Common.{◌≡◌, ℕ, suc, List, length}
use Rattle.gm_eval.specs.inner.Keeping.{AreKept}
use Rattle.gm_pending.specs.inner.Results.{instances_of}
use Rattle.gm_apply.specs.inner.Readings.{places_of}
use Rattle.gm_apply.specs.inner.Reads.{IsReadable, HasRead}
use Rattle.gm_apply.proofs.Remembering.{IsKeptBefore}
use Rattle.gm_apply.proofs.reading.Reading.read_values.Given as goal

abbrev pub invariant-loop-index : goal.invariant-loop-index
invariant-loop-index g l = record {
  read : (hooks : List ℕ) (start : ℕ) → IsReadable l.self hooks → HasRead l.self hooks l.fn.pending (suc l.embed) l.embed 0 start l.fn.steps → HasRead l.self hooks l.pending (suc l.embed) l.embed l.index start l.steps;
  long : length (instances_of l.pending l.embed) ≡ l.count;
  places : places_of l.pending l.embed ≡ places_of l.fn.pending l.embed;
  room : l.scratch.bound ≡ l.fn.scratch.bound;
  kept : AreKept l.self.arena.now l.self.found.now l.self.params.now l.kept.entries;
  before : IsKeptBefore l.self l.embed (places_of l.fn.pending l.embed) l.count l.collects l.index l.kept;
}
