use Rattle.std.proofs.Common.{take}
use Rattle.gm_plan.specs.inner.Indices.{index_at}
use Rattle.gm_pending.specs.inner.Marks.{IsIndex}
use Rattle.gm_pending.proofs.marks.index.Given as goal

abbrev pub invariant-loop-entry : goal.invariant-loop-entry
invariant-loop-entry l = IsIndex (take l.entry-index l.reached) (index_at l.index)
