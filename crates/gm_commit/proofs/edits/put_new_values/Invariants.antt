use Rattle.std.proofs.Common.{◌≡◌, ◌++◌, drop}
use Rattle.gm_commit.specs.inner.OldDartValues.{told_of}
use Rattle.gm_commit.proofs.edits.put_new_values.Given as goal

abbrev pub invariant-loop-mark : goal.invariant-loop-mark
invariant-loop-mark l = l.values.items ++ told_of l.embed l.instances (drop l.mark-index l.marks) ≡ l.fn.values.items ++ told_of l.embed l.instances l.marks
