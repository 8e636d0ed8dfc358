use Rattle.std.proofs.Common.{◌≡◌, ◌++◌, drop}
use Rattle.gm_commit.specs.inner.OldDartValues.{told_from, values_told}
use Rattle.gm_commit.proofs.edits.new_values.Given as goal

abbrev pub invariant-loop-embed : goal.invariant-loop-embed
invariant-loop-embed l = l.values.items ++ told_from l.embed (drop l.embed l.by_embed) ≡ values_told l.by_embed
