use Rattle.gm_commit.specs.inner.NewDartValues.{AreDecidedBelow}
use Rattle.gm_commit.proofs.new_darts.added_values.Given as goal

abbrev pub invariant-loop-embed : goal.invariant-loop-embed
invariant-loop-embed g l = AreDecidedBelow l.pending l.embed l.values.items
