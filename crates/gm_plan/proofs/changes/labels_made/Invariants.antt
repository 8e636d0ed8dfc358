use Rattle.gm_model.specs.Rules.{rule_of}
use Rattle.gm_plan.specs.inner.Changes.{MakesNone}
use Rattle.gm_plan.proofs.Bits.{AreTold}
use Rattle.gm_plan.proofs.changes.labels_made.Given as goal

abbrev pub invariant-loop-label : goal.invariant-loop-label
invariant-loop-label l = AreTold (MakesNone (rule_of l.rule)) l.label l.bits
