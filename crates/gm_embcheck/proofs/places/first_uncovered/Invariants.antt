use Rattle.gm_model.specs.Labels.{has}
use Rattle.gm_model.specs.Rules.{rule_of}
use Rattle.gm_model.specs.Structure.{AreGood}
use Rattle.gm_embcheck.specs.inner.NodeSets.{IsCovered}
use Rattle.gm_embcheck.proofs.places.first_uncovered.Given as goal

abbrev pub invariant-loop-place : goal.invariant-loop-place
invariant-loop-place l = AreGood (IsCovered (rule_of l.rule) (has l.mask) l.component l.left) l.place
