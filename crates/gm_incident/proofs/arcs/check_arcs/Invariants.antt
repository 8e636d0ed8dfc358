use Rattle.gm_model.specs.Rules.{rule_of}
use Rattle.gm_model.specs.Structure.{AreGood, HasArcs}
use Rattle.gm_incident.proofs.arcs.check_arcs.Given as goal

abbrev pub invariant-loop-node : goal.invariant-loop-node
invariant-loop-node l = AreGood (HasArcs l.top (rule_of l.rule)) l.node
