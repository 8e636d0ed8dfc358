use Rattle.gm_model.specs.Rules.{rule_of}
use Rattle.gm_model.specs.Structure.{AreGood, IsConnected}
use Rattle.gm_incident.proofs.structure.check_connected.Given as goal

abbrev pub invariant-loop-node : goal.invariant-loop-node
invariant-loop-node l = AreGood (IsConnected (rule_of l.rule)) l.node
