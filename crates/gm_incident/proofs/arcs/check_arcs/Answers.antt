use Rattle.std.proofs.Common.{◌<◌, length, below_more, arith}
use Rattle.std.proofs.lemmas.Result.{err_from_is_err_and}
use Rattle.gm_model.specs.Rules.{rule_of}
use Rattle.gm_model.specs.Structure.{HasArcs, AtNode}
use Rattle.gm_incident.proofs.arcs.check_arcs.Goals as goal

pub returns-in_err-check_node : goal.returns-in_err-check_node
returns-in_err-check_node c =
    let rule = rule_of c.args.rule.now in
    let p = err_from_is_err_and c.from_residual.result c.from_residual.ensures.1 in
    let within : c.loop-node.node < length rule.nodes = omega arith in
    rw (p.1, p.2) (AtNode c.loop-node.node within c.loop-node.invariant c.in_err-check_node.ensures)

pub loop-node-preserved : goal.loop-node-preserved
loop-node-preserved c = below_more (HasArcs c.args.top (rule_of c.args.rule.now)) c.loop-node.node c.loop-node.invariant c.in_ok-check_node.ensures

pub returns : goal.returns
returns c = λ x b. c.loop-node.invariant x (omega (arith, b))
