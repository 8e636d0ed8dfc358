use Rattle.std.proofs.Common.{◌≡◌, ◌<◌, ◌++◌, ◌∷◌, [], length, get_or, filter, ◌∙◌, ap, sym, subst, map, arith}
use Rattle.std.specs.List.{flat_map}
use Rattle.gm_model.specs.Rules.{RuleNode, node_of, rule_of, assignment_of}
use Rattle.gm_book.specs.Canonical.{right_line}
use Rattle.gm_book.specs.inner.Printing.{is_left, AreNamed}
use Rattle.gm_book.proofs.Lines.{each_at, right_more}
use Rattle.gm_model.proofs.Exits.{never_ok}
use Rattle.gm_book.proofs.printing.print_right_nodes.Goals as goal

pub print_right_node-requires : goal.print_right_node-requires
print_right_node-requires c =
    let schema = c.args.schema.now in
    let rule = rule_of c.args.rule.now in
    let nodes = c.args.rule.now.nodes in
    let same : c.as_slice-node-items.result.now ≡ nodes = c.as_slice-node-items.ensures in
    let within : c.loop-node.node-index < length nodes = omega (arith, c.loop-node-test.true, ap length same) in
    let here : c.node-item.result ≡ get_or nodes c.loop-node.node-index c.node-item.result = c.node-item.is ∙ ap (λ ns. get_or ns c.loop-node.node-index c.node-item.result) same in
    subst (λ node. AreNamed schema rule (map assignment_of node.sets)) (sym here) (each_at (λ (node : RuleNode). AreNamed schema rule node.sets) node_of nodes c.loop-node.node-index c.node-item.result within c.requires.sets)

pub loop-node-preserved : goal.loop-node-preserved
loop-node-preserved c =
    let schema = c.args.schema.now in
    let rule = rule_of c.args.rule.now in
    let nodes = c.args.rule.now.nodes in
    let same : c.as_slice-node-items.result.now ≡ nodes = c.as_slice-node-items.ensures in
    let within : c.loop-node.node-index < length nodes = omega (arith, c.loop-node-test.true, ap length same) in
    let here : c.node-item.result ≡ get_or nodes c.loop-node.node-index c.node-item.result = c.node-item.is ∙ ap (λ ns. get_or ns c.loop-node.node-index c.node-item.result) same in
    right_more schema rule (is_left c.args.left_too) nodes c.loop-node.node-index c.node-item.result c.args.text.now c.loop-node.text c.print_right_node.new.text within c.loop-node.invariant
    (c.in_ok-print_right_node.ensures ∙ ap (λ n. c.loop-node.text ++ flat_map (right_line schema rule) (filter (is_left c.args.left_too) (node_of n ∷ []))) here)

pub returns-in_err-print_right_node : goal.returns-in_err-print_right_node
returns-in_err-print_right_node c = never_ok _ c.from_residual.result c.from_residual.ensures.0
