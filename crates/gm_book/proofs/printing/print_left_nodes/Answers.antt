use Rattle.std.proofs.Common.{◌++◌, ◌∙◌, ap}
use Rattle.gm_model.specs.Rules.{node_of}
use Rattle.gm_book.specs.inner.Printing.{left_line}
use Rattle.gm_book.proofs.Lines.{left_more}
use Rattle.gm_model.proofs.Exits.{never_ok}
use Rattle.gm_book.proofs.printing.print_left_nodes.Goals as goal

pub loop-number-preserved : goal.loop-number-preserved
loop-number-preserved c =
    left_more c.args.hooks.now c.args.nodes.now c.loop-number.number c.index-nodes-number.result c.is_among.result _ c.loop-number.text c.print_left_node.new.text c.loop-number-test.true c.is_among.ensures c.loop-number.invariant
    (c.in_ok-print_left_node.ensures ∙ ap (λ n. c.loop-number.text ++ left_line (node_of n) c.is_among.result) c.index-nodes-number.is)

pub returns-in_err-print_left_node : goal.returns-in_err-print_left_node
returns-in_err-print_left_node c = never_ok _ c.from_residual.result c.from_residual.ensures.0
