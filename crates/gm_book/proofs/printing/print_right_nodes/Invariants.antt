use Rattle.std.proofs.Common.{◌≡◌, ◌++◌, take, map, filter}
use Rattle.std.specs.List.{flat_map}
use Rattle.gm_model.specs.Rules.{node_of, rule_of}
use Rattle.gm_book.specs.Canonical.{right_line}
use Rattle.gm_book.specs.inner.Printing.{is_left}
use Rattle.gm_book.proofs.printing.print_right_nodes.Given as goal

abbrev pub invariant-loop-node : goal.invariant-loop-node
invariant-loop-node l = l.text ≡ l.fn.text ++ flat_map (right_line l.schema (rule_of l.rule)) (filter (is_left l.left_too) (take l.node-index (map node_of l.rule.nodes)))
