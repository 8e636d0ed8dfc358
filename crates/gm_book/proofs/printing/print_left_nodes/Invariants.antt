use Rattle.std.proofs.Common.{◌≡◌, ◌++◌, drop, map}
use Rattle.gm_model.specs.Rules.{node_of}
use Rattle.gm_book.specs.Canonical.{left_lines}
use Rattle.gm_book.proofs.printing.print_left_nodes.Given as goal

abbrev pub invariant-loop-number : goal.invariant-loop-number
invariant-loop-number l = l.text ++ left_lines l.hooks l.number (drop l.number (map node_of l.nodes)) ≡ l.fn.text ++ left_lines l.hooks 0 (map node_of l.nodes)
