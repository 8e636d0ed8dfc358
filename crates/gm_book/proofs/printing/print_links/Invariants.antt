use Rattle.std.proofs.Common.{◌≡◌, ◌++◌, take, map}
use Rattle.std.specs.List.{flat_map}
use Rattle.gm_model.specs.Rules.{node_of}
use Rattle.gm_book.specs.Canonical.{link_line}
use Rattle.gm_book.proofs.printing.print_links.Given as goal

abbrev pub invariant-loop-link : goal.invariant-loop-link
invariant-loop-link l = l.text ≡ l.fn.text ++ flat_map (link_line (map node_of l.nodes)) (take l.link-index l.links)
