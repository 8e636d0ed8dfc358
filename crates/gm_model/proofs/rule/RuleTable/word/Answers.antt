use Rattle.std.proofs.Common.{◌≡◌, map, get_or, Some, ap, ◌∙◌, refl}
use Rattle.std.specs.List.{slice_get}
use Rattle.std.proofs.lemmas.List.{length-map}
use Rattle.gm_model.specs.declared.rule.Node.{Node}
use Rattle.gm_model.specs.Rules.{node_of}
use Rattle.gm_model.proofs.Nodes.{node_here}
use Rattle.gm_model.proofs.rule.RuleTable.word.Goals as goal

pub returns-in-Left : goal.returns-in-Left
returns-in-Left c =
    let nodes = c.args.self.now.nodes in
    let x = c.args.node in
    let n : Node = c.in_ok-node.node.now in
    let here : slice_get (map node_of nodes) x ≡ Some (node_of n) = node_here nodes x n (c.in_ok-node.ensures.lookup.1 ∙ ap (λ items. get_or items x n) c.as_slice.ensures) (rw (length-map, ← c.as_slice.ensures) c.in_ok-node.ensures.lookup.3.0) in
    rw (c.in-Left.is, here) refl

pub returns-in-Right : goal.returns-in-Right
returns-in-Right c =
    let nodes = c.args.self.now.nodes in
    let x = c.args.node in
    let n : Node = c.in_ok-node.node.now in
    let here : slice_get (map node_of nodes) x ≡ Some (node_of n) = node_here nodes x n (c.in_ok-node.ensures.lookup.1 ∙ ap (λ items. get_or items x n) c.as_slice.ensures) (rw (length-map, ← c.as_slice.ensures) c.in_ok-node.ensures.lookup.3.0) in
    rw (c.in-Right.is, here) refl
