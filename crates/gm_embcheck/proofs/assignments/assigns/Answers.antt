use Rattle.std.proofs.Common.{◌≡◌, get_or, map, Some, sym, ◌∙◌, ap}
use Rattle.std.specs.List.{slice_get}
use Rattle.gm_model.specs.declared.rule.Node.{Node}
use Rattle.gm_model.specs.Rules.{rule_of, node_of, assignment_of}
use Rattle.gm_model.proofs.Nodes.{node_here}
use Rattle.gm_embcheck.proofs.Assigned.{is_assigned, sets_embed}
use Rattle.gm_embcheck.proofs.assignments.assigns.Goals as goal

pub returns : goal.returns
returns c =
    let rule = rule_of c.args.rule.now in
    let x = c.args.node in
    let n : Node = c.index-as_slice-node.result in
    let sets = c.as_slice-2.result.now in
    let read : n ≡ get_or c.args.rule.now.nodes x n = c.index-as_slice-node.is ∙ ap (λ items. get_or items x n) c.as_slice.ensures in
    let here : slice_get rule.nodes x ≡ Some (node_of n) = node_here c.args.rule.now.nodes x n read c.requires in
    let held : map assignment_of n.sets ≡ map assignment_of sets = ap (map assignment_of) (sym c.as_slice-2.ensures) in (
      (λ p. is_assigned rule x (node_of n) sets here held c.args.embed (c.sets_embed.ensures.0 p)),
      (λ h. c.sets_embed.ensures.1 (sets_embed rule x (node_of n) sets here held c.args.embed h)),
    )
