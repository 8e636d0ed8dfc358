use Rattle.std.proofs.Common.{◌≡◌, get_or, map, Some, sym, ◌∙◌, ap, arith}
use Rattle.std.specs.List.{slice_get}
use Rattle.std.proofs.lemmas.List.{length-map}
use Rattle.gm_model.specs.declared.rule.Node.{Node}
use Rattle.gm_model.specs.Rules.{rule_of, node_of, assignment_of}
use Rattle.gm_model.proofs.Nodes.{node_here}
use Rattle.gm_apply.proofs.Assignments.{set_is_there, set_is_assigned, assigned_within}
use Rattle.gm_apply.proofs.reading.assignment.Goals as goal

pub set_of-requires : goal.set_of-requires
set_of-requires c =
    let rule = rule_of c.args.rule.now in
    let n : Node = c.index-as_slice-node.result in
    let sets = c.as_slice-2.result.now in
    let read : n ≡ get_or c.args.rule.now.nodes c.args.node n = c.index-as_slice-node.is ∙ ap (λ items. get_or items c.args.node n) c.as_slice.ensures in
    let within = assigned_within rule c.args.embed c.args.node c.requires in
    let here : slice_get rule.nodes c.args.node ≡ Some (node_of n) = node_here c.args.rule.now.nodes c.args.node n read (omega (arith, within, length-map c.args.rule.now.nodes node_of)) in
    let held : map assignment_of n.sets ≡ map assignment_of sets = ap (map assignment_of) (sym c.as_slice-2.ensures) in
    set_is_there rule c.args.node (node_of n) sets here held c.args.embed c.requires

pub returns : goal.returns
returns c =
    let rule = rule_of c.args.rule.now in
    let n : Node = c.index-as_slice-node.result in
    let sets = c.as_slice-2.result.now in
    let read : n ≡ get_or c.args.rule.now.nodes c.args.node n = c.index-as_slice-node.is ∙ ap (λ items. get_or items c.args.node n) c.as_slice.ensures in
    let within = assigned_within rule c.args.embed c.args.node c.requires in
    let here : slice_get rule.nodes c.args.node ≡ Some (node_of n) = node_here c.args.rule.now.nodes c.args.node n read (omega (arith, within, length-map c.args.rule.now.nodes node_of)) in
    let held : map assignment_of n.sets ≡ map assignment_of sets = ap (map assignment_of) (sym c.as_slice-2.ensures) in
    set_is_assigned rule c.args.node (node_of n) sets here held c.args.embed c.set_of.ensures.among.0 c.set_of.result.now c.set_of.ensures.among.1 c.set_of.ensures.embed
