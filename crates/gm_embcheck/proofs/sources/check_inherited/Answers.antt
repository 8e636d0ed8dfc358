use Rattle.std.proofs.Common.{ℕ, ◌↔◌}
use Rattle.gm_model.specs.declared.rule.Side.TheVariants.{Left}
use Rattle.gm_model.specs.Labels.{has}
use Rattle.gm_model.specs.Rules.{rule_of}
use Rattle.gm_model.specs.Structure.{IsJoined}
use Rattle.gm_embcheck.specs.inner.NodeSets.{IsIn}
use Rattle.gm_embcheck.proofs.Found.{merged, from_one, merged_along, all_inherited}
use Rattle.gm_embcheck.proofs.Leaders.{nodes_joined}
use Rattle.gm_embcheck.proofs.sources.check_inherited.Goals as goal

pub returns-in-Some : goal.returns-in-Some
returns-in-Some c =
    let rule = rule_of c.args.rule.now in
    let o = has c.args.mask in
    let left = c.nodes_of-left.result in
    let reached : (y : ℕ) → IsIn left y ↔ IsJoined rule.left_links o c.args.keeper y =
    nodes_joined rule.left_links o (c.requires.bounds.links Left) c.args.left.now c.requires.left c.args.keeper c.requires.below left c.nodes_of-left.ensures in
    merged rule c.args.embed o c.args.node c.args.component.now c.requires.component c.requires.unassigned c.args.keeper c.requires.keeper left reached c.in-Some.other c.in-Some.ensures

pub returns-in-Some-first_uncovered : goal.returns-in-Some-first_uncovered
returns-in-Some-first_uncovered c =
    let rule = rule_of c.args.rule.now in
    let o = has c.args.mask in
    let left = c.nodes_of-left.result in
    let nodes = c.args.component.now in
    let reached : (y : ℕ) → IsIn left y ↔ IsJoined rule.left_links o c.args.keeper y =
    nodes_joined rule.left_links o (c.requires.bounds.links Left) c.args.left.now c.requires.left c.args.keeper c.requires.below left c.nodes_of-left.ensures in
    let one = from_one rule c.args.embed o c.args.node nodes c.requires.component c.requires.unassigned c.args.keeper c.requires.keeper left reached c.in_default.ensures in
    merged_along rule c.args.embed o c.args.node nodes c.requires.component c.requires.unassigned c.args.keeper c.requires.keeper left reached c.in-Some-first_uncovered.place one c.in-Some-first_uncovered.ensures

pub returns-in-None : goal.returns-in-None
returns-in-None c =
    let rule = rule_of c.args.rule.now in
    let o = has c.args.mask in
    let left = c.nodes_of-left.result in
    let nodes = c.args.component.now in
    let reached : (y : ℕ) → IsIn left y ↔ IsJoined rule.left_links o c.args.keeper y =
    nodes_joined rule.left_links o (c.requires.bounds.links Left) c.args.left.now c.requires.left c.args.keeper c.requires.below left c.nodes_of-left.ensures in
    let one = from_one rule c.args.embed o c.args.node nodes c.requires.component c.requires.unassigned c.args.keeper c.requires.keeper left reached c.in_default.ensures in
    all_inherited rule c.args.embed o c.args.node nodes c.requires.component c.requires.unassigned c.args.keeper c.requires.keeper left reached c.requires.bounds one c.in-None.ensures
