use Rattle.std.proofs.Common.{◌≡◌, List, length, Some, slice_get, sym, ap, subst, ◌∙◌, arith}
use Rattle.std.proofs.lemmas.Bool.{false≢true}
use Rattle.std.proofs.lemmas.Option.{slice_get_within}
use Rattle.gm_model.specs.declared.rule.Node.{Node}
use Rattle.gm_model.specs.declared.rule.Set.{Set}
use Rattle.gm_plan.specs.inner.Collecting.{SetsCollect}
use Rattle.gm_plan.proofs.Collectors.{node_read, none_collects, none_more, some_collects}
use Rattle.gm_plan.proofs.collecting.has_collectors.Goals as goal

pub returns-then-sets_collect-clause-some : goal.returns-then-sets_collect-clause-some
returns-then-sets_collect-clause-some c t =
    let nodes = c.args.rule.now.nodes in
    let i = c.loop-node.node-index in
    let node : Node = c.node-item.result in
    let at : slice_get nodes i ≡ Some node = node_read nodes c.as_slice-node-items.result.now i node c.as_slice-node-items.ensures c.node-item.is c.loop-node-test.true in
    some_collects c.args.rule.now c.args.embed i node at (subst (λ (sets : List Set). SetsCollect sets c.args.embed) c.as_slice.ensures (c.sets_collect.ensures.0 c.if-sets_collect.true))

pub loop-node-preserved : goal.loop-node-preserved
loop-node-preserved c =
    let nodes = c.args.rule.now.nodes in
    let i = c.loop-node.node-index in
    let node : Node = c.node-item.result in
    let at : slice_get nodes i ≡ Some node = node_read nodes c.as_slice-node-items.result.now i node c.as_slice-node-items.ensures c.node-item.is c.loop-node-test.true in
    none_more nodes c.args.embed i node at (λ some. false≢true (sym c.if-sets_collect.false ∙ c.sets_collect.ensures.1 (subst (λ (sets : List Set). SetsCollect sets c.args.embed) (sym c.as_slice.ensures) some))) c.loop-node.invariant

pub returns-clause-none : goal.returns-clause-none
returns-clause-none c nothing = none_collects c.args.rule.now c.args.embed (λ x node at.
    let within = slice_get_within c.args.rule.now.nodes x node at in
    let long = ap length c.as_slice-node-items.ensures in
    c.loop-node.invariant x node (omega (arith, within, long, c.loop-node-test.false, c.loop-node.auto.node-index-end)) at)
