use Rattle.std.proofs.Common.{◌<◌, length, None, MatchOption, IsTrue, slice_index_or, sym, subst, arith}
use Rattle.gm_model.specs.declared.rule.Side.TheVariants.{Right}
use Rattle.gm_model.specs.declared.schema.Embed.{Embed}
use Rattle.gm_model.specs.Components.{IsKeeper, IsNew}
use Rattle.gm_model.specs.Maps.{IsEmbedAt, type_of}
use Rattle.gm_model.specs.Rules.{rule_of, has_word}
use Rattle.gm_model.proofs.Nodes.{node_below}
use Rattle.gm_plan.specs.inner.Plans.{PlanOf}
use Rattle.gm_plan.proofs.EmbedTables.{read_for}
use Rattle.gm_plan.proofs.plan.Plan.keeper.Goals as goal

pub bounds-index-node : goal.bounds-index-node
bounds-index-node c =
    let right = subst (λ (plan : PlanOf). IsTrue (has_word (rule_of plan.table) Right c.args.node)) (sym c.self.view_is) c.requires.right in
    let below = node_below (rule_of c.self.inside.rule.now) Right c.args.node right in
    omega (arith, below, c.self.invariant.planned.within.nodes)

pub offset_bounds-index-node : goal.offset_bounds-index-node
offset_bounds-index-node c =
    let right = subst (λ (plan : PlanOf). IsTrue (has_word (rule_of plan.table) Right c.args.node)) (sym c.self.view_is) c.requires.right in
    let below = node_below (rule_of c.self.inside.rule.now) Right c.args.node right in
    omega (arith, below, c.self.invariant.planned.within.nodes)

pub returns : goal.returns
returns c =
    let embed = subst (λ (plan : PlanOf). c.args.embed < length plan.schema.embeds) (sym c.self.view_is) c.requires.embed in
    let right = subst (λ (plan : PlanOf). IsTrue (has_word (rule_of plan.table) Right c.args.node)) (sym c.self.view_is) c.requires.right in
    let row = c.index.result.now in
    subst (λ (plan : PlanOf). (declared : Embed) → IsEmbedAt plan.schema c.args.embed declared → MatchOption (slice_index_or row.keepers c.args.node None) (IsNew (rule_of plan.table) (type_of declared) c.args.node) (IsKeeper (rule_of plan.table) (type_of declared) c.args.node)) c.self.view_is
    (λ declared at. (read_for c.self.inside.schema.now (rule_of c.self.inside.rule.now) c.self.inside.sources.items c.self.invariant.are_sources c.args.embed embed row c.index.ensures declared at).keepers c.args.node right)
