use Rattle.std.proofs.Common.{◌<◌, false, length, IsTrue, slice_index_or, sym, subst}
use Rattle.gm_model.specs.declared.schema.Embed.{Embed}
use Rattle.gm_model.specs.Maps.{IsEmbedAt, type_of}
use Rattle.gm_model.specs.Rules.{rule_of}
use Rattle.gm_plan.specs.inner.Plans.{PlanOf}
use Rattle.gm_plan.specs.inner.Sources.{HasExactLetters}
use Rattle.gm_plan.proofs.EmbedTables.{read_for}
use Rattle.gm_plan.proofs.plan.Plan.is_exact.Goals as goal

pub returns : goal.returns
returns c =
    let embed = subst (λ (plan : PlanOf). c.args.embed < length plan.schema.embeds) (sym c.self.view_is) c.requires.embed in
    let node = subst (λ (plan : PlanOf). c.args.node < length (rule_of plan.table).nodes) (sym c.self.view_is) c.requires.node in
    let row = c.index.result.now in
    subst (λ (plan : PlanOf). IsTrue (slice_index_or row.exact c.args.node false) → (declared : Embed) → IsEmbedAt plan.schema c.args.embed declared → HasExactLetters plan.schema.dim (rule_of plan.table) (type_of declared) c.args.node) c.self.view_is
    (λ t declared at. (read_for c.self.inside.schema.now (rule_of c.self.inside.rule.now) c.self.inside.sources.items c.self.invariant.are_sources c.args.embed embed row c.index.ensures declared at).exact c.args.node node t)
