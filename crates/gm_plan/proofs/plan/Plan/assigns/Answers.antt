use Rattle.std.proofs.Common.{◌<◌, ◌↔◌, false, length, IsTrue, slice_index_or, sym, subst}
use Rattle.gm_model.specs.Components.{IsAssigned}
use Rattle.gm_model.specs.Rules.{rule_of}
use Rattle.gm_plan.specs.inner.Plans.{PlanOf}
use Rattle.gm_plan.proofs.EmbedTables.{read_sources}
use Rattle.gm_plan.proofs.plan.Plan.assigns.Goals as goal

pub returns : goal.returns
returns c =
    let embed = subst (λ (plan : PlanOf). c.args.embed < length plan.schema.embeds) (sym c.self.view_is) c.requires.embed in
    let node = subst (λ (plan : PlanOf). c.args.node < length (rule_of plan.table).nodes) (sym c.self.view_is) c.requires.node in
    let row = c.index.result.now in
    let is = read_sources c.self.inside.schema.now (rule_of c.self.inside.rule.now) c.self.inside.sources.items c.self.invariant.are_sources c.args.embed embed row c.index.ensures in
    subst (λ (plan : PlanOf). IsTrue (slice_index_or row.assigned c.args.node false) ↔ IsAssigned (rule_of plan.table) c.args.embed c.args.node) c.self.view_is (is.2.assigned c.args.node node)
