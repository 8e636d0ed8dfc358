use Rattle.std.proofs.Common.{◌≡◌, ◌<◌, false, length, IsTrue, sym, subst}
use Rattle.gm_model.specs.Rules.{rule_of}
use Rattle.gm_plan.specs.inner.Collecting.{Collects, CollectsNothing}
use Rattle.gm_plan.specs.inner.Plans.{PlanOf}
use Rattle.gm_plan.proofs.EmbedTables.{read_sources}
use Rattle.gm_plan.proofs.plan.Plan.collects.Goals as goal

pub returns-clause-nothing : goal.returns-clause-nothing
returns-clause-nothing c =
    let embed = subst (λ (plan : PlanOf). c.args.embed < length plan.schema.embeds) (sym c.self.view_is) c.requires in
    let row = c.index.result.now in
    let is = read_sources c.self.inside.schema.now (rule_of c.self.inside.rule.now) c.self.inside.sources.items c.self.invariant.are_sources c.args.embed embed row c.index.ensures in
    subst (λ (plan : PlanOf). row.collects ≡ false → CollectsNothing (rule_of plan.table) c.args.embed) c.self.view_is is.2.nothing

pub returns-clause-something : goal.returns-clause-something
returns-clause-something c =
    let embed = subst (λ (plan : PlanOf). c.args.embed < length plan.schema.embeds) (sym c.self.view_is) c.requires in
    let row = c.index.result.now in
    let is = read_sources c.self.inside.schema.now (rule_of c.self.inside.rule.now) c.self.inside.sources.items c.self.invariant.are_sources c.args.embed embed row c.index.ensures in
    subst (λ (plan : PlanOf). IsTrue row.collects → Collects (rule_of plan.table) c.args.embed) c.self.view_is is.2.something
