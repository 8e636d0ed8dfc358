use Rattle.std.proofs.Common.{◌<◌, MatchOption, length, IsTrue, not, sym, subst}
use Rattle.gm_model.specs.declared.rule.Side.TheVariants.{Left, Right}
use Rattle.gm_model.specs.declared.schema.Embed.{Embed}
use Rattle.gm_model.specs.declared.schema.Schema.{Schema}
use Rattle.gm_model.specs.Components.{IsKeeper, IsNew}
use Rattle.gm_model.specs.Maps.{IsEmbedAt, type_of}
use Rattle.gm_model.specs.Rules.{rule_of, has_word}
use Rattle.gm_theory.proofs.Tests.{both_true}
use Rattle.gm_pending.specs.inner.Results.{PendingOf, rule_in}
use Rattle.gm_pending.specs.inner.ValueSources.{IsKeeperFor}
use Rattle.gm_pending.proofs.pending.Pending.keeper.Goals as goal

pub keeper-requires-clause-embed : goal.keeper-requires-clause-embed
keeper-requires-clause-embed c = subst (λ (s : Schema). c.args.embed < length s.embeds) c.self.invariant.1 (subst (λ (a : PendingOf). c.args.embed < length a.map.schema.embeds) (sym c.self.view_is) c.requires.embed)

pub keeper-requires-clause-right : goal.keeper-requires-clause-right
keeper-requires-clause-right c =
    let app = c.args.self.now in
    let right = (both_true (not (has_word (rule_in app) Left c.args.node)) (has_word (rule_in app) Right c.args.node) c.requires.added).1 in
    subst (λ (a : PendingOf). IsTrue (has_word (rule_in a) Right c.args.node)) (sym c.self.view_is) right

pub returns : goal.returns
returns c =
    let by_plan = subst (λ (s : Schema). (embed : Embed) → IsEmbedAt s c.args.embed embed → MatchOption c.keeper.result (IsNew (rule_of c.self.inside.plan.now.table) (type_of embed) c.args.node) (IsKeeper (rule_of c.self.inside.plan.now.table) (type_of embed) c.args.node)) (sym c.self.invariant.1) c.keeper.ensures in
    subst (λ (a : PendingOf). IsKeeperFor a c.args.embed c.args.node c.keeper.result) c.self.view_is by_plan
