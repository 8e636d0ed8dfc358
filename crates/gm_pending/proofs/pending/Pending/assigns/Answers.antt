use Rattle.std.proofs.Common.{◌<◌, ◌↔◌, length, IsTrue, sym, subst}
use Rattle.gm_model.specs.declared.schema.Schema.{Schema}
use Rattle.gm_model.specs.Components.{IsAssigned}
use Rattle.gm_pending.specs.inner.Results.{PendingOf, rule_in}
use Rattle.gm_pending.proofs.pending.Pending.assigns.Goals as goal

pub assigns-requires-clause-embed : goal.assigns-requires-clause-embed
assigns-requires-clause-embed c = subst (λ (s : Schema). c.args.embed < length s.embeds) c.self.invariant.1 (subst (λ (a : PendingOf). c.args.embed < length a.map.schema.embeds) (sym c.self.view_is) c.requires.embed)

pub assigns-requires-clause-node : goal.assigns-requires-clause-node
assigns-requires-clause-node c = subst (λ (a : PendingOf). c.args.node < length (rule_in a).nodes) (sym c.self.view_is) c.requires.node

pub returns : goal.returns
returns c = subst (λ (a : PendingOf). IsTrue c.assigns.result ↔ IsAssigned (rule_in a) c.args.embed c.args.node) c.self.view_is c.assigns.ensures
