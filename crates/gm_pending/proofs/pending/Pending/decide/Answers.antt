use Rattle.std.proofs.Common.{sym, ◌∙◌, ap, subst, arith, ◌<◌, List, length}
use Rattle.gm_model.specs.declared.schema.Embed.{Embed}
use Rattle.gm_model.specs.declared.schema.Schema.{Schema}
use Rattle.gm_theory.proofs.Lists.{some_same, contained_at}
use Rattle.gm_pending.specs.inner.ReachedDarts.{AreReached}
use Rattle.gm_pending.specs.inner.Results.{PendingOf, AreDecidingInstances, IsWithinReach, IsPrepared}
use Rattle.gm_pending.proofs.on_values.OneMoreAnswer.{read_there}
use Rattle.gm_pending.proofs.on_deciding.DecidersFound.{are_deciders, are_reached, within_reach, none_decided}
use Rattle.gm_model.proofs.Exits.{unless_ok}
use Rattle.gm_pending.proofs.pending.Pending.decide.Goals as goal

pub returns-in_err-outcome : goal.returns-in_err-outcome
returns-in_err-outcome g c =
    record {
      deciders = unless_ok _ c.from_residual.result c.from_residual.ensures.0;
      reached = unless_ok _ c.from_residual.result c.from_residual.ensures.0;
      ungiven = unless_ok _ c.from_residual.result c.from_residual.ensures.0;
      few = unless_ok _ c.from_residual.result c.from_residual.ensures.0;
      cost = λ kept at.
          let app = c.args.self.now in
          let declared = c.index-as_slice-embed.result in
          let here = read_there c.as_slice.result.now app.map.schema.embeds c.args.embed declared c.index-as_slice-embed.is
          (c.as_slice.ensures ∙ ap (λ (s : Schema). s.embeds) c.schema.ensures ∙ ap (λ (a : PendingOf). a.map.schema.embeds) c.self.view_is) c.requires.embed in
          subst (λ (k : Embed). IsWithinReach app c.args.embed k c.args.steps.now c.decide_nodes-outcome.new.steps) (some_same declared kept (sym here ∙ at))
          (within_reach app c.decide_nodes-outcome.ensures.prepared c.args.embed declared here c.decide_nodes-outcome.new.orbits.marks c.args.steps.now c.decide_nodes-outcome.new.steps
          c.decide_nodes-outcome.ensures.darts c.len.ensures.distinct c.decide_nodes-outcome.ensures.reached (omega (arith, c.decide_nodes-outcome.ensures.cost)));
      least = c.decide_nodes-outcome.ensures.least;
      prepared = c.decide_nodes-outcome.ensures.prepared;
    }

pub returns : goal.returns
returns g c =
    record {
      deciders = λ kept at.
          let app = c.args.self.now in
          let declared = c.index-as_slice-embed.result in
          let orbits = c.decide_nodes-outcome.new.orbits in
          let here = read_there c.as_slice.result.now app.map.schema.embeds c.args.embed declared c.index-as_slice-embed.is
          (c.as_slice.ensures ∙ ap (λ (s : Schema). s.embeds) c.schema.ensures ∙ ap (λ (a : PendingOf). a.map.schema.embeds) c.self.view_is) c.requires.embed in
          subst (λ (k : Embed). AreDecidingInstances app c.args.embed k orbits.instances.items) (some_same declared kept (sym here ∙ at))
          (are_deciders app c.decide_nodes-outcome.ensures.prepared c.args.embed declared here orbits.instances.items orbits.marks c.in_ok-outcome.ensures.decided);
      reached = λ kept at.
          let app = c.args.self.now in
          let declared = c.index-as_slice-embed.result in
          let orbits = c.decide_nodes-outcome.new.orbits in
          let here = read_there c.as_slice.result.now app.map.schema.embeds c.args.embed declared c.index-as_slice-embed.is
          (c.as_slice.ensures ∙ ap (λ (s : Schema). s.embeds) c.schema.ensures ∙ ap (λ (a : PendingOf). a.map.schema.embeds) c.self.view_is) c.requires.embed in
          subst (λ (k : Embed). AreReached app c.args.embed k orbits.instances.items orbits.marks) (some_same declared kept (sym here ∙ at))
          (are_reached app c.decide_nodes-outcome.ensures.prepared c.args.embed declared here orbits.instances.items orbits.marks c.in_ok-outcome.ensures.decided c.len.ensures.distinct);
      ungiven = λ instance among. c.in_ok-outcome.ensures.decided.ungiven among.0 instance (contained_at c.decide_nodes-outcome.new.orbits.instances.items instance among);
      few = c.in_ok-outcome.ensures.decided.few;
      cost = λ kept at.
          let app = c.args.self.now in
          let declared = c.index-as_slice-embed.result in
          let here = read_there c.as_slice.result.now app.map.schema.embeds c.args.embed declared c.index-as_slice-embed.is
          (c.as_slice.ensures ∙ ap (λ (s : Schema). s.embeds) c.schema.ensures ∙ ap (λ (a : PendingOf). a.map.schema.embeds) c.self.view_is) c.requires.embed in
          subst (λ (k : Embed). IsWithinReach app c.args.embed k c.args.steps.now c.decide_nodes-outcome.new.steps) (some_same declared kept (sym here ∙ at))
          (within_reach app c.decide_nodes-outcome.ensures.prepared c.args.embed declared here c.decide_nodes-outcome.new.orbits.marks c.args.steps.now c.decide_nodes-outcome.new.steps
          c.decide_nodes-outcome.ensures.darts c.len.ensures.distinct c.decide_nodes-outcome.ensures.reached (omega (arith, c.decide_nodes-outcome.ensures.cost)));
      least = c.decide_nodes-outcome.ensures.least;
      prepared = c.decide_nodes-outcome.ensures.prepared;
    }

pub bounds-as_slice-embed : goal.bounds-as_slice-embed
bounds-as_slice-embed g c =
    subst (λ (es : List Embed). c.args.embed < length es) (sym (c.as_slice.ensures ∙ ap (λ (s : Schema). s.embeds) c.schema.ensures ∙ ap (λ (a : PendingOf). a.map.schema.embeds) c.self.view_is)) c.requires.embed

pub decide_nodes-outcome-requires : goal.decide_nodes-outcome-requires
decide_nodes-outcome-requires g c =
    record {
      embed = read_there c.as_slice.result.now c.args.self.now.map.schema.embeds c.args.embed c.index-as_slice-embed.result c.index-as_slice-embed.is
          (c.as_slice.ensures ∙ ap (λ (s : Schema). s.embeds) c.schema.ensures ∙ ap (λ (a : PendingOf). a.map.schema.embeds) c.self.view_is) c.requires.embed;
      earlier = let here = read_there c.as_slice.result.now c.args.self.now.map.schema.embeds c.args.embed c.index-as_slice-embed.result c.index-as_slice-embed.is
          (c.as_slice.ensures ∙ ap (λ (s : Schema). s.embeds) c.schema.ensures ∙ ap (λ (a : PendingOf). a.map.schema.embeds) c.self.view_is) c.requires.embed in
          rw (c.new.ensures.items, c.new-2.ensures) (none_decided c.args.self.now (subst IsPrepared c.self.view_is c.self.invariant.0) c.args.embed c.index-as_slice-embed.result here);
    }
