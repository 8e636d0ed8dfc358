use Rattle.std.proofs.Common.{◌<◌, List, Contains, Some, length, set, refl, sym, ◌∙◌, ap, subst, arith}
use Rattle.std.proofs.lemmas.List.{length-map}
use Rattle.gm_model.specs.Maps.{IsEmbedAt}
use Rattle.gm_pending.specs.inner.AskedOrbits.{instances_in}
use Rattle.gm_pending.specs.declared.deciding_instance.DecidingInstance.{DecidingInstance}
use Rattle.gm_pending.specs.inner.Results.{PendingOf, AreDecidingInstances, IsWithinReach}
use Rattle.gm_pending.proofs.on_values.OneMoreAnswer.{kept_answers, kept_asked, kept_deciders, kept_prepared, good_if_ungiven}
use Rattle.gm_model.proofs.Exits.{never_ok, on_err, unless_ok}
use Rattle.gm_pending.proofs.pending.Pending.deciding.Goals as goal

pub returns-in_err-orbits : goal.returns-in_err-orbits
returns-in_err-orbits g c =
    record {
      asked = never_ok _ c.from_residual-in_err-orbits.result c.from_residual-in_err-orbits.ensures.0;
      deciders = never_ok _ c.from_residual-in_err-orbits.result c.from_residual-in_err-orbits.ensures.0;
      ungiven = never_ok _ c.from_residual-in_err-orbits.result c.from_residual-in_err-orbits.ensures.0;
      count = unless_ok _ c.from_residual-in_err-orbits.result c.from_residual-in_err-orbits.ensures.0;
      err = on_err c.from_residual-in_err-orbits.result (c.in_ok-look_up.ensures ∙ c.take_room-room.ensures.stays);
      cost = λ kept at. subst (λ (a : PendingOf). IsWithinReach a c.args.embed kept c.args.steps.now c.decide.new.steps) (c.in_ok-look_up.ensures ∙ c.take_room-room.ensures.stays)
          (c.decide.ensures.cost kept (subst (λ (a : PendingOf). IsEmbedAt a.map.schema c.args.embed kept) (sym (c.in_ok-look_up.ensures ∙ c.take_room-room.ensures.stays)) at));
      least = c.decide.ensures.least;
    }

pub returns : goal.returns
returns g c =
    record {
      asked = let s = c.self.inside in
          let orbits = c.in_ok-orbits.orbits in
          let within = subst (λ (a : PendingOf). c.args.embed < length a.map.schema.embeds) (sym (c.in_ok-look_up.ensures ∙ c.take_room-room.ensures.stays)) c.requires.embed in
          let good = good_if_ungiven orbits.instances.items c.in_ok-orbits.ensures.ungiven in
          rw (← (c.in_ok-look_up.ensures ∙ c.take_room-room.ensures.stays)) (kept_asked s.arena.now s.plan.now.table s.found.now s.orbits.items c.args.embed orbits c.look_up.new.self c.self.view_is c.self.invariant.0 c.self.invariant.2 within (set s.orbits.items c.args.embed (Some orbits)) refl c.in_ok-orbits.ensures.deciders c.in_ok-orbits.ensures.reached (λ x p embed v at given. good x p embed v given));
      deciders = λ kept at.
          let s = c.self.inside in
          let orbits = c.in_ok-orbits.orbits in
          let within = subst (λ (a : PendingOf). c.args.embed < length a.map.schema.embeds) (sym (c.in_ok-look_up.ensures ∙ c.take_room-room.ensures.stays)) c.requires.embed in
          let good = good_if_ungiven orbits.instances.items c.in_ok-orbits.ensures.ungiven in
          let here = kept_deciders s.arena.now s.plan.now.table s.found.now s.orbits.items c.args.embed orbits c.look_up.new.self c.self.view_is c.self.invariant.0 c.self.invariant.2 within (set s.orbits.items c.args.embed (Some orbits)) refl c.in_ok-orbits.ensures.deciders c.in_ok-orbits.ensures.reached (λ x p embed v at' given. good x p embed v given) in
          subst (AreDecidingInstances c.args.self.now c.args.embed kept) (sym here)
          (subst (λ (a : PendingOf). AreDecidingInstances a c.args.embed kept orbits.instances.items) (c.in_ok-look_up.ensures ∙ c.take_room-room.ensures.stays) (c.in_ok-orbits.ensures.deciders kept (subst (λ (a : PendingOf). IsEmbedAt a.map.schema c.args.embed kept) (sym (c.in_ok-look_up.ensures ∙ c.take_room-room.ensures.stays)) at)));
      ungiven = λ instance among.
          let s = c.self.inside in
          let orbits = c.in_ok-orbits.orbits in
          let within = subst (λ (a : PendingOf). c.args.embed < length a.map.schema.embeds) (sym (c.in_ok-look_up.ensures ∙ c.take_room-room.ensures.stays)) c.requires.embed in
          let good = good_if_ungiven orbits.instances.items c.in_ok-orbits.ensures.ungiven in
          let here = kept_deciders s.arena.now s.plan.now.table s.found.now s.orbits.items c.args.embed orbits c.look_up.new.self c.self.view_is c.self.invariant.0 c.self.invariant.2 within (set s.orbits.items c.args.embed (Some orbits)) refl c.in_ok-orbits.ensures.deciders c.in_ok-orbits.ensures.reached (λ x p embed v at given. good x p embed v given) in
          c.in_ok-orbits.ensures.ungiven instance (subst (λ ds. Contains ds instance) here among);
      count = let s = c.self.inside in
          let orbits = c.in_ok-orbits.orbits in
          let within = subst (λ (a : PendingOf). c.args.embed < length a.map.schema.embeds) (sym (c.in_ok-look_up.ensures ∙ c.take_room-room.ensures.stays)) c.requires.embed in
          let good = good_if_ungiven orbits.instances.items c.in_ok-orbits.ensures.ungiven in
          let here = kept_deciders s.arena.now s.plan.now.table s.found.now s.orbits.items c.args.embed orbits c.look_up.new.self c.self.view_is c.self.invariant.0 c.self.invariant.2 within (set s.orbits.items c.args.embed (Some orbits)) refl c.in_ok-orbits.ensures.deciders c.in_ok-orbits.ensures.reached (λ x p embed v at given. good x p embed v given) in
          omega (arith, c.len-count.ensures, c.in_ok-orbits.ensures.few, ap (λ (ds : List DecidingInstance). length ds) here);
      err = tt;
      cost = λ kept at. subst (λ (a : PendingOf). IsWithinReach a c.args.embed kept c.args.steps.now c.decide.new.steps) (c.in_ok-look_up.ensures ∙ c.take_room-room.ensures.stays)
          (c.decide.ensures.cost kept (subst (λ (a : PendingOf). IsEmbedAt a.map.schema c.args.embed kept) (sym (c.in_ok-look_up.ensures ∙ c.take_room-room.ensures.stays)) at));
      least = c.decide.ensures.least;
    }

pub invariant_of-self : goal.invariant_of-self
invariant_of-self g c =
    let s = c.self.inside in
    let orbits = c.in_ok-orbits.orbits in
    let within = subst (λ (a : PendingOf). c.args.embed < length a.map.schema.embeds) (sym (c.in_ok-look_up.ensures ∙ c.take_room-room.ensures.stays)) c.requires.embed in
    let good = good_if_ungiven orbits.instances.items c.in_ok-orbits.ensures.ungiven in (
      kept_prepared s.arena.now s.plan.now.table s.found.now s.orbits.items c.args.embed orbits c.look_up.new.self c.self.view_is c.self.invariant.0 c.self.invariant.2 within (set s.orbits.items c.args.embed (Some orbits)) refl c.in_ok-orbits.ensures.deciders c.in_ok-orbits.ensures.reached (λ x p embed v at given. good x p embed v given),
      c.self.invariant.1,
      kept_answers s.arena.now s.plan.now.table s.found.now s.orbits.items c.args.embed orbits c.look_up.new.self c.self.view_is c.self.invariant.0 c.self.invariant.2 within (set s.orbits.items c.args.embed (Some orbits)) refl c.in_ok-orbits.ensures.deciders c.in_ok-orbits.ensures.reached (λ x p embed v at given. good x p embed v given),
      c.self.invariant.3,
      c.self.invariant.4,
      c.self.invariant.5,
    )

pub returns-in_err-look_up : goal.returns-in_err-look_up
returns-in_err-look_up g c =
    record {
      asked = never_ok _ c.from_residual.result c.from_residual.ensures.0;
      deciders = never_ok _ c.from_residual.result c.from_residual.ensures.0;
      ungiven = never_ok _ c.from_residual.result c.from_residual.ensures.0;
      count = unless_ok _ c.from_residual.result c.from_residual.ensures.0;
      err = on_err c.from_residual.result (c.in_err-look_up.ensures ∙ c.take_room-room.ensures.stays);
      cost = λ kept at result count unfolded counted. omega arith;
      least = omega arith;
    }

pub decide-requires : goal.decide-requires
decide-requires g c =
    record {
      embed = subst (λ (a : PendingOf). c.args.embed < length a.map.schema.embeds) (sym (c.in_ok-look_up.ensures ∙ c.take_room-room.ensures.stays)) c.requires.embed;
      empty = c.take_room-room.ensures.empty;
    }

pub look_up-requires : goal.look_up-requires
look_up-requires g c = subst (λ (a : PendingOf). c.args.embed < length a.map.schema.embeds) (sym c.take_room-room.ensures.stays) c.requires.embed

pub overflow_cast-count : goal.overflow_cast-count
overflow_cast-count g c = omega (arith, c.len-count.ensures, c.in_ok-orbits.ensures.few)

pub index_mut-requires : goal.index_mut-requires
index_mut-requires g c =
    let s = c.self.inside in
    let within = subst (λ (a : PendingOf). c.args.embed < length a.map.schema.embeds) (sym (c.in_ok-look_up.ensures ∙ c.take_room-room.ensures.stays)) c.requires.embed in
    let here : c.args.embed < length s.arena.now.schema.embeds = subst (λ (a : PendingOf). c.args.embed < length a.map.schema.embeds) (sym c.self.view_is) within in
    omega (arith, here, c.self.invariant.0.each, length-map s.orbits.items instances_in)
