use Rattle.std.proofs.Common.{◌≡◌, ◌<◌, Some, slice_get, length, refl, sym, ◌∙◌, ap, subst, [], None, arith}
use Rattle.gm_model.specs.Maps.{IsEmbedAt}
use Rattle.gm_pending.specs.inner.ReachedDarts.{AreReached}
use Rattle.gm_pending.specs.inner.Results.{IsPrepared, PendingOf, instances_of}
use Rattle.gm_pending.proofs.on_values.AnswersKept.{answered_reached, asked_embed, asked_within, answered_at, unanswered_at}
use Rattle.gm_pending.proofs.on_values.OneMoreAnswer.{read_there}
use Rattle.std.specs.Prelude.{unwrap_or}
use Rattle.std.proofs.lemmas.Bool.{false≢true}
use Rattle.gm_pending.proofs.pending.Pending.orbits.Goals as goal

pub returns-clause-reached : goal.returns-clause-reached
returns-clause-reached c = λ kept at.
    let items = c.self.inside.orbits.items in
    let within : c.args.embed < length items = asked_within c.self.inside.arena.now c.self.inside.plan.now.table c.self.inside.found.now items c.args.embed (rw (← c.self.view_is) at c.requires) in
    let there : slice_get items c.args.embed ≡ Some (Some c.in-Some.orbits) = read_there items items c.args.embed c.index.result.now c.index.ensures refl within ∙ ap Some c.in-Some.is in
    subst (λ (a : PendingOf). AreReached a c.args.embed kept (instances_of a c.args.embed) c.in-Some.orbits.marks) c.self.view_is
    (answered_reached c.self.inside.arena.now c.self.inside.plan.now.table c.self.inside.found.now items c.args.embed c.in-Some.orbits kept (subst (λ (a : PendingOf). IsEmbedAt a.map.schema c.args.embed kept) (sym c.self.view_is) at) there c.self.invariant.2)

pub returns-clause-embed : goal.returns-clause-embed
returns-clause-embed c = asked_embed c.args.self.now (subst IsPrepared c.self.view_is c.self.invariant.0) c.args.embed c.requires

pub unreachable-requires : goal.unreachable-requires
unreachable-requires c =
    let s = c.self.inside in
    let items = s.orbits.items in
    let orbits = rw (← c.self.view_is) at c.requires in
    let within : c.args.embed < length items = asked_within s.arena.now s.plan.now.table s.found.now items c.args.embed orbits in
    let there : slice_get items c.args.embed ≡ Some None = read_there items items c.args.embed c.index.result.now c.index.ensures refl within ∙ ap Some c.in-None.is in
    false≢true (rw (unanswered_at items c.args.embed there) at orbits)

pub returns-clause-deciders : goal.returns-clause-deciders
returns-clause-deciders c =
    let s = c.self.inside in
    let items = s.orbits.items in
    let within : c.args.embed < length items = asked_within s.arena.now s.plan.now.table s.found.now items c.args.embed (rw (← c.self.view_is) at c.requires) in
    let there : slice_get items c.args.embed ≡ Some (Some c.in-Some.orbits) = read_there items items c.args.embed c.index.result.now c.index.ensures refl within ∙ ap Some c.in-Some.is in
    subst (λ (a : PendingOf). c.in-Some.orbits.instances.items ≡ instances_of a c.args.embed) c.self.view_is (sym (ap (λ o. unwrap_or o []) (answered_at items c.args.embed c.in-Some.orbits there)))

pub returns-clause-prepared : goal.returns-clause-prepared
returns-clause-prepared c = subst IsPrepared c.self.view_is c.self.invariant.0

pub index-requires : goal.index-requires
index-requires c =
    let s = c.self.inside in
    let within : c.args.embed < length s.orbits.items = asked_within s.arena.now s.plan.now.table s.found.now s.orbits.items c.args.embed (rw (← c.self.view_is) at c.requires) in
    omega (arith, within, s.orbits.ok.0)
