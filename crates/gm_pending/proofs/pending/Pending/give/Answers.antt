use Rattle.std.proofs.Common.{◌≡◌, ◌<◌, List, [], arith, None, Some, get_or, length, set, refl, sym, ◌∙◌, ap, subst}
use Rattle.smallvec.specs.SmallVec.{with_items}
use Rattle.gm_model.specs.Maps.{IsEmbedAt}
use Rattle.gm_pending.specs.declared.decided_orbits.DecidedOrbits.{DecidedOrbits}
use Rattle.gm_pending.specs.declared.deciding_instance.DecidingInstance.{DecidingInstance}
use Rattle.gm_pending.specs.inner.AskedOrbits.{pending_as}
use Rattle.gm_pending.specs.inner.Results.{PendingOf, instances_of, given_at, with_instances}
use Rattle.gm_pending.proofs.on_values.AnswersKept.{decided_within, decider_within, unanswered_at}
use Rattle.gm_pending.proofs.on_values.OneMoreAnswer.{read_there}
use Rattle.gm_pending.proofs.on_values.OneValueGiven.{with_value, given_answers, given_is, given_prepared, written_back}
use Rattle.std.specs.Prelude.{slice_get, unwrap_or}
use Rattle.gm_pending.proofs.pending.Pending.give.Goals as goal

pub returns : goal.returns
returns c =
    let s = c.self.inside in
    let orbits = c.in-Some.orbits in
    let low = subst (λ (a : PendingOf). c.args.index < length (instances_of a c.args.embed)) (sym c.self.view_is) c.requires.index in
    let known = decided_within s.arena.now s.plan.now.table s.found.now s.orbits.items c.args.embed c.args.index low in
    let there = read_there s.orbits.items s.orbits.items c.args.embed c.index_mut.result.now c.index_mut.ensures.value refl known ∙ ap Some c.in-Some.is in
    let within = decider_within s.arena.now s.plan.now.table s.found.now s.orbits.items c.args.embed c.args.index low orbits there in
    let lent = c.as_mut_slice.result.now in
    let none : DecidingInstance = record { node = 0; position = 0; given = None } in
    let written = written_back orbits.instances.items lent c.args.index c.args.value none c.as_mut_slice.ensures.value within in
    let again : DecidedOrbits = record { instances = with_items orbits.instances (set lent c.args.index (with_value (get_or lent c.args.index none) c.args.value)); marks = orbits.marks } in
    subst (λ (a : PendingOf). pending_as s.arena.now s.plan.now.table s.found.now (set s.orbits.items c.args.embed (Some again)) ≡ with_instances a c.args.embed (given_at (instances_of a c.args.embed) c.args.index c.args.value)) c.self.view_is
    (given_is s.arena.now s.plan.now.table s.found.now s.orbits.items c.args.embed orbits there c.self.invariant.0 c.self.invariant.2 c.args.index c.args.value
    (λ embed at. c.requires.value embed (subst (λ (a : PendingOf). IsEmbedAt a.map.schema c.args.embed embed) c.self.view_is at))
    _ again refl written refl)

pub invariant_of-self : goal.invariant_of-self
invariant_of-self c =
    let s = c.self.inside in
    let orbits = c.in-Some.orbits in
    let low = subst (λ (a : PendingOf). c.args.index < length (instances_of a c.args.embed)) (sym c.self.view_is) c.requires.index in
    let known = decided_within s.arena.now s.plan.now.table s.found.now s.orbits.items c.args.embed c.args.index low in
    let there = read_there s.orbits.items s.orbits.items c.args.embed c.index_mut.result.now c.index_mut.ensures.value refl known ∙ ap Some c.in-Some.is in
    let within = decider_within s.arena.now s.plan.now.table s.found.now s.orbits.items c.args.embed c.args.index low orbits there in
    let none : DecidingInstance = record { node = 0; position = 0; given = None } in
    let written = written_back orbits.instances.items c.as_mut_slice.result.now c.args.index c.args.value none c.as_mut_slice.ensures.value within in (
      given_prepared s.arena.now s.plan.now.table s.found.now s.orbits.items c.args.embed orbits there c.self.invariant.0 c.self.invariant.2 c.args.index c.args.value
          (λ embed at. c.requires.value embed (subst (λ (a : PendingOf). IsEmbedAt a.map.schema c.args.embed embed) c.self.view_is at))
          _ _ refl written refl,
      c.self.invariant.1,
      given_answers s.arena.now s.plan.now.table s.found.now s.orbits.items c.args.embed orbits there c.self.invariant.0 c.self.invariant.2 c.args.index c.args.value
          (λ embed at. c.requires.value embed (subst (λ (a : PendingOf). IsEmbedAt a.map.schema c.args.embed embed) c.self.view_is at))
          _ _ refl written refl,
      c.self.invariant.3,
      c.self.invariant.4,
      c.self.invariant.5,
    )

pub index_mut-requires : goal.index_mut-requires
index_mut-requires c =
    let s = c.self.inside in
    let low = subst (λ (a : PendingOf). c.args.index < length (instances_of a c.args.embed)) (sym c.self.view_is) c.requires.index in
    let within : c.args.embed < length s.orbits.items = decided_within s.arena.now s.plan.now.table s.found.now s.orbits.items c.args.embed c.args.index low in
    omega (arith, within)

pub bounds-as_mut_slice-index : goal.bounds-as_mut_slice-index
bounds-as_mut_slice-index c =
    let s = c.self.inside in
    let orbits = c.in-Some.orbits in
    let low = subst (λ (a : PendingOf). c.args.index < length (instances_of a c.args.embed)) (sym c.self.view_is) c.requires.index in
    let known = decided_within s.arena.now s.plan.now.table s.found.now s.orbits.items c.args.embed c.args.index low in
    let there = read_there s.orbits.items s.orbits.items c.args.embed c.index_mut.result.now c.index_mut.ensures.value refl known ∙ ap Some c.in-Some.is in
    rw c.as_mut_slice.ensures.value (decider_within s.arena.now s.plan.now.table s.found.now s.orbits.items c.args.embed c.args.index low orbits there)

pub unreachable-requires : goal.unreachable-requires
unreachable-requires c =
    let s = c.self.inside in
    let low = subst (λ (a : PendingOf). c.args.index < length (instances_of a c.args.embed)) (sym c.self.view_is) c.requires.index in
    let known = decided_within s.arena.now s.plan.now.table s.found.now s.orbits.items c.args.embed c.args.index low in
    let there : slice_get s.orbits.items c.args.embed ≡ Some None = read_there s.orbits.items s.orbits.items c.args.embed c.index_mut.result.now c.index_mut.ensures.value refl known ∙ ap Some c.in-None.is in
    let none : instances_of (pending_as s.arena.now s.plan.now.table s.found.now s.orbits.items) c.args.embed ≡ [] = ap (λ o. unwrap_or o []) (unanswered_at s.orbits.items c.args.embed there) in
    absurd (omega (arith, low, ap (λ (ds : List DecidingInstance). length ds) none))
