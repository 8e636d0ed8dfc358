use Rattle.std.proofs.Common.{◌∷◌, [], ◌++◌, length, refl, sym, ◌∙◌, subst, arith}
use Rattle.gm_walk.specs.inner.Keys.{key_of}
use Rattle.gm_pending.specs.inner.ReachedDarts.{AreMarkedTo, IsGrown, IsSpreadTo, ungiven}
use Rattle.gm_pending.proofs.on_deciding.DecidersFound.{assigned_right, decided_reached, instance_decides, key_absent, key_there, node_marked, on_ok, some_grown}
use Rattle.gm_pending.proofs.on_deciding.ArcsFollowed.{stays_longer}
use Rattle.gm_pending.proofs.on_deciding.NodesOfOneOrbit.{all_marked, none_marked, orbit_grown, orbit_spread}
use Rattle.gm_pending.proofs.pending.Pending.decide_orbit.Goals as goal

pub place-requires : goal.place-requires
place-requires c = (assigned_right c.args.self.now c.positions.ensures.prepared c.args.embed c.args.declared.now c.requires.embed c.args.node c.requires.assigned, omega (arith, c.positions.ensures.some))

pub returns-then-is_some-clause-decided : goal.returns-then-is_some-clause-decided
returns-then-is_some-clause-decided c =
    let app = c.args.self.now in
    let prepared = c.positions.ensures.prepared in
    let declared = c.args.declared.now in
    let marks = c.args.orbits.now.marks in
    let earlier = c.requires.earlier in
    let right = assigned_right app prepared c.args.embed declared c.requires.embed c.args.node c.requires.assigned in
    node_marked app prepared c.args.embed declared c.requires.embed c.args.orbits.now.instances.items marks c.args.node 0 earlier
    (λ result unfolded. all_marked app prepared c.args.node right c.args.embed declared c.requires.embed c.requires.orbit marks c.place.result c.positions.ensures.some c.place.ensures.name c.place.ensures.dart earlier.darts
    (key_there marks (key_of c.place.result) c.decided_by.result c.decided_by.ensures.instance (sym c.is_some.ensures ∙ c.if-is_some.true)) result unfolded (earlier.walked result unfolded).closed)

pub returns-then-is_some-clause-reached : goal.returns-then-is_some-clause-reached
returns-then-is_some-clause-reached c = decided_reached c.args.self.now c.positions.ensures.prepared c.args.embed c.args.declared.now c.requires.embed c.args.orbits.now.instances.items c.args.orbits.now.marks c.args.node 0 c.requires.earlier

pub returns-in_err-index-clause-reached : goal.returns-in_err-index-clause-reached
returns-in_err-index-clause-reached c = decided_reached c.args.self.now c.positions.ensures.prepared c.args.embed c.args.declared.now c.requires.embed c.args.orbits.now.instances.items c.args.orbits.now.marks c.args.node 0 c.requires.earlier

pub mark_instances-requires-clause-right : goal.mark_instances-requires-clause-right
mark_instances-requires-clause-right c = assigned_right c.args.self.now c.positions.ensures.prepared c.args.embed c.args.declared.now c.requires.embed c.args.node c.requires.assigned

pub mark_instances-requires-clause-unmarked : goal.mark_instances-requires-clause-unmarked
mark_instances-requires-clause-unmarked c =
    let app = c.args.self.now in
    let prepared = c.positions.ensures.prepared in
    let declared = c.args.declared.now in
    let marks = c.args.orbits.now.marks in
    let right = assigned_right app prepared c.args.embed declared c.requires.embed c.args.node c.requires.assigned in
    none_marked app prepared c.args.node right c.args.embed declared c.requires.embed c.requires.orbit marks c.place.result c.positions.ensures.some c.place.ensures.name c.place.ensures.dart c.requires.earlier.darts
    (λ result unfolded. (c.requires.earlier.walked result unfolded).closed)
    (key_absent marks (key_of c.place.result) c.decided_by.result c.decided_by.ensures.instance (sym c.is_some.ensures ∙ c.if-is_some.false))

pub returns-clause-decided : goal.returns-clause-decided
returns-clause-decided c =
    let app = c.args.self.now in
    let prepared = c.positions.ensures.prepared in
    let embed = c.args.embed in
    let declared = c.args.declared.now in
    let node = c.args.node in
    let at = c.place.result in
    let instances = c.args.orbits.now.instances.items in
    let marks = c.args.orbits.now.marks in
    let after = c.mark_instances.new.marks in
    let right = assigned_right app prepared embed declared c.requires.embed node c.requires.assigned in
    let absent = key_absent marks (key_of at) c.decided_by.result c.decided_by.ensures.instance (sym c.is_some.ensures ∙ c.if-is_some.false) in
    on_ok c.mark_instances.result c.mark_instances.ensures.all (λ all.
    let marked = subst (λ k. AreMarkedTo app marks after node k app.placed.positions) c.in_ok-index.ensures.index all in
    let decided = instance_decides app prepared embed declared c.requires.embed instances marks node 0 at c.requires.earlier (c.requires.assigned, omega (arith, c.positions.ensures.some)) c.place.ensures.dart c.place.ensures.name
    after absent c.mark_instances.ensures.darts c.in_ok-index.ensures.few
    (λ result unfolded. subst (λ d. IsSpreadTo app declared result marks after (length instances) d (length after) 0) (sym c.place.ensures.name)
    (orbit_spread app prepared node right embed declared c.requires.embed c.requires.orbit marks after (length instances) app.placed.positions marked result unfolded c.positions.ensures.some refl (c.requires.earlier.walked result unfolded).closed)) in
    rw c.in_ok-index.ensures.added (node_marked app prepared embed declared c.requires.embed (instances ++ ungiven node 0 ∷ []) after node 1 decided (λ result unfolded q h. (length instances, marked.all q h))))

pub returns-clause-reached : goal.returns-clause-reached
returns-clause-reached c =
    let app = c.args.self.now in
    let prepared = c.positions.ensures.prepared in
    let embed = c.args.embed in
    let declared = c.args.declared.now in
    let node = c.args.node in
    let marks = c.args.orbits.now.marks in
    let after = c.mark_instances.new.marks in
    let some = c.mark_instances.ensures.some in
    let right = assigned_right app prepared embed declared c.requires.embed node c.requires.assigned in
    some_grown app prepared embed declared c.requires.embed marks after c.in_ok-index.index node 0 c.place.result
    (c.requires.assigned, omega (arith, c.positions.ensures.some)) c.place.ensures.dart c.place.ensures.name c.mark_instances.ensures.darts
    (decided_reached app prepared embed declared c.requires.embed c.args.orbits.now.instances.items marks node 0 c.requires.earlier)
    (λ result unfolded. subst (λ d. IsGrown app declared result marks after c.in_ok-index.index d) (sym c.place.ensures.name)
    (orbit_grown app prepared node right embed declared c.requires.embed c.requires.orbit marks after c.in_ok-index.index some.0 some.2 result unfolded some.1))

pub returns-clause-longer : goal.returns-clause-longer
returns-clause-longer c = stays_longer c.args.orbits.now.marks c.mark_instances.new.marks c.mark_instances.ensures.some.2.kept
