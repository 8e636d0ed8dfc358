use Rattle.std.proofs.Common.{◌≡◌, length, get_or, refl, sym, ap, subst, Some, ◌∙◌, arith}
use Rattle.std.proofs.lemmas.List.{get_or_default}
use Rattle.gm_arena.specs.inner.ArenaMap.{IsLiveSlot}
use Rattle.gm_arena.specs.declared.slot.Slot.{Slot}
use Rattle.gm_model.specs.declared.word.Letter.TheVariants.{At, Gone}
use Rattle.gm_model.specs.Orbits.{IsWalkTo}
use Rattle.gm_walk.specs.inner.Walks.{along, names_of}
use Rattle.gm_walk.proofs.NameLemmas.{live_at, at_place, live_after, longer_after, same_after, bound_after, walk_after}
use Rattle.gm_walk.proofs.WalkLemmas.{next_dart}
use Rattle.gm_walk.proofs.WordLemmas.{is_letter}
use Rattle.gm_walk.proofs.walk.take_in_neighbours.Goals as goal

pub loop-place-init : goal.loop-place-init
loop-place-init g c = record {
  live = c.requires.live;
  within = c.requires.within;
  longer = omega arith;
  here = λ d. get_or_default c.args.scratch.now.walked c.args.at d (record { at = 0 }) c.requires.within ∙ ap (λ xs. get_or xs c.args.at (record { at = 0 })) (sym c.walked.ensures.value);
  walk = λ d w. w;
  bound = refl;
  cost = omega arith;
}

pub loop-place-preserved : goal.loop-place-preserved
loop-place-preserved g c =
    let i = c.loop-place.invariant in
    let takes = c.take_in.ensures in
    let longer = longer_after c.args.arena.now c.loop-place.scratch c.alpha.result c.take_in.new.self takes in
    record {
      live = live_after c.args.arena.now c.loop-place.scratch c.alpha.result c.take_in.new.self takes i.live (live_at c.args.arena.now _ _ c.alpha.ensures.neighbour);
      within = omega (arith, longer, i.within);
      longer = omega (arith, longer, i.longer);
      here = λ d. same_after c.args.arena.now c.loop-place.scratch c.alpha.result c.take_in.new.self takes _ d i.within ∙ i.here d;
      walk = λ d w. walk_after c.args.arena.now c.loop-place.scratch c.alpha.result c.take_in.new.self takes c.requires.lawful c.args.word.now d c.args.at c.loop-place.place _ i.live i.within (i.here _)
          (omega (arith, c.loop-place-test.true, c.len-place-end.ensures.value))
          (at_place c.args.arena.now c.args.word.now c.loop-place.place c.in-At.label _ _ (c.letter.ensures ∙ ap Some c.in-At.is) c.alpha.ensures.neighbour) (i.walk d w);
      bound = bound_after c.args.arena.now c.loop-place.scratch c.alpha.result c.take_in.new.self takes ∙ i.bound;
      cost = omega (arith, i.cost, c.alpha.ensures.cost);
    }

pub returns-clause-walk : goal.returns-clause-walk
returns-clause-walk g c =
    let end : c.loop-place.place ≡ length c.args.word.now = omega (arith, c.loop-place-test.false, c.loop-place.auto.place-end, c.len-place-end.ensures.value) in
    let m = c.args.arena.now in
    let word = c.args.word.now in
    λ d w. next_dart _ _ d c.args.at _ (subst (λ l. IsWalkTo (along m word) (length word) d c.args.at l (names_of m c.loop-place.scratch.walked)) end (c.loop-place.invariant.walk d w))

pub unreachable-requires : goal.unreachable-requires
unreachable-requires g c = is_letter c.args.arena.now.schema.dim c.args.word.now c.requires.word c.loop-place.place Gone (c.letter.ensures ∙ ap Some c.in_default.is)

pub alpha-requires-clause-label : goal.alpha-requires-clause-label
alpha-requires-clause-label g c = is_letter c.args.arena.now.schema.dim c.args.word.now c.requires.word c.loop-place.place (At c.in-At.label) (c.letter.ensures ∙ ap Some c.in-At.is)

pub alpha-requires-clause-live : goal.alpha-requires-clause-live
alpha-requires-clause-live g c =
    let i = c.loop-place.invariant in
    subst (λ (s : Slot). IsLiveSlot c.args.arena.now s.at) (i.here (record { at = 0 })) (i.live c.args.at (record { at = 0 }) i.within)

pub take_in-requires : goal.take_in-requires
take_in-requires g c = omega (arith, c.requires.lawful.below_bound _ _ c.alpha.ensures.neighbour, c.requires.fits, c.loop-place.invariant.bound)
