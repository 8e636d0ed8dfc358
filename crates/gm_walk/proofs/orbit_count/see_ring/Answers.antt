use Rattle.std.proofs.Common.{◌≡◌, ℕ, ◌+◌, ◌≤◌, Bool, [], ◌∷◌, ◌++◌, ◌<◌, ◌∙◌, length, length-set, le_trans, arith}
use Rattle.std.proofs.lemmas.List.Elements.{Contains-push}
use Rattle.gm_arena.specs.inner.ArenaMap.{name_at}
use Rattle.gm_arena.proofs.MapLemmas.{IsAt-name_at}
use Rattle.gm_walk.specs.inner.Seen.{seen_count}
use Rattle.gm_walk.proofs.GrowLemmas.{contains_on}
use Rattle.gm_walk.proofs.NameLemmas.{none_past}
use Rattle.gm_walk.proofs.RingLemmas.{ring_grown, ring_steps}
use Rattle.gm_walk.proofs.SlotLemmas.{one_more_seen, one_seen}
use Rattle.gm_walk.proofs.orbit_count.see_ring.Goals as goal

followed_later : (start after before seen : ℕ) → after + before ≡ start + 1 + seen → before ≤ seen → start ≤ after
followed_later start after before seen cost more = omega arith

pub returns-clause-seen : goal.returns-clause-seen
returns-clause-seen g c = λ before s.
    let m = c.args.arena.now in
    let from = c.args.from.at in
    let seen = c.args.seen.now in
    let d = name_at m from in
    let at = IsAt-name_at m from c.requires.from in
    let within : from < length seen = omega (arith, c.requires.lawful.below_bound _ _ at, c.requires.long) in
    let one = one_seen m seen before s from d at c.requires.lawful within c.requires.unseen in
    let here = Contains-push before d in
    let two = c.follow.ensures.followed (before ++ d ∷ []) one here in
    let still = contains_on (before ++ d ∷ []) two.0 two.2.longer two.2.front d here in
    let new = c.follow-2.ensures.followed two.0 two.1 still in
    (new.0, new.1, ring_grown m c.args.first c.args.second d before two.0 new.0 two.2 new.2)

pub returns-clause-cost : goal.returns-clause-cost
returns-clause-cost g c =
    let m = c.args.arena.now in
    let from = c.args.from.at in
    let seen = c.args.seen.now in
    let at = IsAt-name_at m from c.requires.from in
    let within : from < length seen = omega (arith, c.requires.lawful.below_bound _ _ at, c.requires.long) in
    let one = one_more_seen seen from within c.requires.unseen in
    ring_steps m.schema.dim c.args.steps.now c.follow-2.new.steps (seen_count seen) (seen_count c.follow-2.new.seen)
    (omega (arith, one, c.follow.ensures.more, c.follow-2.ensures.more)) (omega (arith, one, c.follow.ensures.cost, c.follow-2.ensures.cost))

pub prove-unreachable-requires : goal.prove-unreachable-requires
prove-unreachable-requires g c = none_past c.args.arena.now c.args.from.at c.bound.result c.requires.lawful c.requires.from c.bound.ensures.bound c.if-prove.true

pub follow-requires : goal.follow-requires
follow-requires g c = record {
  generalised = c.requires.generalised;
  lawful = c.requires.lawful;
  from = c.requires.from;
  first = c.requires.first;
  second = c.requires.second;
  long = length-set {A = Bool} _ _ _ ∙ c.requires.long;
}

pub returns-clause-least : goal.returns-clause-least
returns-clause-least g c = le_trans (followed_later _ _ _ _ c.follow.ensures.cost c.follow.ensures.more) (followed_later _ _ _ _ c.follow-2.ensures.cost c.follow-2.ensures.more)

pub returns-clause-long : goal.returns-clause-long
returns-clause-long g c = c.follow-2.ensures.long ∙ (c.follow.ensures.long ∙ length-set {A = Bool} _ _ _)
