use Rattle.std.proofs.Common.{◌<◌, ◌++◌, ◌∷◌, [], true, length, set, refl, sym, subst, ◌∙◌, arith, length-set}
use Rattle.std.proofs.lemmas.List.Sums.{count_by-le-length}
use Rattle.gm_arena.specs.inner.ArenaMap.{name_at}
use Rattle.gm_arena.proofs.MapLemmas.{IsAt-name_at}
use Rattle.gm_walk.proofs.NameLemmas.{at_name, live_at}
use Rattle.gm_walk.proofs.RingLemmas.{IsFollowing, following_first, following_on, followed}
use Rattle.gm_walk.proofs.SlotLemmas.{one_more_seen, one_seen}
use Rattle.gm_walk.proofs.orbit_count.follow.Goals as goal

pub loop-seen-init : goal.loop-seen-init
loop-seen-init g c =
    let m = c.args.arena.now in
    let from = c.args.from in
    let d = name_at m from.at in
    let at = c.alpha-next.ensures.neighbour in
    let lives = c.requires.lawful.live from.at d (IsAt-name_at m from.at c.requires.from) in
    record {
      next = live_at m _ _ at;
      label = c.requires.second;
      other = c.requires.first;
      long = refl;
      following = λ before s there.
          let following = following_first m c.requires.generalised c.args.first c.args.second d before c.requires.first lives there in
          (before, s, subst (λ next. IsFollowing m c.args.first c.args.second d before before next c.args.first c.args.second) (sym (at_name m _ _ at)) following);
      more = omega arith;
      cost = omega (arith, c.alpha-next.ensures.cost);
    }

pub loop-seen-smaller : goal.loop-seen-smaller
loop-seen-smaller g c =
    let i = c.loop-seen.invariant in
    let at = c.loop-seen.next.at in
    let seen = c.loop-seen.seen in
    let within : at < length seen = omega (arith, c.requires.lawful.below_bound _ _ (IsAt-name_at c.args.arena.now at i.next), i.long, c.requires.long) in
    let few = count_by-le-length (λ b. b) (set seen at true) in
    omega (arith, one_more_seen seen at within c.loop-seen-test.true, few, length-set seen at true)

pub loop-seen-preserved : goal.loop-seen-preserved
loop-seen-preserved g c =
    let i = c.loop-seen.invariant in
    let m = c.args.arena.now in
    let first = c.args.first in
    let second = c.args.second in
    let from = name_at m c.args.from.at in
    let seen = c.loop-seen.seen in
    let slot = c.loop-seen.next.at in
    let next = name_at m slot in
    let here = IsAt-name_at m slot i.next in
    let at = c.alpha-next-in-loop-seen.ensures.neighbour in
    let within : slot < length seen = omega (arith, c.requires.lawful.below_bound _ _ here, i.long, c.requires.long) in
    let more = one_more_seen seen slot within c.loop-seen-test.true in
    record {
      next = live_at m _ _ at;
      label = i.other;
      other = i.label;
      long = length-set seen slot true ∙ i.long;
      following = λ before s there.
          let now = i.following before s there in
          let on = following_on m c.requires.generalised first second from before now.0 next c.loop-seen.other c.loop-seen.label now.2 i.label (c.requires.lawful.live slot next here) in (
            now.0 ++ next ∷ [],
            one_seen m seen now.0 now.1 slot next here c.requires.lawful within c.loop-seen-test.true,
            subst (λ next. IsFollowing m first second from before (now.0 ++ name_at m slot ∷ []) next c.loop-seen.label c.loop-seen.other) (sym (at_name m _ _ at)) on,
          );
      more = omega (arith, i.more, more);
      cost = omega (arith, i.cost, more, c.alpha-next-in-loop-seen.ensures.cost);
    }

pub returns-clause-followed : goal.returns-clause-followed
returns-clause-followed g c = λ before s there.
    let i = c.loop-seen.invariant in
    let m = c.args.arena.now in
    let now = i.following before s there in
    let slot = c.loop-seen.next.at in
    let known = (now.1.same slot (name_at m slot) (IsAt-name_at m slot i.next)).0 c.loop-seen-test.false in
    (now.0, now.1, followed m c.requires.generalised c.args.first c.args.second (name_at m c.args.from.at) before now.0 _ c.loop-seen.other c.loop-seen.label now.2 known)
