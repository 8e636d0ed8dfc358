use Rattle.std.proofs.Common.{◌≤◌, refl, sym, subst, le_refl, add-zero, arith}
use Rattle.gm_arena.specs.inner.ArenaMap.{name_at}
use Rattle.gm_arena.proofs.MapLemmas.{IsAt-name_at}
use Rattle.gm_walk.proofs.GrowLemmas.{contains_on}
use Rattle.gm_walk.proofs.LeadLemmas.{one_met}
use Rattle.gm_walk.proofs.SlotLemmas.{unseen_lacks}
use Rattle.gm_walk.specs.inner.Seen.{HasMet}
use Rattle.gm_walk.proofs.orbit_count.see_new.Goals as goal

none_more : 0 ≤ 1
none_more = omega arith

pub returns-then-seen-from : goal.returns-then-seen-from
returns-then-seen-from g c =
    let m = c.args.arena.now in
    let from = c.args.from.at in
    record {
      met = λ o before count letters few has_seen met. (
        before,
        has_seen,
        subst (HasMet m o c.args.word.now before) (sym (add-zero count)) met,
        λ d there. there,
        (has_seen.same from (name_at m from) (IsAt-name_at m from c.requires.from)).0 c.if-seen-from.true,
      );
      one = none_more;
      cost = λ before has_seen closed. le_refl _;
      least = le_refl _;
      long = refl;
      bound = refl;
    }

pub see_orbit-requires : goal.see_orbit-requires
see_orbit-requires g c = record {
  generalised = c.requires.generalised;
  lawful = c.requires.lawful;
  from = c.requires.from;
  word = c.requires.word;
  pair = c.requires.pair;
  long = c.requires.long;
  unseen = c.if-seen-from.false;
  fits = c.requires.fits;
}

pub returns : goal.returns
returns g c =
    let e = c.see_orbit.ensures in
    record {
      met = λ o before count letters few has_seen met.
          let m = c.args.arena.now in
          let from = c.args.from.at in
          let d = name_at m from in
          let here = IsAt-name_at m from c.requires.from in
          let after = e.seen before has_seen met.closed in
          let lacks = unseen_lacks m c.args.seen.now before has_seen from d here c.if-seen-from.false in (
            after.0,
            after.1,
            one_met m c.requires.generalised o few c.args.word.now letters before count met d (c.requires.lawful.live from d here) lacks after.0 after.2,
            contains_on before after.0 after.2.longer after.2.front,
            after.2.there,
          );
      one = le_refl _;
      cost = e.cost;
      least = e.least;
      long = e.long;
      bound = e.bound;
    }
