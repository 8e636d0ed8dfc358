use Rattle.std.proofs.Common.{refl}
use Rattle.gm_walk.proofs.WordLemmas.{two_labels}
use Rattle.gm_walk.proofs.orbit_count.see_orbit.Goals as goal

pub see_walk-requires : goal.see_walk-requires
see_walk-requires g c = record {
  generalised = c.requires.generalised;
  lawful = c.requires.lawful;
  from = c.requires.from;
  word = c.requires.word;
  long = c.requires.long;
  unseen = c.requires.unseen;
  fits = c.requires.fits c.in-None.is;
}

pub returns-in-None : goal.returns-in-None
returns-in-None g c =
    let e = c.see_walk.ensures in
    record { seen = e.seen; cost = e.cost; least = e.least; long = e.long; bound = e.bound }

pub returns-in-Some : goal.returns-in-Some
returns-in-Some g c =
    let e = c.see_ring.ensures in
    let two = rw c.in-Some.is at c.requires.pair in
    record { seen = λ before seen closed. rw two (e.seen before seen); cost = λ before seen closed. e.cost; least = e.least; long = e.long; bound = refl }

pub see_ring-requires : goal.see_ring-requires
see_ring-requires g c =
    let labels = two_labels c.args.arena.now.schema.dim c.in-Some.first c.in-Some.second c.args.word.now c.requires.word (rw c.in-Some.is at c.requires.pair) in
    record {
      generalised = c.requires.generalised;
      lawful = c.requires.lawful;
      from = c.requires.from;
      first = labels.0;
      second = labels.1;
      long = c.requires.long;
      unseen = c.requires.unseen;
    }
