use Rattle.std.proofs.Common.{length, subst}
use Rattle.gm_arena.specs.inner.ArenaMap.{name_at}
use Rattle.gm_model.specs.Orbits.{IsWalk}
use Rattle.gm_walk.specs.inner.Lent.{slots_of}
use Rattle.gm_walk.specs.inner.Walks.{along, names_of}
use Rattle.gm_walk.proofs.WordLemmas.{is_word}
use Rattle.gm_walk.proofs.walk.walk_mask.Goals as goal

pub walk_word-requires : goal.walk_word-requires
walk_word-requires g c = record {
  live = c.requires.live;
  word = rw c.word_of.ensures (is_word c.args.arena.now.schema.dim c.args.mask c.requires.mask);
  fits = c.requires.fits;
}

pub returns : goal.returns
returns g c =
    let m = c.args.arena.now in
    let e = c.walk_word.ensures in
    record {
      walk = subst (λ word. IsWalk (along m word) (length word) (name_at m c.args.from.at) (names_of m (slots_of c.walk_word.result))) c.word_of.ensures e.walk;
      live = e.live;
      cost = e.cost;
      least = e.least;
      room = e.room;
      lender = e.lender;
    }
