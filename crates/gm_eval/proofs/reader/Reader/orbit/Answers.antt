use Rattle.std.proofs.Common.{arith}
use Rattle.gm_walk.specs.inner.Lent.{slots_of}
use Rattle.gm_walk.proofs.NameLemmas.{live_at}
use Rattle.gm_eval.proofs.Collected.{orbit_of}
use Rattle.gm_eval.proofs.Ready.{mask_small, term_here}
use Rattle.gm_eval.proofs.reader.Reader.orbit.Goals as goal

pub slot-from-requires : goal.slot-from-requires
slot-from-requires g c =
    let ready = c.requires.ready in
    record { here = ready.here; term = term_here c.args.self.now _ ready c.args.term.now ready.typed.has_kind.in_range.1 }

pub walk_mask-requires : goal.walk_mask-requires
walk_mask-requires g c = record {
  live = live_at c.args.self.now.arena.now c.slot-from.result.at _ c.slot-from.ensures.slot;
  mask = λ label small h. c.requires.ready.typed.has_kind.in_range.0 label h;
  fits = c.requires.fits;
}

pub returns : goal.returns
returns g c =
    let reader = c.args.self.now in
    let walk = c.walk_mask.ensures in
    let few = mask_small reader _ c.requires.ready c.args.mask c.requires.ready.typed.has_kind.in_range.0 in
    record {
      orbit = orbit_of reader c.args.mask c.args.term.now c.slot-from.result.at (slots_of c.walk_mask.result) c.slot-from.ensures.slot few walk.walk walk.live;
      cost = omega (arith, c.slot-from.ensures.cost, walk.cost);
      least = omega (arith, c.slot-from.ensures.cost, walk.least);
      room = walk.room;
      lender = walk.lender;
    }
