use Rattle.std.proofs.Common.{◌+◌, ◌*◌, ◌<◌, ◌≤◌, length, arith}
use Rattle.gm_arena.proofs.InsideLemmas.{live_place, key_at, name_at_in, name_in-get}
use Rattle.gm_arena.proofs.ValueLemmas.{IsWritten-set}
use Rattle.gm_arena.proofs.ReserveLemmas.{links_within}
use Rattle.gm_arena.proofs.AlphaLemmas.{sound_turned, map_turned}
use Rattle.gm_arena.proofs.arena.Arena.set_alpha.Goals as goal

pub index_mut-requires : goal.index_mut-requires
index_mut-requires g c =
    let s = c.self.inside in
    let label : c.args.label ≤ s.schema.dim = rw (← c.self.view_is) at c.requires.label in
    let within : c.args.slot.at * s.labels + s.labels ≤ length s.neighbours.items = links_within _ _ _ _ _ _ _ _ _ _ c.self.invariant.0 c.args.slot.at (rw (← c.self.view_is) at c.requires.live) in
    omega (arith, label, within, c.self.invariant.0.sized.one_each, s.neighbours.ok.0)

pub invariant_of-self : goal.invariant_of-self
invariant_of-self g c =
    let s = c.self.inside in
    let label : c.args.label ≤ s.schema.dim = rw (← c.self.view_is) at c.requires.label in
    let within : c.args.label < s.labels = omega (arith, label, c.self.invariant.0.sized.one_each) in
    let place = live_place s.places c.args.slot.at (rw (← c.self.view_is) at c.requires.live) in (
      sound_turned _ _ _ _ _ _ _ _ _ _ c.self.invariant.0 c.args.slot.at place.0 place.1 c.args.label c.args.to within
          (key_at s.places _ (rw (← c.self.view_is) at c.requires.to_live))
          _ (IsWritten-set s.labels c.args.slot.at c.args.label s.neighbours.items c.args.to within),
      c.self.invariant.1,
      c.self.invariant.2,
    )

pub returns-clause-map : goal.returns-clause-map
returns-clause-map g c =
    let s = c.self.inside in
    let label : c.args.label ≤ s.schema.dim = rw (← c.self.view_is) at c.requires.label in
    let within : c.args.label < s.labels = omega (arith, label, c.self.invariant.0.sized.one_each) in
    let place = live_place s.places c.args.slot.at (rw (← c.self.view_is) at c.requires.live) in
    rw (← c.self.view_is, name_at_in s.places c.args.slot.at, name_in-get s.places c.args.slot.at place.0 place.1, name_at_in s.places c.args.to.at)
    (map_turned _ _ _ _ _ _ _ _ _ _ c.self.invariant.0 c.args.slot.at place.0 place.1 c.args.label c.args.to within
    (key_at s.places _ (rw (← c.self.view_is) at c.requires.to_live))
    _ (IsWritten-set s.labels c.args.slot.at c.args.label s.neighbours.items c.args.to within))
