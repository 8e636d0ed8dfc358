use Rattle.std.proofs.Common.{◌+◌, ◌*◌, ◌<◌, ◌≤◌, length, arith}
use Rattle.std.proofs.lemmas.Option.{slice_get_within}
use Rattle.gm_model.specs.Maps.{IsEmbedAt}
use Rattle.gm_arena.proofs.InsideLemmas.{live_place, name_at_in, name_in-get}
use Rattle.gm_arena.proofs.ValueLemmas.{IsWritten-set}
use Rattle.gm_arena.proofs.ReserveLemmas.{values_within}
use Rattle.gm_arena.proofs.RevalueLemmas.{sound_revalued, map_revalued}
use Rattle.gm_arena.proofs.arena.Arena.set_value.Goals as goal

pub index_mut-requires : goal.index_mut-requires
index_mut-requires g c =
    let s = c.self.inside in
    let at : IsEmbedAt s.schema c.args.embed c.requires.value.0 = rw (← c.self.view_is) at c.requires.value.1 in
    let within : c.args.slot.at * s.width + s.width ≤ length s.values.items = values_within _ _ _ _ _ _ _ _ _ _ c.self.invariant.0 c.args.slot.at (rw (← c.self.view_is) at c.requires.live) in
    omega (arith, slice_get_within s.schema.embeds c.args.embed c.requires.value.0 at, within, c.self.invariant.0.sized.wide, s.values.ok.0)

pub invariant_of-self : goal.invariant_of-self
invariant_of-self g c =
    let s = c.self.inside in
    let at : IsEmbedAt s.schema c.args.embed c.requires.value.0 = rw (← c.self.view_is) at c.requires.value.1 in
    let within : c.args.embed < s.width = omega (arith, slice_get_within s.schema.embeds c.args.embed c.requires.value.0 at, c.self.invariant.0.sized.wide) in
    let place = live_place s.places c.args.slot.at (rw (← c.self.view_is) at c.requires.live) in (
      sound_revalued _ _ _ _ _ _ _ _ _ _ c.self.invariant.0 c.args.slot.at place.0 place.1 c.args.embed c.requires.value.0 c.args.value at c.requires.value.2
          _ (IsWritten-set s.width c.args.slot.at c.args.embed s.values.items c.args.value within),
      c.self.invariant.1,
      c.self.invariant.2,
    )

pub returns-clause-map : goal.returns-clause-map
returns-clause-map g c =
    let s = c.self.inside in
    let at : IsEmbedAt s.schema c.args.embed c.requires.value.0 = rw (← c.self.view_is) at c.requires.value.1 in
    let within : c.args.embed < s.width = omega (arith, slice_get_within s.schema.embeds c.args.embed c.requires.value.0 at, c.self.invariant.0.sized.wide) in
    let place = live_place s.places c.args.slot.at (rw (← c.self.view_is) at c.requires.live) in
    rw (← c.self.view_is, name_at_in s.places c.args.slot.at, name_in-get s.places c.args.slot.at place.0 place.1)
    (map_revalued _ _ _ _ _ _ _ _ _ _ c.self.invariant.0 c.args.slot.at place.0 place.1 c.args.embed c.requires.value.0 c.args.value at c.requires.value.2
    _ (IsWritten-set s.width c.args.slot.at c.args.embed s.values.items c.args.value within))
