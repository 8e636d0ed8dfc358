use Rattle.std.proofs.Common.{◌+◌, ◌*◌, ◌<◌, ◌≤◌, length, ◌∙◌, arith}
use Rattle.gm_arena.proofs.InsideLemmas.{live_place, value_at}
use Rattle.gm_arena.proofs.ReserveLemmas.{values_within}
use Rattle.gm_arena.proofs.arena.Arena.value.Goals as goal

pub index-requires : goal.index-requires
index-requires g c =
    let s = c.self.inside in
    let embed : c.args.embed < length s.schema.embeds = rw (← c.self.view_is) at c.requires.embed in
    let within : c.args.slot.at * s.width + s.width ≤ length s.values.items = values_within _ _ _ _ _ _ _ _ _ _ c.self.invariant.0 c.args.slot.at (rw (← c.self.view_is) at c.requires.live) in
    omega (arith, embed, within, c.self.invariant.0.sized.wide, s.values.ok.0)

pub returns-clause-value : goal.returns-clause-value
returns-clause-value g c =
    let s = c.self.inside in
    let embed : c.args.embed < length s.schema.embeds = rw (← c.self.view_is) at c.requires.embed in
    let within : c.args.embed < s.width = omega (arith, embed, c.self.invariant.0.sized.wide) in
    let place = live_place s.places c.args.slot.at (rw (← c.self.view_is) at c.requires.live) in
    rw (← c.self.view_is) (c.index.ensures ∙ value_at _ _ _ _ _ _ _ _ _ _ c.self.invariant.0 c.args.slot.at place.0 c.args.embed _ place.1 within)
