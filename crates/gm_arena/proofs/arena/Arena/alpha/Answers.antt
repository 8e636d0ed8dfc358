use Rattle.std.proofs.Common.{◌+◌, ◌*◌, ◌≤◌, ◌<◌, length, ap, ◌∙◌, arith}
use Rattle.std.specs.FinMap.{get}
use Rattle.gm_arena.specs.declared.slot.Slot.{Slot}
use Rattle.gm_arena.specs.inner.Inside.{slots_in}
use Rattle.gm_arena.proofs.InsideLemmas.{live_place, alpha_at}
use Rattle.gm_arena.proofs.ReserveLemmas.{links_within}
use Rattle.gm_arena.proofs.arena.Arena.alpha.Goals as goal

pub index-requires : goal.index-requires
index-requires g c =
    let s = c.self.inside in
    let label : c.args.label ≤ s.schema.dim = rw (← c.self.view_is) at c.requires.label in
    let within : c.args.slot.at * s.labels + s.labels ≤ length s.neighbours.items = links_within _ _ _ _ _ _ _ _ _ _ c.self.invariant.0 c.args.slot.at (rw (← c.self.view_is) at c.requires.live) in
    omega (arith, label, within, c.self.invariant.0.sized.one_each, s.neighbours.ok.0)

pub returns-clause-neighbour : goal.returns-clause-neighbour
returns-clause-neighbour g c =
    let s = c.self.inside in
    let label : c.args.label ≤ s.schema.dim = rw (← c.self.view_is) at c.requires.label in
    let within : c.args.label < s.labels = omega (arith, label, c.self.invariant.0.sized.one_each) in
    let place = live_place s.places c.args.slot.at (rw (← c.self.view_is) at c.requires.live) in
    rw (← c.self.view_is) (ap (λ (t : Slot). get (slots_in s.places) t.at) c.index.ensures ∙ alpha_at _ _ _ _ _ _ _ _ _ _ c.self.invariant.0 c.args.slot.at place.0 c.args.label c.index.result.now place.1 within)
