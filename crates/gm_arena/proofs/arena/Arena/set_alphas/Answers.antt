use Rattle.std.proofs.Common.{◌+◌, ◌*◌, ◌<◌, ◌≤◌, length, sym, ap, ◌∙◌, subst, All, arith}
use Rattle.std.specs.FinMap as map
use Rattle.std.specs.List.{zip}
use Rattle.std.specs.Option.{IsSome}
use Rattle.std.proofs.lemmas.List.Elements.{All-weaker}
use Rattle.slab.specs.Slab.{get}
use Rattle.gm_arena.specs.declared.slot.Slot.{Slot}
use Rattle.gm_arena.specs.inner.Inside.{slots_in, map_of}
use Rattle.gm_arena.proofs.InsideLemmas.{key_at}
use Rattle.gm_arena.proofs.ReserveLemmas.{links_within}
use Rattle.gm_arena.proofs.LinkLemmas.{lent_linked, sound_linked, map_linked}
use Rattle.gm_arena.proofs.arena.Arena.set_alphas.Goals as goal

pub link-requires-clause-within : goal.link-requires-clause-within
link-requires-clause-within g c =
    let s = c.self.inside in
    let live : All (λ (slot : Slot). IsSome (map.get (slots_in s.places) slot.at)) c.args.from.now = rw (← c.self.view_is) at c.requires.live in
    All-weaker (λ (slot : Slot). IsSome (map.get (slots_in s.places) slot.at)) (λ (slot : Slot). slot.at * s.labels + s.labels ≤ length c.as_mut_slice-neighbours.result.now)
    (λ slot h. subst (λ items. slot.at * s.labels + s.labels ≤ length items) (sym c.as_mut_slice-neighbours.ensures.value) (links_within _ _ _ _ _ _ _ _ _ _ c.self.invariant.0 slot.at h)) c.args.from.now live

pub invariant_of-self : goal.invariant_of-self
invariant_of-self g c =
    let s = c.self.inside in
    let label : c.args.label ≤ s.schema.dim = rw (← c.self.view_is) at c.requires.label in
    let within : c.args.label < s.labels = omega (arith, label, c.self.invariant.0.sized.one_each) in
    let IsHeld = λ (slot : Slot). IsSome (map.get (slots_in s.places) slot.at) in
    let IsKey = λ (slot : Slot). IsSome (get s.places slot.at) in
    let from : All IsKey c.args.from.now = All-weaker IsHeld IsKey (λ slot h. key_at s.places slot.at h) c.args.from.now (rw (← c.self.view_is) at c.requires.live) in
    let to : All IsKey c.args.to.now = All-weaker IsHeld IsKey (λ slot h. key_at s.places slot.at h) c.args.to.now (rw (← c.self.view_is) at c.requires.to_live) in
    let links = lent_linked s.labels c.args.label s.neighbours.len (zip c.args.from.now c.args.to.now) s.neighbours.items c.as_mut_slice-neighbours.result.now c.link.new.neighbours (omega (arith, s.neighbours.ok.0)) c.as_mut_slice-neighbours.ensures.value c.link.ensures in (
      rw links (sound_linked s.schema s.labels s.width s.places s.values.items s.table s.next s.spare s.bound c.args.label within c.args.from.now c.args.to.now from to s.neighbours.items c.self.invariant.0),
      c.self.invariant.1,
      c.self.invariant.2,
    )

pub returns-clause-map : goal.returns-clause-map
returns-clause-map g c =
    let s = c.self.inside in
    let label : c.args.label ≤ s.schema.dim = rw (← c.self.view_is) at c.requires.label in
    let within : c.args.label < s.labels = omega (arith, label, c.self.invariant.0.sized.one_each) in
    let IsHeld = λ (slot : Slot). IsSome (map.get (slots_in s.places) slot.at) in
    let IsKey = λ (slot : Slot). IsSome (get s.places slot.at) in
    let from : All IsKey c.args.from.now = All-weaker IsHeld IsKey (λ slot h. key_at s.places slot.at h) c.args.from.now (rw (← c.self.view_is) at c.requires.live) in
    let to : All IsKey c.args.to.now = All-weaker IsHeld IsKey (λ slot h. key_at s.places slot.at h) c.args.to.now (rw (← c.self.view_is) at c.requires.to_live) in
    let links = lent_linked s.labels c.args.label s.neighbours.len (zip c.args.from.now c.args.to.now) s.neighbours.items c.as_mut_slice-neighbours.result.now c.link.new.neighbours (omega (arith, s.neighbours.ok.0)) c.as_mut_slice-neighbours.ensures.value c.link.ensures in
    rw (← c.self.view_is)
    (ap (λ items. map_of s.schema s.labels s.width s.places items s.values.items s.table s.next s.spare s.bound) links
    ∙ map_linked s.schema s.labels s.width s.places s.values.items s.table s.next s.spare s.bound c.args.label within c.args.from.now c.args.to.now from to s.neighbours.items c.self.invariant.0)
