use Rattle.std.proofs.Common.{◌∙◌}
use Rattle.gm_arena.proofs.InsideLemmas.{key_at, name_within, name_at_in, name_in-get}
use Rattle.gm_arena.proofs.SlotNameLemmas.{slots_named_without}
use Rattle.gm_arena.proofs.RemoveLemmas.{sound_without, map_without}
use Rattle.gm_arena.proofs.arena.Arena.remove.Goals as goal

pub remove-place-requires : goal.remove-place-requires
remove-place-requires g c = key_at c.self.inside.places _ (rw (← c.self.view_is) at c.requires.live)

pub set-requires : goal.set-requires
set-requires g c = record {
  reserved = name_within _ _ _ _ _ _ _ _ _ _ c.self.invariant.0 c.args.slot.at c.remove-place.result c.remove-place.ensures.value;
  few = c.self.invariant.0.few_reserved;
}

pub invariant_of-self : goal.invariant_of-self
invariant_of-self g c =
    let name = name_at_in c.self.inside.places c.args.slot.at ∙ name_in-get c.self.inside.places c.args.slot.at c.remove-place.result c.remove-place.ensures.value in
    let alone = rw (← c.self.view_is, name) at c.requires.alone in
    let capacity = c.remove-place.ensures.capacity in (
      rw c.set.ensures (sound_without _ _ _ _ _ _ _ _ _ _ c.self.invariant.0 c.args.slot.at c.remove-place.result c.remove-place.ensures.value alone
          c.remove-place.new.self c.remove-place.ensures.updates c.remove-place.ensures.len capacity),
      record { linked = rw capacity c.self.invariant.1.linked; long = rw capacity c.self.invariant.1.long },
      slots_named_without c.self.inside.names_are_slots c.self.inside.places c.remove-place.new.self c.self.invariant.2 c.args.slot.at c.remove-place.ensures.updates,
    )

pub returns-clause-map : goal.returns-clause-map
returns-clause-map g c =
    let name = name_at_in c.self.inside.places c.args.slot.at ∙ name_in-get c.self.inside.places c.args.slot.at c.remove-place.result c.remove-place.ensures.value in
    let alone = rw (← c.self.view_is, name) at c.requires.alone in
    rw (← c.self.view_is, name, c.set.ensures) (map_without _ _ _ _ _ _ _ _ _ _ c.self.invariant.0 c.args.slot.at c.remove-place.result c.remove-place.ensures.value alone
    c.remove-place.new.self c.remove-place.ensures.updates c.remove-place.ensures.len c.remove-place.ensures.capacity)
