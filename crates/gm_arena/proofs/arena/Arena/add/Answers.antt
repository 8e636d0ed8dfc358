use Rattle.std.proofs.Common.{◌≡◌, length, sym, ◌∙◌, arith, vec_capacity, ◌<◌}
use Rattle.std.proofs.lemmas.Bool.{and_parts, eqb-true}
use Rattle.gm_arena.specs.inner.Lawful.{AreGoodValues}
use Rattle.gm_arena.proofs.ValueLemmas.{length-values, stretch}
use Rattle.gm_arena.proofs.InsideLemmas.{none_at}
use Rattle.gm_arena.proofs.SlotNameLemmas.{slots_named_with}
use Rattle.gm_arena.proofs.AddLemmas.{sound_with, map_with}
use Rattle.gm_arena.proofs.arena.Arena.add.Goals as goal

pub free-requires : goal.free-requires
free-requires g c =
    let s = c.self.inside in
    let inserted = c.insert_reserved-key.ensures in
    stretch c.insert_reserved-key.result s.places.capacity s.labels (vec_capacity s.neighbours) (omega (arith, inserted.key_in_range, inserted.capacity)) c.self.invariant.1.linked

pub write_values-requires : goal.write_values-requires
write_values-requires g c =
    let s = c.self.inside in
    let own = c.args.values.now in
    let inserted = c.insert_reserved-key.ensures in
    let kinds : AreGoodValues s.schema own = rw (← c.self.view_is) at c.requires.values in
    let wide : length own ≡ s.width = length-values s.schema own kinds ∙ sym c.self.invariant.0.sized.wide in
    rw wide (stretch c.insert_reserved-key.result s.places.capacity s.width (vec_capacity s.values) (omega (arith, inserted.key_in_range, inserted.capacity)) c.self.invariant.1.long)

pub invariant_of-self : goal.invariant_of-self
invariant_of-self g c =
    let s = c.self.inside in
    let sound = c.self.invariant.0 in
    let slot = c.insert_reserved-key.result in
    let own = c.args.values.now in
    let inserted = c.insert_reserved-key.ensures in
    let kinds : AreGoodValues s.schema own = rw (← c.self.view_is) at c.requires.values in
    let wide : length own ≡ s.width = length-values s.schema own kinds ∙ sym sound.sized.wide in (
      rw c.set.ensures (sound_with s.schema s.labels s.width s.places s.neighbours.items s.values.items s.table s.next s.spare s.bound sound
          c.args.name (rw (← c.self.view_is) at c.requires.new_name) (rw (← c.self.view_is) at c.requires.reserved) (rw (← c.self.view_is) at c.requires.room)
          slot _ inserted.was_vacant inserted.updates inserted.len inserted.key_in_range inserted.capacity
          _ c.free.ensures.written c.free.ensures.reaches
          _ own kinds (rw wide at c.write_values.ensures.written) (rw wide at c.write_values.ensures.reaches)
          c.max-self-inside.result c.max-self-inside-2.result c.max-self-inside.ensures c.max-self-inside-2.ensures),
      record {
        linked = rw inserted.capacity (omega (arith, c.free.ensures.capacity, c.self.invariant.1.linked));
        long = rw inserted.capacity (omega (arith, c.write_values.ensures.capacity, c.self.invariant.1.long));
      },
      slots_named_with s.names_are_slots s.places _ c.self.invariant.2 _ slot c.args.name inserted.updates (λ told. (and_parts _ _ told).0) (λ told. eqb-true slot c.args.name (and_parts _ _ told).1),
    )

pub returns-clause-slot : goal.returns-clause-slot
returns-clause-slot g c = rw (← c.self.view_is) (none_at c.self.inside.places c.insert_reserved-key.result c.insert_reserved-key.ensures.was_vacant)

pub returns-clause-map : goal.returns-clause-map
returns-clause-map g c =
    let s = c.self.inside in
    let sound = c.self.invariant.0 in
    let slot = c.insert_reserved-key.result in
    let own = c.args.values.now in
    let inserted = c.insert_reserved-key.ensures in
    let kinds : AreGoodValues s.schema own = rw (← c.self.view_is) at c.requires.values in
    let wide : length own ≡ s.width = length-values s.schema own kinds ∙ sym sound.sized.wide in
    rw (← c.self.view_is, c.set.ensures)
    (map_with s.schema s.labels s.width s.places s.neighbours.items s.values.items s.table s.next s.spare s.bound sound
    c.args.name (rw (← c.self.view_is) at c.requires.new_name) (rw (← c.self.view_is) at c.requires.reserved) (rw (← c.self.view_is) at c.requires.room)
    slot _ inserted.was_vacant inserted.updates inserted.len inserted.key_in_range inserted.capacity
    _ c.free.ensures.written c.free.ensures.reaches
    _ own kinds (rw wide at c.write_values.ensures.written) (rw wide at c.write_values.ensures.reaches)
    c.max-self-inside.result c.max-self-inside-2.result c.max-self-inside.ensures c.max-self-inside-2.ensures)

pub insert_reserved-key-requires : goal.insert_reserved-key-requires
insert_reserved-key-requires g c =
    let room : 0 < c.self.inside.spare = rw (← c.self.view_is) at c.requires.room in
    omega (arith, room, c.self.invariant.0.room)

pub overflow_cast-own : goal.overflow_cast-own
overflow_cast-own g c = omega (arith, c.insert_reserved-key.ensures.key_in_range, c.insert_reserved-key.ensures.capacity, c.self.invariant.0.fits)

pub set-requires-clause-reserved : goal.set-requires-clause-reserved
set-requires-clause-reserved g c = rw (← c.self.view_is) at c.requires.reserved

pub set-requires-clause-few : goal.set-requires-clause-few
set-requires-clause-few g c = c.self.invariant.0.few_reserved

pub max-self-inside-requires : goal.max-self-inside-requires
max-self-inside-requires g c = tt

pub overflow_sub-self : goal.overflow_sub-self
overflow_sub-self g c =
    let room : 0 < c.self.inside.spare = rw (← c.self.view_is) at c.requires.room in
    omega (arith, room)

pub overflow_add-key : goal.overflow_add-key
overflow_add-key g c = omega (arith, c.insert_reserved-key.ensures.key_in_range, c.insert_reserved-key.ensures.capacity, c.self.invariant.0.fits)

pub max-self-inside-requires-2 : goal.max-self-inside-requires-2
max-self-inside-requires-2 g c = tt

pub returns-clause-cost : goal.returns-clause-cost
returns-clause-cost g c = c.tick.ensures
