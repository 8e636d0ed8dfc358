use Rattle.std.proofs.Common.{◌≡◌, ◌<◌, ◌∷◌, [], length, refl, sym, ap, ◌∙◌, arith, append-nil, length-append}
use Rattle.gm_commit.specs.inner.InstanceEdits.{told_by, concat_below, slot_in}
use Rattle.gm_commit.proofs.on_rewrite.JoinedLists.{put_more}
use Rattle.gm_commit.proofs.on_rewrite.SlotTable.{part_long}
use Rattle.gm_commit.proofs.rewrite.Rewrite.put_left_slots.Goals as goal

pub loop-position-init : goal.loop-position-init
loop-position-init c = record { items = sym (append-nil c.args.slots.now.items); capacity = refl }

pub push_reserved-requires : goal.push_reserved-requires
push_reserved-requires c =
    let within : c.loop-position.position < c.args.self.now.placed.positions = omega (arith, c.loop-position-test.true, c.positions-position-end.ensures) in
    omega (
      arith,
      within,
      ap length c.loop-position.invariant.items,
      length-append c.args.slots.now.items (concat_below (λ p. slot_in c.args.self.now.placed c.args.node p ∷ []) c.loop-position.position),
      part_long (told_by c.args.self.now) c.args.node c.loop-position.position,
      c.loop-position.invariant.capacity,
      c.requires.room,
    )

pub loop-position-preserved : goal.loop-position-preserved
loop-position-preserved c = record {
  items = put_more (λ p. slot_in c.args.self.now.placed c.args.node p ∷ []) c.args.slots.now.items c.loop-position.slots.items c.push_reserved.new.self.items (c.left_slot.result ∷ []) c.loop-position.position c.push_reserved.ensures.items (ap (λ slot. slot ∷ []) c.left_slot.ensures) c.loop-position.invariant.items;
  capacity = c.push_reserved.ensures.capacity ∙ c.loop-position.invariant.capacity;
}

pub returns : goal.returns
returns c =
    let end : c.loop-position.position ≡ c.args.self.now.placed.positions = omega (arith, c.loop-position-test.false, c.loop-position.auto.position-end, c.positions-position-end.ensures) in
    let filled = rw end at c.loop-position.invariant in
    record { slots = filled.items; capacity = filled.capacity }
