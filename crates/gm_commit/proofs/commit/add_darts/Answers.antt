use Rattle.std.proofs.Common.{◌≡◌, ℕ, ◌+◌, ◌-◌, ◌*◌, ◌<◌, ◌≤◌, List, [], ◌∷◌, ◌++◌, length, take, drop, refl, sym, ap, ap₂, ◌∙◌, arith, append-nil, le-add_right, le_of_eq, append_assoc, length-append}
use borrow.Author.Count.{falls}
use Rattle.std.proofs.Math.Seq.{drop-append_seam}
use Rattle.std.proofs.lemmas.List.{length_push}
use Rattle.gm_model.specs.declared.schema.Schema.{Schema}
use Rattle.gm_model.specs.declared.value.Value.{Value}
use Rattle.gm_arena.specs.declared.slot.Slot.{Slot}
use Rattle.gm_arena.specs.inner.Parts.{part_of}
use Rattle.gm_arena.proofs.ValueLemmas.{stretch}
use Rattle.gm_commit.proofs.on_commit.AfterAdding.{none_extended, next_is_new, extended_more}
use Rattle.gm_commit.proofs.commit.add_darts.Goals as goal

-- what is lent of the values
lent : (values : List Value) (number other width wide : ℕ) → number ≡ other → width ≡ wide → take (number * width + width - number * width) (drop (number * width) values) ≡ part_of wide values other
lent values number other width wide e f =
    let back : number * width + width - number * width ≡ width = omega arith in
    ap (λ k. take k (drop (number * width) values)) back ∙ ap₂ (λ k w. part_of w values k) e f

-- one more slot behind those that were made
one_behind : (start made now after : List Slot) (slot : Slot) → now ≡ start ++ made → after ≡ now ++ slot ∷ [] → after ≡ start ++ (made ++ slot ∷ [])
one_behind start made now after slot so_far put = put ∙ ap (λ slots. slots ++ slot ∷ []) so_far ∙ append_assoc start made (slot ∷ [])

-- a dart's values are among those of all
own_within : (number added width wide long : ℕ) → number < added → width ≡ wide → long ≡ added * wide → number * width + width ≤ long
own_within number added width wide long below same is = rw same (stretch number added wide long below (le_of_eq (sym is)))

pub slice_bounds-own-count : goal.slice_bounds-own-count
slice_bounds-own-count g c = le-add_right (c.loop-number.number * length c.as_slice-width.result.now) (length c.as_slice-width.result.now)

pub slice_bounds-own-end : goal.slice_bounds-own-end
slice_bounds-own-end g c = own_within c.loop-number.number c.args.added (length c.as_slice-width.result.now) (length c.args.arena.now.schema.embeds) (length c.args.values.now) c.loop-number-test.true (ap length (c.as_slice-width.ensures ∙ ap (λ (s : Schema). s.embeds) c.schema.ensures)) c.requires.long

pub loop-number-smaller : goal.loop-number-smaller
loop-number-smaller g c = falls c.args.added c.loop-number.number c.loop-number-test.true

pub loop-number-init : goal.loop-number-init
loop-number-init g c = record {
  made = [];
  slots = sym (append-nil c.args.slots.now.items);
  extended = none_extended c.args.arena.now c.args.values.now;
  long = refl;
  capacity = c.requires.capacity;
  cost = omega arith;
}

pub add-requires-clause-room : goal.add-requires-clause-room
add-requires-clause-room g c = omega (arith, c.loop-number.invariant.extended.spare, c.loop-number.invariant.long, c.requires.room, c.loop-number-test.true)

pub add-requires-clause-reserved : goal.add-requires-clause-reserved
add-requires-clause-reserved g c = omega (arith, c.next.ensures.next, c.loop-number.invariant.extended.next, c.loop-number.invariant.extended.reserved, c.loop-number.invariant.long, c.requires.names, c.loop-number-test.true)

pub add-requires-clause-new_name : goal.add-requires-clause-new_name
add-requires-clause-new_name g c = rw c.next.ensures.next (next_is_new c.loop-number.arena c.next.ensures.lawful)

pub add-requires-clause-values : goal.add-requires-clause-values
add-requires-clause-values g c =
    let wide : length c.as_slice-width.result.now ≡ length c.args.arena.now.schema.embeds = ap length (c.as_slice-width.ensures ∙ ap (λ (s : Schema). s.embeds) c.schema.ensures) in
    rw (lent c.args.values.now c.loop-number.number c.loop-number.number _ _ refl wide, c.loop-number.invariant.extended.schema) (c.requires.values c.loop-number.number c.loop-number-test.true)

pub push_reserved-requires : goal.push_reserved-requires
push_reserved-requires g c =
    let before = c.loop-number.invariant in
    omega (arith, ap length before.slots, length-append c.args.slots.now.items before.made, before.long, before.capacity, c.loop-number-test.true)

pub loop-number-preserved : goal.loop-number-preserved
loop-number-preserved g c =
    let before = c.loop-number.invariant in
    let room : 0 < c.loop-number.arena.spare = omega (arith, before.extended.spare, before.long, c.requires.room, c.loop-number-test.true) in
    let wide : length c.as_slice-width.result.now ≡ length c.args.arena.now.schema.embeds = ap length (c.as_slice-width.ensures ∙ ap (λ (s : Schema). s.embeds) c.schema.ensures) in
    let own = lent c.args.values.now c.loop-number.number (length before.made) _ _ (sym before.long) wide in
    let longer : length (before.made ++ c.add.result ∷ []) ≡ length before.made + 1 = length_push before.made c.add.result in
    record {
      made = before.made ++ c.add.result ∷ [];
      slots = one_behind c.args.slots.now.items before.made c.loop-number.slots.items c.push_reserved.new.self.items c.add.result before.slots c.push_reserved.ensures.items;
      extended = rw (c.add.ensures.map, c.next.ensures.next, own)
          (extended_more c.args.arena.now c.loop-number.arena c.args.values.now before.made c.add.result before.extended room c.add.ensures.slot);
      long = omega (arith, longer, before.long);
      capacity = omega (arith, c.push_reserved.ensures.capacity, before.capacity);
      cost = omega (arith, longer, before.cost, c.add.ensures.cost);
    }

pub returns : goal.returns
returns g c =
    let after = c.loop-number.invariant in
    let made : drop (length c.args.slots.now.items) c.loop-number.slots.items ≡ after.made = ap (drop (length c.args.slots.now.items)) after.slots ∙ drop-append_seam c.args.slots.now.items after.made in
    let end : c.loop-number.number ≡ c.args.added = omega (arith, c.loop-number-test.false, c.loop-number.auto.number-end) in
    rw made record {
      slots = after.slots;
      map = after.extended;
      made = after.long ∙ end;
      cost = omega (arith, after.cost, after.long, end);
    }
