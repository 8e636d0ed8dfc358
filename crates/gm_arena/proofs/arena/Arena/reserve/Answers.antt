use Rattle.std.proofs.Common.{◌≡◌, ℕ, ◌+◌, ◌<◌, ◌≤◌, max, Fits, w64, length, Some, sym, ap, subst, arith, refl}
use Rattle.gm_model.specs.Limits.{most_darts, most_names}
use Rattle.slab.specs.Slab.{get, slab_len}
use Rattle.slab.proofs.SlabLemmas.{ContainsKey-within}
use Rattle.gm_arena.specs.declared.arena.Place.{Place}
use Rattle.gm_arena.proofs.InsideLemmas.{some_of}
use Rattle.gm_arena.proofs.SlotNameLemmas.{slots_named_same}
use Rattle.gm_arena.proofs.ReserveLemmas.{entries_padded, sound_more, map_more}
use Rattle.gm_model.proofs.Exits.{never_ok}
use Rattle.gm_arena.proofs.arena.Arena.reserve.Goals as goal

-- room that is made, and room that is kept
stays : (now old : ℕ) → old ≡ now → now ≤ old
stays now old same = omega (arith, same)

no_more : (now old more : ℕ) → old ≡ now → old ≤ max now more
no_more now old more same = omega (arith, same)

grows : (new old more : ℕ) → new ≡ max old more → old ≤ new
grows new old more is = omega (arith, is)

greatest : (new all : ℕ) → new ≡ all → new ≤ all
greatest new all is = omega (arith, is)

padded_few : (new old names : ℕ) → new ≡ max old names → old ≤ most_names → names ≤ most_names → new ≤ most_names
padded_few new old names is few most = omega (arith, is, few, most)

within_room : (slot old new capacity : ℕ) → slot < old → new ≡ old → new ≤ capacity → slot < capacity
within_room slot old new capacity low same within = omega (arith, low, same, within)

room_fits : (len count spare more room : ℕ) → len ≡ count → count + more ≤ most_darts → len + spare ≤ most_darts → room ≡ max spare more → len + room ≤ most_darts
room_fits len count spare more room same few held is = omega (arith, same, few, held, is)

room_word : (room : ℕ) → room < 4294967296 → Fits w64 room
room_word room low = omega (arith, low)

narrow : (width embeds : ℕ) → width ≡ embeds → embeds ≤ 8 → width ≤ 8
narrow width embeds is few = omega (arith, is, few)

pub invariant_of-self-in_err-reserve_places : goal.invariant_of-self-in_err-reserve_places
invariant_of-self-in_err-reserve_places c =
    let sound = c.self.invariant.0 in
    let entries = entries_padded c.self.inside.table c.pad.new.self _ c.in_ok-pad.ensures.ok in
    let same : c.reserve_places.new.places ≡ c.self.inside.places = c.in_err-reserve_places.ensures.err in
    let capacity : c.reserve_places.new.places.capacity ≡ c.self.inside.places.capacity = ap (λ s. s.capacity) same in (
      rw (c.in_err-reserve_places.ensures.neighbours, c.in_err-reserve_places.ensures.values) (sound_more _ _ _ _ _ _ _ _ _ _ sound c.reserve_places.new.places c.pad.new.self c.in_err-reserve_places.ensures.slots entries c.self.inside.spare
          (λ slot h. let p : (p : Place) × (get c.self.inside.places slot ≡ Some p) = some_of _ h in subst (λ (k : ℕ). slot < k) (sym capacity) (sound.placed slot p.0 p.1).below_capacity)
          c.in_err-reserve_places.ensures.fits (rw same sound.room) sound.few_darts
          (padded_few _ _ _ c.in_ok-pad.ensures.len sound.few_reserved c.requires.names)),
      c.in_err-reserve_places.ensures.parts,
      slots_named_same c.self.inside.names_are_slots c.self.inside.places c.reserve_places.new.places c.self.invariant.2 c.in_err-reserve_places.ensures.slots,
    )

pub invariant_of-self-2 : goal.invariant_of-self-2
invariant_of-self-2 c =
    let sound = c.self.invariant.0 in
    let entries = entries_padded c.self.inside.table c.pad.new.self _ c.in_ok-pad.ensures.ok in
    let slots = c.in_ok-reserve_places.ensures.slots in
    let count : slab_len c.self.inside.places ≡ c.args.self.now.count = ap (λ m. m.count) c.self.view_is in (
      rw (c.in_ok-reserve_places.ensures.neighbours, c.in_ok-reserve_places.ensures.values) (sound_more _ _ _ _ _ _ _ _ _ _ sound c.reserve_places.new.places c.pad.new.self slots entries c.max-room.result
          (λ slot h. let within = ContainsKey-within c.self.inside.places slot h in within_room _ _ _ _ within (ap length slots) c.in_ok-reserve_places.ensures.within)
          c.in_ok-reserve_places.ensures.fits c.in_ok-reserve_places.ensures.room
          (room_fits _ _ _ _ _ count c.requires.darts sound.few_darts c.max-room.ensures)
          (padded_few _ _ _ c.in_ok-pad.ensures.len sound.few_reserved c.requires.names)),
      c.in_ok-reserve_places.ensures.parts,
      slots_named_same c.self.inside.names_are_slots c.self.inside.places c.reserve_places.new.places c.self.invariant.2 slots,
    )

pub invariant_of-self : goal.invariant_of-self
invariant_of-self c = rw c.in_err-pad.ensures.err c.self.invariant

pub overflow_cast-room : goal.overflow_cast-room
overflow_cast-room c = room_word _ c.max-room.type_inv

pub reserve_places-requires-clause-fits : goal.reserve_places-requires-clause-fits
reserve_places-requires-clause-fits c = c.self.invariant.0.fits

pub reserve_places-requires-clause-few : goal.reserve_places-requires-clause-few
reserve_places-requires-clause-few c =
    let count : slab_len c.self.inside.places ≡ c.args.self.now.count = ap (λ m. m.count) c.self.view_is in
    room_fits _ _ _ _ _ count c.requires.darts c.self.invariant.0.few_darts c.max-room.ensures

pub reserve_places-requires-clause-labels : goal.reserve_places-requires-clause-labels
reserve_places-requires-clause-labels c = c.self.invariant.0.sized.few

pub reserve_places-requires-clause-width : goal.reserve_places-requires-clause-width
reserve_places-requires-clause-width c = narrow _ _ c.self.invariant.0.sized.wide c.self.invariant.0.sized.lawful.count

pub reserve_places-requires-clause-parts : goal.reserve_places-requires-clause-parts
reserve_places-requires-clause-parts c = c.self.invariant.1

pub returns-in_err-pad : goal.returns-in_err-pad
returns-in_err-pad c =
    let spare : c.self.inside.spare ≡ c.args.self.now.spare = ap (λ m. m.spare) c.self.view_is in
    let reserved : length c.self.inside.table ≡ c.args.self.now.reserved = ap (λ m. m.reserved) c.self.view_is in
    record {
      darts = never_ok _ c.from_residual.result c.from_residual.ensures.0;
      names = never_ok _ c.from_residual.result c.from_residual.ensures.0;
      spare_stays = stays _ _ spare;
      spare_most = no_more _ _ _ spare;
      reserved_stays = rw c.in_err-pad.ensures.err (stays _ _ reserved);
      reserved_most = rw c.in_err-pad.ensures.err (no_more _ _ _ reserved);
      map = rw (← c.self.view_is, c.in_err-pad.ensures.err) refl;
    }

pub returns-in_err-reserve_places : goal.returns-in_err-reserve_places
returns-in_err-reserve_places c =
    let entries = entries_padded c.self.inside.table c.pad.new.self _ c.in_ok-pad.ensures.ok in
    record {
      darts = never_ok _ c.from_residual-in_err-reserve_places.result c.from_residual-in_err-reserve_places.ensures.0;
      names = never_ok _ c.from_residual-in_err-reserve_places.result c.from_residual-in_err-reserve_places.ensures.0;
      spare_stays = stays _ _ (ap (λ m. m.spare) c.self.view_is);
      spare_most = no_more _ _ _ (ap (λ m. m.spare) c.self.view_is);
      reserved_stays = rw (← c.self.view_is) (grows _ _ _ c.in_ok-pad.ensures.len);
      reserved_most = rw (← c.self.view_is) (greatest _ _ c.in_ok-pad.ensures.len);
      map = rw (← c.self.view_is, c.in_err-reserve_places.ensures.neighbours, c.in_err-reserve_places.ensures.values) (map_more _ _ _ _ _ _ _ _ _ _ c.self.invariant.0 c.reserve_places.new.places c.pad.new.self c.in_err-reserve_places.ensures.slots entries c.self.inside.spare);
    }

pub returns : goal.returns
returns c =
    let entries = entries_padded c.self.inside.table c.pad.new.self _ c.in_ok-pad.ensures.ok in
    record {
      darts = rw (← c.self.view_is) c.max-room.ensures;
      names = rw (← c.self.view_is) c.in_ok-pad.ensures.len;
      spare_stays = rw (← c.self.view_is) (grows _ _ _ c.max-room.ensures);
      spare_most = rw (← c.self.view_is) (greatest _ _ c.max-room.ensures);
      reserved_stays = rw (← c.self.view_is) (grows _ _ _ c.in_ok-pad.ensures.len);
      reserved_most = rw (← c.self.view_is) (greatest _ _ c.in_ok-pad.ensures.len);
      map = rw (← c.self.view_is, c.in_ok-reserve_places.ensures.neighbours, c.in_ok-reserve_places.ensures.values) (map_more _ _ _ _ _ _ _ _ _ _ c.self.invariant.0 c.reserve_places.new.places c.pad.new.self c.in_ok-reserve_places.ensures.slots entries c.max-room.result);
    }
