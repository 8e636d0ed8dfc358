-- Without a dart that is alone: the arena stays sound, and its map lacks this one dart.
use Rattle.std.proofs.Common.{◌≡◌, ◌≢◌, ℕ, ◌+◌, ◌-◌, ◌*◌, ◌<◌, List, get_or, set, drop, Some, None, refl, sym, ap, ◌∙◌, inl, inr, arith, All, get_or-drop}
use Rattle.std.specs.Option.{option_map}
use Rattle.std.specs.FinMap as map
use Rattle.std.proofs.lemmas.Bool.{cases_eq}
use Rattle.std.proofs.lemmas.Option.{none-some, same_Some}
use Rattle.std.proofs.lemmas.List.{length-set, get_or-take, get_or-set_same, get_or-set_other}
use Rattle.slab.specs.Slab.{Slab, get, slab_len, Updates}
use Rattle.gm_model.specs.declared.schema.Schema.{Schema}
use Rattle.gm_model.specs.declared.value.Value.{Value}
use Rattle.gm_arena.specs.declared.slot.Slot.{Slot}
use Rattle.gm_arena.specs.declared.arena.Place.{Place}
use Rattle.gm_arena.specs.inner.ArenaMap.{alpha}
use Rattle.gm_arena.specs.inner.Edits.{IsAlone, without_dart}
use Rattle.gm_arena.specs.inner.Inside.{no_slot, slot_in, name_in, dart_in, darts_in, slots_in, map_of, IsPlaced, FitTogether}
use Rattle.gm_arena.specs.inner.Parts.{part_of}
use Rattle.gm_arena.proofs.FilledLemmas.{same_maps, get-remove_same, get-remove_other, len-remove_one}
use Rattle.gm_arena.proofs.InsideLemmas.{nowhere, part_long, dart_at, darts_get, slot_at, get-slots, alpha_at, name_at_in, name_in-get, name_within, apart_names, is_some_at, some_of}
use Rattle.gm_arena.proofs.ChangeLemmas.{slots_alike, name_alike, dart_alike, other_dart, other_slot}

module _ (schema : Schema) (labels width : ℕ) (places : Slab Place) (neighbours : List Slot) (values : List Value) (table : List ℕ) (next spare bound : ℕ) (sound : FitTogether schema labels width places neighbours values table next spare bound)
    (slot : ℕ) (place : Place) (here : get places slot ≡ Some place) (alone : IsAlone (map_of schema labels width places neighbours values table next spare bound) place.name)
    (places' : Slab Place) (updates : Updates places places' slot None) (fewer : slab_len places' + 1 ≡ slab_len places) (capacity : places'.capacity ≡ places.capacity) where
  none : get places no_slot ≡ None
  none = nowhere schema labels width places neighbours values table next spare bound sound

  slot_apart : no_slot ≢ slot
  slot_apart e = none-some place (sym none ∙ (ap (get places) e ∙ here))

  none' : get places' no_slot ≡ None
  none' = updates.others no_slot slot_apart ∙ none

  entry_here : slot_in (set table place.name no_slot) place.name ≡ no_slot
  entry_here = get_or-set_same table place.name no_slot no_slot (name_within schema labels width places neighbours values table next spare bound sound slot place here)

  entry_other : (name : ℕ) → name ≢ place.name → slot_in (set table place.name no_slot) name ≡ slot_in table name
  entry_other name apart = get_or-set_other table place.name name no_slot no_slot apart

  -- a slot that is still live is another one
  other_live : (other : ℕ) (now : Place) → get places' other ≡ Some now → (other ≢ slot) × (get places other ≡ Some now)
  other_live other now e =
      let apart : other ≢ slot = λ same. none-some now (sym updates.changed ∙ (ap (get places') (sym same) ∙ e)) in
      (apart, sym (updates.others other apart) ∙ e)

  -- no dart that stays has the dart as a neighbour
  apart_neighbours : (other : ℕ) (now : Place) → get places' other ≡ Some now → All (λ (s : Slot). s.at ≢ slot) (part_of labels neighbours other)
  apart_neighbours other now e k d h same =
      let m = map_of schema labels width places neighbours values table next spare bound in
      let old = other_live other now e in
      let placed = sound.placed other now old.1 in
      let within : k < labels = rw (part_long labels neighbours bound other placed.below_bound sound.linked) at h in
      let read : (get_or (part_of labels neighbours other) k d).at ≡ (get_or neighbours (other * labels + k) d).at =
      ap (λ (s : Slot). s.at) (get_or-take labels (drop (other * labels) neighbours) k d within ∙ get_or-drop (other * labels) neighbours k d) in
      let leads = alpha_at schema labels width places neighbours values table next spare bound sound other now k d old.1 within in
      let named = same_Some place.name _ (sym (slot_at places slot place here) ∙ (ap (map.get (slots_in places)) (sym same ∙ read) ∙ leads)) in
      alone now.name k (is_some_at _ _ (dart_at schema labels width places neighbours values table next spare bound sound other now old.1))
      (apart_names schema labels width places neighbours values table next spare bound sound slot other place now here old.1 old.0)
      (omega (arith, sound.sized.one_each))
      (ap (alpha m k) (sym (name_at_in places other ∙ name_in-get places other now old.1)) ∙ sym named)

  names_same : (other : ℕ) (now : Place) → get places' other ≡ Some now → All (λ (s : Slot). name_in places' s.at ≡ name_in places s.at) (part_of labels neighbours other)
  names_same other now e k d h = name_alike places places' _ (updates.others _ (apart_neighbours other now e k d h))

  pub darts_without : darts_in labels width places' neighbours values (set table place.name no_slot) ≡ map.remove (darts_in labels width places neighbours values table) place.name
  darts_without = same_maps _ _ (λ name. elim (cases_eq name place.name) [
    | inl e ↦ rw e (
        darts_get labels width places' neighbours values (set table place.name no_slot) none' place.name
        ∙ (ap (λ s. option_map (λ (p : Place). dart_in labels width places' neighbours values s) (get places' s)) entry_here
        ∙ (ap (option_map (λ (p : Place). dart_in labels width places' neighbours values no_slot)) none'
        ∙ sym (get-remove_same (darts_in labels width places neighbours values table) place.name))))
    | inr apart ↦
        let there = updates.others (slot_in table name) (other_slot schema labels width places neighbours values table next spare bound sound slot place name here apart) in
        other_dart labels width places places' neighbours neighbours values values table (set table place.name no_slot) none none' name (entry_other name apart) there
        (λ p e. dart_alike labels width places places' neighbours neighbours values values _ refl (names_same _ p (there ∙ e)) refl)
        ∙ sym (get-remove_other (darts_in labels width places neighbours values table) place.name name apart)
  ])

  pub slots_without : slots_in places' ≡ map.remove (slots_in places) slot
  slots_without = same_maps _ _ (λ other. elim (cases_eq other slot) [
    | inl e ↦ rw e (get-slots places' slot ∙ (ap (option_map (λ (p : Place). p.name)) updates.changed ∙ sym (get-remove_same (slots_in places) slot)))
    | inr apart ↦ slots_alike places places' other (ap (option_map (λ (p : Place). p.name)) (updates.others other apart)) ∙ sym (get-remove_other (slots_in places) slot other apart)
  ])

  placed : (other : ℕ) (now : Place) → get places' other ≡ Some now → IsPlaced labels places' neighbours (set table place.name no_slot) next bound other now
  placed other now e =
      let old = other_live other now e in
      let p = sound.placed other now old.1 in
      record {
        found = entry_other now.name (apart_names schema labels width places neighbours values table next spare bound sound slot other place now here old.1 old.0) ∙ p.found;
        live = λ k d h. rw (updates.others _ (apart_neighbours other now e k d h)) (p.live k d h);
        below_next = p.below_next;
        below_bound = p.below_bound;
        below_capacity = rw capacity p.below_capacity;
      }

  pub sound_without : FitTogether schema labels width places' neighbours values (set table place.name no_slot) next (spare + 1) bound
  sound_without = record {
    sized = sound.sized;
    placed = placed;
    named = λ name h.
        let apart : name ≢ place.name = λ same. h (ap (slot_in (set table place.name no_slot)) same ∙ entry_here) in
        let entry = entry_other name apart in
        let n = sound.named name (λ none. h (entry ∙ none)) in
        let there = updates.others (slot_in table name) (other_slot schema labels width places neighbours values table next spare bound sound slot place name here apart) in
        (n.0, ap (get places') entry ∙ (there ∙ n.1), n.2);
    valued = λ other h.
        let now : (p : Place) × (get places' other ≡ Some p) = some_of _ h in
        sound.valued other (is_some_at _ _ (other_live other now.0 now.1).1);
    fits = rw capacity sound.fits;
    linked = sound.linked;
    long = sound.long;
    room = omega (arith, capacity, fewer, sound.room);
    counted =
        let removed = ap map.len darts_without ∙ len-remove_one _ place.name _ (dart_at schema labels width places neighbours values table next spare bound sound slot place here) in
        omega (arith, removed, sound.counted, fewer);
    few_darts = omega (arith, fewer, sound.few_darts);
    few_names = sound.few_names;
    few_reserved = rw length-set sound.few_reserved;
  }

  pub map_without : map_of schema labels width places' neighbours values (set table place.name no_slot) next (spare + 1) bound
      ≡ without_dart (map_of schema labels width places neighbours values table next spare bound) slot place.name
  map_without =
      let count : slab_len places' ≡ slab_len places - 1 = omega (arith, fewer) in
      let m = map_of schema labels width places neighbours values table next (spare + 1) bound in
      λ i. record m { darts = darts_without i; slots = slots_without i; count = count i; reserved = length-set table place.name no_slot i }
