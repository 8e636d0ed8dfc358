-- One more dart: the arena stays sound, and its map has this one dart more.
use Rattle.std.proofs.Common.{◌≡◌, ◌≢◌, ℕ, zero, suc, ◌+◌, ◌-◌, ◌*◌, ◌<◌, ◌≤◌, List, ◌∷◌, set, map, length, replicate, max, Some, None, refl, sym, ap, subst, ◌∙◌, inl, inr, arith, All}
use Rattle.std.specs.Option.{option_map, IsSome}
use Rattle.std.specs.FinMap as map
use Rattle.std.proofs.lemmas.Bool.{cases_eq}
use Rattle.std.proofs.lemmas.Option.{none-some, same_Some}
use Rattle.std.proofs.lemmas.List.{length-set, get_or-set_same, get_or-set_other}
use Rattle.std.proofs.lemmas.List.Elements.{All-replicate}
use Rattle.slab.specs.Slab.{Slab, get, slab_len, Updates}
use Rattle.gm_model.specs.declared.schema.Schema.{Schema}
use Rattle.gm_model.specs.declared.value.Value.{Value}
use Rattle.gm_arena.specs.declared.slot.Slot.{Slot}
use Rattle.gm_arena.specs.declared.arena.Place.{Place}
use Rattle.gm_arena.specs.inner.Lawful.{AreGoodValues}
use Rattle.gm_arena.specs.inner.Edits.{free_dart, with_dart}
use Rattle.gm_arena.specs.inner.Inside.{no_slot, slot_in, name_in, dart_in, darts_in, slots_in, map_of, IsPlaced, IsWritten, FitTogether}
use Rattle.gm_arena.specs.inner.Parts.{part_of}
use Rattle.gm_arena.proofs.FilledLemmas.{same_maps, get-insert_same, get-insert_other, len-insert_new}
use Rattle.gm_arena.proofs.InsideLemmas.{nowhere, dart_at, darts_get, slot_at, name_in-get, is_some_at, some_of, links_there, values_there}
use Rattle.gm_arena.proofs.ValueLemmas.{reached}
use Rattle.gm_arena.proofs.ChangeLemmas.{slots_alike, name_alike, dart_alike, other_dart}

abbrev pub new_place : ℕ → Place
new_place name = record { name = name }

map-replicate : {A B : Type 0} (f : A → B) (n : ℕ) (x : A) → map f (replicate n x) ≡ replicate n (f x)
map-replicate f zero x = refl
map-replicate f (suc n) x = λ i. f x ∷ map-replicate f n x i

module _ (schema : Schema) (labels width : ℕ) (places : Slab Place) (neighbours : List Slot) (values : List Value) (table : List ℕ) (next spare bound : ℕ) (sound : FitTogether schema labels width places neighbours values table next spare bound)
    (name : ℕ) (new_name : map.get (darts_in labels width places neighbours values table) name ≡ None) (reserved : name < length table) (some_room : 0 < spare)
    (slot : ℕ) (places' : Slab Place) (free : get places slot ≡ None) (updates : Updates places places' slot (Some (new_place name)))
    (more : slab_len places' ≡ slab_len places + 1) (below : slot < places'.capacity) (capacity : places'.capacity ≡ places.capacity)
    (neighbours' : List Slot) (linked : IsWritten labels slot neighbours (replicate labels (record { at = slot })) neighbours') (links_reach : slot * labels + labels ≤ length neighbours')
    (values' own : List Value) (kinds : AreGoodValues schema own) (written : IsWritten width slot values own values') (values_reach : slot * width + width ≤ length values') where
  none : get places no_slot ≡ None
  none = nowhere schema labels width places neighbours values table next spare bound sound

  somewhere : slot ≢ no_slot
  somewhere e = omega (arith, below, capacity, sound.fits)

  none' : get places' no_slot ≡ None
  none' = updates.others no_slot (λ e. somewhere (sym e)) ∙ none

  -- a slot that was live is another one
  was_apart : (other : ℕ) → IsSome (get places other) → other ≢ slot
  was_apart other h e =
      let p : (p : Place) × (get places other ≡ Some p) = some_of _ h in
      none-some p.0 (sym free ∙ (ap (get places) (sym e) ∙ p.1))

  live : (other : ℕ) → IsSome (get places other) → IsSome (get places' other)
  live other h = rw (updates.others other (was_apart other h)) h

  entry_here : slot_in (set table name slot) name ≡ slot
  entry_here = get_or-set_same table name slot no_slot reserved

  entry_other : (other : ℕ) → other ≢ name → slot_in (set table name slot) other ≡ slot_in table other
  entry_other other apart = get_or-set_other table name other slot no_slot apart

  -- no name led to the slot
  slot_free : (other : ℕ) → slot_in table other ≢ slot
  slot_free other e =
      let n = sound.named other (λ no. somewhere (sym e ∙ no)) in
      was_apart (slot_in table other) (is_some_at _ n.0 n.1) e

  -- no dart had the name
  name_apart : (other : ℕ) (p : Place) → get places other ≡ Some p → p.name ≢ name
  name_apart other p e same =
      none-some _ (sym new_name ∙ (ap (map.get (darts_in labels width places neighbours values table)) (sym same) ∙ dart_at schema labels width places neighbours values table next spare bound sound other p e))

  names_same : (other : ℕ) (p : Place) → get places other ≡ Some p → All (λ (s : Slot). name_in places' s.at ≡ name_in places s.at) (part_of labels neighbours other)
  names_same other p e k d h = name_alike places places' _ (updates.others _ (was_apart _ ((sound.placed other p e).live k d h)))

  dart_here : dart_in labels width places' neighbours' values' slot ≡ free_dart schema.dim name own
  dart_here =
      let name_of = λ (s : Slot). name_in places' s.at in
      let alphas : map name_of (part_of labels neighbours' slot) ≡ replicate (schema.dim + 1) name =
      ap (map name_of) linked.here ∙ (map-replicate name_of labels (record { at = slot })
      ∙ (ap (replicate labels) (name_in-get places' slot (new_place name) updates.changed) ∙ ap (λ n. replicate n name) sound.sized.one_each)) in
      λ i. record { alphas = alphas i; values = written.here i }

  pub darts_with : darts_in labels width places' neighbours' values' (set table name slot)
      ≡ map.insert (darts_in labels width places neighbours values table) name (free_dart schema.dim name own)
  darts_with = same_maps _ _ (λ other. elim (cases_eq other name) [
    | inl e ↦ rw e (
        darts_get labels width places' neighbours' values' (set table name slot) none' name
        ∙ (ap (λ s. option_map (λ (p : Place). dart_in labels width places' neighbours' values' s) (get places' s)) entry_here
        ∙ (ap (option_map (λ (p : Place). dart_in labels width places' neighbours' values' slot)) updates.changed
        ∙ (ap Some dart_here ∙ sym (get-insert_same (darts_in labels width places neighbours values table) name (free_dart schema.dim name own))))))
    | inr apart ↦
        other_dart labels width places places' neighbours neighbours' values values' table (set table name slot) none none' other (entry_other other apart)
        (updates.others (slot_in table other) (slot_free other))
        (λ p e. dart_alike labels width places places' neighbours neighbours' values values' _ (linked.others _ (slot_free other) (links_there schema labels width places neighbours values table next spare bound sound _ p e)) (names_same _ p e) (written.others _ (slot_free other) (values_there schema labels width places neighbours values table next spare bound sound _ p e)))
        ∙ sym (get-insert_other (darts_in labels width places neighbours values table) name (free_dart schema.dim name own) other apart)
  ])

  pub slots_with : slots_in places' ≡ map.insert (slots_in places) slot name
  slots_with = same_maps _ _ (λ other. elim (cases_eq other slot) [
    | inl e ↦ rw e (slot_at places' slot (new_place name) updates.changed ∙ sym (get-insert_same (slots_in places) slot name))
    | inr apart ↦ slots_alike places places' other (ap (option_map (λ (p : Place). p.name)) (updates.others other apart)) ∙ sym (get-insert_other (slots_in places) slot name other apart)
  ])

  module _ (next' bound' : ℕ) (next_is : next' ≡ max next (name + 1)) (bound_is : bound' ≡ max bound (slot + 1)) where
    placed_here : IsPlaced labels places' neighbours' (set table name slot) next' bound' slot (new_place name)
    placed_here = record {
      found = entry_here;
      live = subst (All (λ (s : Slot). IsSome (get places' s.at))) (sym linked.here) (All-replicate (λ (s : Slot). IsSome (get places' s.at)) labels (record { at = slot }) (is_some_at _ _ updates.changed));
      below_next = omega (arith, next_is);
      below_bound = omega (arith, bound_is);
      below_capacity = below;
    }

    placed_before : (other : ℕ) (p : Place) → get places other ≡ Some p → IsPlaced labels places' neighbours' (set table name slot) next' bound' other p
    placed_before other p e =
        let was = sound.placed other p e in
        record {
          found = entry_other p.name (name_apart other p e) ∙ was.found;
          live = subst (All (λ (s : Slot). IsSome (get places' s.at))) (sym (linked.others other (was_apart other (is_some_at _ _ e)) (links_there schema labels width places neighbours values table next spare bound sound other p e))) (λ k d h. live _ (was.live k d h));
          below_next = omega (arith, next_is, was.below_next);
          below_bound = omega (arith, bound_is, was.below_bound);
          below_capacity = omega (arith, capacity, was.below_capacity);
        }

    pub sound_with : FitTogether schema labels width places' neighbours' values' (set table name slot) next' (spare - 1) bound'
    sound_with = record {
      sized = sound.sized;
      placed = λ other p e. elim (cases_eq other slot) [
        | inl same ↦
            let is = same_Some (new_place name) p (sym updates.changed ∙ (ap (get places') (sym same) ∙ e)) in
            rw (same, ← is) placed_here
        | inr apart ↦ placed_before other p (sym (updates.others other apart) ∙ e)
      ];
      named = λ other h. elim (cases_eq other name) [
        | inl e ↦ (new_place name, ap (get places') (ap (slot_in (set table name slot)) e ∙ entry_here) ∙ updates.changed, sym e)
        | inr apart ↦
            let entry = entry_other other apart in
            let n = sound.named other (λ no. h (entry ∙ no)) in
            (n.0, ap (get places') entry ∙ (updates.others _ (slot_free other) ∙ n.1), n.2)
      ];
      valued = λ other h. elim (cases_eq other slot) [
        | inl e ↦ rw e (subst (AreGoodValues schema) (sym written.here) kinds)
        | inr apart ↦
            let was : IsSome (get places other) = rw (updates.others other apart) at h in
            let p : (p : Place) × (get places other ≡ Some p) = some_of _ was in
            subst (AreGoodValues schema) (sym (written.others other apart (values_there schema labels width places neighbours values table next spare bound sound other p.0 p.1))) (sound.valued other was)
      ];
      fits = rw capacity sound.fits;
      linked = reached bound bound' slot labels (length neighbours) (length neighbours') sound.linked linked.long links_reach bound_is;
      long = reached bound bound' slot width (length values) (length values') sound.long written.long values_reach bound_is;
      room = omega (arith, more, capacity, sound.room, some_room);
      counted =
          let added = ap map.len darts_with ∙ len-insert_new (darts_in labels width places neighbours values table) name (free_dart schema.dim name own) new_name in
          more ∙ (ap (λ n. n + 1) sound.counted ∙ sym added);
      few_darts = omega (arith, more, sound.few_darts, some_room);
      few_names = omega (arith, next_is, reserved, sound.few_names, sound.few_reserved);
      few_reserved = rw length-set sound.few_reserved;
    }

    pub map_with : map_of schema labels width places' neighbours' values' (set table name slot) next' (spare - 1) bound'
        ≡ with_dart (map_of schema labels width places neighbours values table next spare bound) slot name own
    map_with =
        let m = map_of schema labels width places neighbours values table next (spare - 1) bound in
        λ i. record m { darts = darts_with i; slots = slots_with i; count = more i; next = next_is i; reserved = length-set table name slot i; bound = bound_is i }
