-- More room: the same darts are at the same slots, and the arena stays sound.
use Rattle.std.proofs.Common.{◌≡◌, ℕ, ◌+◌, ◌-◌, ◌*◌, ◌<◌, ◌≤◌, List, ◌++◌, get_or, length, replicate, None, refl, sym, ap, ◌∙◌, inl, inr}
use Rattle.std.specs.Option.{IsSome}
use Rattle.std.specs.FinMap as map
use Rattle.std.proofs.lemmas.Bool.{cases_lt}
use Rattle.std.proofs.lemmas.List.{get_or_append_left, get_or-append_right, get_or-replicate, get_or_past, length-replicate}
use Rattle.slab.specs.Slab.{Slab, get, slab_len, HasRoomFor}
use Rattle.gm_model.specs.declared.schema.Schema.{Schema}
use Rattle.gm_model.specs.declared.value.Value.{Value}
use Rattle.gm_arena.specs.declared.slot.Slot.{Slot}
use Rattle.gm_arena.specs.declared.arena.Place.{Place}
use Rattle.gm_arena.specs.inner.Inside.{no_slot, slot_in, darts_in, slots_in, map_of, FitTogether}
use Rattle.gm_arena.proofs.FilledLemmas.{same_maps}
use Rattle.gm_arena.proofs.InsideLemmas.{nowhere, live_place, is_some_at, links_there, values_there}
use Rattle.gm_arena.proofs.ChangeLemmas.{name_alike, dart_alike, other_dart}

-- a table that only grew
entry_padded : (table : List ℕ) (more name : ℕ) → slot_in (table ++ replicate more no_slot) name ≡ slot_in table name
entry_padded table more name = elim (cases_lt name (length table)) [
  | inl l ↦ get_or_append_left table (replicate more no_slot) no_slot name l
  | inr l ↦ get_or-append_right table (replicate more no_slot) (length table) name no_slot refl l
      ∙ (padding more (name - length table) ∙ sym (get_or_past table name no_slot l))
]
  where
    padding : (count at : ℕ) → get_or (replicate count no_slot) at no_slot ≡ no_slot
    padding count at = elim (cases_lt at count) [
      | inl l ↦ get_or-replicate count at no_slot no_slot l
      | inr l ↦ get_or_past (replicate count no_slot) at no_slot (rw length-replicate l)
    ]

pub entries_padded : (table table' : List ℕ) (more : ℕ) → table' ≡ table ++ replicate more no_slot → (name : ℕ) → slot_in table' name ≡ slot_in table name
entries_padded table table' more e name = rw e (entry_padded table more name)

-- the neighbours of a live slot are there
pub links_within : (schema : Schema) (labels width : ℕ) (places : Slab Place) (neighbours : List Slot) (values : List Value) (table : List ℕ) (next spare bound : ℕ) → FitTogether schema labels width places neighbours values table next spare bound
    → (slot : ℕ) → IsSome (map.get (slots_in places) slot) → slot * labels + labels ≤ length neighbours
links_within schema labels width places neighbours values table next spare bound sound slot h =
    let p = live_place places slot h in
    links_there schema labels width places neighbours values table next spare bound sound slot p.0 p.1

-- and its values
pub values_within : (schema : Schema) (labels width : ℕ) (places : Slab Place) (neighbours : List Slot) (values : List Value) (table : List ℕ) (next spare bound : ℕ) → FitTogether schema labels width places neighbours values table next spare bound
    → (slot : ℕ) → IsSome (map.get (slots_in places) slot) → slot * width + width ≤ length values
values_within schema labels width places neighbours values table next spare bound sound slot h =
    let p = live_place places slot h in
    values_there schema labels width places neighbours values table next spare bound sound slot p.0 p.1

module _ (schema : Schema) (labels width : ℕ) (places : Slab Place) (neighbours : List Slot) (values : List Value) (table : List ℕ) (next spare bound : ℕ) (sound : FitTogether schema labels width places neighbours values table next spare bound)
    (places' : Slab Place) (table' : List ℕ) (slots : places'.slots ≡ places.slots) (entries : (name : ℕ) → slot_in table' name ≡ slot_in table name) where
  same : (slot : ℕ) → get places' slot ≡ get places slot
  same slot = ap (λ xs. get_or xs slot None) slots

  none : get places no_slot ≡ None
  none = nowhere schema labels width places neighbours values table next spare bound sound

  pub darts_same : darts_in labels width places' neighbours values table' ≡ darts_in labels width places neighbours values table
  darts_same = same_maps _ _ (λ name.
      other_dart labels width places places' neighbours neighbours values values table table' none (same no_slot ∙ none) name (entries name) (same (slot_in table name))
      (λ p e. dart_alike labels width places places' neighbours neighbours values values (slot_in table name) refl (λ k d h. name_alike places places' _ (same _)) refl))

  pub slots_same : slots_in places' ≡ slots_in places
  slots_same = λ i. slots_in (record places { slots = slots i })

  pub count_same : slab_len places' ≡ slab_len places
  count_same = λ i. slab_len (record places { slots = slots i })

  pub sound_more : (spare' : ℕ) → ((slot : ℕ) → IsSome (get places slot) → slot < places'.capacity) → places'.capacity ≤ no_slot
      → HasRoomFor places' spare' → slab_len places + spare' ≤ 1048576 → length table' ≤ 16777216
      → FitTogether schema labels width places' neighbours values table' next spare' bound
  sound_more spare' keys fits room few_darts few_reserved = record {
    sized = sound.sized;
    placed = λ slot p e.
        let was = sound.placed slot p (sym (same slot) ∙ e) in
        record {
          found = entries p.name ∙ was.found;
          live = λ k d h. rw (same _) (was.live k d h);
          below_next = was.below_next;
          below_bound = was.below_bound;
          below_capacity = keys slot (is_some_at _ p (sym (same slot) ∙ e));
        };
    named = λ name h.
        let n = sound.named name (λ e. h (entries name ∙ e)) in
        (n.0, ap (get places') (entries name) ∙ (same _ ∙ n.1), n.2);
    valued = λ slot h.
        let was : IsSome (get places slot) = rw (same slot) at h in
        sound.valued slot was;
    fits = fits;
    linked = sound.linked;
    long = sound.long;
    room = room;
    counted = count_same ∙ (sound.counted ∙ sym (ap map.len darts_same));
    few_darts = rw count_same few_darts;
    few_names = sound.few_names;
    few_reserved = few_reserved;
  }

  pub map_more : (spare' : ℕ) → map_of schema labels width places' neighbours values table' next spare' bound ≡ record (map_of schema labels width places neighbours values table next spare bound) { spare = spare'; reserved = length table' }
  map_more spare' =
      let m = map_of schema labels width places' neighbours values table' next spare' bound in
      λ i. record m { darts = darts_same i; slots = slots_same i; count = count_same i }
