-- What a sound arena has inside: its darts and slots by look-up, and that its map is lawful.
use Rattle.std.proofs.Common.{◌≡◌, ◌≢◌, ℕ, ◌+◌, ◌*◌, ◌<◌, ◌≤◌, List, get_or, map, drop, length, pos, Option, Some, None, refl, sym, ap, subst, ◌∙◌, inl, inr, arith, All, length-drop, get_or-drop}
use Rattle.std.specs.Option.{option_map, option_map_or, IsSome, unwrap_or}
use Rattle.std.specs.FinMap as map
use Rattle.std.proofs.lemmas.List.{get_or_default, get_or-map, get_or_past, length-map, length-take-le, get_or-take}
use Rattle.std.proofs.lemmas.List.Elements.{All-map, All-weaker}
use Rattle.std.proofs.lemmas.Bool.{cases_lt}
use Rattle.std.proofs.lemmas.Nat.{mul-le}
use Rattle.std.proofs.lemmas.Option.{none-some, same_Some}
use Rattle.slab.specs.Slab.{Slab, get}
use Rattle.gm_model.specs.declared.schema.Schema.{Schema}
use Rattle.gm_model.specs.declared.value.Value.{Value}
use Rattle.gm_model.specs.declared.value.Value.TheVariants.{Int}
use Rattle.gm_arena.specs.declared.slot.Slot.{Slot}
use Rattle.gm_arena.specs.declared.arena.Place.{Place}
use Rattle.gm_arena.specs.inner.ArenaAsMap.{value}
use Rattle.gm_arena.specs.inner.ArenaMap.{Dart, IsLiveName, name_at, alpha}
use Rattle.gm_arena.specs.inner.Lawful.{IsLawful, IsLawfulDart, AreGoodValues}
use Rattle.gm_arena.specs.inner.Inside.{no_slot, slot_in, name_in, dart_in, darts_in, slots_in, map_of, FitTogether}
use Rattle.gm_arena.specs.inner.Parts.{part_of}
use Rattle.gm_arena.proofs.FilledLemmas.{get-filled}
use Rattle.gm_arena.proofs.ValueLemmas.{stretch}

pub some_of : {A : Type 0} (o : Option A) → IsSome o → (x : A) × (o ≡ Some x)
some_of None h = absurd (cc)
some_of (Some x) h = (x, refl)

pub is_some_at : {A : Type 0} (o : Option A) (x : A) → o ≡ Some x → IsSome o
is_some_at o x e = rw e refl

-- what a mapped option comes from
pub some_from_map : {A B : Type 0} (f : A → B) (o : Option A) (y : B) → option_map f o ≡ Some y → (x : A) × (o ≡ Some x) × (y ≡ f x)
some_from_map f None y e = absurd (none-some y e)
some_from_map f (Some x) y e = (x, refl, sym (same_Some (f x) y e))

pub none_of : {A : Type 0} (o : Option A) → (IsSome o → ⊥) → o ≡ None
none_of None h = refl
none_of (Some x) h = absurd (h refl)

-- the name of the dart at a slot
pub get-slots : (places : Slab Place) (slot : ℕ) → map.get (slots_in places) slot ≡ option_map (λ (p : Place). p.name) (get places slot)
get-slots places slot = get-filled _ slot ∙ elim (cases_lt slot (length places.slots)) [
  | inl l ↦ get_or-map (option_map (λ (p : Place). p.name)) places.slots slot None None l
  | inr l ↦ get_or_past _ slot None (rw length-map l) ∙ sym (ap (option_map (λ (p : Place). p.name)) (get_or_past places.slots slot None l))
]

-- that name, and nothing at a slot that is not live
pub name_in-get : (places : Slab Place) (slot : ℕ) (place : Place) → get places slot ≡ Some place → name_in places slot ≡ place.name
name_in-get places slot place e = rw e refl

pub slot_at : (places : Slab Place) (slot : ℕ) (place : Place) → get places slot ≡ Some place → map.get (slots_in places) slot ≡ Some place.name
slot_at places slot place e = get-slots places slot ∙ rw e refl

pub place_at : (places : Slab Place) (slot name : ℕ) → map.get (slots_in places) slot ≡ Some name → (place : Place) × (get places slot ≡ Some place) × (name ≡ place.name)
place_at places slot name e = some_from_map _ (get places slot) name (sym (get-slots places slot) ∙ e)

pub live_place : (places : Slab Place) (slot : ℕ) → IsSome (map.get (slots_in places) slot) → (place : Place) × (get places slot ≡ Some place)
live_place places slot h =
    let name = some_of _ h in
    let place = place_at places slot name.0 name.1 in
    (place.0, place.1)

-- a slot that the map has is a key of the slab, and the other way round
pub key_at : (places : Slab Place) (slot : ℕ) → IsSome (map.get (slots_in places) slot) → IsSome (get places slot)
key_at places slot h = let p = live_place places slot h in is_some_at _ p.0 p.1

pub live_at : (places : Slab Place) (slot : ℕ) → IsSome (get places slot) → IsSome (map.get (slots_in places) slot)
live_at places slot h = let p = some_of _ h in is_some_at _ _ (slot_at places slot p.0 p.1)

pub none_at : (places : Slab Place) (slot : ℕ) → get places slot ≡ None → map.get (slots_in places) slot ≡ None
none_at places slot e = get-slots places slot ∙ rw e refl

pub name_at_in : (places : Slab Place) (slot : ℕ) → unwrap_or (map.get (slots_in places) slot) 0 ≡ name_in places slot
name_at_in places slot = ap (λ o. unwrap_or o 0) (get-slots places slot) ∙ unwrapped (get places slot)
  where
    unwrapped : (o : Option Place) → unwrap_or (option_map (λ (p : Place). p.name) o) 0 ≡ option_map_or (λ (p : Place). p.name) o 0
    unwrapped None = refl
    unwrapped (Some p) = refl

-- a slot below the bound has its whole part of a list that is long enough
pub part_long : {A : Type 0} (width : ℕ) (items : List A) (bound slot : ℕ) → slot < bound → bound * width ≤ length items → length (part_of width items slot) ≡ width
part_long width items bound slot below long =
    let fits = mul-le (slot + 1) width bound width (omega arith) (omega arith) in
    length-take-le width (drop (slot * width) items) (omega (arith, fits, long, length-drop (slot * width) items))

-- where no key is that of no slot, a name's dart is the one that the table leads to
pub darts_get : (labels width : ℕ) (places : Slab Place) (neighbours : List Slot) (values : List Value) (table : List ℕ) → get places no_slot ≡ None → (name : ℕ) → map.get (darts_in labels width places neighbours values table) name ≡ option_map (λ (p : Place). dart_in labels width places neighbours values (slot_in table name)) (get places (slot_in table name))
darts_get labels width places neighbours values table nowhere name =
    let f = λ (slot : ℕ). option_map (λ (p : Place). dart_in labels width places neighbours values slot) (get places slot) in
    get-filled _ name ∙ elim (cases_lt name (length table)) [
      | inl l ↦ get_or-map f table name no_slot None l
      | inr l ↦ get_or_past _ name None (rw length-map l) ∙ sym (ap f (get_or_past table name no_slot l) ∙ ap (option_map (λ (p : Place). dart_in labels width places neighbours values no_slot)) nowhere)
    ]

module _ (schema : Schema) (labels width : ℕ) (places : Slab Place) (neighbours : List Slot) (values : List Value) (table : List ℕ) (next spare bound : ℕ) (sound : FitTogether schema labels width places neighbours values table next spare bound) where
  pub nowhere : get places no_slot ≡ None
  nowhere = none_of _ (λ h.
      let place : (p : Place) × (get places no_slot ≡ Some p) = some_of _ h in
      absurd (omega (arith, (sound.placed no_slot place.0 place.1).below_capacity, sound.fits)))

  -- the neighbours of a key are there
  pub links_there : (slot : ℕ) (place : Place) → get places slot ≡ Some place → slot * labels + labels ≤ length neighbours
  links_there slot place e = stretch slot bound labels (length neighbours) (sound.placed slot place e).below_bound sound.linked

  -- and its values
  pub values_there : (slot : ℕ) (place : Place) → get places slot ≡ Some place → slot * width + width ≤ length values
  values_there slot place e = stretch slot bound width (length values) (sound.placed slot place e).below_bound sound.long

  -- a name's dart is the one that the table leads to
  pub get-darts : (name : ℕ) → map.get (darts_in labels width places neighbours values table) name ≡ option_map (λ (p : Place). dart_in labels width places neighbours values (slot_in table name)) (get places (slot_in table name))
  get-darts name = darts_get labels width places neighbours values table nowhere name

  -- the dart of the place at a slot
  pub dart_at : (slot : ℕ) (place : Place) → get places slot ≡ Some place → map.get (darts_in labels width places neighbours values table) place.name ≡ Some (dart_in labels width places neighbours values slot)
  dart_at slot place e =
      get-darts place.name ∙ ap (λ s. option_map (λ (p : Place). dart_in labels width places neighbours values s) (get places s)) (sound.placed slot place e).found ∙ ap (option_map (λ (p : Place). dart_in labels width places neighbours values slot)) e

  -- the place of a live dart
  pub record Held (name : ℕ) (dart : Dart) : Type 0 where
    pub slot : ℕ
    pub place : Place
    pub here : get places slot ≡ Some place
    pub same : place.name ≡ name
    pub is : dart ≡ dart_in labels width places neighbours values slot
    pub entry : slot_in table name ≡ slot

  pub held : (name : ℕ) (dart : Dart) → map.get (darts_in labels width places neighbours values table) name ≡ Some dart → Held name dart
  held name dart e =
      let slot = slot_in table name in
      let found = some_from_map (λ (p : Place). dart_in labels width places neighbours values slot) (get places slot) dart (sym (get-darts name) ∙ e) in
      let somewhere : slot ≢ no_slot = λ n. none-some found.0 (sym (ap (get places) n ∙ nowhere) ∙ found.1) in
      let named = sound.named name somewhere in
      record {
        slot = slot;
        place = found.0;
        here = found.1;
        is = found.2;
        entry = refl;
        same = ap (λ (p : Place). p.name) (same_Some found.0 named.0 (sym found.1 ∙ named.1)) ∙ named.2;
      }

  live_name : (slot : ℕ) → IsSome (get places slot) → IsSome (map.get (darts_in labels width places neighbours values table) (name_in places slot))
  live_name slot h =
      let place = some_of _ h in
      let e = dart_at slot place.0 place.1 in
      rw (name_in-get places slot place.0 place.1) (is_some_at _ _ e)

  lawful_dart : (name : ℕ) (dart : Dart) → map.get (darts_in labels width places neighbours values table) name ≡ Some dart → IsLawfulDart (map_of schema labels width places neighbours values table next spare bound) name dart
  lawful_dart name dart e =
      let IsLive = IsLiveName (map_of schema labels width places neighbours values table next spare bound) in
      let h = held name dart e in
      let placed = sound.placed h.slot h.place h.here in
      record {
        whole = ap (λ (d : Dart). length d.alphas) h.is ∙ (length-map _ _ ∙ (part_long labels neighbours bound h.slot placed.below_bound sound.linked ∙ sound.sized.one_each));
        neighbours = subst (λ (d : Dart). All IsLive d.alphas) (sym h.is)
            (All-map IsLive (λ (s : Slot). name_in places s.at) (part_of labels neighbours h.slot) (All-weaker _ _ (λ s live. live_name s.at live) _ placed.live));
        valued = subst (λ (d : Dart). AreGoodValues schema d.values) (sym h.is) (sound.valued h.slot (is_some_at _ _ h.here));
        below_next = subst (λ n. n < next) h.same placed.below_next;
        below_reserved = elim (cases_lt name (length table)) [
          | inl l ↦ l
          | inr l ↦ absurd (none-some h.place (sym nowhere ∙ (ap (get places) (sym (get_or_past table name no_slot l) ∙ h.entry) ∙ h.here)))
        ];
        slot = h.slot;
        at = slot_at places h.slot h.place h.here ∙ ap Some h.same;
      }

  pub lawful : IsLawful (map_of schema labels width places neighbours values table next spare bound)
  lawful = record {
    dart = lawful_dart;
    live = λ slot name at. let p = place_at places slot name at in rw p.2 (is_some_at _ _ (dart_at slot p.0 p.1));
    one_slot = λ slot other name at also.
        let p = place_at places slot name at in
        let q = place_at places other name also in
        sym (sound.placed other q.0 q.1).found ∙ (ap (slot_in table) (sym q.2 ∙ p.2) ∙ (sound.placed slot p.0 p.1).found);
    below_bound = λ slot name at. let p = place_at places slot name at in (sound.placed slot p.0 p.1).below_bound;
    counted = sound.counted;
    few_darts = sound.few_darts;
    few_names = sound.few_names;
    few_reserved = sound.few_reserved;
    dim = (omega (arith, sound.sized.several, sound.sized.one_each), omega (arith, sound.sized.few, sound.sized.one_each));
    schema = sound.sized.lawful;
  }

  -- the neighbour that a slot has is the neighbour by name
  pub alpha_at : (slot : ℕ) (place : Place) (label : ℕ) (other : Slot) → get places slot ≡ Some place → label < labels → map.get (slots_in places) (get_or neighbours (slot * labels + label) other).at ≡ Some (alpha (map_of schema labels width places neighbours values table next spare bound) label (name_at (map_of schema labels width places neighbours values table next spare bound) slot))
  alpha_at slot place label other e h =
      let placed = sound.placed slot place e in
      let front = part_of labels neighbours slot in
      let long : label < length front = rw (part_long labels neighbours bound slot placed.below_bound sound.linked) h in
      let same : get_or front label other ≡ get_or neighbours (slot * labels + label) other =
      get_or-take labels (drop (slot * labels) neighbours) label other h ∙ get_or-drop (slot * labels) neighbours label other in
      let to : (p : Place) × (get places (get_or front label other).at ≡ Some p) = some_of _ (placed.live label other long) in
      let here = ap (λ (s : Slot). get places s.at) (sym same) ∙ to.1 in
      let read = get_or-map (λ (s : Slot). name_in places s.at) front label other place.name long in
      slot_at places _ to.0 here
      ∙ sym (ap Some (ap (alpha (map_of schema labels width places neighbours values table next spare bound) label) (name_at_in places slot ∙ name_in-get places slot place e)
      ∙ (ap (λ o. option_map_or (λ (dart : Dart). get_or dart.alphas label place.name) o place.name) (dart_at slot place e)
      ∙ (read ∙ name_in-get places _ to.0 to.1))))

  -- the value that a slot has is the value by name
  pub value_at : (slot : ℕ) (place : Place) (e : ℕ) (other : Value) → get places slot ≡ Some place → e < width → get_or values (slot * width + e) other ≡ value (map_of schema labels width places neighbours values table next spare bound) e (name_at (map_of schema labels width places neighbours values table next spare bound) slot)
  value_at slot place e other at h =
      let front = part_of width values slot in
      let long : e < length front = rw (part_long width values bound slot (sound.placed slot place at).below_bound sound.long) h in
      sym (get_or-take width (drop (slot * width) values) e other h ∙ get_or-drop (slot * width) values e other)
      ∙ get_or_default front e other (Int (pos 0)) long
      ∙ sym (ap (value (map_of schema labels width places neighbours values table next spare bound) e) (name_at_in places slot ∙ name_in-get places slot place at)
      ∙ ap (λ o. option_map_or (λ (dart : Dart). get_or dart.values e (Int (pos 0))) o (Int (pos 0))) (dart_at slot place at))

  -- the dart that is lent
  pub row_at : (slot : ℕ) (place : Place) → get places slot ≡ Some place → map.get (darts_in labels width places neighbours values table) place.name ≡ Some (record { alphas = map (λ (s : Slot). unwrap_or (map.get (slots_in places) s.at) 0) (part_of labels neighbours slot); values = part_of width values slot })
  row_at slot place e = dart_at slot place e ∙ sym (λ i. Some (record { alphas = map (λ (s : Slot). name_at_in places s.at i) (part_of labels neighbours slot); values = part_of width values slot }))

  -- what the table says of a name
  pub slot_named : (name slot : ℕ) → slot_in table name ≡ slot → slot ≢ no_slot → map.get (slots_in places) slot ≡ Some name
  slot_named name slot e h =
      let named = sound.named name (λ n. h (sym e ∙ n)) in
      ap (map.get (slots_in places)) (sym e) ∙ (slot_at places _ named.0 named.1 ∙ ap Some named.2)

  pub no_dart : (name : ℕ) → slot_in table name ≡ no_slot → map.get (darts_in labels width places neighbours values table) name ≡ None
  no_dart name e = get-darts name ∙ (ap (λ s. option_map (λ (p : Place). dart_in labels width places neighbours values s) (get places s)) e ∙ ap (option_map (λ (p : Place). dart_in labels width places neighbours values no_slot)) nowhere)

  -- the table has an entry for each live name
  pub name_within : (slot : ℕ) (place : Place) → get places slot ≡ Some place → place.name < length table
  name_within slot place e =
      let p = sound.placed slot place e in
      elim (cases_lt place.name (length table)) [
        | inl l ↦ l
        | inr l ↦
            let past : slot ≡ no_slot = sym p.found ∙ get_or_past table place.name no_slot l in
            absurd (omega (arith, p.below_capacity, sound.fits))
      ]

  -- two slots have two names
  pub apart_names : (slot other : ℕ) (place also : Place) → get places slot ≡ Some place → get places other ≡ Some also → other ≢ slot → also.name ≢ place.name
  apart_names slot other place also e f apart same =
      apart (sym (sound.placed other also f).found ∙ (ap (slot_in table) same ∙ (sound.placed slot place e).found))

  -- with another number above every name
  pub sound_next : (next' : ℕ) → ((name : ℕ) → IsSome (map.get (darts_in labels width places neighbours values table) name) → name < next') → next' ≤ 16777216 → FitTogether schema labels width places neighbours values table next' spare bound
  sound_next next' above limit = record {
    placed = λ slot place e.
        let p = sound.placed slot place e in
        record {
          found = p.found;
          live = p.live;
          below_next = above place.name (is_some_at _ _ (dart_at slot place e));
          below_bound = p.below_bound;
          below_capacity = p.below_capacity;
        };
    sized = sound.sized;
    named = sound.named;
    valued = sound.valued;
    fits = sound.fits;
    linked = sound.linked;
    long = sound.long;
    room = sound.room;
    counted = sound.counted;
    few_darts = sound.few_darts;
    few_names = limit;
    few_reserved = sound.few_reserved;
  }
