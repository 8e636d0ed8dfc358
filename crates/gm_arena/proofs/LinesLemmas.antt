-- An arena that was made of lines: it is sound, and holds what they say.
use Rattle.std.proofs.Common.{◌≡◌, ℕ, true, zero, suc, ◌+◌, ◌*◌, ◌/◌, ◌<◌, ◌≤◌, List, [], ◌∷◌, ◌++◌, get_or, take, drop, map, length, Option, Some, None, refl, sym, ap, ap₂, subst, ◌∙◌, All, inl, inr, arith}
use Rattle.std.specs.Option.{option_map, IsSome}
use Rattle.std.specs.FinMap as map
use Rattle.std.specs.List.{range_with_len}
use Rattle.std.proofs.Math.Nat.{div-eq_of_lt, div-mul-le_self, mul_comm}
use Rattle.std.proofs.lemmas.Bool.{cases_lt, false≢true}
use Rattle.std.proofs.lemmas.List.{length-map, length-append, length-drop, length-take-le, get_or_past, take_at, drop_at}
use Rattle.std.proofs.lemmas.Option.{none-some, same_Some}
use Rattle.std.proofs.lemmas.List.Elements.{All-head, All-tail, All-drop, All-take, All-map, All-weaker}
use Rattle.std.proofs.lemmas.List.FromFn.{get_or-range_with_len, length-range_with_len}
use Rattle.slab.specs.Slab.{Slab, get, slab_len, entries_from}
use Rattle.gm_model.specs.Limits.{most_darts}
use Rattle.gm_model.specs.Maps.{IsSchema}
use Rattle.gm_model.specs.declared.schema.Schema.{Schema}
use Rattle.gm_model.specs.declared.value.Value.{Value}
use Rattle.gm_arena.specs.declared.slot.Slot.{Slot}
use Rattle.gm_arena.specs.declared.arena.Place.{Place}
use Rattle.gm_arena.specs.inner.Lines.{line_count, neighbours_on, values_on, AreLines, HoldsLines}
use Rattle.gm_arena.specs.inner.Filled.{filled}
use Rattle.gm_arena.specs.inner.Inside.{no_slot, slot_in, name_in, slot_numbered, links_in, dart_in, darts_in, map_of, AreNumbered, AreNamesSlots, IsPlaced, FitTogether}
use Rattle.gm_arena.specs.inner.Parts.{part_of}
use Rattle.gm_arena.proofs.FilledLemmas.{get-filled, keys-filled}
use Rattle.gm_arena.proofs.InsideLemmas.{darts_get, slot_at, none_at, name_in-get, is_some_at, some_of}
use Rattle.gm_arena.proofs.PartLemmas.{parts_more, drop_one_before}

-- ---- lines of a list

-- a line is cut off in front
pub links_more : (labels : ℕ) (line rest : List ℕ) → length line ≡ labels + 1
    → links_in labels (length (line ++ rest) / (labels + 1)) (line ++ rest) ≡ map slot_numbered (drop 1 line) ++ links_in labels (length rest / (labels + 1)) rest
links_more labels line rest long =
    ap (λ k. links_in labels k (line ++ rest)) (parts_more (labels + 1) line rest (omega arith) long)
    ∙ ap₂ (λ l r. map slot_numbered (drop 1 l) ++ links_in labels (length rest / (labels + 1)) r) (take_at line rest (labels + 1) long) (drop_at line rest (labels + 1) long)

-- and is one of them
pub lines_more : (labels : ℕ) (line rest : List ℕ) → length line ≡ labels + 1 → length (line ++ rest) / (labels + 1) * labels ≡ labels + length rest / (labels + 1) * labels
lines_more labels line rest long = ap (λ k. k * labels) (parts_more (labels + 1) line rest (omega arith) long) ∙ omega arith

pub links_none : (labels : ℕ) (rest : List ℕ) → length rest < labels + 1 → links_in labels (length rest / (labels + 1)) rest ≡ []
links_none labels rest short = ap (λ k. links_in labels k rest) (div-eq_of_lt {n = length rest} {m = labels + 1} short)

-- the neighbours on a line are as many as the labels
length-line : (labels : ℕ) (lines : List ℕ) → labels + 1 ≤ length lines → length (map slot_numbered (drop 1 (take (labels + 1) lines))) ≡ labels
length-line labels lines long = omega (arith, length-map (drop 1 (take (labels + 1) lines)) slot_numbered, length-drop 1 (take (labels + 1) lines), length-take-le (labels + 1) lines long)

pub length-links : (labels count : ℕ) (lines : List ℕ) → count * (labels + 1) ≤ length lines → length (links_in labels count lines) ≡ count * labels
length-links labels zero lines fits = omega arith
length-links labels (suc count) lines fits =
    let line = map slot_numbered (drop 1 (take (labels + 1) lines)) in
    omega (arith, length-append line (links_in labels count (drop (labels + 1) lines)), length-line labels lines (omega (arith, fits)), length-links labels count (drop (labels + 1) lines) (omega (arith, fits, length-drop (labels + 1) lines)))

first : {A : Type 0} (size : ℕ) (xs : List A) → part_of size xs 0 ≡ take size xs
first size xs = let start : 0 * size ≡ 0 = omega arith in ap (λ k. take size (drop k xs)) start

-- the part of a slot is what stands on its line
links_part : (labels count : ℕ) (lines : List ℕ) → count * (labels + 1) ≤ length lines → (at : ℕ) → at < count → part_of labels (links_in labels count lines) at ≡ map slot_numbered (drop 1 (part_of (labels + 1) lines at))
links_part labels zero lines fits at below = absurd (omega (arith, below))
links_part labels (suc count) lines fits zero below =
    let line = map slot_numbered (drop 1 (take (labels + 1) lines)) in
    let rest = links_in labels count (drop (labels + 1) lines) in
    let long = length-line labels lines (omega (arith, fits)) in
    first labels (line ++ rest) ∙ (take_at line rest labels long ∙ ap (λ xs. map slot_numbered (drop 1 xs)) (sym (first (labels + 1) lines)))
links_part labels (suc count) lines fits (suc at) below =
    let line = map slot_numbered (drop 1 (take (labels + 1) lines)) in
    let rest = links_in labels count (drop (labels + 1) lines) in
    let long = length-line labels lines (omega (arith, fits)) in
    ap (take labels) (sym (drop_one_before labels at (line ++ rest)) ∙ ap (drop (at * labels)) (drop_at line rest labels long))
    ∙ (links_part labels count (drop (labels + 1) lines) (omega (arith, fits, length-drop (labels + 1) lines)) at (omega (arith, below))
    ∙ ap (λ xs. map slot_numbered (drop 1 (take (labels + 1) xs))) (drop_one_before (labels + 1) at lines))

-- ---- as many entries as a list of which none is empty

length-entries : {X : Type 0} (first : ℕ) (xs : List (Option X)) → ((at : ℕ) → at < length xs → IsSome (get_or xs at None)) → length (entries_from first xs) ≡ length xs
length-entries first [] all = refl
length-entries first (None ∷ xs) all = absurd (false≢true (all 0 (omega arith)))
length-entries first (Some x ∷ xs) all = ap suc (length-entries (first + 1) xs (λ at below. all (suc at) (omega (arith, below))))

-- ---- how many lines there are, by the numbers that the code reads

module _ (schema : Schema) (lines : List ℕ) (top len : ℕ) (top_is : top ≡ schema.dim) (len_is : len ≡ length lines) where
  counted_lines : len / (top + 1 + 1) ≡ line_count schema lines
  counted_lines =
      let size : top + 1 + 1 ≡ schema.dim + 2 = omega (arith, top_is) in
      ap₂ (λ n k. n / k) len_is size

  pub few_lines : line_count schema lines ≤ most_darts → len / (top + 1 + 1) ≤ most_darts
  few_lines few = rw counted_lines few

  steps_lines : len / (top + 1 + 1) * (2 * (top + 1) + 2) ≡ (2 * schema.dim + 4) * line_count schema lines
  steps_lines =
      let each : 2 * (top + 1) + 2 ≡ 2 * schema.dim + 4 = omega (arith, top_is) in
      ap₂ (λ n k. n * k) counted_lines each ∙ mul_comm (line_count schema lines) (2 * schema.dim + 4)

  pub cost_lines : (old new : ℕ) → new ≡ old + len / (top + 1 + 1) * (2 * (top + 1) + 2) → new ≡ old + (2 * schema.dim + 4) * line_count schema lines
  cost_lines old new e = e ∙ ap (λ k. old + k) steps_lines

-- ---- the arena

module _ (schema : Schema) (lawful : IsSchema schema) (some : 0 < schema.dim) (few : schema.dim ≤ 7) (lines : List ℕ) (values : List Value) (are : AreLines schema lines values)
    (places : Slab Place) (numbered : AreNumbered (line_count schema lines) places) (full : slab_len places ≡ line_count schema lines) (fits : places.capacity ≤ no_slot) (room : line_count schema lines ≤ places.capacity) where
  abbrev labels : ℕ
  labels = schema.dim + 1

  abbrev width : ℕ
  width = length schema.embeds

  abbrev count : ℕ
  count = line_count schema lines

  abbrev IsKey : Slot → Type 0
  IsKey s = IsSome (get places s.at)

  live : (name : ℕ) → name < count → IsSome (get places name)
  live name below = is_some_at _ _ (numbered.here name below)

  -- a place stands below the count, with its own number
  own : (slot : ℕ) (place : Place) → get places slot ≡ Some place → (slot < count) × (place.name ≡ slot)
  own slot place e = elim (cases_lt slot count) [
    | inl l ↦ (l, ap (λ (p : Place). p.name) (same_Some place (record { name = slot }) (sym e ∙ numbered.here slot l)))
    | inr l ↦ absurd (none-some place (sym (numbered.none slot l) ∙ e))
  ]

  abbrev names : List ℕ
  names = range_with_len 0 count

  found : (name : ℕ) → name < count → slot_in names name ≡ name
  found name below = get_or-range_with_len 0 count name no_slot below ∙ omega arith

  lost : (name : ℕ) → count ≤ name → slot_in names name ≡ no_slot
  lost name above = get_or_past names name no_slot (rw (length-range_with_len 0 count) above)

  -- the neighbours on a line are names of darts
  within : (at : ℕ) → All (λ name. name < count) (neighbours_on schema lines at)
  within at = All-drop (λ name. name < count) 1 (part_of (schema.dim + 2) lines at) (All-take (λ name. name < count) (schema.dim + 2) (drop (at * (schema.dim + 2)) lines) (All-drop (λ name. name < count) (at * (schema.dim + 2)) lines are.within))

  module _ (links : List Slot) (linked : links ≡ links_in labels count lines) where
    links_fit : count * (labels + 1) ≤ length lines
    links_fit = rw size (div-mul-le_self (length lines) (schema.dim + 2))
      where
        size : labels + 1 ≡ schema.dim + 2
        size = omega arith

    on_line : (at : ℕ) → at < count → part_of labels links at ≡ map slot_numbered (neighbours_on schema lines at)
    on_line at below =
        ap (λ xs. part_of labels xs at) linked
        ∙ (links_part labels count lines links_fit at below
        ∙ ap (λ k. map slot_numbered (drop 1 (part_of k lines at))) size)
      where
        size : labels + 1 ≡ schema.dim + 2
        size = omega arith

    long_links : length links ≡ count * labels
    long_links = ap length linked ∙ length-links labels count lines links_fit

    names_of : (xs : List ℕ) → All (λ name. name < count) xs → map (λ (s : Slot). name_in places s.at) (map slot_numbered xs) ≡ xs
    names_of [] all = refl
    names_of (name ∷ more) all =
        let here = name_in-get places name (record { name = name }) (numbered.here name (All-head (λ name. name < count) name more all)) in
        λ i. here i ∷ names_of more (All-tail (λ name. name < count) name more all) i

    nowhere : get places no_slot ≡ None
    nowhere = numbered.none no_slot (omega (arith, fits, room))

    -- the dart of each name
    dart_of_line : (name : ℕ) → name < count → map.get (darts_in labels width places links values names) name ≡ Some (record { alphas = neighbours_on schema lines name; values = values_on schema values name })
    dart_of_line name below =
        darts_get labels width places links values names nowhere name
        ∙ (ap (λ s. option_map (λ (p : Place). dart_in labels width places links values s) (get places s)) (found name below)
        ∙ (ap (option_map (λ (p : Place). dart_in labels width places links values name)) (numbered.here name below)
        ∙ ap (λ xs. Some (record { alphas = xs; values = values_on schema values name })) (ap (map (λ (s : Slot). name_in places s.at)) (on_line name below) ∙ names_of (neighbours_on schema lines name) (within name))))

    no_dart : (name : ℕ) → count ≤ name → map.get (darts_in labels width places links values names) name ≡ None
    no_dart name above =
        darts_get labels width places links values names nowhere name
        ∙ (ap (λ s. option_map (λ (p : Place). dart_in labels width places links values s) (get places s)) (lost name above)
        ∙ ap (option_map (λ (p : Place). dart_in labels width places links values no_slot)) nowhere)

    -- as many darts as names
    counted : map.len (darts_in labels width places links values names) ≡ count
    counted =
        let held = map (λ slot. option_map (λ (p : Place). dart_in labels width places links values slot) (get places slot)) names in
        let long : length held ≡ count = length-map names _ ∙ length-range_with_len 0 count in
        map.len-entries (filled held)
        ∙ (sym (length-map (map.entries (filled held)) (λ e. e.0))
        ∙ (ap length (keys-filled held)
        ∙ (length-map (entries_from 0 held) (λ e. e.0)
        ∙ (length-entries 0 held (λ at below. is_some_at _ _ (sym (get-filled held at) ∙ dart_of_line at (omega (arith, below, long))))
        ∙ long))))

    placed : (slot : ℕ) (place : Place) → get places slot ≡ Some place → IsPlaced labels places links names count count slot place
    placed slot place e =
        let is = own slot place e in
        record {
          found = ap (slot_in names) is.1 ∙ found slot is.0;
          live = subst (All IsKey) (sym (on_line slot is.0)) (All-map IsKey slot_numbered (neighbours_on schema lines slot) (All-weaker (λ name. name < count) (λ name. IsSome (get places name)) live (neighbours_on schema lines slot) (within slot)));
          below_next = omega (arith, is.0, is.1);
          below_bound = is.0;
          below_capacity = omega (arith, is.0, room);
        }

    sound_lines : FitTogether schema labels width places links values names count 0 count
    sound_lines = record {
      sized = record { lawful = lawful; one_each = refl; several = omega (arith, some); few = omega (arith, few); wide = refl };
      placed = placed;
      named = λ name h. elim (cases_lt name count) [
        | inl l ↦ (record { name = name }, ap (get places) (found name l) ∙ numbered.here name l, refl)
        | inr l ↦ absurd (h (lost name l))
      ];
      valued = λ slot h. let p = some_of _ h in are.good slot (own slot p.0 p.1).0;
      fits = fits;
      linked = omega (arith, long_links);
      long = omega (arith, are.long);
      room = omega (arith, full, room);
      counted = full ∙ sym counted;
      few_darts = omega (arith, full, are.few);
      few_names = omega (arith, are.few);
      few_reserved = omega (arith, are.few, length-range_with_len 0 count);
    }

    holds_lines : HoldsLines schema lines values (map_of schema labels width places links values names count 0 count)
    holds_lines = record {
      schema_is = refl;
      count = full;
      next = refl;
      bound = refl;
      reserved = length-range_with_len 0 count;
      spare = refl;
      slots = λ at below. slot_at places at (record { name = at }) (numbered.here at below);
      free = λ at above. none_at places at (numbered.none at above);
      darts = dart_of_line;
      none = no_dart;
    }

  named_lines : AreNamesSlots true places
  named_lines told slot place e = (own slot place e).1

-- the parts of an arena that is made of lines
pub record AreParts (schema : Schema) (lines : List ℕ) (values : List Value) (labels width count : ℕ) (places : Slab Place) (links : List Slot) (held : List Value) (table : List ℕ) : Type 0 where
  pub lawful : IsSchema schema
  pub some : 0 < schema.dim
  pub few : schema.dim ≤ 7
  pub lines_are : AreLines schema lines values
  pub labels_are : labels ≡ schema.dim + 1
  pub width_is : width ≡ length schema.embeds
  pub count_is : count ≡ line_count schema lines
  pub numbered : AreNumbered count places
  pub full : slab_len places ≡ count
  pub fits : places.capacity ≤ no_slot
  pub room : count ≤ places.capacity
  pub links_are : links ≡ links_in (schema.dim + 1) (line_count schema lines) lines
  pub values_are : held ≡ values
  pub table_is : table ≡ range_with_len 0 count

module _ (schema : Schema) (lines : List ℕ) (values : List Value) (labels width count : ℕ) (places : Slab Place) (links : List Slot) (held : List Value) (table : List ℕ) (parts : AreParts schema lines values labels width count places links held table) where
  abbrev lines_count : ℕ
  lines_count = line_count schema lines

  numbered_all : AreNumbered lines_count places
  numbered_all = rw parts.count_is at parts.numbered

  full_all : slab_len places ≡ lines_count
  full_all = parts.full ∙ parts.count_is

  room_all : lines_count ≤ places.capacity
  room_all = omega (arith, parts.room, parts.count_is)

  table_all : table ≡ range_with_len 0 lines_count
  table_all = parts.table_is ∙ ap (range_with_len 0) parts.count_is

  pub sound_made : FitTogether schema labels width places links held table count 0 count
  sound_made =
      rw (parts.labels_are, parts.width_is, parts.count_is, parts.values_are, table_all)
      (sound_lines schema parts.lawful parts.some parts.few lines values parts.lines_are places numbered_all full_all parts.fits room_all links parts.links_are)

  pub holds_made : HoldsLines schema lines values (map_of schema labels width places links held table count 0 count)
  holds_made =
      rw (parts.labels_are, parts.width_is, parts.count_is, parts.values_are, table_all)
      (holds_lines schema parts.lawful parts.some parts.few lines values parts.lines_are places numbered_all full_all parts.fits room_all links parts.links_are)

  pub named_made : AreNamesSlots true places
  named_made = named_lines schema parts.lawful parts.some parts.few lines values parts.lines_are places numbered_all full_all parts.fits room_all
