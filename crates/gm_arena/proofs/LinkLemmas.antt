-- Other neighbours of many darts, one after another: the arena stays sound, and its map has these neighbours.
use Rattle.std.proofs.Common.{◌≡◌, ℕ, ◌+◌, ◌*◌, ◌<◌, List, [], ◌∷◌, ◌++◌, set, take, drop, length, Some, refl, sym, ap, ◌∙◌, All}
use Rattle.std.specs.Option.{IsSome}
use Rattle.std.specs.List.{zip}
use Rattle.std.proofs.lemmas.List.{take_at, length-set}
use Rattle.std.proofs.lemmas.List.Elements.{All-head, All-tail}
use Rattle.slab.specs.Slab.{Slab, get}
use Rattle.gm_model.specs.declared.schema.Schema.{Schema}
use Rattle.gm_model.specs.declared.value.Value.{Value}
use Rattle.gm_arena.specs.declared.slot.Slot.{Slot}
use Rattle.gm_arena.specs.declared.arena.Place.{Place}
use Rattle.gm_arena.specs.inner.ArenaMap.{name_at}
use Rattle.gm_arena.specs.inner.Edits.{with_alpha, with_alphas}
use Rattle.gm_arena.specs.inner.Inside.{linked, map_of, FitTogether}
use Rattle.gm_arena.proofs.InsideLemmas.{some_of, name_at_in, name_in-get}
use Rattle.gm_arena.proofs.ValueLemmas.{IsWritten-set}
use Rattle.gm_arena.proofs.AlphaLemmas.{sound_turned, map_turned}

length-linked : (labels label : ℕ) (arcs : List (Slot × Slot)) (neighbours : List Slot) → length (linked labels label arcs neighbours) ≡ length neighbours
length-linked labels label [] neighbours = refl
length-linked labels label (two ∷ more) neighbours = length-linked labels label more _ ∙ length-set neighbours (two.0.at * labels + label) two.1

-- a vector whose entries were lent to be linked
pub lent_linked : (labels label count : ℕ) (arcs : List (Slot × Slot)) (neighbours lent after : List Slot) → count ≡ length neighbours → lent ≡ neighbours → after ≡ linked labels label arcs lent → take count (after ++ drop (length after) neighbours) ≡ linked labels label arcs neighbours
lent_linked labels label count arcs neighbours lent after long same is =
    ap (λ xs. take count (xs ++ drop (length xs) neighbours)) (is ∙ ap (linked labels label arcs) same)
    ∙ take_at (linked labels label arcs neighbours) _ count (length-linked labels label arcs neighbours ∙ sym long)

module _ (schema : Schema) (labels width : ℕ) (places : Slab Place) (values : List Value) (table : List ℕ) (next spare bound : ℕ) (label : ℕ) (within : label < labels) where
  abbrev IsKey : Slot → Type 0
  IsKey s = IsSome (get places s.at)

  one_sound : (slot to : Slot) → IsKey slot → IsKey to → (neighbours : List Slot) → FitTogether schema labels width places neighbours values table next spare bound
      → FitTogether schema labels width places (set neighbours (slot.at * labels + label) to) values table next spare bound
  one_sound slot to live to_live neighbours sound =
      let place : (p : Place) × (get places slot.at ≡ Some p) = some_of _ live in
      sound_turned _ _ _ _ _ _ _ _ _ _ sound slot.at place.0 place.1 label to within to_live _ (IsWritten-set labels slot.at label neighbours to within)

  one_map : (slot to : Slot) → IsKey slot → IsKey to → (neighbours : List Slot) → FitTogether schema labels width places neighbours values table next spare bound
      → map_of schema labels width places (set neighbours (slot.at * labels + label) to) values table next spare bound
      ≡ with_alpha (map_of schema labels width places neighbours values table next spare bound) (name_at (map_of schema labels width places neighbours values table next spare bound) slot.at) label (name_at (map_of schema labels width places neighbours values table next spare bound) to.at)
  one_map slot to live to_live neighbours sound =
      let place : (p : Place) × (get places slot.at ≡ Some p) = some_of _ live in
      rw (name_at_in places slot.at, name_in-get places slot.at place.0 place.1, name_at_in places to.at)
      (map_turned _ _ _ _ _ _ _ _ _ _ sound slot.at place.0 place.1 label to within to_live _ (IsWritten-set labels slot.at label neighbours to within))

  pub sound_linked : (from to : List Slot) → All IsKey from → All IsKey to → (neighbours : List Slot) → FitTogether schema labels width places neighbours values table next spare bound
      → FitTogether schema labels width places (linked labels label (zip from to) neighbours) values table next spare bound
  sound_linked [] to live to_live neighbours sound = sound
  sound_linked (x ∷ from) [] live to_live neighbours sound = sound
  sound_linked (x ∷ from) (y ∷ to) live to_live neighbours sound =
      sound_linked from to (All-tail IsKey x from live) (All-tail IsKey y to to_live) _ (one_sound x y (All-head IsKey x from live) (All-head IsKey y to to_live) neighbours sound)

  pub map_linked : (from to : List Slot) → All IsKey from → All IsKey to → (neighbours : List Slot) → FitTogether schema labels width places neighbours values table next spare bound
      → map_of schema labels width places (linked labels label (zip from to) neighbours) values table next spare bound ≡ with_alphas (map_of schema labels width places neighbours values table next spare bound) label (zip from to)
  map_linked [] to live to_live neighbours sound = refl
  map_linked (x ∷ from) [] live to_live neighbours sound = refl
  map_linked (x ∷ from) (y ∷ to) live to_live neighbours sound =
      let here = All-head IsKey x from live in
      let there = All-head IsKey y to to_live in
      map_linked from to (All-tail IsKey x from live) (All-tail IsKey y to to_live) _ (one_sound x y here there neighbours sound)
      ∙ ap (λ m. with_alphas m label (zip from to)) (one_map x y here there neighbours sound)
