-- What a change at one slot leaves: the other slots, the other names, and the darts that have none of both.
use Rattle.std.proofs.Common.{◌≡◌, ◌≢◌, ℕ, List, [], ◌∷◌, map, Option, Some, None, refl, sym, ap, ◌∙◌, All}
use Rattle.std.specs.Option.{option_map, option_map_or}
use Rattle.std.specs.FinMap as map
use Rattle.std.proofs.lemmas.Option.{none-some, same_Some}
use Rattle.std.proofs.lemmas.List.Elements.{All-head, All-tail}
use Rattle.slab.specs.Slab.{Slab, get}
use Rattle.gm_model.specs.declared.schema.Schema.{Schema}
use Rattle.gm_model.specs.declared.value.Value.{Value}
use Rattle.gm_arena.specs.declared.slot.Slot.{Slot}
use Rattle.gm_arena.specs.declared.arena.Place.{Place}
use Rattle.gm_arena.specs.inner.Inside.{no_slot, slot_in, name_in, dart_in, darts_in, slots_in, FitTogether}
use Rattle.gm_arena.specs.inner.Parts.{part_of}
use Rattle.gm_arena.proofs.InsideLemmas.{darts_get, get-slots, nowhere}

pub map_alike : {A B : Type 0} (f g : A → B) (xs : List A) → All (λ x. f x ≡ g x) xs → map f xs ≡ map g xs
map_alike f g [] h = refl
map_alike f g (x ∷ xs) h = λ i. All-head (λ x. f x ≡ g x) x xs h i ∷ map_alike f g xs (All-tail (λ x. f x ≡ g x) x xs h) i

pub mapped_alike : {A B : Type 0} (f g : A → B) (o : Option A) → ((x : A) → o ≡ Some x → f x ≡ g x) → option_map f o ≡ option_map g o
mapped_alike f g None h = refl
mapped_alike f g (Some x) h = ap Some (h x refl)

-- two slabs that have the same name at a slot
pub slots_alike : (places places' : Slab Place) (slot : ℕ) → option_map (λ (p : Place). p.name) (get places' slot) ≡ option_map (λ (p : Place). p.name) (get places slot) → map.get (slots_in places') slot ≡ map.get (slots_in places) slot
slots_alike places places' slot e = get-slots places' slot ∙ (e ∙ sym (get-slots places slot))

pub name_alike : (places places' : Slab Place) (slot : ℕ) → get places' slot ≡ get places slot → name_in places' slot ≡ name_in places slot
name_alike places places' slot e = ap (λ o. option_map_or (λ (p : Place). p.name) o 0) e

module _ (labels width : ℕ) (places places' : Slab Place) (neighbours neighbours' : List Slot) (values values' : List Value) where
  pub dart_alike : (slot : ℕ) → part_of labels neighbours' slot ≡ part_of labels neighbours slot → All (λ (s : Slot). name_in places' s.at ≡ name_in places s.at) (part_of labels neighbours slot) → part_of width values' slot ≡ part_of width values slot
      → dart_in labels width places' neighbours' values' slot ≡ dart_in labels width places neighbours values slot
  dart_alike slot links names same =
      let alphas = ap (map (λ (s : Slot). name_in places' s.at)) links ∙ map_alike (λ (s : Slot). name_in places' s.at) (λ (s : Slot). name_in places s.at) (part_of labels neighbours slot) names in
      λ i. record { alphas = alphas i; values = same i }

  module _ (table table' : List ℕ) (none : get places no_slot ≡ None) (none' : get places' no_slot ≡ None) where
    -- a name that keeps its slot, and a dart there that keeps its neighbours' names and its values
    pub other_dart : (name : ℕ) → slot_in table' name ≡ slot_in table name → get places' (slot_in table name) ≡ get places (slot_in table name)
        → ((place : Place) → get places (slot_in table name) ≡ Some place → dart_in labels width places' neighbours' values' (slot_in table name) ≡ dart_in labels width places neighbours values (slot_in table name))
        → map.get (darts_in labels width places' neighbours' values' table') name ≡ map.get (darts_in labels width places neighbours values table) name
    other_dart name entry here same =
        darts_get labels width places' neighbours' values' table' none' name
        ∙ (ap (λ s. option_map (λ (p : Place). dart_in labels width places' neighbours' values' s) (get places' s)) entry
        ∙ (ap (option_map (λ (p : Place). dart_in labels width places' neighbours' values' (slot_in table name))) here
        ∙ (mapped_alike _ _ (get places (slot_in table name)) same
        ∙ sym (darts_get labels width places neighbours values table none name))))

module _ (schema : Schema) (labels width : ℕ) (places : Slab Place) (neighbours : List Slot) (values : List Value) (table : List ℕ) (next spare bound : ℕ) (sound : FitTogether schema labels width places neighbours values table next spare bound) where
  -- another name has another slot
  pub other_slot : (slot : ℕ) (place : Place) (name : ℕ) → get places slot ≡ Some place → name ≢ place.name → slot_in table name ≢ slot
  other_slot slot place name here apart at =
      let none = nowhere schema labels width places neighbours values table next spare bound sound in
      let somewhere : slot_in table name ≢ no_slot = λ n. none-some place (sym none ∙ (ap (get places) (sym n ∙ at) ∙ here)) in
      let named = sound.named name somewhere in
      let same = same_Some named.0 place (sym named.1 ∙ (ap (get places) at ∙ here)) in
      apart (sym named.2 ∙ ap (λ (p : Place). p.name) same)
