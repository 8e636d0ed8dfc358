-- Other neighbours of one dart, all of them or one: the arena stays sound, and its map has these neighbours.
use Rattle.std.proofs.Common.{◌≡◌, ℕ, ◌<◌, List, set, map, Some, None, refl, sym, ap, subst, ◌∙◌, inl, inr, arith, All}
use Rattle.std.specs.Option.{option_map, IsSome}
use Rattle.std.specs.FinMap as map
use Rattle.std.proofs.lemmas.Bool.{cases_eq}
use Rattle.std.proofs.lemmas.List.{map-set}
use Rattle.std.proofs.lemmas.List.Elements.{All-set}
use Rattle.slab.specs.Slab.{Slab, get}
use Rattle.gm_model.specs.declared.schema.Schema.{Schema}
use Rattle.gm_model.specs.declared.value.Value.{Value}
use Rattle.gm_arena.specs.declared.slot.Slot.{Slot}
use Rattle.gm_arena.specs.declared.arena.Place.{Place}
use Rattle.gm_arena.specs.inner.ArenaMap.{Dart}
use Rattle.gm_arena.specs.inner.Edits.{turned, relinked, put_if, with_alpha}
use Rattle.gm_arena.specs.inner.Inside.{no_slot, name_in, dart_in, darts_in, map_of, IsPlaced, IsWritten, FitTogether}
use Rattle.gm_arena.specs.inner.Parts.{part_of}
use Rattle.gm_arena.proofs.FilledLemmas.{same_maps, get-insert_same, get-insert_other, len-insert_again}
use Rattle.gm_arena.proofs.InsideLemmas.{nowhere, dart_at, darts_get, links_there}
use Rattle.gm_arena.proofs.ChangeLemmas.{dart_alike, other_dart, other_slot}

module _ (schema : Schema) (labels width : ℕ) (places : Slab Place) (neighbours : List Slot) (values : List Value) (table : List ℕ) (next spare bound : ℕ) (sound : FitTogether schema labels width places neighbours values table next spare bound)
    (slot : ℕ) (place : Place) (here : get places slot ≡ Some place) where
  none : get places no_slot ≡ None
  none = nowhere schema labels width places neighbours values table next spare bound sound

  abbrev IsKey : Slot → Type 0
  IsKey s = IsSome (get places s.at)

  abbrev name_of : Slot → ℕ
  name_of s = name_in places s.at

  module _ (own : List Slot) (own_live : All IsKey own) (neighbours' : List Slot) (written : IsWritten labels slot neighbours own neighbours') where
    placed : (other : ℕ) (now : Place) → get places other ≡ Some now → IsPlaced labels places neighbours' table next bound other now
    placed other now e =
        let p = sound.placed other now e in
        record {
          found = p.found;
          live = elim (cases_eq other slot) [
            | inl same ↦ rw same (subst (All IsKey) (sym written.here) own_live)
            | inr apart ↦ subst (All IsKey) (sym (written.others other apart (links_there schema labels width places neighbours values table next spare bound sound other now e))) p.live
          ];
          below_next = p.below_next;
          below_bound = p.below_bound;
          below_capacity = p.below_capacity;
        }

    dart_here : dart_in labels width places neighbours' values slot ≡ relinked (dart_in labels width places neighbours values slot) (map name_of own)
    dart_here = λ i. record { alphas = map name_of (written.here i); values = part_of width values slot }

    -- the map has these neighbours of the dart
    darts_relinked : darts_in labels width places neighbours' values table
        ≡ map.insert (darts_in labels width places neighbours values table) place.name (relinked (dart_in labels width places neighbours values slot) (map name_of own))
    darts_relinked = same_maps _ _ (λ name. elim (cases_eq name place.name) [
      | inl e ↦ rw e (
          darts_get labels width places neighbours' values table none place.name
          ∙ (ap (λ s. option_map (λ (p : Place). dart_in labels width places neighbours' values s) (get places s)) (sound.placed slot place here).found
          ∙ (ap (option_map (λ (p : Place). dart_in labels width places neighbours' values slot)) here
          ∙ (ap Some dart_here ∙ sym (get-insert_same _ place.name _)))))
      | inr apart ↦
          other_dart labels width places places neighbours neighbours' values values table table none none name refl refl
          (λ p e. dart_alike labels width places places neighbours neighbours' values values _ (written.others _ (other_slot schema labels width places neighbours values table next spare bound sound slot place name here apart) (links_there schema labels width places neighbours values table next spare bound sound _ p e)) (λ k d h. refl) refl)
          ∙ sym (get-insert_other _ place.name _ name apart)
    ])

    sound_relinked : FitTogether schema labels width places neighbours' values table next spare bound
    sound_relinked = record {
      sized = sound.sized;
      placed = placed;
      named = sound.named;
      valued = sound.valued;
      fits = sound.fits;
      linked = omega (arith, written.long, sound.linked);
      long = sound.long;
      room = sound.room;
      counted = sound.counted ∙ sym (ap map.len darts_relinked ∙ len-insert_again _ place.name _ _ (dart_at schema labels width places neighbours values table next spare bound sound slot place here));
      few_darts = sound.few_darts;
      few_names = sound.few_names;
      few_reserved = sound.few_reserved;
    }

  module _ (label : ℕ) (to : Slot) (within : label < labels) (to_live : IsKey to) (neighbours' : List Slot) (written : IsWritten labels slot neighbours (set (part_of labels neighbours slot) label to) neighbours') where
    set_live : All IsKey (set (part_of labels neighbours slot) label to)
    set_live = All-set IsKey _ label to to_live (sound.placed slot place here).live

    -- the map has this one neighbour
    darts_turned : darts_in labels width places neighbours' values table
        ≡ map.insert (darts_in labels width places neighbours values table) place.name (turned (dart_in labels width places neighbours values slot) label (name_in places to.at))
    darts_turned =
        darts_relinked _ set_live neighbours' written
        ∙ ap (λ names. map.insert (darts_in labels width places neighbours values table) place.name (relinked (dart_in labels width places neighbours values slot) names)) (map-set name_of (part_of labels neighbours slot) label to)

    pub sound_turned : FitTogether schema labels width places neighbours' values table next spare bound
    sound_turned = sound_relinked _ set_live neighbours' written

    pub map_turned : map_of schema labels width places neighbours' values table next spare bound
        ≡ with_alpha (map_of schema labels width places neighbours values table next spare bound) place.name label (name_in places to.at)
    map_turned =
        let m = map_of schema labels width places neighbours values table next spare bound in
        let put : map.insert (darts_in labels width places neighbours values table) place.name (turned (dart_in labels width places neighbours values slot) label (name_in places to.at))
        ≡ put_if m.darts place.name (option_map (λ (dart : Dart). turned dart label (name_in places to.at)) (map.get m.darts place.name)) =
        sym (ap (λ o. put_if m.darts place.name (option_map (λ (dart : Dart). turned dart label (name_in places to.at)) o)) (dart_at schema labels width places neighbours values table next spare bound sound slot place here)) in
        λ i. record m { darts = (darts_turned ∙ put) i }
