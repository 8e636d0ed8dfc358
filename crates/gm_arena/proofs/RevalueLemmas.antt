-- Another value of one dart: the arena stays sound, and its map has this one value.
use Rattle.std.proofs.Common.{◌≡◌, ℕ, ◌<◌, List, set, get_or, length, pos, Some, None, refl, sym, ap, subst, ◌∙◌, inl, inr, arith}
use Rattle.std.specs.Option.{option_map}
use Rattle.std.specs.FinMap as map
use Rattle.std.proofs.lemmas.Bool.{cases_eq}
use Rattle.std.proofs.lemmas.List.{get_or-map}
use Rattle.std.proofs.lemmas.List.Elements.{All-set}
use Rattle.std.proofs.lemmas.Option.{get_or_from_slice_get, slice_get_within}
use Rattle.std.proofs.Math.Seq.{map-set_same}
use Rattle.slab.specs.Slab.{Slab, get}
use Rattle.gm_model.specs.declared.schema.Embed.{Embed}
use Rattle.gm_model.specs.declared.schema.Schema.{Schema}
use Rattle.gm_model.specs.declared.value.Kind.{Kind}
use Rattle.gm_model.specs.declared.value.Value.{Value}
use Rattle.gm_model.specs.declared.value.Value.TheVariants.{Int}
use Rattle.gm_model.specs.Maps.{IsEmbedAt}
use Rattle.gm_model.specs.Values.{kind_of, IsInValueRange, IsValueOf}
use Rattle.gm_arena.specs.declared.slot.Slot.{Slot}
use Rattle.gm_arena.specs.declared.arena.Place.{Place}
use Rattle.gm_arena.specs.inner.ArenaMap.{Dart}
use Rattle.gm_arena.specs.inner.Edits.{revalued, put_if, with_value}
use Rattle.gm_arena.specs.inner.Inside.{no_slot, dart_in, darts_in, map_of, IsWritten, FitTogether}
use Rattle.gm_arena.specs.inner.Parts.{part_of}
use Rattle.gm_arena.specs.inner.Lawful.{AreGoodValues}
use Rattle.gm_arena.proofs.FilledLemmas.{same_maps, get-insert_same, get-insert_other, len-insert_again}
use Rattle.gm_arena.proofs.InsideLemmas.{nowhere, dart_at, darts_get, values_there, some_of}
use Rattle.gm_arena.proofs.ValueLemmas.{length-values}
use Rattle.gm_arena.proofs.ChangeLemmas.{dart_alike, other_dart, other_slot}

-- the values stay good with another of the embedding
revalued_good : (schema : Schema) (values : List Value) (e : ℕ) (embed : Embed) (v : Value) → AreGoodValues schema values → IsEmbedAt schema e embed → IsValueOf embed.kind v → AreGoodValues schema (set values e v)
revalued_good schema values e embed v good at is = record {
  kinds = map-set_same kind_of values e v (Int (pos 0)) same ∙ good.kinds;
  ranges = All-set IsInValueRange values e v is.range good.ranges;
}
  where
    within : e < length schema.embeds
    within = slice_get_within schema.embeds e embed at

    same : kind_of v ≡ kind_of (get_or values e (Int (pos 0)))
    same =
        is.kind_is
        ∙ sym (ap (λ (k : Embed). k.kind) (get_or_from_slice_get schema.embeds e embed embed at))
        ∙ sym (get_or-map (λ (k : Embed). k.kind) schema.embeds e embed embed.kind within)
        ∙ ap (λ (kinds : List Kind). get_or kinds e embed.kind) (sym good.kinds)
        ∙ get_or-map kind_of values e (Int (pos 0)) embed.kind (omega (arith, within, length-values schema values good))

module _ (schema : Schema) (labels width : ℕ) (places : Slab Place) (neighbours : List Slot) (values : List Value) (table : List ℕ) (next spare bound : ℕ) (sound : FitTogether schema labels width places neighbours values table next spare bound)
    (slot : ℕ) (place : Place) (here : get places slot ≡ Some place) (e : ℕ) (embed : Embed) (v : Value) (at : IsEmbedAt schema e embed) (is : IsValueOf embed.kind v)
    (values' : List Value) (written : IsWritten width slot values (set (part_of width values slot) e v) values') where
  none : get places no_slot ≡ None
  none = nowhere schema labels width places neighbours values table next spare bound sound

  dart_here : dart_in labels width places neighbours values' slot ≡ revalued (dart_in labels width places neighbours values slot) e v
  dart_here = λ i. record { alphas = (dart_in labels width places neighbours values slot).alphas; values = written.here i }

  -- the map has this one value
  pub darts_revalued : darts_in labels width places neighbours values' table
      ≡ map.insert (darts_in labels width places neighbours values table) place.name (revalued (dart_in labels width places neighbours values slot) e v)
  darts_revalued = same_maps _ _ (λ name. elim (cases_eq name place.name) [
    | inl f ↦ rw f (
        darts_get labels width places neighbours values' table none place.name
        ∙ (ap (λ s. option_map (λ (p : Place). dart_in labels width places neighbours values' s) (get places s)) (sound.placed slot place here).found
        ∙ (ap (option_map (λ (p : Place). dart_in labels width places neighbours values' slot)) here
        ∙ (ap Some dart_here ∙ sym (get-insert_same _ place.name _)))))
    | inr apart ↦
        other_dart labels width places places neighbours neighbours values values' table table none none name refl refl
        (λ p f. dart_alike labels width places places neighbours neighbours values values' _ refl (λ k d h. refl) (written.others _ (other_slot schema labels width places neighbours values table next spare bound sound slot place name here apart) (values_there schema labels width places neighbours values table next spare bound sound _ p f)))
        ∙ sym (get-insert_other _ place.name _ name apart)
  ])

  pub sound_revalued : FitTogether schema labels width places neighbours values' table next spare bound
  sound_revalued = record {
    sized = sound.sized;
    placed = λ other now f. let p = sound.placed other now f in record { found = p.found; live = p.live; below_next = p.below_next; below_bound = p.below_bound; below_capacity = p.below_capacity };
    named = sound.named;
    valued = λ other live. elim (cases_eq other slot) [
      | inl same ↦ rw same (subst (AreGoodValues schema) (sym written.here) (revalued_good schema (part_of width values slot) e embed v (sound.valued slot (rw same at live)) at is))
      | inr apart ↦
          let p : (p : Place) × (get places other ≡ Some p) = some_of _ live in
          subst (AreGoodValues schema) (sym (written.others other apart (values_there schema labels width places neighbours values table next spare bound sound other p.0 p.1))) (sound.valued other live)
    ];
    fits = sound.fits;
    linked = sound.linked;
    long = omega (arith, written.long, sound.long);
    room = sound.room;
    counted = sound.counted ∙ sym (ap map.len darts_revalued ∙ len-insert_again _ place.name _ _ (dart_at schema labels width places neighbours values table next spare bound sound slot place here));
    few_darts = sound.few_darts;
    few_names = sound.few_names;
    few_reserved = sound.few_reserved;
  }

  pub map_revalued : map_of schema labels width places neighbours values' table next spare bound
      ≡ with_value (map_of schema labels width places neighbours values table next spare bound) place.name e v
  map_revalued =
      let m = map_of schema labels width places neighbours values table next spare bound in
      let put : map.insert (darts_in labels width places neighbours values table) place.name (revalued (dart_in labels width places neighbours values slot) e v)
      ≡ put_if m.darts place.name (option_map (λ (dart : Dart). revalued dart e v) (map.get m.darts place.name)) =
      sym (ap (λ o. put_if m.darts place.name (option_map (λ (dart : Dart). revalued dart e v) o)) (dart_at schema labels width places neighbours values table next spare bound sound slot place here)) in
      λ i. record m { darts = (darts_revalued ∙ put) i }
