-- Where the name of each place is its slot: that it stays so, and what is known then without the table.
use Rattle.std.proofs.Common.{◌≡◌, ℕ, ◌<◌, ◌≤◌, List, Bool, IsTrue, get_or, Option, Some, None, sym, ap, ◌∙◌, inl, inr, arith}
use Rattle.std.specs.Option.{MatchOption}
use Rattle.std.specs.FinMap as map
use Rattle.std.proofs.lemmas.Bool.{cases_eq}
use Rattle.std.proofs.lemmas.Option.{none-some, same_Some}
use Rattle.slab.specs.Slab.{Slab, get, slab_len, Updates}
use Rattle.gm_model.specs.declared.schema.Schema.{Schema}
use Rattle.gm_model.specs.declared.value.Value.{Value}
use Rattle.gm_arena.specs.declared.slot.Slot.{Slot}
use Rattle.gm_arena.specs.declared.arena.Place.{Place}
use Rattle.gm_arena.specs.inner.ArenaMap.{Dart}
use Rattle.gm_arena.specs.inner.Inside.{darts_in, slots_in, FitTogether, AreNamesSlots}
use Rattle.gm_arena.proofs.AddLemmas.{new_place}
use Rattle.gm_arena.proofs.DenseLemmas.{all_taken}
use Rattle.gm_arena.proofs.InsideLemmas.{held, none_of, some_of, slot_at}

module _ (flag : Bool) (places places' : Slab Place) (named : AreNamesSlots flag places) where
  -- with the same places, in whatever room
  pub slots_named_same : places'.slots ≡ places.slots → AreNamesSlots flag places'
  slots_named_same same told slot p e = named told slot p (sym (ap (λ xs. get_or xs slot None) same) ∙ e)

  -- with one place fewer
  pub slots_named_without : (slot : ℕ) → Updates places places' slot None → AreNamesSlots flag places'
  slots_named_without slot updates told other p e = elim (cases_eq other slot) [
    | inl same ↦ absurd (none-some p (sym updates.changed ∙ (ap (get places') (sym same) ∙ e)))
    | inr apart ↦ named told other p (sym (updates.others other apart) ∙ e)
  ]

  -- with one more, whose name is its slot
  pub slots_named_with : (now : Bool) (slot name : ℕ) → Updates places places' slot (Some (new_place name)) → (IsTrue now → IsTrue flag) → (IsTrue now → slot ≡ name) → AreNamesSlots now places'
  slots_named_with now slot name updates before here told other p e = elim (cases_eq other slot) [
    | inl same ↦
        let is = same_Some (new_place name) p (sym updates.changed ∙ (ap (get places') (sym same) ∙ e)) in
        ap (λ (p : Place). p.name) (sym is) ∙ (sym (here told) ∙ sym same)
    | inr apart ↦ named (before told) other p (sym (updates.others other apart) ∙ e)
  ]

module _ (schema : Schema) (labels width : ℕ) (places : Slab Place) (neighbours : List Slot) (values : List Value) (table : List ℕ) (next spare bound : ℕ) (sound : FitTogether schema labels width places neighbours values table next spare bound)
    (named : (slot : ℕ) (place : Place) → get places slot ≡ Some place → place.name ≡ slot) where
  -- with as many places as slots, each number below the bound is the name at that slot
  pub named_below : slab_len places ≡ bound → (name : ℕ) → name < bound → map.get (slots_in places) name ≡ Some name
  named_below full name below =
      let taken = all_taken places.slots bound (λ key h. let p = some_of _ h in (sound.placed key p.0 p.1).below_bound) full name below in
      let place : (p : Place) × (get places name ≡ Some p) = some_of _ taken in
      slot_at places name place.0 place.1 ∙ ap Some (named name place.0 place.1)

  -- no dart has another name
  pub none_above : (name : ℕ) → bound ≤ name → map.get (darts_in labels width places neighbours values table) name ≡ None
  none_above name above = none_of _ (λ h.
      let dart : (d : Dart) × (map.get (darts_in labels width places neighbours values table) name ≡ Some d) = some_of _ h in
      let at = held schema labels width places neighbours values table next spare bound sound name dart.0 dart.1 in
      absurd (omega (arith, (sound.placed at.slot at.place at.here).below_bound, at.same, named at.slot at.place at.here, above)))

-- an answer in other words, both where there is none and where there is one
pub answered : {A : Type 0} (o : Option A) {N M : Type 0} {P Q : A → Type 0} → MatchOption o N P → (N → M) → ((x : A) → P x → Q x) → MatchOption o M Q
answered None h none some = none h
answered (Some x) h none some = some x h
