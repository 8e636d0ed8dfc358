-- What a dart's row and those of its neighbours say of the laws, and that the laws at each slot are those of the map.
use Rattle.std.proofs.Common.{◌≡◌, ℕ, ◌+◌, ◌<◌, List, length, map, get_or, Some, IsTrue, pos, sym, ap, subst, ◌∙◌, inl, inr, arith}
use Rattle.std.specs.Option.{option_map_or}
use Rattle.std.specs.FinMap.{get}
use Rattle.std.proofs.lemmas.Bool.{cases_lt}
use Rattle.std.proofs.lemmas.Option.{same_Some}
use Rattle.std.proofs.lemmas.List.{get_or-map, length-map}
use Rattle.gm_model.specs.declared.schema.Embed.{Embed}
use Rattle.gm_model.specs.declared.value.Value.{Value}
use Rattle.gm_model.specs.declared.value.Value.TheVariants.{Int}
use Rattle.gm_model.specs.Labels.{has}
use Rattle.gm_model.specs.Maps.{IsEmbedAt}
use Rattle.gm_arena.specs.declared.slot.Slot.{Slot}
use Rattle.gm_arena.specs.inner.ArenaMap.{ArenaMap, Dart, IsAt, IsLiveSlot, IsLiveName, name_at, alpha}
use Rattle.gm_arena.specs.inner.ArenaAsMap.{value}
use Rattle.gm_arena.specs.inner.Lawful.{IsLawful}
use Rattle.gm_arena.proofs.InsideLemmas.{is_some_at}
use Rattle.gm_arena.proofs.MapLemmas.{name_at-is, IsAt-name_at, IsLiveName-alpha, slot_of_name}
use Rattle.gm_laws.specs.inner.Darts.{IsLabel, LeadsBack, HasSame}
use Rattle.gm_laws.specs.inner.Faults.{KeepsLaws}
use Rattle.gm_laws.specs.inner.Holding.{IsRowAt, DoMeet, AreSameAlong, Holds}
use Rattle.gm_laws.proofs.RowLemmas.{values_long}

abbrev dart_of : ArenaMap → List Slot → List Value → Dart
dart_of m alphas values = record { alphas = map (λ (s : Slot). name_at m s.at) alphas; values = values }

module _ (m : ArenaMap) where
  pub row_is : (slot name : ℕ) (alphas : List Slot) (values : List Value) → IsAt m slot name → get m.darts name ≡ Some (record { alphas = map (λ (s : Slot). name_at m s.at) alphas; values = values }) → IsRowAt m slot alphas values
  row_is slot name alphas values at dart = ap (get m.darts) (name_at-is m slot name at) ∙ dart

  module _ (slot : ℕ) (alphas : List Slot) (values : List Value) (row : IsRowAt m slot alphas values) where
    pub alphas_long : IsLawful m → length alphas ≡ m.schema.dim + 1
    alphas_long lawful = sym (length-map alphas (λ (s : Slot). name_at m s.at)) ∙ (lawful.dart (name_at m slot) (dart_of m alphas values) row).whole

    pub row_values_long : IsLawful m → length values ≡ length m.schema.embeds
    row_values_long lawful = values_long m lawful (name_at m slot) (dart_of m alphas values) row

    pub alpha_there : (i : ℕ) (other : Slot) → i < length alphas → alpha m i (name_at m slot) ≡ name_at m (get_or alphas i other).at
    alpha_there i other h =
        ap (λ o. option_map_or (λ (dart : Dart). get_or dart.alphas i (name_at m slot)) o (name_at m slot)) row
        ∙ get_or-map (λ (s : Slot). name_at m s.at) alphas i other (name_at m slot) h

    pub value_there : (e : ℕ) → value m e (name_at m slot) ≡ get_or values e (Int (pos 0))
    value_there e = ap (λ o. option_map_or (λ (dart : Dart). get_or dart.values e (Int (pos 0))) o (Int (pos 0))) row

  module _ (lawful : IsLawful m) where
    -- from the row of a dart and that of its neighbour
    pub holds_along : (slot to : Slot) (alphas across : List Slot) (values others : List Value) (i : ℕ)
        → IsRowAt m slot.at alphas values → IsRowAt m to.at across others → IsLiveSlot m to.at → IsLabel m i
        → to ≡ get_or alphas i to → slot ≡ get_or across i slot → DoMeet m i alphas across
        → (slot.at < to.at → AreSameAlong m.schema.embeds i values others)
        → Holds m slot.at (name_at m slot.at) i
    holds_along slot to alphas across values others i row there live within leads back meet same =
        let d = name_at m slot.at in
        let long = alphas_long slot.at alphas values row lawful in
        let wide = alphas_long to.at across others there lawful in
        let name : alpha m i d ≡ name_at m to.at = alpha_there slot.at alphas values row i to (omega (arith, within, long)) ∙ ap (λ (s : Slot). name_at m s.at) (sym leads) in
        record {
          back = ap (alpha m i) name ∙ (alpha_there to.at across others there i slot (omega (arith, within, wide)) ∙ ap (λ (s : Slot). name_at m s.at) (sym back));
          commutes = λ j distant.
              ap (alpha m i) (alpha_there slot.at alphas values row j to (omega (arith, distant.1, long)))
              ∙ (sym (meet j distant to)
              ∙ (sym (alpha_there to.at across others there j to (omega (arith, distant.1, wide))) ∙ ap (alpha m j) (sym name)));
          same = λ other at above e embed here of_type.
              let is : to.at ≡ other = lawful.one_slot other to.at (alpha m i d) at (IsAt-name_at m to.at live ∙ ap Some (sym name)) in
              ap (value m e) name ∙ (value_there to.at across others there e ∙ (same (omega (arith, above, is)) e embed here of_type ∙ sym (value_there slot.at alphas values row e)));
        }

    module _ (all : (slot i : ℕ) → IsLiveSlot m slot → IsLabel m i → Holds m slot (name_at m slot) i) where
      at_name : (slot d i : ℕ) → IsAt m slot d → IsLabel m i → Holds m slot d i
      at_name slot d i at within = subst (λ x. Holds m slot x i) (name_at-is m slot d at) (all slot i (is_some_at _ _ at) within)

      back_at : (d i : ℕ) → IsLiveName m d → IsLabel m i → LeadsBack m d i
      back_at d i live within = let at = slot_of_name m d lawful live in (at_name at.0 d i at.1 within).back

      shared_at : (e : ℕ) (embed : Embed) (d i : ℕ) → IsEmbedAt m.schema e embed → IsLiveName m d → IsLabel m i → IsTrue (has embed.mask i) → HasSame m e d i
      shared_at e embed d i here live within of_type =
          let at = slot_of_name m d lawful live in
          let to = slot_of_name m (alpha m i d) lawful (IsLiveName-alpha m i d lawful live within) in
          let back = back_at d i live within in
          elim (cases_lt at.0 to.0) [
            | inl above ↦ (at_name at.0 d i at.1 within).same to.0 to.1 above e embed here of_type
            | inr upto ↦ elim (cases_lt to.0 at.0) [
              | inl below ↦ sym (sym (ap (value m e) back) ∙ (at_name to.0 (alpha m i d) i to.1 within).same at.0 (at.1 ∙ ap Some (sym back)) below e embed here of_type)
              | inr beside ↦
                  let is : at.0 ≡ to.0 = omega arith in
                  ap (value m e) (same_Some (alpha m i d) d (sym to.1 ∙ (ap (get m.slots) (sym is) ∙ at.1)))
            ]
          ]

      -- all laws of the map
      pub keeps_laws : KeepsLaws m
      keeps_laws = record {
        back = back_at;
        commute = λ d i j live apart within. let at = slot_of_name m d lawful live in (at_name at.0 d i at.1 (omega (arith, apart, within))).commutes j (apart, within);
        shared = λ e embed d i here live within of_type. shared_at e embed d i here live within of_type;
      }
