-- Lines of the darts 0, 1 and so on: when lines are those, and that an arena made of them holds their darts.
use Rattle.std.proofs.Common.{◌≡◌, ℕ, ◌+◌, ◌*◌, ◌/◌, ◌<◌, ◌≤◌, List, length, drop, get_or, slice_get, All, Option, Some, None, is_some, inl, inr, sym, ap, refl, subst, ◌∙◌, arith}
use Rattle.std.specs.FinMap.{get}
use Rattle.std.proofs.lemmas.Bool.{cases_lt, false≢true}
use Rattle.std.proofs.Math.Nat.{div-mul-le_self}
use Rattle.std.proofs.lemmas.List.{get_or-take, get_or-drop}
use Rattle.std.proofs.lemmas.List.Elements.{All-drop, All-take, All-from_recursion}
use Rattle.std.proofs.lemmas.Option.{slice_get_cases, get_or_from_slice_get, none-some, same_Some}
use Rattle.gm_model.specs.declared.schema.Schema.{Schema}
use Rattle.gm_model.specs.declared.value.Value.{Value}
use Rattle.gm_arena.specs.inner.ArenaMap.{ArenaMap, IsLiveName}
use Rattle.gm_arena.specs.inner.Lawful.{AreGoodValues}
use Rattle.gm_arena.specs.inner.Lines.{line_count, values_on, AreLines, HoldsLines}
use Rattle.gm_arena.specs.inner.Parts.{part_of}
use Rattle.gm_arena.proofs.InsideLemmas.{part_long}
use Rattle.gm_mapfile.specs.MapText.{First, DartRow, IsNext, names, rows_of}
use Rattle.gm_mapfile.specs.MapFaults.{AreNamedOnce, IsLeastNotBelow}
use Rattle.gm_mapfile.specs.inner.Draft.{version_in}
use Rattle.gm_mapfile.specs.inner.Rows.{darts_in}
use Rattle.gm_mapfile.specs.inner.Building.{AreInRoom, IsHeld, IsNextSet}
use Rattle.gm_mapfile.specs.inner.Faults.{IsNameFault}
use Rattle.gm_mapfile.specs.declared.fault.MapFault.TheVariants as faults
use Rattle.gm_mapfile.proofs.Chunks.{name_of_line, alphas_of_line, alphas_long, dart_on, dart_at_line, many_darts}
use Rattle.gm_mapfile.proofs.HeldInOrder.{AreInOrder, placed, held_in_order, next_in_order, least_in_order, once_in_order}

count_set : (made m : ArenaMap) (stated : Option ℕ) → IsNextSet (version_in stated) made m → m.count ≡ made.count
count_set made m None set = ap (λ (x : ArenaMap). x.count) set
count_set made m (Some next) set = ap (λ (x : ArenaMap). x.count) set

once : (k n : ℕ) → n ≤ (k + 1) * n
once k n = grind arith

module _ (schema : Schema) (numbers : List ℕ) (values : List Value) where
  abbrev size : ℕ
  size = schema.dim + 2

  abbrev count : ℕ
  count = line_count schema numbers

  abbrev darts : List DartRow
  darts = darts_in schema numbers values

  pub are_lines : AreInRoom schema numbers values → ((at : ℕ) → at < count → get_or numbers (at * size) 0 ≡ at) → All (λ name. name < count) numbers → AreLines schema numbers values
  are_lines room named within = record {
    few = room.few;
    named = named;
    within = within;
    long = room.long;
    good = λ at below.
        let good = All-from_recursion (λ (dart : DartRow). AreGoodValues schema dart.values) darts room.good in
        let dart = dart_on schema numbers values at in
        subst (λ (other : DartRow). AreGoodValues schema other.values) (get_or_from_slice_get darts at dart dart (dart_at_line schema numbers values at below)) (good at dart (omega (arith, below, many_darts schema numbers values)));
  }

  -- the same of the numbers as they are lent
  pub own_lines : (xs : List ℕ) → xs ≡ numbers → AreInRoom schema numbers values → ((at : ℕ) → at < length xs / size → get_or xs (at * size) 0 ≡ at) → All (λ name. name < length xs / size) xs → AreLines schema numbers values
  own_lines xs same room named within =
      are_lines room (subst (λ (ns : List ℕ). (at : ℕ) → at < length ns / size → get_or ns (at * size) 0 ≡ at) same named) (subst (λ (ns : List ℕ). All (λ name. name < length ns / size) ns) same within)

  pub steps_made : (before after : ℕ) → after ≡ before + (2 * schema.dim + 4) * count → after ≤ before + (2 * schema.dim + 5) * length darts
  steps_made before after cost = omega (arith, cost, ap (λ k. (2 * schema.dim + 5) * k) (many_darts schema numbers values))

  module _ (are : AreLines schema numbers values) where
    -- a dart of the list is that on the line of its place
    on_line : (at : ℕ) (dart : DartRow) → slice_get darts at ≡ Some dart → (at < count) × (dart_on schema numbers values at ≡ dart)
    on_line at dart is = elim (slice_get_cases darts at).1 [
      | inl found ↦
          let below : at < count = omega (arith, found.1, many_darts schema numbers values) in
          (below, same_Some _ _ (sym (dart_at_line schema numbers values at below) ∙ is))
      | inr past ↦ absurd (none-some dart (sym past.1 ∙ is))
    ]

    abbrev line : ℕ → List ℕ
    line at = part_of size numbers at

    length_line : (at : ℕ) → at < count → length (line at) ≡ size
    length_line at below = part_long size numbers count at below (div-mul-le_self (length numbers) size)

    first_on : (at : ℕ) → get_or (line at) 0 0 ≡ get_or numbers (at * size) 0
    first_on at =
        get_or-take size (drop (at * size) numbers) 0 0 (omega arith)
        ∙ (get_or-drop (at * size) numbers 0 0 ∙ ap (λ k. get_or numbers k 0) (omega arith))

    below_all : (at : ℕ) → All (λ name. name < length darts) (drop 1 (line at))
    below_all at =
        All-drop (λ name. name < length darts) 1 (line at) (All-take (λ name. name < length darts) size (drop (at * size) numbers) (All-drop (λ name. name < length darts) (at * size) numbers
        (subst (λ bound. All (λ name. name < bound) numbers) (sym (many_darts schema numbers values)) are.within)))

    in_order : AreInOrder schema.dim darts
    in_order = record {
      named = λ at dart is.
          let on = on_line at dart is in
          sym (ap (λ (d : DartRow). d.name) on.1) ∙ (name_of_line (line at) ∙ (first_on at ∙ are.named at on.0));
      whole = λ at dart is.
          let on = on_line at dart is in
          sym (ap (λ (d : DartRow). length d.alphas) on.1) ∙ alphas_long schema.dim (line at) (length_line at on.0);
      within = λ at dart is.
          subst (λ (d : DartRow). All (λ name. name < length darts) d.alphas) (on_line at dart is).1
          (subst (λ names. All (λ name. name < length darts) names) (sym (alphas_of_line (line at))) (below_all at));
    }

    -- an arena that was made of the lines, whatever its next name
    module _ (made m : ArenaMap) (holds : HoldsLines schema numbers values made) (frame : m ≡ record made { next = m.next }) where
      held_lines : (stated : Option ℕ) → IsNext (version_in stated) (names darts) m.next → IsHeld (version_in stated) schema darts m
      held_lines stated next =
          held_in_order stated schema darts m in_order
          (ap (λ (x : ArenaMap). x.schema) frame ∙ holds.schema_is)
          (ap (λ (x : ArenaMap). x.count) frame ∙ (holds.count ∙ sym (many_darts schema numbers values)))
          next
          (λ at dart is.
          let on = on_line at dart is in
          ap (λ (x : ArenaMap). get x.darts at) frame
          ∙ (holds.darts at on.0
          ∙ (ap (λ names. Some (record { alphas = names; values = values_on schema values at })) (sym (alphas_of_line (line at)))
          ∙ ap (λ (d : DartRow). Some (placed d)) on.1)))
          (λ at above. ap (λ (x : ArenaMap). get x.darts at) frame ∙ holds.none at (omega (arith, above, many_darts schema numbers values)))

    pub held_made : (made : ArenaMap) → HoldsLines schema numbers values made → IsHeld (version_in None) schema darts made
    held_made made holds = held_lines made made holds refl None (subst (IsNext First (names darts)) (many_darts schema numbers values ∙ sym holds.next) (next_in_order schema.dim darts in_order))

    pub held_stated : (made : ArenaMap) (next : ℕ) → HoldsLines schema numbers values made → IsHeld (version_in (Some next)) schema darts (record made { next = next })
    held_stated made next holds = held_lines made (record made { next = next }) holds refl (Some next) refl

    -- with the next name that the text states, or as it was made
    pub held_set : (made m : ArenaMap) (stated : Option ℕ) → HoldsLines schema numbers values made → IsNextSet (version_in stated) made m → IsHeld (version_in stated) schema darts m
    held_set made m None holds set = subst (IsHeld (version_in None) schema darts) (sym set) (held_made made holds)
    held_set made m (Some next) holds set = subst (IsHeld (version_in (Some next)) schema darts) (sym set) (held_stated made next holds)

    pub live_below : (made : ArenaMap) → HoldsLines schema numbers values made → (name : ℕ) → IsLiveName made name → name < made.count
    live_below made holds name live = elim (cases_lt name count) [
      | inl below ↦ omega (arith, below, holds.count)
      | inr past ↦ absurd (false≢true (sym (ap is_some (holds.none name past)) ∙ live))
    ]

    pub many_set : (made m : ArenaMap) (stated : Option ℕ) (before after : ℕ) → HoldsLines schema numbers values made → IsNextSet (version_in stated) made m → after ≡ before + (2 * schema.dim + 4) * count → before + m.count ≤ after
    many_set made m stated before after holds set cost = omega (arith, cost, count_set made m stated set, holds.count, once (2 * schema.dim + 3) count)

    -- a stated next name that isn't above all is the fault
    pub not_above : (next : ℕ) → next < count → AreNamedOnce (rows_of darts) × IsLeastNotBelow (rows_of darts) next next
    not_above next below = (once_in_order schema.dim darts in_order, least_in_order schema.dim darts in_order next (omega (arith, below, many_darts schema numbers values)))

    pub fault_set : (made : ArenaMap) (stated : Option ℕ) (next : ℕ) → HoldsLines schema numbers values made → stated ≡ Some next → next < made.count → IsNameFault (version_in stated) schema.dim darts (faults.Next next)
    fault_set made stated next holds is below = subst (λ s. IsNameFault (version_in s) schema.dim darts (faults.Next next)) (sym is) (not_above next (omega (arith, below, holds.count)))
