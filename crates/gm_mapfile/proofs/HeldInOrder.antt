-- Darts whose names run from 0 on in the order of their list: what an arena that has each of them under its place holds.
use Rattle.std.proofs.Common.{◌≡◌, ℕ, zero, suc, ◌+◌, ◌<◌, ◌≤◌, true, false, eqb, List, [], ◌∷◌, length, slice_get, get_or, All, Option, Some, None, is_some, inl, inr, refl, sym, ap, subst, ◌∙◌, arith}
use Rattle.std.specs.Option.{option_map, option_map_or}
use Rattle.std.specs.FinMap.{get}
use Rattle.std.specs.List.Sorted.{IsStrictlyIncreasing}
use Rattle.std.proofs.lemmas.Bool.{cases_lt, eq-eqb, ne_eqb}
use Rattle.std.proofs.lemmas.List.{length-map}
use Rattle.std.proofs.lemmas.List.Elements.{All-get_or}
use Rattle.std.proofs.lemmas.Option.{slice_get-map, slice_get_cases, get_or_from_slice_get}
use Rattle.gm_model.specs.declared.schema.Schema.{Schema}
use Rattle.gm_model.specs.GMap.{Row, row_of, IsLive}
use Rattle.gm_model.specs.GMap as written
use Rattle.gm_arena.specs.inner.ArenaMap.{ArenaMap, Dart, alpha}
use Rattle.gm_mapfile.specs.MapText.{First, DartRow, bare, IsNext, names, rows_of, dart_of}
use Rattle.gm_mapfile.specs.MapFaults.{AreNamedOnce, IsLeastNotBelow, HaveTargets}
use Rattle.gm_mapfile.specs.inner.Draft.{version_in}
use Rattle.gm_mapfile.specs.inner.Building.{AreWhole, AreLive, AreValued, IsHeld}
use Rattle.gm_mapfile.proofs.Darts.{row_of_dart, live_dart, is_some-map}
use Rattle.gm_mapfile.proofs.NamesOf.{named_live, live_named}
use Rattle.gm_mapfile.proofs.Permuted.{distinct_ascending}

-- the k-th of the darts is that of the name k, with whole neighbours that are names of darts
pub record AreInOrder (n : ℕ) (darts : List DartRow) : Type 0 where
  pub named : (k : ℕ) (dart : DartRow) → slice_get darts k ≡ Some dart → dart.name ≡ k
  pub whole : (k : ℕ) (dart : DartRow) → slice_get darts k ≡ Some dart → length dart.alphas ≡ n + 1
  pub within : (k : ℕ) (dart : DartRow) → slice_get darts k ≡ Some dart → All (λ a. a < length darts) dart.alphas

-- ---- look-ups

-- the names run on from a first one
abbrev AreNamedFrom : ℕ → List DartRow → Type 0
AreNamedFrom first darts = (k : ℕ) (dart : DartRow) → slice_get darts k ≡ Some dart → dart.name ≡ first + k

named_behind : (first : ℕ) (dart : DartRow) (darts : List DartRow) → AreNamedFrom first (dart ∷ darts) → AreNamedFrom (suc first) darts
named_behind first dart darts named k other at = omega (arith, named (suc k) other at)

found_from : (first : ℕ) (darts : List DartRow) → AreNamedFrom first darts → (d k : ℕ) → d ≡ first + k → dart_of darts d ≡ slice_get darts k
found_from first [] named d k is = refl
found_from first (dart ∷ darts) named d zero is = rw (eq-eqb dart.name d (omega (arith, is, named 0 dart refl))) refl
found_from first (dart ∷ darts) named d (suc k) is =
    let other : eqb dart.name d ≡ false = ne_eqb dart.name d (λ same. omega (arith, same, is, named 0 dart refl)) in
    rw other (found_from (suc first) darts (named_behind first dart darts named) d k (omega (arith, is)))

module _ (n : ℕ) (darts : List DartRow) (order : AreInOrder n darts) where
  -- the dart of a name is that at its place
  found_at : (d : ℕ) → dart_of darts d ≡ slice_get darts d
  found_at d = found_from 0 darts (λ k dart at. omega (arith, order.named k dart at)) d d (omega arith)

  there : (d : ℕ) → d < length darts → (dart : DartRow) × (slice_get darts d ≡ Some dart)
  there d lt = elim (slice_get_cases darts d).1 [
    | inl found ↦ (found.0, found.2)
    | inr past ↦ absurd (omega (arith, lt, past.0))
  ]

  -- ---- names

  live_is : (d : ℕ) → is_some (row_of (rows_of darts) d) ≡ is_some (slice_get darts d)
  live_is d = live_dart darts d ∙ ap is_some (found_at d)

  live_within : (d : ℕ) → d < length darts → IsLive (rows_of darts) d
  live_within d lt = live_is d ∙ ap is_some (there d lt).1

  -- each name is below the number of darts
  within_live : (d : ℕ) → IsLive (rows_of darts) d → d < length darts
  within_live d live = elim (slice_get_cases darts d).1 [
    | inl found ↦ found.1
    | inr past ↦ let no_way : true ≡ false = sym live ∙ (live_is d ∙ ap is_some past.1) in absurd cc
  ]

  name_at : (k : ℕ) → k < length darts → get_or (names darts) k 0 ≡ k
  name_at k lt =
      let (dart, at) = there k lt in
      let name : DartRow → ℕ = λ (dart : DartRow). dart.name in
      get_or_from_slice_get (names darts) k k 0 (slice_get-map name darts k ∙ (ap (option_map name) at ∙ ap Some (order.named k dart at)))

  rising : IsStrictlyIncreasing (names darts)
  rising k lt =
      let within : k + 1 < length darts = omega (arith, lt, length-map darts (λ (dart : DartRow). dart.name)) in
      omega (arith, name_at k (omega (arith, within)), name_at (k + 1) within)

  -- no two darts have one name
  pub once_in_order : AreNamedOnce (rows_of darts)
  once_in_order = distinct_ascending darts rising

  -- ---- the next name

  -- where no next name is stated, it is the number of darts
  pub next_in_order : IsNext First (names darts) (length darts)
  next_in_order = record {
    above = named_live (λ name. name < length darts) darts within_live;
    least = λ bound all. elim (cases_lt bound (length darts)) [
      | inl lt ↦ absurd (omega (arith, live_named (λ name. name < bound) darts all bound (live_within bound lt)))
      | inr le ↦ le
    ];
  }

  -- a stated one that is the name of a dart is itself the least name that isn't below it
  pub least_in_order : (next : ℕ) → next < length darts → IsLeastNotBelow (rows_of darts) next next
  least_in_order next lt = record {
    live = live_within next lt;
    above = omega arith;
    least = λ e below live. below;
  }

  -- ---- neighbours

  targets : HaveTargets n (rows_of darts)
  targets d i live label = live_within (written.alpha (rows_of darts) i d) (go (there d (within_live d live)))
    where
      go : (dart : DartRow) × (slice_get darts d ≡ Some dart) → written.alpha (rows_of darts) i d < length darts
      go (dart, at) =
          let row : row_of (rows_of darts) d ≡ Some (bare dart) = row_of_dart darts d ∙ ap (option_map bare) (found_at d ∙ at) in
          let wide : i < length dart.alphas = omega (arith, label, order.whole d dart at) in
          subst (λ o. option_map_or (λ (r : Row). get_or r.alphas i d) o d < length darts) (sym row)
          (All-get_or (λ a. a < length darts) dart.alphas i d wide (order.within d dart at))

-- ---- the arena

-- a dart as an arena has it
abbrev pub placed : DartRow → Dart
placed dart = record { alphas = dart.alphas; values = dart.values }

module _ (n : ℕ) (darts : List DartRow) (m : ArenaMap) (order : AreInOrder n darts)
    (has : (k : ℕ) (dart : DartRow) → slice_get darts k ≡ Some dart → get m.darts k ≡ Some (placed dart))
    (ends : (k : ℕ) → length darts ≤ k → get m.darts k ≡ None) where
  held_at : (d : ℕ) → get m.darts d ≡ option_map placed (dart_of darts d)
  held_at d = elim (slice_get_cases darts d).1 [
    | inl found ↦ has d found.0 found.2 ∙ sym (ap (option_map placed) (found_at n darts order d ∙ found.2))
    | inr past ↦ ends d past.0 ∙ sym (ap (option_map placed) (found_at n darts order d ∙ past.1))
  ]

  whole : AreWhole n m
  whole d dart is = elim (slice_get_cases darts d).1 [
    | inl found ↦
        let same : Some (placed found.0) ≡ Some dart = sym (has d found.0 found.2) ∙ is in
        let alphas : found.0.alphas ≡ dart.alphas = cc same in
        sym (ap length alphas) ∙ order.whole d found.0 found.2
    | inr past ↦ let no_way : Some dart ≡ None = sym is ∙ ends d past.0 in absurd cc
  ]

  live : AreLive (rows_of darts) m
  live d = ap is_some (held_at d) ∙ (is_some-map placed (dart_of darts d) ∙ sym (live_dart darts d))

  alphas : (d i : ℕ) → alpha m i d ≡ written.alpha (rows_of darts) i d
  alphas d i =
      ap (λ o. option_map_or (λ (dart : Dart). get_or dart.alphas i d) o d) (held_at d)
      ∙ (go (dart_of darts d) ∙ ap (λ o. option_map_or (λ (row : Row). get_or row.alphas i d) o d) (sym (row_of_dart darts d)))
    where
      go : (o : Option DartRow) → option_map_or (λ (dart : Dart). get_or dart.alphas i d) (option_map placed o) d ≡ option_map_or (λ (row : Row). get_or row.alphas i d) (option_map bare o) d
      go None = refl
      go (Some dart) = refl

  valued : AreValued darts m
  valued d = ap (option_map (λ (dart : Dart). dart.values)) (held_at d) ∙ go (dart_of darts d)
    where
      go : (o : Option DartRow) → option_map (λ (dart : Dart). dart.values) (option_map placed o) ≡ option_map (λ (dart : DartRow). dart.values) o
      go None = refl
      go (Some dart) = refl

-- an arena holds the darts where it has each under its place, and no other
pub held_in_order : (stated : Option ℕ) (schema : Schema) (darts : List DartRow) (m : ArenaMap) → AreInOrder schema.dim darts
    → m.schema ≡ schema
    → m.count ≡ length darts
    → IsNext (version_in stated) (names darts) m.next
    → ((k : ℕ) (dart : DartRow) → slice_get darts k ≡ Some dart → get m.darts k ≡ Some (placed dart))
    → ((k : ℕ) → length darts ≤ k → get m.darts k ≡ None)
    → IsHeld (version_in stated) schema darts m
held_in_order stated schema darts m order schema_is count next has ends = record {
  schema_is = schema_is;
  count = count;
  next = next;
  whole = whole schema.dim darts m order has ends;
  live = live schema.dim darts m order has ends;
  alphas = λ d i label. alphas schema.dim darts m order has ends d i;
  values = valued schema.dim darts m order has ends;
  distinct = once_in_order schema.dim darts order;
  targets = targets schema.dim darts order;
}
