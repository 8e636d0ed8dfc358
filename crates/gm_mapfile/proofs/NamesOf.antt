-- What holds of all names of a list holds of its live names, and the other way round.
use Rattle.std.proofs.Common.{◌≡◌, ℕ, ◌<◌, eqb, List, [], ◌∷◌, All, is_some, inl, inr, refl, sym, subst, ◌∙◌}
use Rattle.std.specs.List.{AllByRecursion}
use Rattle.std.proofs.lemmas.Bool.{cases_Bool, eqb-true, eq-eqb}
use Rattle.std.proofs.lemmas.List.Elements.{All-from_recursion, recursion_from_All}
use Rattle.gm_model.specs.GMap.{row_of, IsLive}
use Rattle.gm_mapfile.specs.MapText.{Version, First, Second, DartRow, names, rows_of, IsNext}

live_here : (dart : DartRow) (darts : List DartRow) → IsLive (rows_of (dart ∷ darts)) dart.name
live_here dart darts = rw (eq-eqb dart.name dart.name refl) refl

live_behind : (dart : DartRow) (darts : List DartRow) (name : ℕ) → IsLive (rows_of darts) name → IsLive (rows_of (dart ∷ darts)) name
live_behind dart darts name live = elim (cases_Bool (eqb dart.name name)) [
  | inl here ↦ rw here refl
  | inr other ↦ rw other live
]

module _ (P : ℕ → Type 0) where
  each_name : (darts : List DartRow) → ((name : ℕ) → IsLive (rows_of darts) name → P name) → AllByRecursion P (names darts)
  each_name [] holds = tt
  each_name (dart ∷ darts) holds = (holds dart.name (live_here dart darts), each_name darts (λ name live. holds name (live_behind dart darts name live)))

  pub named_live : (darts : List DartRow) → ((name : ℕ) → IsLive (rows_of darts) name → P name) → All P (names darts)
  named_live darts holds = All-from_recursion P (names darts) (each_name darts holds)

  live_each : (darts : List DartRow) → AllByRecursion P (names darts) → (name : ℕ) → IsLive (rows_of darts) name → P name
  live_each [] all name live = absurd cc
  live_each (dart ∷ darts) all name live = elim (cases_Bool (eqb dart.name name)) [
    | inl here ↦ subst P (eqb-true dart.name name here) all.0
    | inr other ↦ let rest : IsLive (rows_of darts) name = rw other at live in live_each darts all.1 name rest
  ]

  pub live_named : (darts : List DartRow) → All P (names darts) → (name : ℕ) → IsLive (rows_of darts) name → P name
  live_named darts all = live_each darts (recursion_from_All P (names darts) all)

-- lists with the same live names have the same next name
pub next_moved : (version : Version) (darts others : List DartRow) (next : ℕ) → ((d : ℕ) → is_some (row_of (rows_of darts) d) ≡ is_some (row_of (rows_of others) d)) → IsNext version (names darts) next → IsNext version (names others) next
next_moved First darts others next same is = record {
  above = named_live (λ name. name < next) others (λ name live. live_named (λ x. x < next) darts is.above name (same name ∙ live));
  least = λ bound all. is.least bound (named_live (λ name. name < bound) darts (λ name live. live_named (λ x. x < bound) others all name (sym (same name) ∙ live)));
}
next_moved (Second stated) darts others next same is = is
