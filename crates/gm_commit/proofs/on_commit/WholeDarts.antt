-- Arenas whose darts have a neighbour for each label stay so.
use Rattle.std.proofs.Common.{◌≡◌, ℕ, zero, suc, ◌+◌, ◌<◌, ◌≤◌, ◌⊎◌, List, [], ◌∷◌, length, get_or, Option, Some, None, is_some, refl, sym, ap, ◌∙◌, subst, inl, inr, arith}
use Rattle.std.specs.FinMap.{get}
use Rattle.std.specs.Option.{option_map, option_map_or}
use Rattle.std.proofs.lemmas.Bool.{cases_eq}
use Rattle.std.proofs.lemmas.List.{get_or_default, get_or-set_same, length-set}
use Rattle.std.proofs.lemmas.Option.{none-some}
use Rattle.gm_arena.specs.inner.ArenaMap.{ArenaMap, Dart, IsLiveName, alpha}
use Rattle.gm_arena.specs.inner.Edits.{with_alpha, without_dart, turned}
use Rattle.gm_arena.specs.inner.Lawful.{IsLawful}
use Rattle.gm_arena.proofs.InsideLemmas.{some_of, some_from_map}
use Rattle.gm_arena.proofs.MapLemmas.{get-with_alpha_same, get-with_alpha_other, get-without_dart_same, get-without_dart_other}
use Rattle.gm_commit.specs.inner.WrittenMap.{AreWhole, values_at}

pub lawful_whole : (m : ArenaMap) → IsLawful m → AreWhole m
lawful_whole m lawful name dart is = (lawful.dart name dart is).whole

pub is_some-map : {A B : Type 0} (f : A → B) (o : Option A) → is_some (option_map f o) ≡ is_some o
is_some-map f None = refl
is_some-map f (Some x) = refl

module _ (m : ArenaMap) (name label to : ℕ) where
  pub live_turned : (d : ℕ) → is_some (get (with_alpha m name label to).darts d) ≡ is_some (get m.darts d)
  live_turned d = elim (cases_eq d name) [
    | inl e ↦ rw e (ap is_some (get-with_alpha_same m name label to) ∙ is_some-map (λ dart. turned dart label to) (get m.darts name))
    | inr apart ↦ ap is_some (get-with_alpha_other m name label to d apart)
  ]

  pub values_turned : (d : ℕ) → values_at (with_alpha m name label to) d ≡ values_at m d
  values_turned d = elim (cases_eq d name) [
    | inl e ↦ rw e (ap (option_map (λ (dart : Dart). dart.values)) (get-with_alpha_same m name label to) ∙ same (get m.darts name))
    | inr apart ↦ ap (option_map (λ (dart : Dart). dart.values)) (get-with_alpha_other m name label to d apart)
  ]
    where
      same : (o : Option Dart) → option_map (λ (dart : Dart). dart.values) (option_map (λ dart. turned dart label to) o) ≡ option_map (λ (dart : Dart). dart.values) o
      same None = refl
      same (Some dart) = refl

  pub whole_turned : AreWhole m → AreWhole (with_alpha m name label to)
  whole_turned whole d dart is = elim (cases_eq d name) [
    | inl e ↦
        let here : get (with_alpha m name label to).darts name ≡ Some dart = subst (λ x. get (with_alpha m name label to).darts x ≡ Some dart) e is in
        let was = some_from_map (λ (x : Dart). turned x label to) (get m.darts name) dart (sym (get-with_alpha_same m name label to) ∙ here) in
        ap (λ (x : Dart). length x.alphas) was.2 ∙ (length-set was.0.alphas label to ∙ whole name was.0 was.1)
    | inr apart ↦ whole d dart (sym (get-with_alpha_other m name label to d apart) ∙ is)
  ]

  pub alpha_turned : AreWhole m → IsLiveName m name → label ≤ m.schema.dim → alpha (with_alpha m name label to) label name ≡ to
  alpha_turned whole live within =
      let was = some_of (get m.darts name) live in
      let long : length was.0.alphas ≡ m.schema.dim + 1 = whole name was.0 was.1 in
      ap (λ o. option_map_or (λ (dart : Dart). get_or dart.alphas label name) o name) (get-with_alpha_same m name label to ∙ ap (option_map (λ dart. turned dart label to)) was.1)
      ∙ get_or-set_same was.0.alphas label to name (omega (arith, long))

pub whole_without : (m : ArenaMap) (slot name : ℕ) → AreWhole m → AreWhole (without_dart m slot name)
whole_without m slot name whole d dart is = elim (cases_eq d name) [
  | inl e ↦ absurd (none-some dart (sym (get-without_dart_same m slot name) ∙ subst (λ x. get (without_dart m slot name).darts x ≡ Some dart) e is))
  | inr apart ↦ whole d dart (sym (get-without_dart_other m slot name d apart) ∙ is)
]
