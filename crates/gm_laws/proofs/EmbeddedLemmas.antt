-- Where no value changes along a label of its embedding, it is the same over each orbit; and the first embedding, dart and label along which one changes.
use Rattle.std.proofs.Common.{◌≡◌, ℕ, ◌+◌, ◌<◌, ◌≤◌, ◌⊎◌, List, [], ◌∷◌, length, Option, Some, None, get_or, refl, sym, ap, subst, ◌∙◌, inl, inr, arith}
use Rattle.std.specs.List.{slice_get}
use Rattle.std.proofs.lemmas.Option.{slice_get_read, same_Some}
use Rattle.std.specs.Option.{IsSome, option_map_or}
use Rattle.std.specs.FinMap.{get}
use Rattle.std.proofs.lemmas.Bool.{cases_lt, false≢true}
use Rattle.std.proofs.lemmas.List.{get_or_past}
use Rattle.gm_model.specs.declared.schema.Embed.{Embed}
use Rattle.gm_model.specs.Breaches.{IsTripleBefore, IsFirstUnshared}
use Rattle.gm_model.specs.Maps.{IsEmbedAt, IsWellEmbedded, type_of}
use Rattle.gm_model.specs.declared.word.Mask.{Mask}
use Rattle.gm_model.specs.Orbits.{IsPathIn, IsPairBefore, follow}
use Rattle.gm_arena.specs.inner.ArenaMap.{ArenaMap, Dart, IsLiveName, alpha}
use Rattle.gm_arena.specs.inner.Lawful.{IsLawful}
use Rattle.gm_arena.proofs.MapLemmas.{IsLiveName-alpha}
use Rattle.gm_arena.specs.inner.ArenaAsMap.{value, as_map}
use Rattle.gm_laws.specs.inner.Darts.{IsFirst, IsOrbitLabel, HasSame, IsAlike, AreAlike}
use Rattle.gm_laws.specs.inner.Faults.{ArePointedBack, DoCommute, AreValuesShared}

module _ (m : ArenaMap) (lawful : IsLawful m) where
  some_dart : (o : Option Dart) → IsSome o → (dart : Dart) × (o ≡ Some dart)
  some_dart None h = absurd (false≢true h)
  some_dart (Some dart) h = (dart, refl)

  -- a label above the dimension leads nowhere
  past : (i d : ℕ) → IsLiveName m d → m.schema.dim < i → alpha m i d ≡ d
  past i d live above =
      let dart = some_dart (get m.darts d) live in
      ap (λ o. option_map_or (λ (dart : Dart). get_or dart.alphas i d) o d) dart.1 ∙ get_or_past dart.0.alphas i d (omega (arith, (lawful.dart d dart.0 dart.1).whole))

  along : AreValuesShared m → (e : ℕ) (embed : Embed) → IsEmbedAt m.schema e embed → (path : List ℕ) → IsPathIn (type_of embed) path → (d : ℕ) → IsLiveName m d → value m e d ≡ value m e (follow (alpha m) path d)
  along shared e embed at [] inside d live = refl
  along shared e embed at (i ∷ path) inside d live = go (cases_lt m.schema.dim i) (λ d' live'. along shared e embed at path inside.1 d' live')
    where
      go : (m.schema.dim < i) ⊎ (i ≤ m.schema.dim) → ((d' : ℕ) → IsLiveName m d' → value m e d' ≡ value m e (follow (alpha m) path d')) → value m e d ≡ value m e (follow (alpha m) path (alpha m i d))
      go (inl above) rest = let P : ℕ → Type 0 = λ x. value m e d ≡ value m e (follow (alpha m) path x) in subst P (sym (past i d live above)) (rest d live)
      go (inr within) rest = sym (shared e embed d i at live within inside.0) ∙ rest (alpha m i d) (IsLiveName-alpha m i d lawful live within)

  pub well_embedded : AreValuesShared m → IsWellEmbedded (as_map m)
  well_embedded shared e embed at d d' live (path, inside, ends) = along shared e embed at path inside d live ∙ ap (value m e) ends

-- the embedding that a loop over these is at
pub at_turn : (items embeds : List Embed) → items ≡ embeds → (e : ℕ) (embed : Embed) → e < length items → embed ≡ get_or items e embed → slice_get embeds e ≡ Some embed
at_turn items embeds same e embed less is = let P : List Embed → Type 0 = λ list. slice_get list e ≡ Some embed in subst P same (slice_get_read items (length items) e embed refl less is)

module _ (m : ArenaMap) where
  same_embed : (e e' : ℕ) (x y : Embed) → e' ≡ e → IsEmbedAt m.schema e x → IsEmbedAt m.schema e' y → x ≡ y
  same_embed e e' x y same at at' = same_Some x y (sym at ∙ ap (slice_get m.schema.embeds) (sym same) ∙ at')

  -- so far none changes
  abbrev AlikeBefore : ℕ → Type 0
  AlikeBefore e = (e' : ℕ) (embed : Embed) → e' < e → IsEmbedAt m.schema e' embed → AreAlike m e' embed.mask

  pub one_more_alike : (e : ℕ) (embed : Embed) → IsEmbedAt m.schema e embed → AlikeBefore e → AreAlike m e embed.mask → AlikeBefore (e + 1)
  one_more_alike e embed at alike here e' other less at' = elim (cases_lt e' e) [
    | inl l ↦ alike e' other l at'
    | inr l ↦ (
        let same : e' ≡ e = omega arith in
        let P : ℕ → Embed → Type 0 = λ k x. AreAlike m k x.mask in
        subst (λ k. P k other) (sym same) (subst (P e) (same_embed e e' embed other same at at') here)
        )
  ]

  module _ (e : ℕ) (mask : Mask) (d i : ℕ) (dart : IsFirst (IsLiveName m) (IsAlike m e mask) d) (label : IsFirst (IsOrbitLabel m mask) (HasSame m e d) i) where
    alike_before : (d' i' : ℕ) → IsPairBefore d' i' d i → IsLiveName m d' → IsOrbitLabel m mask i' → HasSame m e d' i'
    alike_before d' i' (inl less) live one = dart.before d' less live i' one
    alike_before d' i' (inr (same, less)) live one = let P : ℕ → Type 0 = λ x. HasSame m e x i' in subst P (sym same) (label.before i' less one)

  pub unshared : ArePointedBack m → DoCommute m → (e : ℕ) (embed : Embed) → IsEmbedAt m.schema e embed → AlikeBefore e → (d i : ℕ) → IsFirst (IsLiveName m) (IsAlike m e embed.mask) d → IsFirst (IsOrbitLabel m embed.mask) (HasSame m e d) i
      → IsFirstUnshared m.schema.dim (IsLiveName m) (alpha m) m.schema (value m) e d i
  unshared back commute e embed at alike d i dart label = record {
    back = back;
    commute = commute;
    embed = embed;
    embed_at = at;
    live = dart.one;
    label = label.one.0;
    of_type = label.one.1;
    fails = label.fails;
    before = λ e' d' i' embed' before at' live within of_type. go e' d' i' embed' before at' live (within, of_type);
  }
    where
      go : (e' d' i' : ℕ) (embed' : Embed) → IsTripleBefore e' d' i' e d i → IsEmbedAt m.schema e' embed' → IsLiveName m d' → IsOrbitLabel m embed'.mask i' → HasSame m e' d' i'
      go e' d' i' embed' (inl less) at' live one = alike e' embed' less at' d' live i' one
      go e' d' i' embed' (inr (same, later)) at' live one =
          let P : ℕ → Type 0 = λ k. HasSame m k d' i' in
          let Q : Embed → Type 0 = λ x. IsOrbitLabel m x.mask i' in
          subst P (sym same) (alike_before e embed.mask d i dart label d' i' later live (subst Q (sym (same_embed e e' embed embed' same at at')) one))
