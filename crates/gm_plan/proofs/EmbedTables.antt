-- The tables of the embeddings: one more of them, and one as it is read.
use Rattle.std.proofs.Common.{◌≡◌, ◌≢◌, ℕ, ◌+◌, ◌<◌, inl, inr, Bool, true, false, List, [], ◌∷◌, ◌++◌, length, Some, get_or, set, ap, sym, subst, ◌∙◌, arith}
use Rattle.std.specs.List.{slice_get}
use Rattle.std.proofs.lemmas.Bool.{cases_lt}
use Rattle.std.proofs.lemmas.List.{get_or-set_other, get_or-set_same, length_push}
use Rattle.std.proofs.lemmas.Option.{same_Some, slice_get-get_or, slice_get_within}
use Rattle.gm_model.specs.declared.schema.Embed.{Embed}
use Rattle.gm_model.specs.declared.schema.Schema.{Schema}
use Rattle.gm_model.specs.Maps.{IsEmbedAt, type_of}
use Rattle.gm_model.specs.Rules.{Rule}
use Rattle.gm_embcheck.specs.inner.NodeSets.{IsIn}
use Rattle.gm_plan.specs.declared.sources.Sources.{Sources}
use Rattle.gm_plan.specs.inner.Sources.{AreSources, IsSources}
use Rattle.gm_plan.proofs.Rows.{row_old, row_new}

-- one mark more in a table of nodes
pub marked_more : (P : ℕ → Type 0) (nodes : List Bool) (n : ℕ) (b : Bool) → n < length nodes → ((x : ℕ) → x < n → IsIn nodes x → P x) → (b ≡ true → P n) → (x : ℕ) → x < n + 1 → IsIn (set nodes n b) x → P x
marked_more P nodes n b within before here x below marked = elim (cases_lt x n) [
  | inl c ↦ (let other : x ≢ n = omega (arith, c) in before x c (sym (get_or-set_other nodes n x b false other) ∙ marked))
  | inr c ↦
      let last : n ≡ x = omega (arith, below, c) in
      subst P last (here (sym (get_or-set_same nodes n b false within) ∙ subst (λ y. get_or (set nodes n b) y false ≡ true) (sym last) marked))
]

module _ (schema : Schema) (rule : Rule) where
  -- the tables are those of the first embeddings
  abbrev pub AreFirst : List Sources → Type 0
  AreFirst sources = (e : ℕ) (s : Sources) → slice_get sources e ≡ Some s → (embed : Embed) × IsEmbedAt schema e embed × IsSources schema.dim rule e (type_of embed) s

  pub first_more : (sources : List Sources) (e : ℕ) (s : Sources) (embed : Embed) → AreFirst sources → length sources ≡ e → IsEmbedAt schema e embed → IsSources schema.dim rule e (type_of embed) s → AreFirst (sources ++ s ∷ [])
  first_more sources e s embed first long at is e' s' here = elim (cases_lt e' (length sources)) [
    | inl b ↦ first e' s' (sym (row_old sources s e' b) ∙ here)
    | inr b ↦
        let last : e' ≡ length sources = omega (arith, slice_get_within (sources ++ s ∷ []) e' s' here, length_push sources s) in
        let same : e ≡ e' = sym long ∙ sym last in
        let is' : s ≡ s' = same_Some s s' (sym (row_new sources s e' last) ∙ here) in
        subst (λ n. (embed : Embed) × IsEmbedAt schema n embed × IsSources schema.dim rule n (type_of embed) s') same
        (embed, at, subst (IsSources schema.dim rule e (type_of embed)) is' is)
  ]

  -- the table of an embedding, as it is read
  pub read_sources : (sources : List Sources) → AreSources schema rule sources → (e : ℕ) → e < length schema.embeds → (s : Sources) → s ≡ get_or sources e s → (embed : Embed) × IsEmbedAt schema e embed × IsSources schema.dim rule e (type_of embed) s
  read_sources sources are e b s read = are.here e s (slice_get-get_or sources e s (subst (λ n. e < n) (sym are.long) b) ∙ ap Some (sym read))

  pub read_for : (sources : List Sources) → AreSources schema rule sources → (e : ℕ) → e < length schema.embeds → (s : Sources) → s ≡ get_or sources e s → (embed : Embed) → IsEmbedAt schema e embed → IsSources schema.dim rule e (type_of embed) s
  read_for sources are e b s read embed at =
      let found = read_sources sources are e b s read in
      subst (λ (m : Embed). IsSources schema.dim rule e (type_of m) s) (same_Some found.0 embed (sym found.1 ∙ at)) found.2
