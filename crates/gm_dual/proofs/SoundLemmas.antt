-- The dual of a sound map is sound.
use Rattle.std.proofs.Common.{◌≡◌, ℕ, ◌<◌, ◌≤◌, IsTrue, List, [], ◌∷◌, map, slice_get, refl, sym, ap, subst, ◌∙◌, arith}
use Rattle.std.specs.Option.{option_map}
use Rattle.std.proofs.lemmas.List.{length-map}
use Rattle.std.proofs.lemmas.Option.{slice_get-map}
use Rattle.gm_model.specs.declared.schema.Embed.{Embed}
use Rattle.gm_model.specs.declared.schema.Schema.{Schema}
use Rattle.gm_model.specs.Labels.{has}
use Rattle.gm_model.specs.Maps.{IsEmbedAt, IsSchema, IsSound, Map, type_of}
use Rattle.gm_model.specs.Orbits.{IsInOrbit, IsPathIn, Labels, follow}
use Rattle.gm_arena.proofs.InsideLemmas.{some_from_map}
use Rattle.gm_dual.specs.Duals.{dual_embed, dual_label, dual_map, dual_schema}
use Rattle.gm_dual.proofs.LabelLemmas.{dual_apart, dual_most, dual_twice, duals_twice}
use Rattle.gm_dual.proofs.MaskLemmas.{dual_labels, few_bits, has_dual}

-- ---- orbits

module _ (n : ℕ) (alpha : ℕ → ℕ → ℕ) where
  -- a path leads along the neighbours of the dual where its dual leads along those of the map
  pub follow_dual : (path : List ℕ) (d : ℕ) → follow (λ i. alpha (dual_label n i)) path d ≡ follow alpha (map (dual_label n) path) d
  follow_dual [] d = refl
  follow_dual (i ∷ path) d = follow_dual path (alpha (dual_label n i) d)

  module _ (o o' : Labels) (same : (i : ℕ) → o' i ≡ o (dual_label n i)) where
    path_dual : (path : List ℕ) → IsPathIn o' path → IsPathIn o (map (dual_label n) path)
    path_dual [] inside = tt
    path_dual (i ∷ path) inside = (sym (same i) ∙ inside.0, path_dual path inside.1)

    -- an orbit of the dual is one of the map
    pub orbit_from_dual : (d e : ℕ) → IsInOrbit (λ i. alpha (dual_label n i)) o' d e → IsInOrbit alpha o d e
    orbit_from_dual d e to = (map (dual_label n) to.0, path_dual to.0 to.1, sym (follow_dual to.0 d) ∙ to.2)

    path_to_dual : (path : List ℕ) → IsPathIn o path → IsPathIn o' (map (dual_label n) path)
    path_to_dual [] inside = tt
    path_to_dual (i ∷ path) inside = (same (dual_label n i) ∙ (ap o (dual_twice n i) ∙ inside.0), path_to_dual path inside.1)

    -- and an orbit of the map one of the dual
    pub orbit_to_dual : (d e : ℕ) → IsInOrbit alpha o d e → IsInOrbit (λ i. alpha (dual_label n i)) o' d e
    orbit_to_dual d e to = (map (dual_label n) to.0, path_to_dual to.0 to.1, follow_dual (map (dual_label n) to.0) d ∙ (ap (λ path. follow alpha path d) (duals_twice n to.0) ∙ to.2))

-- ---- schemas

-- the embedding of the schema that an embedding of its dual stands for
pub embed_from_dual : (schema : Schema) (e : ℕ) (dual : Embed) → IsEmbedAt (dual_schema schema) e dual → (embed : Embed) × IsEmbedAt schema e embed × (dual ≡ dual_embed schema.dim embed)
embed_from_dual schema e dual is = some_from_map (dual_embed schema.dim) (slice_get schema.embeds e) dual (sym (slice_get-map (dual_embed schema.dim) schema.embeds e) ∙ is)

pub embed_to_dual : (schema : Schema) (e : ℕ) (embed : Embed) → IsEmbedAt schema e embed → IsEmbedAt (dual_schema schema) e (dual_embed schema.dim embed)
embed_to_dual schema e embed is = slice_get-map (dual_embed schema.dim) schema.embeds e ∙ ap (option_map (dual_embed schema.dim)) is

module _ (schema : Schema) (most : schema.dim ≤ 7) (lawful : IsSchema schema) where
  pub few_embed : (e : ℕ) (embed : Embed) → IsEmbedAt schema e embed → embed.mask.bits < 256
  few_embed e embed is = few_bits embed.mask (λ i h. let k = lawful.labels e i embed is h in omega (arith, k, most))

  pub has_embed_dual : (e : ℕ) (embed : Embed) → IsEmbedAt schema e embed → (i : ℕ) → type_of (dual_embed schema.dim embed) i ≡ type_of embed (dual_label schema.dim i)
  has_embed_dual e embed is = has_dual schema.dim most embed.mask (few_embed e embed is)

  pub schema_dual : IsSchema (dual_schema schema)
  schema_dual = record {
    count = omega (arith, lawful.count, length-map schema.embeds (dual_embed schema.dim));
    kinds = λ e dual is same. let embed = embed_from_dual schema e dual is in lawful.kinds e embed.0 embed.1 (ap (λ (x : Embed). x.kind) (sym embed.2) ∙ same);
    labels = λ e i dual is h. let embed = embed_from_dual schema e dual is in dual_labels schema.dim most embed.0.mask (few_embed e embed.0 embed.1) (λ j k. lawful.labels e j embed.0 embed.1 k) i (subst (λ (x : Embed). IsTrue (has x.mask i)) embed.2 h);
    free = λ e dual is reserved. let embed = embed_from_dual schema e dual is in lawful.free e embed.0 embed.1 (rw embed.2 at reserved);
    differ = λ e e' dual dual' is is' same. let embed = embed_from_dual schema e dual is in let embed' = embed_from_dual schema e' dual' is' in
        lawful.differ e e' embed.0 embed'.0 embed.1 embed'.1 (ap (λ (x : Embed). x.name) (sym embed.2) ∙ (same ∙ ap (λ (x : Embed). x.name) embed'.2));
  }

-- ---- maps

pub sound_dual : (m : Map) → m.schema.dim ≤ 7 → IsSchema m.schema → IsSound m → IsSound (dual_map m)
sound_dual m most schema sound = record {
  is_map = record {
    below = sound.is_map.below;
    values = λ e d dual is live. let embed = embed_from_dual m.schema e dual is in rw embed.2 (sound.is_map.values e d embed.0 embed.1 live);
  };
  generalised = record {
    stays = λ d i live low. sound.generalised.stays d (dual_label m.schema.dim i) live (dual_most m.schema.dim i low);
    back = λ d i live low. sound.generalised.back d (dual_label m.schema.dim i) live (dual_most m.schema.dim i low);
    commutes = λ d i j live apart low. sym (sound.generalised.commutes d (dual_label m.schema.dim j) (dual_label m.schema.dim i) live (dual_apart m.schema.dim i j apart low) (dual_most m.schema.dim i (omega arith)));
  };
  embedded = λ e dual is d d' live to.
      let embed = embed_from_dual m.schema e dual is in
      let there = subst (λ (x : Embed). IsInOrbit (dual_map m).alpha (type_of x) d d') embed.2 to in
      sound.embedded e embed.0 embed.1 d d' live (orbit_from_dual m.schema.dim m.alpha (type_of embed.0) (type_of (dual_embed m.schema.dim embed.0)) (has_embed_dual m.schema most schema e embed.0 embed.1) d d' there);
}
