-- The values of the result are those of their embedding's kind.
use Rattle.std.proofs.Common.{◌≡◌, ℕ, ◌+◌, ◌*◌, ◌<◌, IsTrue, List, length, map, get_or, drop, sym, ap, ◌∙◌, subst, inl, inr, arith, pos}
use Rattle.std.proofs.lemmas.List.{length-map, get_or-map, get_or-take, get_or-drop, get_or_default, same_lists}
use Rattle.std.proofs.lemmas.Option.{slice_get_cases}
use Rattle.gm_model.specs.declared.rule.Side.TheVariants.{Left, Right}
use Rattle.gm_model.specs.declared.schema.Embed.{Embed}
use Rattle.gm_model.specs.declared.value.Kind.{Kind}
use Rattle.gm_model.specs.declared.value.Value.{Value}
use Rattle.gm_model.specs.declared.value.Value.TheVariants.{Int}
use Rattle.gm_model.specs.Maps.{IsEmbedAt, type_of}
use Rattle.gm_model.specs.NewValues.{IsValueAfter, Decided, Kept, Added}
use Rattle.gm_model.specs.Rules.{has_word}
use Rattle.gm_model.specs.Values.{kind_of, IsValueOf}
use Rattle.gm_arena.specs.inner.ArenaAsMap.{as_map}
use Rattle.gm_arena.specs.inner.Parts.{part_of}
use Rattle.gm_arena.specs.inner.Lawful.{AreGoodValues}
use Rattle.gm_arena.proofs.InsideLemmas.{part_long}
use Rattle.gm_theory.proofs.Tests.{both_true}
use Rattle.gm_theory.specs.inner.Theorem.{Unfolded}
use Rattle.gm_commit.specs.inner.EditLists.{AreAddedValues, added_value}
use Rattle.gm_pending.proofs.on_pending.PreparedIsLawful.{some_unfolding}
use Rattle.gm_pending.specs.inner.Results.{PendingOf, IsPrepared, IsGivenIn, IsUnfoldedIn, IsValueIn, rule_in, place_in}

-- an entry of a part is one of the whole
pub part_entry : (width : ℕ) (values : List Value) (number e : ℕ) (v : Value) → e < width → get_or (part_of width values number) e v ≡ get_or values (number * width + e) v
part_entry width values number e v h = get_or-take width (drop (number * width) values) e v h ∙ get_or-drop (number * width) values e v

module _ (app : PendingOf) (prepared : IsPrepared app) where
  typed_after : (result : Unfolded) (e d : ℕ) (embed : Embed) (v : Value) → IsEmbedAt app.map.schema e embed → IsValueAfter (as_map app.map) (rule_in app) (place_in app) result.alpha e (type_of embed) (IsGivenIn app e) d v → IsValueOf embed.kind v
  typed_after result e d embed v at (Decided x p by given) = prepared.values e x p embed v at given
  typed_after result e d embed v at (Kept none live is) = subst (IsValueOf embed.kind) (sym is) (prepared.sound.is_map.values e d embed at live)
  typed_after result e d embed v at (Added x p keeper none a b name kept is) =
      let left : IsTrue (has_word (rule_in app) Left keeper) = (both_true (has_word (rule_in app) Left keeper) (has_word (rule_in app) Right keeper) kept.preserved).0 in
      subst (IsValueOf embed.kind) (sym is) (prepared.sound.is_map.values e ((place_in app).dart_of keeper p) embed at (prepared.matched.is_match.embedded.live keeper p (left, b)))

  pub typed : (e d : ℕ) (embed : Embed) (v : Value) → IsEmbedAt app.map.schema e embed → IsValueIn app e embed d v → IsValueOf embed.kind v
  typed e d embed v at is = typed_after (some_unfolding app prepared).0 e d embed v at (is (some_unfolding app prepared).0 (some_unfolding app prepared).1)

  -- an added dart has one value for each embedding, of its kind
  module _ (added : ℕ) (values : List Value) (are : AreAddedValues app added values) (number : ℕ) (low : number < added) where
    abbrev width : ℕ
    width = length app.map.schema.embeds

    abbrev own : List Value
    own = part_of width values number

    long : length own ≡ width
    long = part_long width values added number low (omega (arith, are.long))

    here : (e : ℕ) → e < width → (v : Value) → (embed : Embed) × IsEmbedAt app.map.schema e embed × (get_or app.map.schema.embeds e embed ≡ embed) × IsValueOf embed.kind (get_or own e v)
    here e h v = elim ((slice_get_cases app.map.schema.embeds e).1) [
      | inl (embed, below, at, is) ↦
          let one : get_or own e v ≡ added_value app.map.schema values number e = get_or_default own e v (Int (pos 0)) (omega (arith, long)) ∙ part_entry width values number e (Int (pos 0)) h in
          (embed, at, is, rw one (typed e (app.map.next + number) embed (added_value app.map.schema values number e) at (are.given number e embed low at)))
      | inr (past, none) ↦ absurd (omega arith)
    ]

    kinds : (e : ℕ) (kind : Kind) → e < length (map kind_of own) → get_or (map kind_of own) e kind ≡ get_or (map (λ (embed : Embed). embed.kind) app.map.schema.embeds) e kind
    kinds e kind within =
        let h : e < width = omega (arith, length-map own kind_of, long) in
        let at = here e h (Int (pos 0)) in
        get_or-map kind_of own e (Int (pos 0)) kind (omega (arith, long)) ∙ at.3.kind_is ∙ sym (get_or-map (λ (embed : Embed). embed.kind) app.map.schema.embeds e at.0 kind h ∙ ap (λ (embed : Embed). embed.kind) at.2)

    pub added_good : AreGoodValues app.map.schema own
    added_good = record {
      kinds = same_lists _ _ (length-map own kind_of ∙ long ∙ sym (length-map app.map.schema.embeds (λ (embed : Embed). embed.kind))) kinds;
      ranges = λ e v within. (here e (omega (arith, long)) v).3.range;
    }
