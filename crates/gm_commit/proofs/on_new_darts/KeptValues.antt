-- The kept values of new darts, put dart by dart.
use Rattle.std.proofs.Common.{◌≡◌, ℕ, ◌+◌, ◌*◌, ◌<◌, ◌≤◌, ◌⊎◌, List, [], ◌∷◌, ◌++◌, length, get_or, refl, sym, ◌∙◌, subst, inl, inr, arith, pos}
use Rattle.std.proofs.lemmas.Bool.{cases_eq}
use Rattle.std.proofs.lemmas.List.{length_push, get_or_append_left, get_or_push}
use Rattle.std.proofs.lemmas.Nat.{mul-le}
use Rattle.std.proofs.lemmas.Option.{slice_get_within}
use Rattle.gm_model.specs.declared.schema.Embed.{Embed}
use Rattle.gm_model.specs.declared.value.Value.{Value}
use Rattle.gm_model.specs.declared.value.Value.TheVariants.{Int}
use Rattle.gm_model.specs.Maps.{IsEmbedAt}
use Rattle.gm_theory.proofs.NewNames.{block_below}
use Rattle.gm_commit.specs.inner.EditLists.{AreAddedValues, added_value}
use Rattle.gm_commit.specs.inner.NewDartValues.{AreKeptValues, IsKeptValue}
use Rattle.gm_pending.specs.inner.Results.{PendingOf}

module _ (app : PendingOf) where
  -- where there is no added dart or no embedding, there are no values
  pub no_values : (added : ℕ) → added * length app.map.schema.embeds ≡ 0 → AreAddedValues app added []
  no_values added none = record {
    long = sym none;
    given = λ number e embed low at. absurd (
        let within = slice_get_within app.map.schema.embeds e embed at in
        let some : 1 * 1 ≤ added * length app.map.schema.embeds = mul-le 1 1 added (length app.map.schema.embeds) (omega (arith, low)) (omega (arith, within)) in
        omega (arith, none, some)
        );
  }

  pub none_kept : AreKeptValues app 0 []
  none_kept = record { long = omega arith; kept = λ number e embed h. absurd (omega arith) }

  -- the values of the first embeddings of one more dart came to those that were there
  pub record ArePut (number count : ℕ) (old new : List Value) : Type 0 where
    pub long : length new ≡ length old + count
    pub same : (k : ℕ) (v : Value) → k < length old → get_or new k v ≡ get_or old k v
    pub own : (e : ℕ) (embed : Embed) → e < count → IsEmbedAt app.map.schema e embed → IsKeptValue app e embed number (get_or new (length old + e) (Int (pos 0)))

  pub none_put : (number : ℕ) (old : List Value) → ArePut number 0 old old
  none_put number old = record { long = omega arith; same = λ k v h. refl; own = λ e embed h. absurd (omega arith) }

  pub more_put : (number count : ℕ) (old mid : List Value) (v : Value) → ArePut number count old mid → ((embed : Embed) → IsEmbedAt app.map.schema count embed → IsKeptValue app count embed number v) → ArePut number (count + 1) old (mid ++ v ∷ [])
  more_put number count old mid v put given = record {
    long = omega (arith, length_push mid v, put.long);
    same = λ k other h. get_or_append_left mid (v ∷ []) other k (omega (arith, put.long)) ∙ put.same k other h;
    own = own;
  }
    where
      own : (e : ℕ) (embed : Embed) → e < count + 1 → IsEmbedAt app.map.schema e embed → IsKeptValue app e embed number (get_or (mid ++ v ∷ []) (length old + e) (Int (pos 0)))
      own e embed h at = elim (cases_eq e count) [
        | inl last ↦
            let here : get_or (mid ++ v ∷ []) (length old + e) (Int (pos 0)) ≡ v = get_or_push mid v (Int (pos 0)) (length old + e) (omega (arith, put.long, last)) in
            subst (IsKeptValue app e embed number) (sym here) (subst (λ k. IsEmbedAt app.map.schema k embed → IsKeptValue app k embed number v) (sym last) (given embed) at)
        | inr earlier ↦
            let there = get_or_append_left mid (v ∷ []) (Int (pos 0)) (length old + e) (omega (arith, put.long)) in
            subst (IsKeptValue app e embed number) (sym there) (put.own e embed (omega arith) at)
      ]

  module _ (number count : ℕ) (old new : List Value) (whole : count ≡ length app.map.schema.embeds) (so_far : AreKeptValues app number old) (put : ArePut number count old new) where
    kept : (i e : ℕ) (embed : Embed) → i < number + 1 → IsEmbedAt app.map.schema e embed → IsKeptValue app e embed i (added_value app.map.schema new i e)
    kept i e embed h at = go (cases_eq i number)
      where
        low : e < length app.map.schema.embeds
        low = slice_get_within app.map.schema.embeds e embed at

        go : (i ≡ number) ⊎ (i ≡ number → ⊥) → IsKeptValue app e embed i (added_value app.map.schema new i e)
        go (inl last) =
            let place : length old + e ≡ number * length app.map.schema.embeds + e = omega (arith, so_far.long) in
            rw last (subst (λ k. IsKeptValue app e embed number (get_or new k (Int (pos 0)))) place (put.own e embed (omega (arith, low, whole)) at))
        go (inr earlier) =
            let block : i * length app.map.schema.embeds + e < number * length app.map.schema.embeds + 0 = block_below i number (length app.map.schema.embeds) e 0 (omega arith) low in
            subst (IsKeptValue app e embed i) (sym (put.same (i * length app.map.schema.embeds + e) (Int (pos 0)) (omega (arith, block, so_far.long)))) (so_far.kept i e embed (omega arith) at)

    pub more_kept : AreKeptValues app (number + 1) new
    more_kept =
        let more : (number + 1) * length app.map.schema.embeds ≡ number * length app.map.schema.embeds + length app.map.schema.embeds = grind arith in
        record { long = omega (arith, put.long, whole, so_far.long, more); kept = kept }
