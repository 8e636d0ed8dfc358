-- What follows where an expression can be read: for its terms, its masks and its embeddings, and for its parts.
use Rattle.std.proofs.Common.{◌≡◌, ℕ, ◌<◌, ◌≤◌, Option, Some, None, IsSome, IsTrue, List, length, get_or, slice_get, refl, sym, ◌∙◌, ap, subst, arith}
use Rattle.std.specs.Option.{option_map}
use Rattle.std.proofs.lemmas.Option.{slice_get-get_or}
use Rattle.std.proofs.lemmas.List.Elements.{All-from_recursion, recursion_from_All}
use Rattle.gm_model.specs.declared.expr.DartTerm.{DartTerm}
use Rattle.gm_model.specs.declared.schema.Embed.{Embed}
use Rattle.gm_model.specs.declared.value.Kind.{Kind}
use Rattle.gm_model.specs.declared.value.Kind.TheVariants as kinds
use Rattle.gm_model.specs.declared.word.Mask.{Mask}
use Rattle.gm_model.specs.Kinds.{IsTermInRange, IsMaskInRange, embed_kind, only_int, param_kinds, sum_kind}
use Rattle.gm_model.specs.Labels.{has}
use Rattle.gm_model.specs.Trees.{Tree, Count, Sum, Least}
use Rattle.gm_model.specs.Values.{IsValueOf, kind_of}
use Rattle.gm_arena.specs.inner.ArenaAsMap.{value}
use Rattle.gm_arena.specs.inner.ArenaMap.{IsLiveSlot, name_at}
use Rattle.gm_arena.proofs.ArenaIsMap.{is_map}
use Rattle.gm_arena.proofs.MapLemmas.{IsLiveName-alpha, IsLiveName-name_at}
use Rattle.gm_arena.specs.declared.slot.Slot.{Slot}
use Rattle.gm_walk.specs.inner.Walks.{AreLive}
use Rattle.gm_theory.proofs.ReadingsTyped.{then_some}
use Rattle.gm_theory.proofs.ValuesLists.{IsIn}
use Rattle.gm_eval.proofs.Collected.{all_in}
use Rattle.gm_theory.proofs.Lists.{some_same, none_some}
use Rattle.gm_theory.specs.inner.Readings.{IsReadingOf}
use Rattle.gm_eval.specs.declared.reader.Reader.{Reader}
use Rattle.gm_eval.specs.inner.Readers.{IsHere, IsTermHere, IsReady, reading_of}

module _ (reader : Reader) (tree : Tree) (ready : IsReady reader tree) where
  pub is_reading : IsReadingOf ready.typed.rule (reading_of reader)
  is_reading = record {
    is_map = is_map reader.arena.now ready.here.lawful;
    stays = λ d i live low. IsLiveName-alpha reader.arena.now i d ready.here.lawful live low;
    darts = λ x h. IsLiveName-name_at reader.arena.now _ ready.here.lawful (ready.here.live x (ready.typed.nodes_among x h));
  }

  pub term_here : (term : DartTerm) → IsTermInRange reader.arena.now.schema ready.typed.rule term → IsTermHere reader term
  term_here term r = record { node = ready.typed.nodes_among term.node r.node; path = All-from_recursion (λ i. i ≤ reader.arena.now.schema.dim) term.path r.path }

  pub mask_small : (mask : Mask) → IsMaskInRange reader.arena.now.schema ready.typed.rule mask → (i : ℕ) → IsTrue (has mask i) → i ≤ 7
  mask_small mask r i h = omega (arith, r i h, ready.here.lawful.dim.1)

  -- the number of the darts of an orbit over which another form collects
  pub count_ready : (mask : Mask) (term : DartTerm) → IsMaskInRange reader.arena.now.schema ready.typed.rule mask → IsTermInRange reader.arena.now.schema ready.typed.rule term → IsReady reader (Count mask term)
  count_ready mask term labels path =
      let t = ready.typed in
      record { here = ready.here; typed = record { rule = t.rule; kind = kinds.Int; has_kind = record { in_range = (labels, path); kind_is = refl }; good_params = t.good_params; nodes_among = t.nodes_among } }

-- the embedding of a kind that the table gives
pub embed_of : (embeds : List Embed) (params : List Kind) (e : ℕ) (kind : Kind) → embed_kind embeds params e ≡ Some kind → (embed : Embed) × (slice_get embeds e ≡ Some embed) × (embed.kind ≡ kind)
embed_of embeds params e kind h = go (slice_get embeds e) refl h
  where
    go : (o : Option Embed) → slice_get embeds e ≡ o → option_map (λ (embed : Embed). embed.kind) o ≡ Some kind → (embed : Embed) × (slice_get embeds e ≡ Some embed) × (embed.kind ≡ kind)
    go None at f = none_some kind f
    go (Some embed) at f = (embed, at, some_same embed.kind kind f)

-- a live slot has a value of the embedding's kind
pub value_of_kind : (reader : Reader) → IsHere reader → (e slot : ℕ) (embed : Embed) (kind : Kind) → slice_get reader.arena.now.schema.embeds e ≡ Some embed → embed.kind ≡ kind → IsLiveSlot reader.arena.now slot → IsValueOf kind (value reader.arena.now e (name_at reader.arena.now slot))
value_of_kind reader here e slot embed kind at same live =
    let m = reader.arena.now in
    subst (λ k. IsValueOf k (value m e (name_at m slot))) same ((is_map m here.lawful).values e (name_at m slot) embed at (IsLiveName-name_at m slot here.lawful live))

-- the sum of an embedding's values has a kind
pub sum_kind_of : (reader : Reader) (mask : Mask) (term : DartTerm) (e : ℕ) (ready : IsReady reader (Sum mask term e)) (embed : Embed) → slice_get reader.arena.now.schema.embeds e ≡ Some embed → (sum : Kind) × (sum_kind embed.kind ≡ Some sum)
sum_kind_of reader mask term e ready embed at =
    let p : (i : Kind) × (embed_kind reader.arena.now.schema.embeds (param_kinds ready.typed.rule.params) e ≡ Some i) × (sum_kind i ≡ Some ready.typed.kind) = then_some sum_kind _ ready.typed.kind ready.typed.has_kind.kind_is in
    (ready.typed.kind, ap sum_kind (some_same embed.kind p.0 (sym (ap (option_map (λ (embed : Embed). embed.kind)) at) ∙ p.1)) ∙ p.2)

pub sum_known : (reader : Reader) (mask : Mask) (term : DartTerm) (e : ℕ) (ready : IsReady reader (Sum mask term e)) (embed : Embed) → slice_get reader.arena.now.schema.embeds e ≡ Some embed → IsSome (sum_kind embed.kind)
sum_known reader mask term e ready embed at = let sum = sum_kind_of reader mask term e ready embed at in subst (λ (kind : Option Kind). IsSome kind) (sym sum.1) refl

-- the embedding as the code reads it from the schema's list
pub embed_read : (embeds read : List Embed) (e : ℕ) (default : Embed) → read ≡ embeds → e < length embeds → slice_get embeds e ≡ Some (get_or read e default)
embed_read embeds read e default same within = subst (λ (xs : List Embed). slice_get xs e ≡ Some (get_or read e default)) same (slice_get-get_or read e default (subst (λ (xs : List Embed). e < length xs) (sym same) within))

-- an embedding whose least value is asked has numbers
pub number_of_embed : (reader : Reader) (mask : Mask) (term : DartTerm) (e : ℕ) (ready : IsReady reader (Least mask term e)) → (embed : Embed) × (slice_get reader.arena.now.schema.embeds e ≡ Some embed) × (embed.kind ≡ kinds.Int)
number_of_embed reader mask term e ready =
    let p : (i : Kind) × (embed_kind reader.arena.now.schema.embeds (param_kinds ready.typed.rule.params) e ≡ Some i) × (only_int i ≡ Some ready.typed.kind) = then_some only_int _ ready.typed.kind ready.typed.has_kind.kind_is in
    let q : (embed : Embed) × (slice_get reader.arena.now.schema.embeds e ≡ Some embed) × (embed.kind ≡ p.0) = embed_of _ (param_kinds ready.typed.rule.params) e p.0 p.1 in
    (q.0, q.1, q.2 ∙ is_int p.0 ready.typed.kind p.2)
  where
    is_int : (i kind : Kind) → only_int i ≡ Some kind → i ≡ kinds.Int
    is_int kinds.Int kind h = refl
    is_int i kind h = none_some kind h

module _ (reader : Reader) (here : IsHere reader) (e : ℕ) (embed : Embed) (kind : Kind) (at : slice_get reader.arena.now.schema.embeds e ≡ Some embed) (same : embed.kind ≡ kind) where
  -- the values at live slots have the embedding's kind
  pub kinds_at : (slots : List Slot) → AreLive reader.arena.now slots → (s : Slot) → IsIn s slots → kind_of (value reader.arena.now e (name_at reader.arena.now s.at)) ≡ kind
  kinds_at slots live s i = (value_of_kind reader here e s.at embed kind at same (all_in (λ (t : Slot). IsLiveSlot reader.arena.now t.at) slots s (recursion_from_All (λ (t : Slot). IsLiveSlot reader.arena.now t.at) slots live) i)).kind_is
