-- The new values of old darts, gathered embedding by embedding and dart by dart.
use Rattle.std.proofs.Common.{◌≡◌, ℕ, ◌+◌, ◌<◌, ◌≤◌, ◌⊎◌, List, [], ◌∷◌, ◌++◌, length, take, get_or, Some, slice_get, refl, sym, ap, ◌∙◌, subst, inl, inr, arith}
use Rattle.std.specs.List.{Contains, sum}
use Rattle.std.proofs.lemmas.Bool.{cases_eq}
use Rattle.std.proofs.lemmas.List.{length_push, take_all}
use Rattle.std.proofs.lemmas.List.Sums.{sum_by_more}
use Rattle.std.proofs.lemmas.Option.{same_Some, slice_get-get_or, slice_get_cases, slice_get_within}
use Rattle.gm_model.specs.declared.schema.Embed.{Embed}
use Rattle.gm_model.specs.declared.value.Value.{Value}
use Rattle.gm_model.specs.Maps.{IsDart, IsEmbedAt}
use Rattle.gm_model.specs.Orbits.{HasCount}
use Rattle.gm_arena.specs.declared.slot.Slot.{Slot}
use Rattle.gm_arena.specs.inner.ArenaAsMap.{as_map}
use Rattle.gm_arena.specs.inner.ArenaMap.{name_at}
use Rattle.gm_arena.proofs.MapLemmas.{name_below}
use Rattle.gm_theory.proofs.Lists.{get_contained, contained_at}
use Rattle.gm_theory.proofs.NewNames.{new_name}
use Rattle.gm_theory.specs.inner.Theorem.{Unfolded}
use Rattle.gm_walk.specs.declared.at.At.{At}
use Rattle.gm_walk.specs.declared.at.At.TheVariants.{Old, New}
use Rattle.gm_commit.specs.declared.changes.ValueAt.{ValueAt}
use Rattle.gm_walk.specs.declared.mark.Mark.{Mark}
use Rattle.gm_commit.specs.inner.EditLists.{AreNewValues, IsNewValue, IsReachedSumIn, IsValueOfDart}
use Rattle.gm_pending.specs.inner.ReachedDarts.{AreReached}
use Rattle.gm_pending.specs.inner.Results.{PendingOf, IsPrepared, IsReachedIn, IsResultDart, IsUnfoldedIn, IsValueIn, name_of, rule_in, place_in}
use Rattle.gm_pending.specs.declared.deciding_instance.DecidingInstance.{DecidingInstance}
use Rattle.gm_pending.proofs.on_pending.ResultDarts.{result_dart}
use Rattle.gm_pending.proofs.on_deciding.DecidersFound.{few_reached}
use Rattle.gm_pending.proofs.on_marks.OneMoreMark.{among_or_last, kept_among, last_among}
use Rattle.gm_commit.proofs.ListMembers.{contains_none}

abbrev pub value_at : Slot → ℕ → Value → ValueAt
value_at slot e v = record { slot = slot; embed = e; value = v }

-- ---- what is gathered

module _ (app : PendingOf) where
  -- so many darts of the result are reached for the embedding
  abbrev pub HasReached : ℕ → ℕ → Type 0
  HasReached e count = (result : Unfolded) × (embed : Embed) × IsUnfoldedIn app result × IsEmbedAt app.map.schema e embed × HasCount (IsReachedIn app result e embed) count

  -- the entries are the darts of the result that are reached for the embedding, no more of them than there are
  pub record AreAllReached (e : ℕ) (reached : List Mark) : Type 0 where
    pub dart : (entry : Mark) → Contains reached entry → IsResultDart app entry.at
    pub in_orbit : (embed : Embed) → IsEmbedAt app.map.schema e embed → (result : Unfolded) → IsUnfoldedIn app result → (entry : Mark) → Contains reached entry → IsReachedIn app result e embed (name_of app entry.at)
    pub all : (embed : Embed) → IsEmbedAt app.map.schema e embed → (result : Unfolded) → IsUnfoldedIn app result → (d : ℕ) → IsReachedIn app result e embed d → (entry : Mark) × Contains reached entry × (name_of app entry.at ≡ d)
    pub few : (count : ℕ) → HasReached e count → length reached ≤ count

  -- the values of the darts that are reached for the embedding came to those that were there
  pub record AreGathered (e : ℕ) (old new : List ValueAt) : Type 0 where
    pub kept : (at : ValueAt) → Contains old at → Contains new at
    pub only : (at : ValueAt) → Contains new at → Contains old at ⊎ IsNewValue app at
    pub all : (result : Unfolded) → IsUnfoldedIn app result → (d : ℕ) (embed : Embed) → IsEmbedAt app.map.schema e embed → IsDart (as_map app.map) d → IsReachedIn app result e embed d → (at : ValueAt) × Contains new at × IsValueOfDart app at e d
    pub few : (count : ℕ) → HasReached e count → length new ≤ length old + count

  -- the values of the first of the reached darts came to those that were there, where they are old
  pub record AreGatheredFrom (e : ℕ) (reached : List Mark) (count : ℕ) (old new : List ValueAt) : Type 0 where
    pub kept : (at : ValueAt) → Contains old at → Contains new at
    pub only : (at : ValueAt) → Contains new at → Contains old at ⊎ IsNewValue app at
    pub all : (k : ℕ) (entry : Mark) (slot : Slot) → k < count → slice_get reached k ≡ Some entry → entry.at ≡ Old slot → (at : ValueAt) × Contains new at × (at.embed ≡ e) × (at.slot ≡ slot)
    pub few : length new ≤ length old + count

  -- the list has the new values of the first embeddings
  pub record AreGatheredBelow (count : ℕ) (values : List ValueAt) : Type 0 where
    pub new : (at : ValueAt) → Contains values at → IsNewValue app at
    pub all : (result : Unfolded) → IsUnfoldedIn app result → (e d : ℕ) (embed : Embed) → e < count → IsEmbedAt app.map.schema e embed → IsDart (as_map app.map) d → IsReachedIn app result e embed d → (at : ValueAt) × Contains values at × IsValueOfDart app at e d
    pub few : (reached : ℕ) (s : IsReachedSumIn app reached) → length values ≤ sum (take count s.counts)

-- ---- what was answered

pub all_reached : (app : PendingOf) → IsPrepared app → (e : ℕ) (instances : List DecidingInstance) (reached : List Mark) → e < length app.map.schema.embeds →
    ((embed : Embed) → IsEmbedAt app.map.schema e embed → AreReached app e embed instances reached) → AreAllReached app e reached
all_reached app prepared e instances reached low are = record {
  dart = elim ((slice_get_cases app.map.schema.embeds e).1) [
    | inl (embed, below, at, is) ↦ (are embed at).darts
    | inr (past, none) ↦ absurd (omega arith)
  ];
  in_orbit = in_orbit;
  all = λ embed at. (are embed at).all;
  few = λ count (result, embed, unfolds, at, counted). few_reached app prepared e embed at reached result count (are embed at).distinct (in_orbit embed at) unfolds counted;
}
  where
    in_orbit : (embed : Embed) → IsEmbedAt app.map.schema e embed → (result : Unfolded) → IsUnfoldedIn app result → (entry : Mark) → Contains reached entry → IsReachedIn app result e embed (name_of app entry.at)
    in_orbit embed at result unfolds entry among =
        let by = (are embed at).decided result unfolds entry among in
        ((unfolds.darts (name_of app entry.at)).1 (result_dart app prepared entry.at ((are embed at).darts entry among)), (by.0.node, by.0.position, by.2.assigned, by.2.lies))

module _ (app : PendingOf) (e : ℕ) (reached : List Mark) (are : AreAllReached app e reached) where
  -- ---- one embedding, dart by dart

  pub none_gathered : (old : List ValueAt) → AreGatheredFrom app e reached 0 old old
  none_gathered old = record {
    kept = λ at among. among;
    only = λ at among. inl among;
    all = λ k entry slot h. absurd (omega arith);
    few = omega arith;
  }

  module _ (k : ℕ) (old mid : List ValueAt) (so_far : AreGatheredFrom app e reached k old mid) (entry : Mark) (here : slice_get reached k ≡ Some entry) where
    -- a dart of the old map
    pub old_gathered : (slot : Slot) (v : Value) → entry.at ≡ Old slot → e < length app.map.schema.embeds → ((embed : Embed) → IsEmbedAt app.map.schema e embed → IsValueIn app e embed (name_at app.map slot.at) v) →
        AreGatheredFrom app e reached (k + 1) old (mid ++ value_at slot e v ∷ [])
    old_gathered slot v at low given = record {
      kept = λ other among. kept_among mid (value_at slot e v) other (so_far.kept other among);
      only = λ other among. elim (among_or_last mid (value_at slot e v) other among) [
        | inl earlier ↦ so_far.only other earlier
        | inr is ↦ inr (subst (IsNewValue app) is new)
      ];
      all = all;
      few = omega (arith, so_far.few, length_push mid (value_at slot e v));
    }
      where
        new : IsNewValue app (value_at slot e v)
        new = elim ((slice_get_cases app.map.schema.embeds e).1) [
          | inl (embed, below, embed_at, is) ↦ record {
            embed = embed;
            embed_at = embed_at;
            stays = subst (IsResultDart app) at (are.dart entry (get_contained reached k entry here));
            reached = λ result unfolds. subst (λ a. IsReachedIn app result e embed (name_of app a)) at (are.in_orbit embed embed_at result unfolds entry (get_contained reached k entry here));
            value = given embed embed_at;
          }
          | inr (past, none) ↦ absurd (omega arith)
        ]

        all : (j : ℕ) (other : Mark) (s : Slot) → j < k + 1 → slice_get reached j ≡ Some other → other.at ≡ Old s → (a : ValueAt) × Contains (mid ++ value_at slot e v ∷ []) a × (a.embed ≡ e) × (a.slot ≡ s)
        all j other s h there is = elim (cases_eq j k) [
          | inl last ↦
              let same : entry ≡ other = same_Some entry other (sym here ∙ ap (slice_get reached) (sym last) ∙ there) in
              let slots : Old slot ≡ Old s = sym at ∙ ap (λ (r : Mark). r.at) same ∙ is in
              (value_at slot e v, last_among mid (value_at slot e v), refl, cc)
          | inr earlier ↦
              let found = so_far.all j other s (omega arith) there is in
              (found.0, kept_among mid (value_at slot e v) found.0 found.1, found.2, found.3)
        ]

    -- a new dart has its values elsewhere
    pub new_passed : ((slot : Slot) → entry.at ≡ Old slot → ⊥) → AreGatheredFrom app e reached (k + 1) old mid
    new_passed new = record {
      kept = so_far.kept;
      only = so_far.only;
      all = λ j other slot h there is. elim (cases_eq j k) [
        | inl last ↦ absurd (new slot (ap (λ (r : Mark). r.at) (same_Some entry other (sym here ∙ ap (slice_get reached) (sym last) ∙ there)) ∙ is))
        | inr earlier ↦ so_far.all j other slot (omega arith) there is
      ];
      few = omega (arith, so_far.few);
    }

  pub all_gathered : IsPrepared app → (count : ℕ) (old new : List ValueAt) → count ≡ length reached → AreGatheredFrom app e reached count old new → AreGathered app e old new
  all_gathered prepared count old new end from = record {
    kept = from.kept;
    only = from.only;
    all = all;
    few = λ most counted. omega (arith, from.few, end, are.few most counted);
  }
    where
      all : (result : Unfolded) → IsUnfoldedIn app result → (d : ℕ) (embed : Embed) → IsEmbedAt app.map.schema e embed → IsDart (as_map app.map) d → IsReachedIn app result e embed d → (at : ValueAt) × Contains new at × IsValueOfDart app at e d
      all result unfolds d embed embed_at live there = go found.0.at refl
        where
          found : (entry : Mark) × Contains reached entry × (name_of app entry.at ≡ d)
          found = are.all embed embed_at result unfolds d there

          low : found.1.0 < count
          low = omega (arith, found.1.1, end)

          go : (at : At) → found.0.at ≡ at → (a : ValueAt) × Contains new a × IsValueOfDart app a e d
          go (Old slot) is =
              let in_list = from.all found.1.0 found.0 slot low (contained_at reached found.0 found.1) is in
              (in_list.0, in_list.1, (in_list.2, ap (λ (s : Slot). name_at app.map s.at) in_list.3 ∙ sym (ap (name_of app) is) ∙ found.2))
          go (New x p) is =
              let added : IsResultDart app (New x p) = subst (IsResultDart app) is (are.dart found.0 found.1) in
              let name : name_of app (New x p) ≡ d = sym (ap (name_of app) is) ∙ found.2 in
              absurd (omega (arith, name, new_name (as_map app.map) (rule_in app) (place_in app) x p added.0, name_below app.map d prepared.lawful live))

-- ---- embedding by embedding

pub sum_more : (xs : List ℕ) (k : ℕ) → k < length xs → sum (take (k + 1) xs) ≡ sum (take k xs) + get_or xs k 0
sum_more xs k h = sum_by_more (λ x. x) xs k 0 h

module _ (app : PendingOf) where
  -- how many darts an embedding reaches, of a sum over all
  pub reached_of : (count e : ℕ) (s : IsReachedSumIn app count) → e < length app.map.schema.embeds → HasReached app e (get_or s.counts e 0)
  reached_of count e s h = elim ((slice_get_cases app.map.schema.embeds e).1) [
    | inl (embed, below, at, is) ↦ (s.result, embed, s.unfolded, at, s.counts_are e (get_or s.counts e 0) embed (slice_get-get_or s.counts e 0 (omega (arith, s.each))) at)
    | inr (past, none) ↦ absurd (omega arith)
  ]

  pub none_below : AreGatheredBelow app 0 []
  none_below = record {
    new = λ at among. absurd (contains_none at among);
    all = λ result unfolds e d embed h. absurd (omega arith);
    few = λ count s. omega arith;
  }

  pub more_below : (e : ℕ) (old new : List ValueAt) → e < length app.map.schema.embeds → AreGatheredBelow app e old → AreGathered app e old new → AreGatheredBelow app (e + 1) new
  more_below e old new low so_far more = record {
    new = λ at among. elim (more.only at among) [
      | inl earlier ↦ so_far.new at earlier
      | inr is ↦ is
    ];
    all = λ result unfolds k d embed h at live there. elim (cases_eq k e) [
      | inl last ↦
          let found = more.all result unfolds d embed (rw (← last) at) live (subst (λ j. IsReachedIn app result j embed d) last there) in
          (found.0, found.1, (found.2.0 ∙ sym last, found.2.1))
      | inr earlier ↦
          let found = so_far.all result unfolds k d embed (omega arith) at live there in
          (found.0, more.kept found.0 found.1, found.2)
    ];
    few = λ count s. omega (arith, so_far.few count s, more.few (get_or s.counts e 0) (reached_of count e s low), sum_more s.counts e (omega (arith, s.each)));
  }

  pub all_below : (count : ℕ) (values : List ValueAt) → count ≡ length app.map.schema.embeds → AreGatheredBelow app count values → AreNewValues app values
  all_below count values end below = record {
    new = below.new;
    all = λ result unfolds e d embed at live there. below.all result unfolds e d embed (let h = slice_get_within app.map.schema.embeds e embed at in omega (arith, end)) at live there;
    few = λ reached s. let whole : take count s.counts ≡ s.counts = take_all count s.counts (omega (arith, s.each, end)) in omega (arith, below.few reached s, ap sum whole, s.sum_is);
  }
