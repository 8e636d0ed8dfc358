-- An application has one budget at most.
use Rattle.std.proofs.Common.{◌≡◌, ℕ, suc, ◌+◌, ◌*◌, ◌<◌, ◌⊎◌, ◌↔◌, inl, inr, List, [], ◌∷◌, length, sum, Some, slice_get, refl, sym, ap, ap₂, subst, ◌∙◌, arith}
use Rattle.std.specs.List.{AllZip}
use Rattle.std.proofs.lemmas.Option.{slice_get_within}
use Rattle.gm_model.specs.declared.schema.Embed.{Embed}
use Rattle.gm_model.specs.declared.value.Kind.TheVariants as kinds
use Rattle.gm_model.specs.Applications.{Application, Decider, IsDeciderBefore, IsReady, IsReadUnits, IsReadSum, IsReachedSum, IsReachedAt, IsRead, IsPreUnits, HasPositions, NoDarts, Candidate, IsWork, NoMatch, NotReady, Ready, IsBudget, Of, more, reading_at}
use Rattle.gm_model.specs.declared.value.Kind.{Kind}
use Rattle.gm_model.specs.Expressions.{HasUnits}
use Rattle.gm_model.specs.Kinds.{AreGoodParams, HasKind}
use Rattle.gm_model.specs.Maps.{dimension}
use Rattle.gm_model.specs.Matches.{Placement, IsMatch}
use Rattle.gm_model.specs.Orbits.{IsPairBefore}
use Rattle.gm_model.specs.Trees.{Tree}
use Rattle.gm_theory.specs.inner.Theorem.{Unfolded, Unfolds, IsDartOf}
use Rattle.gm_theory.proofs.Agreement.{one_match}
use Rattle.gm_theory.proofs.LikeCandidates.{candidates_like}
use Rattle.gm_theory.proofs.Lists.{none_some, some_same}
use Rattle.gm_theory.proofs.ListsGathered.{IsSorted}
use Rattle.gm_theory.proofs.ReadingsUnits.{readings_are_determined}
use Rattle.gm_theory.proofs.Turns.{some_position_walked}
use Rattle.gm_theory.proofs.ValuesKept.{match_reading, one_tree}
use Rattle.gm_theory.proofs.ValuesLists.{IsIn, in_contained, contains_in}
use Rattle.gm_theory.proofs.ValuesUnique.{one_count}
use Rattle.gm_apply.proofs.LikeApplications.{pre_units_there, ready_there}
use Rattle.gm_apply.proofs.LikePlaces.{AreLikeAt, same_map}
use Rattle.gm_apply.proofs.LikeResults.{AreLikeResults, results_like}
use Rattle.gm_apply.proofs.LikeValues.{reached_sum_there, read_sum_there}
use Rattle.gm_run.proofs.AlikeLemmas.{Suits, some_embed}

-- ---- lists

-- two lists of one length that agree at each place
pub same_places : (xs ys : List ℕ) → length xs ≡ length ys → ((k x y : ℕ) → slice_get xs k ≡ Some x → slice_get ys k ≡ Some y → x ≡ y) → xs ≡ ys
same_places [] [] long same = refl
same_places [] (y ∷ ys) long same = absurd (omega arith)
same_places (x ∷ xs) [] long same = absurd (omega arith)
same_places (x ∷ xs) (y ∷ ys) long same = ap₂ (λ (z : ℕ) (zs : List ℕ). z ∷ zs) (same 0 x y refl refl) (same_places xs ys (omega arith) (λ k. same (suc k)))

module _ {A : Type 0} (IsBefore : A → A → Type 0) (asymmetric : (a b : A) → IsBefore a b → IsBefore b a → ⊥) where
  -- places in order make a list in order
  pub placed_sorted : (xs : List A) → ((k l : ℕ) (a b : A) → k < l → slice_get xs k ≡ Some a → slice_get xs l ≡ Some b → IsBefore a b) → IsSorted IsBefore xs
  placed_sorted [] ordered = tt
  placed_sorted (x ∷ xs) ordered = (first xs (λ k b at. ordered 0 (suc k) x b (omega arith) refl at), placed_sorted xs (λ k l a b less. ordered (suc k) (suc l) a b (omega arith)))
    where
      first : (ys : List A) → ((k : ℕ) (b : A) → slice_get ys k ≡ Some b → IsBefore x b) → (y : A) → IsIn y ys → IsBefore x y
      first [] each y i = absurd i
      first (z ∷ ys) each y (inl e) = subst (IsBefore x) e (each 0 z refl)
      first (z ∷ ys) each y (inr i) = first ys (λ k. each (suc k)) y i

  -- two lists in order that have the same elements
  pub same_sorted : (xs ys : List A) → IsSorted IsBefore xs → IsSorted IsBefore ys → ((a : A) → IsIn a xs ↔ IsIn a ys) → xs ≡ ys
  same_sorted [] [] up up' same = refl
  same_sorted [] (y ∷ ys) up up' same = absurd ((same y).1 (inl refl))
  same_sorted (x ∷ xs) [] up up' same = absurd ((same x).0 (inl refl))
  same_sorted (x ∷ xs) (y ∷ ys) up up' same = ap₂ (λ (z : A) (zs : List A). z ∷ zs) heads (same_sorted xs ys up.1 up'.1 (λ a. (there a, back a)))
    where
      go : (y ≡ x) ⊎ IsIn x ys → (x ≡ y) ⊎ IsIn y xs → x ≡ y
      go (inl e) side = sym e
      go (inr i) (inl e) = e
      go (inr i) (inr j) = absurd (asymmetric x y (up.0 y j) (up'.0 x i))

      heads : x ≡ y
      heads = go ((same x).0 (inl refl)) ((same y).1 (inl refl))

      there : (a : A) → IsIn a xs → IsIn a ys
      there a i = by ((same a).0 (inr i))
        where
          by : (y ≡ a) ⊎ IsIn a ys → IsIn a ys
          by (inl e) = let less : IsBefore x x = subst (IsBefore x) (sym (heads ∙ e)) (up.0 a i) in absurd (asymmetric x x less less)
          by (inr j) = j

      back : (a : A) → IsIn a ys → IsIn a xs
      back a i = by ((same a).1 (inr i))
        where
          by : (x ≡ a) ⊎ IsIn a xs → IsIn a xs
          by (inl e) = let less : IsBefore y y = subst (IsBefore y) (sym (sym heads ∙ e)) (up'.0 a i) in absurd (asymmetric y y less less)
          by (inr j) = j

-- what goes with each element of a list is one list
pub one_zipped : {A : Type 0} (R : A → ℕ → Type 0) (xs : List A) (us vs : List ℕ) → ((x : A) (u v : ℕ) → IsIn x xs → R x u → R x v → u ≡ v) → AllZip R xs us → AllZip R xs vs → us ≡ vs
one_zipped R [] [] [] one a b = refl
one_zipped R [] [] (v ∷ vs) one a b = absurd b
one_zipped R [] (u ∷ us) vs one a b = absurd a
one_zipped R (x ∷ xs) [] vs one a b = absurd a
one_zipped R (x ∷ xs) (u ∷ us) [] one a b = absurd b
one_zipped R (x ∷ xs) (u ∷ us) (v ∷ vs) one a b = ap₂ (λ (z : ℕ) (zs : List ℕ). z ∷ zs) (one x u v (inl refl) a.0 b.0) (one_zipped R xs us vs (λ y w z i. one y w z (inr i)) a.1 b.1)

decider_asymmetric : (a b : Decider) → IsDeciderBefore a b → IsDeciderBefore b a → ⊥
decider_asymmetric a b (inl h) (inl k) = omega arith
decider_asymmetric a b (inl h) (inr (e, k)) = omega arith
decider_asymmetric a b (inr (e, h)) (inl k) = omega arith
decider_asymmetric a b (inr (e, h)) (inr (f, k)) = go h k
  where
    go : IsPairBefore a.node a.position b.node b.position → IsPairBefore b.node b.position a.node a.position → ⊥
    go (inl l) (inl m) = omega arith
    go (inl l) (inr (g, m)) = omega arith
    go (inr (g, l)) (inl m) = omega arith
    go (inr (g, l)) (inr (i, m)) = omega arith

-- ---- the parts of the work

module _ (app : Application) (suits : Suits app.rule app.map) (params : AreGoodParams app.rule app.params) where
  one_positions : (k l : ℕ) → HasPositions app k → HasPositions app l → k ≡ l
  one_positions _ _ (NoDarts none) (NoDarts none') = refl
  one_positions _ _ (NoDarts none) (Candidate place darts candidate) = absurd (none darts)
  one_positions _ _ (Candidate place darts candidate) (NoDarts none) = absurd (none darts)
  one_positions _ _ (Candidate place darts candidate) (Candidate other darts' candidate') = (candidates_like app suits.accepted.in_range suits.accepted.incidence place other candidate candidate').positions

  module _ (place : Placement) (matched : IsMatch app.map app.rule app.hooks place) where
    some : 0 < place.positions
    some = some_position_walked app.map app.rule app.hooks matched.walk place matched.positions

    one_number : (p : ℕ) (tree : Tree) (kind : Kind) (u v : ℕ) → p < place.positions → HasKind app.map.schema app.rule tree kind → HasUnits (reading_at app place p) tree u → HasUnits (reading_at app place p) tree v → u ≡ v
    one_number p tree kind u v within has = (readings_are_determined app.rule (reading_at app place p) tree kind (match_reading app place suits.sound.is_map suits.sound.generalised matched p within) params has).one_number u v

    one_pre : (u v : ℕ) → IsPreUnits app place u → IsPreUnits app place v → u ≡ v
    one_pre u v (inl (none, e)) (inl (none', f)) = e ∙ sym f
    one_pre u v (inl (none, e)) (inr (tree, at, units)) = none_some tree (sym none ∙ at)
    one_pre u v (inr (tree, at, units)) (inl (none, e)) = none_some tree (sym none ∙ at)
    one_pre u v (inr (tree, at, units)) (inr (other, at', units')) =
        one_number 0 tree kinds.Bool u v some (suits.accepted.typed.pre tree at) units (subst (λ t. HasUnits (reading_at app place 0) t v) (some_same other tree (sym at' ∙ at)) units')

    module _ (result : Unfolded) where
      one_reached : (u v : ℕ) → IsReachedSum app place (IsDartOf result) result.alpha u → IsReachedSum app place (IsDartOf result) result.alpha v → u ≡ v
      one_reached u v first second = first.sum_is ∙ ap sum (same_places first.counts second.counts (first.each ∙ sym second.each) same) ∙ sym second.sum_is
        where
          same : (e c d : ℕ) → slice_get first.counts e ≡ Some c → slice_get second.counts e ≡ Some d → c ≡ d
          same e c d at at' =
              let found : (embed : Embed) × (slice_get app.map.schema.embeds e ≡ Some embed) = some_embed app.map.schema.embeds e (omega (arith, first.each, slice_get_within first.counts e c at)) in
              one_count (IsReachedAt app place (IsDartOf result) result.alpha e found.0) c d (first.counts_are e c found.0 at found.1) (second.counts_are e d found.0 at' found.1)

      one_read : (u v : ℕ) → IsReadSum app place (IsDartOf result) result.alpha u → IsReadSum app place (IsDartOf result) result.alpha v → u ≡ v
      one_read u v first second = first.sum_is ∙ ap sum (one_zipped (IsReadUnits app place) second.read first.units second.units one (subst (λ read. AllZip (IsReadUnits app place) read first.units) same first.units_are) second.units_are) ∙ sym second.sum_is
        where
          same : first.read ≡ second.read
          same = same_sorted IsDeciderBefore decider_asymmetric first.read second.read (placed_sorted IsDeciderBefore decider_asymmetric first.read first.ordered) (placed_sorted IsDeciderBefore decider_asymmetric second.read second.ordered)
              (λ d. ((λ i. in_contained second.read d ((second.same d).1 ((first.same d).0 (contains_in first.read d i)))), (λ i. in_contained first.read d ((first.same d).1 ((second.same d).0 (contains_in second.read d i))))))

          one : (d : Decider) (u v : ℕ) → IsIn d second.read → IsReadUnits app place d u → IsReadUnits app place d v → u ≡ v
          one d u v i (tree, at, units) (other, at', units') =
              let read : IsRead app place (IsDartOf result) result.alpha d = (second.same d).0 (contains_in second.read d i) in
              one_number d.position tree read.0.embed.kind u v at.1 (suits.accepted.typed.sets d.node d.embed tree read.0.embed at.0 read.0.embed_at) units
              (subst (λ t. HasUnits (reading_at app place d.position) t v) (one_tree app.map.schema app.rule suits.accepted.in_range d.node d.embed other tree at'.0 at.0) units')

  -- ---- the work

  module _ (place other : Placement) (ours : IsMatch app.map app.rule app.hooks place) (theirs : IsMatch app.map app.rule app.hooks other) where
    both : AreLikeAt app.rule app.map app.map place other
    both = same_map app.rule app.map place other suits.accepted suits.sound.is_map suits.sound.generalised (one_match app.map app.rule app.hooks place other suits.accepted.in_range suits.accepted.incidence ours theirs) ours.embedded.live

    pre_there : (u : ℕ) → IsPreUnits app place u → IsPreUnits app other u
    pre_there = pre_units_there app.rule app.hooks app.params app.map app.map place other both (some place ours)

    ready_too : IsReady app place → IsReady app other
    ready_too ready = ready_there app.rule app.hooks app.params app.map app.map place other both ready theirs

    module _ (result end : Unfolded) (unfolds : Unfolds app.map app.rule place result) (unfolds_too : Unfolds app.map app.rule other end) where
      results : AreLikeResults app.rule app.map app.map place other result end
      results = results_like app.rule app.hooks app.map app.map place other both suits.of_schema ours result end unfolds unfolds_too

      reached_too : (u : ℕ) → IsReachedSum app place (IsDartOf result) result.alpha u → IsReachedSum app other (IsDartOf end) end.alpha u
      reached_too = reached_sum_there app.rule app.hooks app.params app.map app.map place other result end results

      read_too : (u : ℕ) → IsReadSum app place (IsDartOf result) result.alpha u → IsReadSum app other (IsDartOf end) end.alpha u
      read_too = read_sum_there app.rule app.hooks app.params app.map app.map place other result end results

  one_work : (r s u v : ℕ) → IsWork app r u → IsWork app s v → (r ≡ s) × (u ≡ v)
  one_work _ _ _ _ (NoMatch none) (NoMatch none') = (refl, refl)
  one_work _ _ _ v (NoMatch none) (NotReady other _ theirs unready units) = absurd (none other theirs)
  one_work _ s _ _ (NoMatch none) (Ready other live alpha _ u w ready unfolded reaches units read) = absurd (none other ready.matched)
  one_work _ _ u _ (NotReady place _ ours unready units) (NoMatch none) = absurd (none place ours)
  one_work _ _ u v (NotReady place _ ours unready units) (NotReady other _ theirs unready' units') = (refl, one_pre other theirs u v (pre_there place other ours theirs u units) units')
  one_work _ s u _ (NotReady place _ ours unready units) (Ready other live alpha _ u' w ready unfolded reaches units' read) = absurd (unready (ready_too other place ready.matched ours ready))
  one_work r _ _ _ (Ready place live alpha _ u w ready unfolded reaches units read) (NoMatch none) = absurd (none place ready.matched)
  one_work r _ _ v (Ready place live alpha _ u w ready unfolded reaches units read) (NotReady other _ theirs unready units') = absurd (unready (ready_too place other ready.matched theirs ready))
  one_work r s _ _ (Ready place live alpha _ u w ready unfolded reaches units read) (Ready other live' alpha' _ u' w' ready' unfolded' reaches' units' read') =
      let result : Unfolded = record { live = live; alpha = alpha; next = app.map.next + more app place } in
      let end : Unfolded = record { live = live'; alpha = alpha'; next = app.map.next + more app other } in
      let reached : r ≡ s = one_reached other ready'.matched end r s (reached_too place other ready.matched ready'.matched result end unfolded unfolded' r reaches) reaches' in
      let pre : u ≡ u' = one_pre other ready'.matched u u' (pre_there place other ready.matched ready'.matched u units) units' in
      let reads : w ≡ w' = one_read other ready'.matched end w w' (read_too place other ready.matched ready'.matched result end unfolded unfolded' w read) read' in
      (reached, ap₂ ◌+◌ pre reads)

  pub one_budget : (most other : ℕ) → IsBudget app most → IsBudget app other → most ≡ other
  one_budget _ _ (Of k r u has work) (Of l s v has' work') =
      let positions : k ≡ l = one_positions k l has has' in
      let both : (r ≡ s) × (u ≡ v) = one_work r s u v work work' in
      ap (λ n. 24 * (dimension app.map + 1) * (length app.rule.nodes * n + r + u + 1)) positions ∙ ap₂ (λ n m. 24 * (dimension app.map + 1) * (length app.rule.nodes * l + n + m + 1)) both.0 both.1
