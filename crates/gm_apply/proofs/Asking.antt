-- How an embedding is asked for, and its deciding instances are given their values one after another.
use Rattle.std.proofs.Common.{◌≡◌, ℕ, zero, suc, ◌+◌, ◌*◌, ◌<◌, ◌≤◌, ◌⊎◌, inl, inr, List, [], ◌∷◌, ◌++◌, length, map, take, sum, replicate, Option, Some, None, slice_get, get_or, refl, sym, ap, ap₂, subst, ◌∙◌, arith}
use Rattle.std.specs.Prelude.{IsSome}
use Rattle.std.specs.Option.{unwrap_or}
use Rattle.std.specs.List.{AllZip}
use Rattle.std.proofs.lemmas.Bool.{cases_eq}
use Rattle.std.proofs.lemmas.List.{get_or-set_same, get_or-set_other, length-set}
use Rattle.std.proofs.lemmas.List.Sums.{sum_by_more}
use Rattle.std.proofs.lemmas.Option.{slice_get-get_or}
use Rattle.gm_model.specs.declared.schema.Embed.{Embed}
use Rattle.gm_model.specs.Applications.{Decider, IsReadUnits}
use Rattle.gm_model.specs.Maps.{IsEmbedAt}
use Rattle.gm_pending.specs.declared.deciding_instance.DecidingInstance.{DecidingInstance as Entry}
use Rattle.gm_pending.specs.inner.Results.{PendingOf, IsAsked, IsWithinReach, AreDecidingInstances, instances_of, deciding_of, with_instances}
use Rattle.gm_apply.specs.declared.reading.Reading.{Reading}
use Rattle.gm_theory.specs.inner.Theorem.{Unfolded, IsDartOf}
use Rattle.gm_apply.specs.inner.ReadOnce.{IsReadOnce}
use Rattle.gm_apply.specs.inner.Reads.{app_at, place_at, pending_at, unasked_at, decider_at, seen_before, seen_to, IsGivenRight, IsWithinSeen, IsWithinSeenBy, IsWithinSeenOnce, HasRead}
use Rattle.gm_apply.proofs.ReadValues.{some_embed}
use Rattle.gm_apply.proofs.Sublists.{sum_cons}

-- ---- lists

pub nothing_behind : {X : Type 0} (xs : List X) → xs ++ [] ≡ xs
nothing_behind [] = refl
nothing_behind (x ∷ xs) = ap (λ ys. x ∷ ys) (nothing_behind xs)

-- the units of a list with one more
pub record IsSplit (IsUnit : Decider → ℕ → Type 0) (xs : List Decider) (x : Decider) (units : List ℕ) : Type 0 where
  pub first : List ℕ
  pub last : ℕ
  pub are : AllZip IsUnit xs first
  pub is : IsUnit x last
  pub sum_is : sum units ≡ sum first + last

pub split_last : (IsUnit : Decider → ℕ → Type 0) (xs : List Decider) (x : Decider) (units : List ℕ) → AllZip IsUnit (xs ++ x ∷ []) units → IsSplit IsUnit xs x units
split_last IsUnit [] x [] all = absurd all
split_last IsUnit [] x (u ∷ []) all = record { first = []; last = u; are = tt; is = all.0; sum_is = omega (arith, sum_cons u []) }
split_last IsUnit [] x (u ∷ v ∷ units) all = absurd all.1
split_last IsUnit (y ∷ xs) x [] all = absurd all
split_last IsUnit (y ∷ xs) x (u ∷ units) all =
    let rest = split_last IsUnit xs x units all.1 in
    let sum = rest.sum_is in
    record { first = u ∷ rest.first; last = rest.last; are = (all.0, rest.are); is = rest.is; sum_is = omega (arith, sum, sum_cons u units, sum_cons u rest.first) }

-- ---- one embedding's answer is changed

module _ (pending : PendingOf) (e : ℕ) (entries : List Entry) (within : e < length pending.asked) where
  pub entry_same : deciding_of (with_instances pending e entries) e ≡ Some entries
  entry_same = get_or-set_same pending.asked e (Some entries) None within

  pub entry_other : (k : ℕ) → (k ≡ e → ⊥) → deciding_of (with_instances pending e entries) k ≡ deciding_of pending k
  entry_other k apart = get_or-set_other pending.asked e k (Some entries) None apart

pub seen_same : (before after : PendingOf) (n : ℕ) → ((k : ℕ) → k < n → instances_of after k ≡ instances_of before k) → seen_before after n ≡ seen_before before n
seen_same before after zero same = refl
seen_same before after (suc n) same = ap₂ (λ xs ys. xs ++ ys) (seen_same before after n (λ k h. same k (omega (arith, h)))) (ap (map (decider_at n)) (same n (omega arith)))

module _ (reading : Reading) (hooks : List ℕ) where
  -- the application that is pending is that of the reading
  pub is_there : (before after : PendingOf) (e : ℕ) (entries : List Entry) → before ≡ pending_at reading before → after ≡ with_instances before e entries → after ≡ pending_at reading after
  is_there before after e entries is changed =
      changed ∙ ap (λ p. with_instances p e entries) is
      ∙ ap (λ asked. record { map = reading.arena.now; table = reading.plan.now.table; placed = reading.found.now; asked = asked }) (sym (ap (λ (p : PendingOf). p.asked) changed))

  -- ---- nothing was asked

  pub none_read : (pending : PendingOf) (steps : ℕ) → pending ≡ record { map = reading.arena.now; table = reading.plan.now.table; placed = reading.found.now; asked = replicate (length reading.arena.now.schema.embeds) None } → HasRead reading hooks pending 0 0 0 steps steps
  none_read pending steps is = record {
    is = is ∙ ap (λ asked. record { map = reading.arena.now; table = reading.plan.now.table; placed = reading.found.now; asked = asked }) (sym (ap (λ (p : PendingOf). p.asked) is));
    each = ap (λ (p : PendingOf). length p.asked) is ∙ long (length reading.arena.now.schema.embeds);
    few = omega arith;
    known = λ k less. absurd (omega (arith, less));
    unknown = λ k more there. none_asked (length reading.arena.now.schema.embeds) k (subst (λ (asked : List (Option (List Entry))). IsSome (get_or asked k None)) (ap (λ (p : PendingOf). p.asked) is) there);
    deciders = λ k embed less at. absurd (omega (arith, less));
    given = λ k j entry at early. elim early [ inl less ↦ absurd (omega (arith, less)) | inr here ↦ absurd (let less = here.1 in omega (arith, less)) ];
    rises = omega arith;
    within = λ result count units unfolds reached all. omega arith;
    once = λ result count units unfolds reached all. omega arith;
  }
    where
      nothing : ℕ → List (Option (List Entry))
      nothing n = replicate n None

      long : (n : ℕ) → length (nothing n) ≡ n
      long zero = refl
      long (suc n) = ap suc (long n)

      none_asked : (n k : ℕ) → IsSome (get_or (nothing n) k None) → ⊥
      none_asked zero k there = absurd (cc)
      none_asked (suc n) zero there = absurd (cc)
      none_asked (suc n) (suc k) there = none_asked n k there

  -- ---- an embedding is asked for

  module _ (before : PendingOf) (e start steps later : ℕ) (h : HasRead reading hooks before e e 0 start steps) (within : e < length reading.arena.now.schema.embeds)
      (cost : (embed : Embed) → IsEmbedAt before.map.schema e embed → IsWithinReach before e embed steps later) where
    cost_here : (embed : Embed) → IsEmbedAt reading.arena.now.schema e embed → IsWithinReach (pending_at reading before) e embed steps later
    cost_here = subst (λ (p : PendingOf). (embed : Embed) → IsEmbedAt p.map.schema e embed → IsWithinReach p e embed steps later) h.is cost

    pub asked_by : (IsUnits : Unfolded → Decider → ℕ → Type 0) → IsWithinSeenBy reading hooks IsUnits (seen_to before e 0) e start steps → IsWithinSeenBy reading hooks IsUnits (seen_to before e 0) (suc e) start later
    asked_by IsUnits so_far result count units unfolds reached all =
        let first = so_far result count units unfolds reached all in
        let embed = some_embed reading.arena.now.schema.embeds e within in
        let each = reached.each in
        let long_counts : e < length reached.counts = omega (arith, within, each) in
        let here = cost_here embed.0 embed.1 result (get_or reached.counts e 0) unfolds (reached.counts_are e (get_or reached.counts e 0) embed.0 (slice_get-get_or reached.counts e 0 long_counts) embed.1) in
        let on : e + 1 ≡ suc e = omega arith in
        let more : sum (take (e + 1) reached.counts) ≡ sum (take e reached.counts) + get_or reached.counts e 0 = sum_by_more (λ n. n) reached.counts e 0 long_counts in
        let whole : sum (take (suc e) reached.counts) ≡ sum (take e reached.counts) + get_or reached.counts e 0 = ap (λ n. sum (take n reached.counts)) (sym on) ∙ more in
        let d = reading.arena.now.schema.dim + 1 in
        let spread : 2 * d * sum (take (suc e) reached.counts) ≡ 2 * d * sum (take e reached.counts) + 2 * d * get_or reached.counts e 0 = ap (λ n. 2 * d * n) whole ∙ omega arith in
        omega (arith, first, here, spread)

    pub within_asked : IsWithinSeen reading hooks (seen_to before e 0) (suc e) start later
    within_asked = asked_by (λ result. IsReadUnits (app_at reading hooks) (place_at reading)) h.within

  module _ (before after : PendingOf) (e start steps later : ℕ) (h : HasRead reading hooks before e e 0 start steps) (within : e < length reading.arena.now.schema.embeds) (changed : after ≡ with_instances before e (instances_of after e))
      (are : (embed : Embed) → IsEmbedAt before.map.schema e embed → AreDecidingInstances before e embed (instances_of after e))
      (cost : (embed : Embed) → IsEmbedAt before.map.schema e embed → IsWithinReach before e embed steps later) (rises : steps ≤ later) where
    long : e < length before.asked
    long = let each = h.each in omega (arith, within, each)

    other_entry : (k : ℕ) → (k ≡ e → ⊥) → deciding_of after k ≡ deciding_of before k
    other_entry k apart = ap (λ p. deciding_of p k) changed ∙ entry_other before e (instances_of after e) long k apart

    same_deciders : (k : ℕ) → (k ≡ e → ⊥) → instances_of after k ≡ instances_of before k
    same_deciders k apart = ap (λ o. unwrap_or o []) (other_entry k apart)

    same_seen : seen_to after e 0 ≡ seen_to before e 0
    same_seen = ap (λ xs. xs ++ []) (seen_same before after e (λ k less. same_deciders k (λ same. omega (arith, less, same))))

    asked_here : IsAsked after e
    asked_here = subst IsSome (sym (ap (λ p. deciding_of p e) changed ∙ entry_same before e (instances_of after e) long)) refl

    deciders_here : (embed : Embed) → IsEmbedAt reading.arena.now.schema e embed → AreDecidingInstances (unasked_at reading) e embed (instances_of after e)
    deciders_here embed at =
        let these = subst (λ (p : PendingOf). (embed : Embed) → IsEmbedAt p.map.schema e embed → AreDecidingInstances p e embed (instances_of after e)) h.is are embed at in
        record { ascending = these.ascending; decide = these.decide; all = these.all }

    pub asked_more : HasRead reading hooks after (suc e) e 0 start later
    asked_more = record {
      is = is_there before after e (instances_of after e) h.is changed;
      each = ap (λ (p : PendingOf). length p.asked) changed ∙ length-set before.asked e (Some (instances_of after e)) ∙ h.each;
      few = omega (arith, within);
      known = λ k less. go k less (cases_eq k e);
      unknown = λ k more there. h.unknown k (omega (arith, more)) (subst IsSome (other_entry k (λ same. omega (arith, more, same))) there);
      deciders = λ k embed less at. decide k embed less at (cases_eq k e);
      given = λ k j entry at early. give k j entry at early;
      rises = let first = h.rises in omega (arith, first, rises);
      within = subst (λ seen. IsWithinSeen reading hooks seen (suc e) start later) (sym same_seen) (within_asked before e start steps later h within cost);
      once = subst (λ seen. IsWithinSeenOnce reading hooks seen (suc e) start later) (sym same_seen) (asked_by before e start steps later h within cost (λ result. IsReadOnce (app_at reading hooks) (place_at reading) (IsDartOf result) result.alpha) h.once);
    }
      where
        go : (k : ℕ) → k < suc e → (k ≡ e) ⊎ (k ≡ e → ⊥) → IsAsked after k
        go k less (inl same) = subst (IsAsked after) (sym same) asked_here
        go k less (inr apart) = subst IsSome (sym (other_entry k apart)) (h.known k (omega (arith, less, apart)))

        decide : (k : ℕ) (embed : Embed) → k < suc e → IsEmbedAt reading.arena.now.schema k embed → (k ≡ e) ⊎ (k ≡ e → ⊥) → AreDecidingInstances (unasked_at reading) k embed (instances_of after k)
        decide k embed less at (inl same) = subst (λ n. AreDecidingInstances (unasked_at reading) n embed (instances_of after n)) (sym same) (deciders_here embed (subst (λ n. IsEmbedAt reading.arena.now.schema n embed) same at))
        decide k embed less at (inr apart) = subst (AreDecidingInstances (unasked_at reading) k embed) (sym (same_deciders k apart)) (h.deciders k embed (omega (arith, less, apart)) at)

        give : (k j : ℕ) (entry : Entry) → slice_get (instances_of after k) j ≡ Some entry → (k < e) ⊎ ((k ≡ e) × (j < 0)) → IsGivenRight reading hooks k entry
        give k j entry at (inl less) = h.given k j entry (subst (λ entries. slice_get entries j ≡ Some entry) (same_deciders k (λ same. omega (arith, less, same))) at) (inl less)
        give k j entry at (inr here) = absurd (let less = here.1 in omega (arith, less))
