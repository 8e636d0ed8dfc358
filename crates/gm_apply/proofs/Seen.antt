-- The deciding instances that were seen are those that are read, in order, and so reading them is within what the application reads.
use Rattle.std.proofs.Common.{◌≡◌, ℕ, zero, suc, ◌+◌, ◌*◌, ◌<◌, ◌≤◌, ◌⊎◌, inl, inr, List, [], ◌∷◌, ◌++◌, map, take, sum, Option, Some, None, slice_get, refl, sym, ap, subst, ◌∙◌, arith}
use Rattle.std.specs.Option.{unwrap_or}
use Rattle.std.specs.List.{Contains}
use Rattle.std.proofs.lemmas.Bool.{cases_lt, cases_order}
use Rattle.std.proofs.lemmas.List.Sums.{sum_by-take-le}
use Rattle.std.proofs.lemmas.Nat.{mul-le}
use Rattle.gm_model.specs.declared.schema.Embed.{Embed}
use Rattle.gm_model.specs.declared.value.Value.{Value}
use Rattle.gm_model.specs.Applications.{Application, Decider, IsDeciderBefore, GivesValue, IsDecider, IsValuedBefore, IsRead, IsReadUnits, IsReadSum}
use Rattle.gm_model.specs.Maps.{IsEmbedAt}
use Rattle.gm_model.specs.Orbits.{IsPairBefore}
use Rattle.gm_model.specs.Rules.{rule_of}
use Rattle.gm_theory.specs.inner.Theorem.{Unfolded, Unfolds, IsDartOf}
use Rattle.gm_theory.proofs.Lists.{contained_at, get_contained, none_some, some_same}
use Rattle.gm_arena.specs.inner.ArenaAsMap.{as_map}
use Rattle.gm_pending.specs.declared.deciding_instance.DecidingInstance.{DecidingInstance as Entry}
use Rattle.gm_pending.specs.inner.Results.{PendingOf, IsAsked, instances_of, deciding_of}
use Rattle.gm_apply.specs.declared.reading.Reading.{Reading}
use Rattle.gm_apply.specs.inner.ReadOnce.{IsReadOnce, IsReadOnceSum}
use Rattle.gm_apply.specs.inner.Reads.{app_at, place_at, decider_at, seen_at, seen_before, seen_to, IsWithinSeen, IsWithinSeenOnce, IsWithinRead, IsWithinReadOnce, HasRead}
use Rattle.gm_apply.proofs.ReadValues.{some_embed}
use Rattle.gm_apply.proofs.Sublists.{AreOrdered, HasUnitsOf, units_among}

-- ---- lists

appended : (xs ys : List Decider) (d : Decider) → Contains (xs ++ ys) d → Contains xs d ⊎ Contains ys d
appended [] ys d c = inr c
appended (x ∷ xs) ys d (zero, within, is) = inl (zero, omega arith, is)
appended (x ∷ xs) ys d (suc k, within, is) = go (appended xs ys d (k, omega (arith, within), is))
  where
    go : Contains xs d ⊎ Contains ys d → Contains (x ∷ xs) d ⊎ Contains ys d
    go (inl c) = inl (suc c.0, (let less = c.1 in omega (arith, less)), c.2)
    go (inr c) = inr c

ordered_append : (xs ys : List Decider) → AreOrdered xs → AreOrdered ys → ((d e : Decider) → Contains xs d → Contains ys e → IsDeciderBefore d e) → AreOrdered (xs ++ ys)
ordered_append [] ys first second across = second
ordered_append (x ∷ xs) ys first second across =
    (λ e c. go e (appended xs ys e c), ordered_append xs ys first.1 second (λ d e c b. across d e (suc c.0, (let less = c.1 in omega (arith, less)), c.2) b))
  where
    go : (e : Decider) → Contains xs e ⊎ Contains ys e → IsDeciderBefore x e
    go e (inl c) = first.0 e c
    go e (inr c) = across x e (zero, omega arith, refl) c

-- an element of the first n, and where it stands
taken_at : (e : ℕ) (n : ℕ) (entries : List Entry) (d : Decider) → Contains (take n (map (decider_at e) entries)) d → (j : ℕ) × (entry : Entry) × (j < n) × (slice_get entries j ≡ Some entry) × (d ≡ decider_at e entry)
taken_at e zero entries d c = absurd (let less = c.1 in omega (arith, less))
taken_at e (suc n) [] d c = absurd (let less = c.1 in omega (arith, less))
taken_at e (suc n) (entry ∷ entries) d (zero, within, is) = (zero, entry, omega arith, refl, sym is)
taken_at e (suc n) (entry ∷ entries) d (suc k, within, is) =
    let rest = taken_at e n entries d (k, omega (arith, within), is) in
    let less = rest.2 in
    (suc rest.0, rest.1, omega (arith, less), rest.3, rest.4)

mapped_at : (e : ℕ) (entries : List Entry) (d : Decider) → Contains (map (decider_at e) entries) d → (j : ℕ) × (entry : Entry) × (slice_get entries j ≡ Some entry) × (d ≡ decider_at e entry)
mapped_at e [] d c = absurd (let less = c.1 in omega (arith, less))
mapped_at e (entry ∷ entries) d (zero, within, is) = (zero, entry, refl, sym is)
mapped_at e (entry ∷ entries) d (suc k, within, is) = let rest = mapped_at e entries d (k, omega (arith, within), is) in (suc rest.0, rest.1, rest.2, rest.3)

abbrev pub IsAscending : List Entry → Type 0
IsAscending entries = (k l : ℕ) (a b : Entry) → k < l → slice_get entries k ≡ Some a → slice_get entries l ≡ Some b → IsPairBefore a.node a.position b.node b.position

entries_ordered : (e : ℕ) (entries : List Entry) → IsAscending entries → AreOrdered (map (decider_at e) entries)
entries_ordered e [] ascending = tt
entries_ordered e (entry ∷ entries) ascending = (
  λ d c. let found = mapped_at e entries d c in subst (IsDeciderBefore (decider_at e entry)) (sym found.3) (inr (refl, ascending zero (suc found.0) entry found.1 (omega arith) refl found.2)),
  entries_ordered e entries (λ k l a b less at there. ascending (suc k) (suc l) a b (omega (arith, less)) at there),
)

kept_in_take : (n : ℕ) (xs : List Decider) (d : Decider) → Contains (take n xs) d → Contains xs d
kept_in_take zero xs d c = absurd (let less = c.1 in omega (arith, less))
kept_in_take (suc n) [] d c = c
kept_in_take (suc n) (x ∷ xs) d (zero, within, is) = (zero, omega arith, is)
kept_in_take (suc n) (x ∷ xs) d (suc k, within, is) = let rest = kept_in_take n xs d (k, omega (arith, within), is) in let less = rest.1 in (suc rest.0, omega (arith, less), rest.2)

take_ordered : (n : ℕ) (xs : List Decider) → AreOrdered xs → AreOrdered (take n xs)
take_ordered zero xs ordered = tt
take_ordered (suc n) [] ordered = tt
take_ordered (suc n) (x ∷ xs) ordered = (λ d c. ordered.0 d (kept_in_take n xs d c), take_ordered n xs ordered.1)

-- by places
places_ordered : (xs : List Decider) → ((k l : ℕ) (a b : Decider) → k < l → slice_get xs k ≡ Some a → slice_get xs l ≡ Some b → IsDeciderBefore a b) → AreOrdered xs
places_ordered [] places = tt
places_ordered (x ∷ xs) places = (λ d c. places zero (suc c.0) x d (omega arith) refl (contained_at xs d c), places_ordered xs (λ k l a b less at there. places (suc k) (suc l) a b (omega (arith, less)) at there))

pair_both_ways : (x p y q : ℕ) → IsPairBefore x p y q → IsPairBefore y q x p → ⊥
pair_both_ways x p y q (inl less) (inl more) = omega (arith, less, more)
pair_both_ways x p y q (inl less) (inr (same, h)) = omega (arith, less, same)
pair_both_ways x p y q (inr (same, h)) (inl more) = omega (arith, more, same)
pair_both_ways x p y q (inr (same, h)) (inr (same', k)) = omega (arith, h, k)

-- ---- what was seen

-- where an entry stands, the embedding was asked for
asked_there : (pending : PendingOf) (k j : ℕ) (entry : Entry) → slice_get (instances_of pending k) j ≡ Some entry → IsAsked pending k
asked_there pending k j entry at = go (deciding_of pending k) refl
  where
    go : (o : Option (List Entry)) → deciding_of pending k ≡ o → IsAsked pending k
    go (Some entries) e = rw e refl
    go None e = none_some entry (ap (λ o. slice_get (unwrap_or o []) j) (sym e) ∙ at)

module _ (reading : Reading) (hooks : List ℕ) (pending : PendingOf) (asked e i start steps : ℕ) (h : HasRead reading hooks pending asked e i start steps) where
  abbrev app : Application
  app = app_at reading hooks

  entry_known : (k j : ℕ) (entry : Entry) → slice_get (instances_of pending k) j ≡ Some entry → k < asked
  entry_known k j entry at = go (cases_lt k asked)
    where
      go : (k < asked) ⊎ (asked ≤ k) → k < asked
      go (inl less) = less
      go (inr more) = absurd (h.unknown k more (asked_there pending k j entry at))

  embed_at : (k : ℕ) → k < asked → (embed : Embed) × IsEmbedAt reading.arena.now.schema k embed
  embed_at k known = let few = h.few in some_embed reading.arena.now.schema.embeds k (omega (arith, known, few))

  module _ (result : Unfolded) (unfolds : Unfolds (as_map reading.arena.now) (rule_of reading.plan.now.table) (place_at reading) result) where
    pub decides : (k j : ℕ) (entry : Entry) → slice_get (instances_of pending k) j ≡ Some entry → IsDecider app (place_at reading) (IsDartOf result) result.alpha (decider_at k entry)
    decides k j entry at =
        let known = entry_known k j entry at in
        let embed = embed_at k known in
        record { embed = embed.0; embed_at = embed.1; deciding = (h.deciders k embed.0 known embed.1).decide result unfolds entry (get_contained (instances_of pending k) j entry at) }

    -- a deciding instance, among the entries
    pub record IsEntry (d : Decider) : Type 0 where
      pub place : ℕ
      pub entry : Entry
      pub at : slice_get (instances_of pending d.embed) place ≡ Some entry
      pub node_is : entry.node ≡ d.node
      pub position_is : entry.position ≡ d.position

    pub entry_for : (d : Decider) → IsDecider app (place_at reading) (IsDartOf result) result.alpha d → d.embed < asked → IsEntry d
    entry_for d is known =
        let found = (h.deciders d.embed is.embed known is.embed_at).all result unfolds d.node d.position is.deciding in
        record { place = found.1.0; entry = found.0; at = contained_at (instances_of pending d.embed) found.0 found.1; node_is = found.2; position_is = found.3 }

    -- the entries before it have their values
    pub valued_before : (k j : ℕ) (entry : Entry) → slice_get (instances_of pending k) j ≡ Some entry → (k < e) ⊎ ((k ≡ e) × (j ≤ i)) → IsValuedBefore app (place_at reading) (IsDartOf result) result.alpha (decider_at k entry)
    valued_before k j entry at here other before is = given (entry_for other is (known before)) (earlier before (entry_for other is (known before)))
      where
        known : IsDeciderBefore other (decider_at k entry) → other.embed < asked
        known (inl less) = let there = entry_known k j entry at in omega (arith, less, there)
        known (inr (same, pair)) = let there = entry_known k j entry at in omega (arith, same, there)

        within : (k < e) ⊎ ((k ≡ e) × (j ≤ i)) → (other.embed ≡ k) → (n : ℕ) → n < j → (other.embed < e) ⊎ ((other.embed ≡ e) × (n < i))
        within (inl less) same n before_it = inl (omega (arith, less, same))
        within (inr (same_e, few)) same n before_it = inr (same ∙ same_e, omega (arith, few, before_it))

        earlier : IsDeciderBefore other (decider_at k entry) → (found : IsEntry other) → (other.embed < e) ⊎ ((other.embed ≡ e) × (found.place < i))
        earlier (inl less) found = inl (elim here [ inl below ↦ omega (arith, less, below) | inr same ↦ let eq = same.0 in omega (arith, less, eq) ])
        earlier (inr (same, pair)) found = go (cases_order found.place j)
          where
            there : slice_get (instances_of pending k) found.place ≡ Some found.entry
            there = subst (λ n. slice_get (instances_of pending n) found.place ≡ Some found.entry) same found.at

            moved : IsPairBefore found.entry.node found.entry.position entry.node entry.position
            moved = subst (λ x. IsPairBefore x found.entry.position entry.node entry.position) (sym found.node_is) (subst (λ p. IsPairBefore other.node p entry.node entry.position) (sym found.position_is) pair)

            go : (found.place ≡ j) ⊎ ((found.place < j) ⊎ (j < found.place)) → (other.embed < e) ⊎ ((other.embed ≡ e) × (found.place < i))
            go (inl same_place) =
                let one : found.entry ≡ entry = some_same found.entry entry (sym there ∙ ap (slice_get (instances_of pending k)) same_place ∙ at) in
                absurd (pair_both_ways entry.node entry.position entry.node entry.position (subst (λ (x : Entry). IsPairBefore x.node x.position entry.node entry.position) one moved) (subst (λ (x : Entry). IsPairBefore x.node x.position entry.node entry.position) one moved))
            go (inr (inl less)) = within here same found.place less
            go (inr (inr more)) =
                let embed = embed_at k (entry_known k j entry at) in
                absurd (pair_both_ways found.entry.node found.entry.position entry.node entry.position moved ((h.deciders k embed.0 (entry_known k j entry at) embed.1).ascending j found.place entry found.entry more at there))

        given : (found : IsEntry other) → (other.embed < e) ⊎ ((other.embed ≡ e) × (found.place < i)) → (v : Value) × GivesValue app (place_at reading) other.embed other.node other.position v
        given found early =
            let right = h.given other.embed found.place found.entry found.at early in
            (right.0, subst (λ x. GivesValue app (place_at reading) other.embed x other.position right.0) found.node_is (subst (λ p. GivesValue app (place_at reading) other.embed found.entry.node p right.0) found.position_is right.2))

    read_there : (k j : ℕ) (entry : Entry) → slice_get (instances_of pending k) j ≡ Some entry → (k < e) ⊎ ((k ≡ e) × (j ≤ i)) → IsRead app (place_at reading) (IsDartOf result) result.alpha (decider_at k entry)
    read_there k j entry at here = (decides k j entry at, valued_before k j entry at here)

    -- what an element of those of the first embeddings is
    record IsBefore (n : ℕ) (d : Decider) : Type 0 where
      embed : ℕ
      place : ℕ
      entry : Entry
      below : embed < n
      at : slice_get (instances_of pending embed) place ≡ Some entry
      is : d ≡ decider_at embed entry

    before_at : (n : ℕ) (d : Decider) → Contains (seen_before pending n) d → IsBefore n d
    before_at zero d c = absurd (let less = c.1 in omega (arith, less))
    before_at (suc n) d c = go (appended (seen_before pending n) (seen_at pending n) d c) (λ first. before_at n d first)
      where
        go : Contains (seen_before pending n) d ⊎ Contains (seen_at pending n) d → (Contains (seen_before pending n) d → IsBefore n d) → IsBefore (suc n) d
        go (inl first) rest = let found = rest first in record { embed = found.embed; place = found.place; entry = found.entry; below = (let b = found.below in omega (arith, b)); at = found.at; is = found.is }
        go (inr last) rest = let found = mapped_at n (instances_of pending n) d last in record { embed = n; place = found.0; entry = found.1; below = omega arith; at = found.2; is = found.3 }

    all_read : (n : ℕ) → n ≤ suc i → (d : Decider) → Contains (seen_to pending e n) d → IsRead app (place_at reading) (IsDartOf result) result.alpha d
    all_read n few d c = go (appended (seen_before pending e) (take n (seen_at pending e)) d c)
      where
        go : Contains (seen_before pending e) d ⊎ Contains (take n (seen_at pending e)) d → IsRead app (place_at reading) (IsDartOf result) result.alpha d
        go (inl first) = let found = before_at e d first in subst (IsRead app (place_at reading) (IsDartOf result) result.alpha) (sym found.is) (read_there found.embed found.place found.entry found.at (inl found.below))
        go (inr last) =
            let found = taken_at e n (instances_of pending e) d last in
            let less = found.2 in
            subst (IsRead app (place_at reading) (IsDartOf result) result.alpha) (sym found.4) (read_there e found.0 found.1 found.3 (inr (refl, omega (arith, less, few))))

    pub ascending_at : (k : ℕ) → IsAscending (instances_of pending k)
    ascending_at k j l a b less at there =
        let known = entry_known k j a at in
        let embed = embed_at k known in
        (h.deciders k embed.0 known embed.1).ascending j l a b less at there

    before_ordered : (n : ℕ) → AreOrdered (seen_before pending n)
    before_ordered zero = tt
    before_ordered (suc n) = ordered_append (seen_before pending n) (seen_at pending n) (before_ordered n) (entries_ordered n (instances_of pending n) (ascending_at n)) (λ d f c b. across d f (before_at n d c) (mapped_at n (instances_of pending n) f b))
      where
        across : (d f : Decider) → IsBefore n d → (j : ℕ) × (entry : Entry) × (slice_get (instances_of pending n) j ≡ Some entry) × (f ≡ decider_at n entry) → IsDeciderBefore d f
        across d f found other = subst (λ x. IsDeciderBefore x f) (sym found.is) (subst (IsDeciderBefore (decider_at found.embed found.entry)) (sym other.3) (inl found.below))

    to_ordered : (n : ℕ) → AreOrdered (seen_to pending e n)
    to_ordered n = ordered_append (seen_before pending e) (take n (seen_at pending e)) (before_ordered e) (take_ordered n (seen_at pending e) (entries_ordered e (instances_of pending e) (ascending_at e)))
        (λ d f c b. across d f (before_at e d c) (taken_at e n (instances_of pending e) f b))
      where
        across : (d f : Decider) → IsBefore e d → (j : ℕ) × (entry : Entry) × (j < n) × (slice_get (instances_of pending e) j ≡ Some entry) × (f ≡ decider_at e entry) → IsDeciderBefore d f
        across d f found other = subst (λ x. IsDeciderBefore x f) (sym found.is) (subst (IsDeciderBefore (decider_at found.embed found.entry)) (sym other.4) (inl found.below))

    units_of : (n read : ℕ) → n ≤ suc i → (s : IsReadSum app (place_at reading) (IsDartOf result) result.alpha read) → HasUnitsOf (IsReadUnits app (place_at reading)) (seen_to pending e n) (sum s.units)
    units_of n read few s = units_among (IsReadUnits app (place_at reading)) (seen_to pending e n) s.read s.units (to_ordered n) (places_ordered s.read s.ordered) (λ d c. (s.same d).1 (all_read n few d c)) s.units_are

    once_of : (n read : ℕ) → n ≤ suc i → (s : IsReadOnceSum app (place_at reading) (IsDartOf result) result.alpha read) → HasUnitsOf (IsReadOnce app (place_at reading) (IsDartOf result) result.alpha) (seen_to pending e n) (sum s.units)
    once_of n read few s = units_among (IsReadOnce app (place_at reading) (IsDartOf result) result.alpha) (seen_to pending e n) s.read s.units (to_ordered n) (places_ordered s.read s.ordered) (λ d c. (s.same d).1 (all_read n few d c)) s.units_are

  -- what was seen is within what is read
  pub within_read : (n upto last : ℕ) → n ≤ suc i → IsWithinSeen reading hooks (seen_to pending e n) upto start last → IsWithinRead reading hooks start last
  within_read n upto last few within result count read unfolds reached s =
      let us = units_of result unfolds n read few s in
      let spent = within result count us.units unfolds reached us.units_are in
      let d = reading.arena.now.schema.dim + 1 in
      let one : sum (take upto reached.counts) ≤ sum reached.counts = sum_by-take-le (λ n. n) reached.counts upto in
      let all = reached.sum_is in
      let two = us.few in
      let whole = s.sum_is in
      let first : 2 * d * sum (take upto reached.counts) ≤ 2 * d * count = mul-le (2 * d) (sum (take upto reached.counts)) (2 * d) count (omega arith) (omega (arith, one, all)) in
      let second : 6 * d * sum us.units ≤ 6 * d * read = mul-le (6 * d) (sum us.units) (6 * d) read (omega arith) (omega (arith, two, whole)) in
      omega (arith, spent, first, second)

  -- and where what is shared is read once, it is within that
  pub within_read_once : (n upto last : ℕ) → n ≤ suc i → IsWithinSeenOnce reading hooks (seen_to pending e n) upto start last → IsWithinReadOnce reading hooks start last
  within_read_once n upto last few within result count read unfolds reached s =
      let us = once_of result unfolds n read few s in
      let spent = within result count us.units unfolds reached us.units_are in
      let d = reading.arena.now.schema.dim + 1 in
      let one : sum (take upto reached.counts) ≤ sum reached.counts = sum_by-take-le (λ n. n) reached.counts upto in
      let all = reached.sum_is in
      let two = us.few in
      let whole = s.sum_is in
      let first : 2 * d * sum (take upto reached.counts) ≤ 2 * d * count = mul-le (2 * d) (sum (take upto reached.counts)) (2 * d) count (omega arith) (omega (arith, one, all)) in
      let second : 6 * d * sum us.units ≤ 6 * d * read = mul-le (6 * d) (sum us.units) (6 * d) read (omega arith) (omega (arith, two, whole)) in
      omega (arith, spent, first, second)
