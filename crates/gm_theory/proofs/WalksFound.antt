-- The walk from a dart exists, where all that it can reach lies below a bound.
use Rattle.std.proofs.Common.{◌≡◌, ℕ, zero, suc, ◌+◌, ◌<◌, ◌≤◌, ◌⊎◌, List, [], ◌∷◌, ◌++◌, length, take, Contains, Some, slice_get, slice_index, refl, sym, ◌∙◌, ap, ap₂, subst, inl, inr, arith, length-append}
use Rattle.std.proofs.Math.Seq.{take-append_seam}
use Rattle.std.proofs.lemmas.Bool.{cases_eq, cases_lt}
use Rattle.std.proofs.lemmas.List.{take-append-le}
use Rattle.gm_model.specs.Orbits.{HasNoRepeats, IsPairBefore, IsLeastStep, IsWalkTo, IsWalk}
use Rattle.gm_theory.proofs.Lists.{none_some}
use Rattle.gm_theory.proofs.ValuesLists.{IsIn, AreDistinct, in_contained, contains_in, distinct_list, split_at, in_around, distinct_middle}
use Rattle.gm_theory.proofs.ValuesReach.{IsDecided}

-- ---- a list with one more element

index_front : (xs ys : List ℕ) (k : ℕ) → k < length xs → slice_index (xs ++ ys) k ≡ slice_index xs k
index_front [] ys k h = absurd (omega arith)
index_front (x ∷ xs) ys zero h = refl
index_front (x ∷ xs) ys (suc k) h = index_front xs ys k (omega arith)

index_end : (xs : List ℕ) (e : ℕ) → slice_index (xs ++ e ∷ []) (length xs) ≡ e
index_end [] e = refl
index_end (x ∷ xs) e = index_end xs e

in_front : (xs ys : List ℕ) (v : ℕ) → IsIn v xs → IsIn v (xs ++ ys)
in_front [] ys v i = absurd i
in_front (x ∷ xs) ys v (inl e) = inl e
in_front (x ∷ xs) ys v (inr i) = inr (in_front xs ys v i)

in_either : (xs : List ℕ) (e v : ℕ) → IsIn v (xs ++ e ∷ []) → IsIn v xs ⊎ (e ≡ v)
in_either [] e v (inl f) = inr f
in_either [] e v (inr i) = absurd i
in_either (x ∷ xs) e v (inl f) = inl (inl f)
in_either (x ∷ xs) e v (inr i) = go (in_either xs e v i)
  where
    go : IsIn v xs ⊎ (e ≡ v) → IsIn v (x ∷ xs) ⊎ (e ≡ v)
    go (inl j) = inl (inr j)
    go (inr f) = inr f

in_place : (xs : List ℕ) (k : ℕ) → k < length xs → IsIn (slice_index xs k) xs
in_place [] k h = absurd (omega arith)
in_place (x ∷ xs) zero h = inl refl
in_place (x ∷ xs) (suc k) h = inr (in_place xs k (omega arith))

contains_front : (xs ys : List ℕ) (v : ℕ) → Contains xs v → Contains (xs ++ ys) v
contains_front xs ys v c = contains_in (xs ++ ys) v (in_front xs ys v (in_contained xs v c))

in_end : (xs : List ℕ) (e : ℕ) → IsIn e (xs ++ e ∷ [])
in_end [] e = inl refl
in_end (x ∷ xs) e = inr (in_end xs e)

starts_front : (xs ys : List ℕ) (d : ℕ) → slice_get xs 0 ≡ Some d → slice_get (xs ++ ys) 0 ≡ Some d
starts_front [] ys d e = none_some d e
starts_front (x ∷ xs) ys d e = e

distinct_end : (xs : List ℕ) (e : ℕ) → (IsIn e xs → ⊥) → HasNoRepeats xs → HasNoRepeats (xs ++ e ∷ [])
distinct_end xs e apart distinct p q h b same = go (cases_lt q (length xs))
  where
    last : length (xs ++ e ∷ []) ≡ length xs + 1
    last = length-append xs (e ∷ [])

    go : (q < length xs) ⊎ (length xs ≤ q) → ⊥
    go (inl k) = distinct p q h k (sym (index_front xs (e ∷ []) p (omega arith)) ∙ same ∙ index_front xs (e ∷ []) q k)
    go (inr k) =
        let at : q ≡ length xs = omega (arith, last) in
        let c : p < length xs = omega arith in
        apart (subst (λ v. IsIn v xs) (sym (index_front xs (e ∷ []) p c) ∙ same ∙ ap (slice_index (xs ++ e ∷ [])) at ∙ index_end xs e) (in_place xs p c))

decide_in : (v : ℕ) (xs : List ℕ) → IsDecided (IsIn v xs)
decide_in v [] = inr (λ i. i)
decide_in v (x ∷ xs) = go (cases_eq x v) (decide_in v xs)
  where
    go : (x ≡ v) ⊎ (x ≡ v → ⊥) → IsDecided (IsIn v xs) → IsDecided (IsIn v (x ∷ xs))
    go (inl e) side = inl (inl e)
    go (inr other) (inl i) = inl (inr i)
    go (inr other) (inr none) = inr neither
      where
        neither : (x ≡ v) ⊎ IsIn v xs → ⊥
        neither (inl e) = other e
        neither (inr i) = none i

-- as many as there are numbers below the bound, at most
few_below : (n : ℕ) (xs : List ℕ) → AreDistinct xs → ((v : ℕ) → IsIn v xs → v < n) → length xs ≤ n
few_below zero [] distinct below = omega arith
few_below zero (x ∷ xs) distinct below = absurd (let h : x < 0 = below x (inl refl) in omega arith)
few_below (suc n) xs distinct below = go (decide_in n xs) (λ ys. few_below n ys)
  where
    less : (ys : List ℕ) → (IsIn n ys → ⊥) → ((v : ℕ) → IsIn v ys → IsIn v xs) → (v : ℕ) → IsIn v ys → v < n
    less ys none within v i = side (cases_eq v n)
      where
        side : (v ≡ n) ⊎ (v ≡ n → ⊥) → v < n
        side (inl e) = absurd (none (subst (λ u. IsIn u ys) e i))
        side (inr other) = let h : v < suc n = below v (within v i) in omega arith

    go : IsDecided (IsIn n xs) → ((ys : List ℕ) → AreDistinct ys → ((v : ℕ) → IsIn v ys → v < n) → length ys ≤ n) → length xs ≤ suc n
    go (inr none) few = let h : length xs ≤ n = few xs distinct (less xs none (λ v i. i)) in omega arith
    go (inl i) few = without (split_at xs n i)
      where
        without : (us : List ℕ) × (vs : List ℕ) × (xs ≡ us ++ n ∷ vs) → length xs ≤ suc n
        without (us, vs, e) =
            let apart : (IsIn n (us ++ vs) → ⊥) × AreDistinct (us ++ vs) = distinct_middle us vs n (subst AreDistinct e distinct) in
            let h : length (us ++ vs) ≤ n = few (us ++ vs) apart.1 (less (us ++ vs) apart.0 (λ v j. subst (IsIn v) (sym e) (in_around us vs n v (inr j)))) in
            omega (arith, ap length e, length-append us (n ∷ vs), length-append us vs)

module _ (next : ℕ → ℕ → ℕ) (width d : ℕ) where
  abbrev IsTo : ℕ → ℕ → List ℕ → Type 0
  IsTo q l walk = IsWalkTo next width d q l walk

  -- ---- one pair

  -- the pair leads to a dart of the walk
  known : (q l : ℕ) (walk : List ℕ) → IsTo q l walk → Contains walk (next (slice_index walk q) l) → IsTo q (suc l) walk
  known q l walk w c = record { starts = w.starts; distinct = w.distinct; closed = closed; least = w.least }
    where
      closed : (q' l' : ℕ) → IsPairBefore q' l' q (suc l) → q' < length walk → l' < width → Contains walk (next (slice_index walk q') l')
      closed q' l' (inl h) k m = w.closed q' l' (inl h) k m
      closed q' l' (inr (e, h)) k m = go (cases_eq l' l)
        where
          go : (l' ≡ l) ⊎ (l' ≡ l → ⊥) → Contains walk (next (slice_index walk q') l')
          go (inl f) = subst (Contains walk) (ap₂ (λ a b. next (slice_index walk a) b) (sym e) (sym f)) c
          go (inr other) = w.closed q' l' (inr (e, omega arith)) k m

  -- the pair leads to a new dart, which is put behind
  module _ (q l : ℕ) (walk : List ℕ) (within : q < length walk) (place : l < width) (w : IsTo q l walk) (apart : IsIn (next (slice_index walk q) l) walk → ⊥) where
    new : ℕ
    new = next (slice_index walk q) l

    longer : List ℕ
    longer = walk ++ next (slice_index walk q) l ∷ []

    old_next : (q' l' : ℕ) → q' < length walk → next (slice_index walk q') l' ≡ next (slice_index longer q') l'
    unfolding longer
    old_next q' l' k = ap (λ v. next v l') (sym (index_front walk (next (slice_index walk q) l ∷ []) q' k))

    long : length longer ≡ length walk + 1
    unfolding longer
    long = length-append walk (next (slice_index walk q) l ∷ [])

    closed : (q' l' : ℕ) → IsPairBefore q' l' q (suc l) → q' < length longer → l' < width → Contains longer (next (slice_index longer q') l')
    unfolding longer
    closed q' l' before k m = subst (Contains longer) (old_next q' l' (inside before)) (go before)
      where
        inside : IsPairBefore q' l' q (suc l) → q' < length walk
        inside (inl h) = omega arith
        inside (inr (e, h)) = omega arith

        go : IsPairBefore q' l' q (suc l) → Contains longer (next (slice_index walk q') l')
        go (inl h) = contains_front walk (next (slice_index walk q) l ∷ []) (next (slice_index walk q') l') (w.closed q' l' (inl h) (omega arith) m)
        go (inr (e, h)) = side (cases_eq l' l)
          where
            side : (l' ≡ l) ⊎ (l' ≡ l → ⊥) → Contains longer (next (slice_index walk q') l')
            side (inl f) = subst (Contains longer) (ap₂ (λ a b. next (slice_index walk a) b) (sym e) (sym f)) (contains_in longer (next (slice_index walk q) l) (in_end walk (next (slice_index walk q) l)))
            side (inr other) = contains_front walk (next (slice_index walk q) l ∷ []) (next (slice_index walk q') l') (w.closed q' l' (inr (e, omega arith)) (omega arith) m)

    -- the steps of the old darts are still the least
    old_step : (p q' l' : ℕ) → p < length walk → IsLeastStep next width walk p q' l' → IsLeastStep next width longer p q' l'
    unfolding longer
    old_step p q' l' b s = record {
      earlier = s.earlier;
      place = s.place;
      leads = index_front walk (next (slice_index walk q) l ∷ []) p b ∙ s.leads ∙ old_next q' l' (let h : q' < p = s.earlier in omega arith);
      least = λ a c before m. subst (λ xs. Contains xs (next (slice_index longer a) c)) (sym (take-append-le p walk (next (slice_index walk q) l ∷ []) (omega arith)))
          (subst (Contains (take p walk)) (old_next a c (inside a c before)) (s.least a c before m));
    }
      where
        inside : (a c : ℕ) → IsPairBefore a c q' l' → a < length walk
        inside a c (inl h) = let k : q' < p = s.earlier in omega arith
        inside a c (inr (e, h)) = let k : q' < p = s.earlier in omega arith

    new_step : IsLeastStep next width longer (length walk) q l
    unfolding longer
    new_step = record {
      earlier = within;
      place = place;
      leads = index_end walk (next (slice_index walk q) l) ∙ old_next q l within;
      least = λ a c before m. subst (λ xs. Contains xs (next (slice_index longer a) c)) (sym (take-append_seam walk (next (slice_index walk q) l ∷ []))) (subst (Contains walk) (old_next a c (inside a c before)) (w.closed a c before (inside a c before) m));
    }
      where
        inside : (a c : ℕ) → IsPairBefore a c q l → a < length walk
        inside a c (inl h) = omega arith
        inside a c (inr (e, h)) = omega arith

    least : (p : ℕ) → 0 < p → p < length longer → (q' : ℕ) × (l' : ℕ) × IsLeastStep next width longer p q' l'
    least p h b = go (cases_eq p (length walk))
      where
        go : (p ≡ length walk) ⊎ (p ≡ length walk → ⊥) → (q' : ℕ) × (l' : ℕ) × IsLeastStep next width longer p q' l'
        go (inl e) = (q, l, subst (λ k. IsLeastStep next width longer k q l) (sym e) new_step)
        go (inr other) = let c : p < length walk = omega (arith, long) in let s : (q' : ℕ) × (l' : ℕ) × IsLeastStep next width walk p q' l' = w.least p h c in (s.0, s.1, old_step p s.0 s.1 c s.2)

    fresh : IsTo q (suc l) (walk ++ next (slice_index walk q) l ∷ [])
    unfolding longer
    fresh = record { starts = starts_front walk (next (slice_index walk q) l ∷ []) d w.starts; distinct = distinct_end walk (next (slice_index walk q) l) apart w.distinct; closed = closed; least = least }

  -- ---- the whole walk

  module _ (P : ℕ → Type 0) (first : P d) (keeps : (e l : ℕ) → l < width → P e → P (next e l)) where
    -- each dart of the walk has P
    abbrev HaveAll : List ℕ → Type 0
    HaveAll walk = (v : ℕ) → IsIn v walk → P v

    -- the walk from the dart at q on, as far as place l
    row : (q : ℕ) (walk : List ℕ) → q < length walk → HaveAll walk → IsTo q 0 walk → (l : ℕ) → l ≤ width → (more : List ℕ) × (q < length more) × HaveAll more × IsTo q l more
    row q walk b all w zero h = (walk, b, all, w)
    row q walk b all w (suc l) h = go (row q walk b all w l (omega arith))
      where
        go : (more : List ℕ) × (q < length more) × HaveAll more × IsTo q l more → (more : List ℕ) × (q < length more) × HaveAll more × IsTo q (suc l) more
        go (more, b', all', w') = side (decide_in (next (slice_index more q) l) more)
          where
            side : IsDecided (IsIn (next (slice_index more q) l) more) → (other : List ℕ) × (q < length other) × HaveAll other × IsTo q (suc l) other
            side (inl i) = (more, b', all', known q l more w' (contains_in more (next (slice_index more q) l) i))
            side (inr apart) = (more ++ next (slice_index more q) l ∷ [], omega (arith, length-append more (next (slice_index more q) l ∷ [])), have, fresh q l more b' (omega arith) w' apart)
              where
                have : HaveAll (more ++ next (slice_index more q) l ∷ [])
                have v i = by (in_either more (next (slice_index more q) l) v i)
                  where
                    by : IsIn v more ⊎ (next (slice_index more q) l ≡ v) → P v
                    by (inl j) = all' v j
                    by (inr e) = subst P e (keeps (slice_index more q) l (omega arith) (all' (slice_index more q) (in_place more q b')))

    -- each pair of the first q darts is followed
    ends : (q : ℕ) (walk : List ℕ) → IsTo q width walk → IsTo (suc q) 0 walk
    ends q walk w = record { starts = w.starts; distinct = w.distinct; closed = closed; least = w.least }
      where
        closed : (q' l' : ℕ) → IsPairBefore q' l' (suc q) 0 → q' < length walk → l' < width → Contains walk (next (slice_index walk q') l')
        closed q' l' (inr (e, h)) k m = absurd (omega arith)
        closed q' l' (inl h) k m = go (cases_eq q' q)
          where
            go : (q' ≡ q) ⊎ (q' ≡ q → ⊥) → Contains walk (next (slice_index walk q') l')
            go (inl e) = w.closed q' l' (inr (e, m)) k m
            go (inr other) = w.closed q' l' (inl (omega arith)) k m

    -- where the walk has at most n darts, all its pairs are followed
    closed_at : (n q : ℕ) (walk : List ℕ) → length walk ≤ n → IsTo n 0 walk → IsTo q 0 walk
    closed_at n q walk b w = record { starts = w.starts; distinct = w.distinct; closed = λ q' l' before k m. w.closed q' l' (inl (omega arith)) k m; least = w.least }

    rows : (n : ℕ) → (walk : List ℕ) × HaveAll walk × IsTo n 0 walk
    rows zero = (d ∷ [], alone, record { starts = refl; distinct = λ p q h b e. absurd (omega arith); closed = λ q' l' before k m. absurd (none q' l' before); least = λ p h b. absurd (omega arith) })
      where
        alone : (v : ℕ) → IsIn v (d ∷ []) → P v
        alone v (inl e) = subst P e first
        alone v (inr i) = absurd i

        none : (q' l' : ℕ) → IsPairBefore q' l' 0 0 → ⊥
        none q' l' (inl h) = omega arith
        none q' l' (inr (e, h)) = omega arith
    rows (suc n) = go (rows n)
      where
        go : (walk : List ℕ) × HaveAll walk × IsTo n 0 walk → (walk : List ℕ) × HaveAll walk × IsTo (suc n) 0 walk
        go (walk, all, w) = side (cases_lt n (length walk))
          where
            side : (n < length walk) ⊎ (length walk ≤ n) → (walk : List ℕ) × HaveAll walk × IsTo (suc n) 0 walk
            side (inl b) = let r : (more : List ℕ) × (n < length more) × HaveAll more × IsTo n width more = row n walk b all w width (omega arith) in (r.0, r.2, ends n r.0 r.3)
            side (inr b) = (walk, all, closed_at n (suc n) walk b w)

    pub walk_exists : (bound : ℕ) → ((e : ℕ) → P e → e < bound) → (walk : List ℕ) × IsWalk next width d walk
    walk_exists bound below = go (rows bound)
      where
        go : (walk : List ℕ) × HaveAll walk × IsTo bound 0 walk → (walk : List ℕ) × IsWalk next width d walk
        go (walk, all, w) = (walk, closed_at bound (length walk) walk (few_below bound walk (distinct_list walk w.distinct) (λ v i. below v (all v i))) w)
