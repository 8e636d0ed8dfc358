-- How a walk grows by one pair of a dart and a place, and that there is one walk from a dart.
use Rattle.std.proofs.Common.{◌≡◌, ℕ, ◌+◌, ◌<◌, ◌≤◌, ◌⊎◌, List, [], ◌∷◌, ◌++◌, Some, length, get_or, take, slice_get, refl, sym, ap, subst, ◌∙◌, inl, inr, arith}
use Rattle.std.specs.List.{Contains}
use Rattle.std.specs.Prelude.{slice_index}
use Rattle.std.proofs.lemmas.Bool.{cases_lt}
use Rattle.std.proofs.lemmas.List.{get_or_append_left, get_or_push, get_or_default, length_push, take_all, take-append-le}
use Rattle.std.proofs.lemmas.List.Elements.{Contains-append_left, Contains-push}
use Rattle.std.proofs.lemmas.Option.{slice_get-get_or}
use Rattle.gm_model.specs.Orbits.{IsPairBefore, IsLeastStep, IsWalkTo}

-- a place of a list with one more at its end is a place of the list, or the end
pub place_cases : (xs : List ℕ) (x p : ℕ) → p < length (xs ++ x ∷ []) → (p < length xs) ⊎ (p ≡ length xs)
place_cases xs x p h = elim (cases_lt p (length xs)) [ inl l ↦ inl l | inr l ↦ inr (omega (arith, length_push xs x)) ]

-- the pairs before the next place of a dart are those before this place, and this one
before_next : (q' l' q l : ℕ) → IsPairBefore q' l' q (l + 1) → IsPairBefore q' l' q l ⊎ ((q' ≡ q) × (l' ≡ l))
before_next q' l' q l (inl h) = inl (inl h)
before_next q' l' q l (inr (e, h)) = elim (cases_lt l' l) [ inl k ↦ inl (inr (e, k)) | inr k ↦ inr (e, omega arith) ]

earlier_dart : (q' l' q l : ℕ) → IsPairBefore q' l' q l → q' ≤ q
earlier_dart q' l' q l (inl h) = omega arith
earlier_dart q' l' q l (inr (e, h)) = omega arith

module _ (next : ℕ → ℕ → ℕ) (width : ℕ) where
  -- the walk begins with its dart
  pub begins : (d : ℕ) → IsWalkTo next width d 0 0 (d ∷ [])
  begins d = record {
    starts = refl;
    distinct = λ p q h k. absurd (omega arith);
    closed = λ q' l' before. absurd (elim before [ inl h ↦ omega arith | inr h ↦ omega (arith, h.1) ]);
    least = λ p h k. absurd (omega arith);
  }

  -- each place of the dart was followed
  pub next_dart : (d q : ℕ) (walk : List ℕ) → IsWalkTo next width d q width walk → IsWalkTo next width d (q + 1) 0 walk
  next_dart d q walk w = record {
    starts = w.starts;
    distinct = w.distinct;
    least = w.least;
    closed = λ q' l' before h k. w.closed q' l' (earlier q' l' before k) h k;
  }
    where
      earlier : (q' l' : ℕ) → IsPairBefore q' l' (q + 1) 0 → l' < width → IsPairBefore q' l' q width
      earlier q' l' (inl h) k = elim (cases_lt q' q) [ inl less ↦ inl less | inr more ↦ inr (omega arith, k) ]
      earlier q' l' (inr (e, h)) k = absurd (omega arith)

  -- the pair leads to a dart of the walk
  pub known : (d q l : ℕ) (walk : List ℕ) → IsWalkTo next width d q l walk → Contains walk (next (slice_index walk q) l) → IsWalkTo next width d q (l + 1) walk
  known d q l walk w there = record {
    starts = w.starts;
    distinct = w.distinct;
    least = w.least;
    closed = λ q' l' before h k. elim (before_next q' l' q l before) [
      | inl earlier ↦ w.closed q' l' earlier h k
      | inr (e, f) ↦ let P : ℕ → ℕ → Type 0 = λ a b. Contains walk (next (slice_index walk a) b) in subst (λ b. P q' b) (sym f) (subst (λ a. P a l) (sym e) there)
    ];
  }

  -- the pair leads to a new dart
  module _ (d q l : ℕ) (walk : List ℕ) (w : IsWalkTo next width d q l walk) (here : q < length walk) (place : l < width) (x : ℕ) (leads : x ≡ next (slice_index walk q) l) (new : Contains walk x → ⊥) where
    same : (p : ℕ) → p < length walk → get_or (walk ++ x ∷ []) p 0 ≡ get_or walk p 0
    same p h = get_or_append_left walk (x ∷ []) 0 p h

    last : (p : ℕ) → p ≡ length walk → get_or (walk ++ x ∷ []) p 0 ≡ x
    last p e = get_or_push walk x 0 p (sym e)

    front : (p : ℕ) → p ≤ length walk → take p (walk ++ x ∷ []) ≡ take p walk
    front p h = take-append-le p walk (x ∷ []) h

    step_kept : (p q' l' : ℕ) → p < length walk → IsLeastStep next width walk p q' l' → IsLeastStep next width (walk ++ x ∷ []) p q' l'
    step_kept p q' l' h s = record {
      earlier = s.earlier;
      place = s.place;
      leads = same p h ∙ (s.leads ∙ ap (λ a. next a l') (sym (same q' (omega (arith, s.earlier)))));
      least = λ q'' l'' before k.
          let less : q'' < length walk = omega (arith, s.earlier, earlier_dart q'' l'' q' l' before) in
          rw (front p (omega arith)) (subst (λ a. Contains (take p walk) (next a l'')) (sym (same q'' less)) (s.least q'' l'' before k));
    }

    step_new : IsLeastStep next width (walk ++ x ∷ []) (length walk) q l
    step_new = record {
      earlier = here;
      place = place;
      leads = last (length walk) refl ∙ (leads ∙ ap (λ a. next a l) (sym (same q here)));
      least = λ q'' l'' before k.
          let less : q'' < length walk = omega (arith, earlier_dart q'' l'' q l before) in
          rw (front (length walk) (omega arith), take_all (length walk) walk (omega arith)) (subst (λ a. Contains walk (next a l'')) (sym (same q'' less)) (w.closed q'' l'' before less k));
    }

    -- the first dart stays
    first : slice_get (walk ++ x ∷ []) 0 ≡ Some d
    first =
        let some : 0 < length walk = omega arith in
        slice_get-get_or (walk ++ x ∷ []) 0 0 (omega (arith, length_push walk x)) ∙ (ap Some (same 0 some) ∙ (sym (slice_get-get_or walk 0 0 some) ∙ w.starts))

    apart : (p q' : ℕ) → p < q' → q' < length (walk ++ x ∷ []) → get_or (walk ++ x ∷ []) p 0 ≡ get_or (walk ++ x ∷ []) q' 0 → ⊥
    apart p q' h k e = elim (place_cases walk x q' k) [
      | inl less ↦ w.distinct p q' h less (sym (same p (omega arith)) ∙ (e ∙ same q' less))
      | inr end ↦
          let less : p < length walk = omega arith in
          let at : get_or walk p 0 ≡ x = sym (same p less) ∙ (e ∙ last q' end) in
          new (p, less, get_or_default walk p x 0 less ∙ at)
    ]

    pub added : IsWalkTo next width d q (l + 1) (walk ++ x ∷ [])
    added = record {
      starts = first;
      distinct = apart;
      closed = λ q' l' before h k.
          let less : q' < length walk = omega (arith, earlier_dart q' l' q (l + 1) before) in
          subst (λ a. Contains (walk ++ x ∷ []) (next a l')) (sym (same q' less)) (elim (before_next q' l' q l before) [
            | inl earlier ↦ Contains-append_left walk (x ∷ []) _ (w.closed q' l' earlier less k)
            | inr (e, f) ↦ subst (Contains (walk ++ x ∷ [])) (leads ∙ (ap (λ a. next (get_or walk a 0) l) (sym e) ∙ ap (next (get_or walk q' 0)) (sym f))) (Contains-push walk x)
          ]);
      least = λ p some h. elim (place_cases walk x p h) [
        | inl less ↦ let s = w.least p some less in (s.0, s.1, step_kept p s.0 s.1 less s.2)
        | inr end ↦ (q, l, subst (λ n. IsLeastStep next width (walk ++ x ∷ []) n q l) (sym end) step_new)
      ];
    }
