-- What the lines of a report tell, line by line.
use Rattle.std.proofs.Common.{◌≡◌, ℕ, ◌+◌, ◌<◌, List, [], ◌∷◌, ◌++◌, length, take, drop, get_or, map, Some, slice_get, refl, sym, ap, ap₂, ◌∙◌}
use Rattle.std.specs.Option.{option_map}
use Rattle.std.proofs.lemmas.List.{drop_more, take_more, length-map, map-append}
use Rattle.std.proofs.lemmas.Option.{get_or_from_slice_get, slice_get-get_or, slice_get-map, slice_get_within}
use Rattle.gm_arena.proofs.InsideLemmas.{some_from_map}
use Rattle.gm_model.specs.Runs as runs
use Rattle.gm_run.specs.declared.outcome.Outcome.{Outcome}
use Rattle.gm_run.specs.inner.Lines.{outcome_of, Tells}

-- the lines tell these outcomes and no others
pub told_once : (lines : List Outcome) (told others : List runs.Outcome) → Tells lines told → Tells lines others → told ≡ others
told_once lines told others first second = each told others (sym first ∙ second)
  where
    each : (xs ys : List runs.Outcome) → map Some xs ≡ map Some ys → xs ≡ ys
    each [] [] same = refl
    each [] (y ∷ ys) same = absurd cc
    each (x ∷ xs) [] same = absurd cc
    each (x ∷ xs) (y ∷ ys) same = ap₂ (λ o os. o ∷ os) (cc same) (each xs ys (cc same))

module _ (lines : List Outcome) (told : List runs.Outcome) (tells : Tells lines told) where
  -- as many as there are lines
  pub as_many : length told ≡ length lines
  as_many = sym (length-map told Some) ∙ ap length (sym tells) ∙ length-map lines outcome_of

  -- one line more
  pub tells_more : (line : Outcome) (outcome : runs.Outcome) → outcome_of line ≡ Some outcome → Tells (lines ++ line ∷ []) (told ++ outcome ∷ [])
  tells_more line outcome is = map-append outcome_of lines (line ∷ []) ∙ ap₂ (λ os o. os ++ o ∷ []) tells is ∙ sym (map-append Some told (outcome ∷ []))

  -- the line at this place tells the outcome at this place
  pub record IsToldAt (k : ℕ) (line : Outcome) : Type 0 where
    pub outcome : runs.Outcome
    pub at : slice_get told k ≡ Some outcome
    pub is : outcome_of line ≡ Some outcome

  pub told_at : (k : ℕ) (line d : Outcome) → k < length lines → line ≡ get_or lines k d → IsToldAt k line
  told_at k line d within line_is = record { outcome = found.0; at = found.1; is = found.2 }
    where
      mapped : option_map Some (slice_get told k) ≡ Some (outcome_of line)
      mapped =
          sym (slice_get-map Some told k) ∙ ap (λ os. slice_get os k) (sym tells) ∙ slice_get-map outcome_of lines k
          ∙ ap (option_map outcome_of) (slice_get-get_or lines k d within ∙ ap Some (sym line_is))

      found : (outcome : runs.Outcome) × (slice_get told k ≡ Some outcome) × (outcome_of line ≡ Some outcome)
      found = some_from_map Some (slice_get told k) (outcome_of line) mapped

-- what stands at a place, and what is behind it or before it
module _ {A : Type 0} (xs : List A) (k : ℕ) (x : A) (at : slice_get xs k ≡ Some x) where
  pub behind : drop k xs ≡ x ∷ drop (k + 1) xs
  behind = drop_more xs k x (slice_get_within xs k x at) ∙ ap (λ y. y ∷ drop (k + 1) xs) (get_or_from_slice_get xs k x x at)

  pub last_taken : take (k + 1) xs ≡ take k xs ++ x ∷ []
  last_taken = take_more xs k x (slice_get_within xs k x at) ∙ ap (λ y. take k xs ++ y ∷ []) (get_or_from_slice_get xs k x x at)
