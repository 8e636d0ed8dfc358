-- Lists without repeats: how long they are, and one more element.
use Rattle.std.proofs.Common.{◌≡◌, ◌≢◌, ℕ, ◌<◌, ◌≤◌, ◌⊎◌, inl, inr, List, [], ◌∷◌, ◌++◌, length, get_or, sym, ◌∙◌, arith}
use Rattle.std.proofs.lemmas.Bool.{cases_lt, eqb-true}
use Rattle.std.proofs.lemmas.Bool.Decides.{Decides-eqb}
use Rattle.std.proofs.lemmas.List.{get_or_append_left, get_or_default, get_or_push, length_push}
use Rattle.std.proofs.lemmas.Map.Made.{IsDistinct-from_AllPairs}
use Rattle.std.proofs.lemmas.Map.Steps.{length-le_from_distinct_below}
use Rattle.std.proofs.lemmas.Map.Views.{Contains-from_any}
use Rattle.std.specs.List.{AllPairs, Contains}
use Rattle.gm_model.specs.Orbits.{HasNoRepeats}

-- so many numbers are below a number at most
pub few_below : (xs : List ℕ) (n : ℕ) → HasNoRepeats xs → ((x : ℕ) → Contains xs x → x < n) → length xs ≤ n
few_below xs n distinct below = length-le_from_distinct_below xs n (IsDistinct-from_AllPairs Decides-eqb xs differ) (λ x t. below x (Contains-from_any (λ a b f. eqb-true a b f) x xs t))
  where
    differ : AllPairs (λ x y. x ≢ y) xs
    differ s t d a b = let within : s < length xs = omega (arith, a, b) in rw (get_or_default xs s d 0 within, get_or_default xs t d 0 b) (distinct s t a b)

pub distinct_push : (xs : List ℕ) (y : ℕ) → HasNoRepeats xs → (Contains xs y → ⊥) → HasNoRepeats (xs ++ y ∷ [])
distinct_push xs y distinct new s t a b e = go (cases_lt t (length xs))
  where
    earlier : s < length xs
    earlier = omega (arith, a, b, length_push xs y)

    old : (k : ℕ) → k < length xs → get_or (xs ++ y ∷ []) k 0 ≡ get_or xs k 0
    old k h = get_or_append_left xs (y ∷ []) 0 k h

    go : (t < length xs) ⊎ (length xs ≤ t) → ⊥
    go (inl c) = distinct s t a c (sym (old s earlier) ∙ e ∙ old t c)
    go (inr c) =
        let last : length xs ≡ t = omega (arith, c, b, length_push xs y) in
        new (s, earlier, get_or_default xs s y 0 earlier ∙ sym (old s earlier) ∙ e ∙ get_or_push xs y 0 t last)
