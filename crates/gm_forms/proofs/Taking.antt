-- A list that is written from another's elements, one after the other.
use Rattle.std.proofs.Common.{◌≡◌, ℕ, zero, suc, ◌+◌, ◌<◌, List, [], ◌∷◌, ◌++◌, length, take, set, Some, sym, ap, ◌∙◌, arith}
use Rattle.std.specs.List.{slice_get}
use Rattle.std.proofs.lemmas.List.{take_more_set}

take_next : {X : Type 0} (xs : List X) (i : ℕ) (x : X) → slice_get xs i ≡ Some x → take (i + 1) xs ≡ take i xs ++ x ∷ []
take_next [] i x is = absurd cc
take_next (y ∷ xs) zero x is = cc
take_next (y ∷ xs) (suc i) x is =
    let e : suc i + 1 ≡ suc (i + 1) = omega arith in
    rw e (ap (λ ys. y ∷ ys) (take_next xs i x is))

pub taken_further : {X : Type 0} (xs ys : List X) (i : ℕ) (y : X) → i < length xs → slice_get ys i ≡ Some y → take i xs ≡ take i ys
    → take (i + 1) (set xs i y) ≡ take (i + 1) ys
taken_further xs ys i y within is so_far = take_more_set xs i y within ∙ ap (λ zs. zs ++ y ∷ []) so_far ∙ sym (take_next ys i y is)
