-- Where a loop goes on over a list, what is left of it begins with the element that comes.
use Rattle.std.proofs.Common.{◌≡◌, ℕ, zero, suc, ◌+◌, ◌<◌, ◌≤◌, List, [], ◌∷◌, ◌++◌, length, get_or, map, drop, append_assoc, append-nil, sym, ap, subst, ◌∙◌, arith}
use Rattle.std.proofs.lemmas.List.{drop_all, drop_more}
use Rattle.std.specs.List.{AllByRecursion}

pub left_on : {X : Type 0} (xs : List X) (k : ℕ) (x : X) → k < length xs → x ≡ get_or xs k x → drop k xs ≡ x ∷ drop (k + 1) xs
left_on xs k x less is = drop_more xs k x less ∙ ap (λ y. y ∷ drop (k + 1) xs) (sym is)

-- what holds of each element holds of the one that comes
pub each_on : {X : Type 0} (P : X → Type 0) (xs : List X) (k : ℕ) (x d : X) → AllByRecursion P xs → k < length xs → x ≡ get_or xs k d → P x
each_on P [] k x d all inside is = absurd (omega (arith, inside))
each_on P (y ∷ xs) zero x d all inside is = subst P (sym is) all.0
each_on P (y ∷ xs) (suc k) x d all inside is = each_on P xs k x d all.1 (omega (arith, inside)) is

-- ---- what is picked out of a list

module _ {X A B : Type 0} (f : X → A) (pick : List A → B) (xs : List X) (k : ℕ) (whole : B) where
  -- an element that adds nothing is passed
  pub passed_on : (x : X) → k < length xs → x ≡ get_or xs k x → pick (f x ∷ map f (drop (k + 1) xs)) ≡ pick (map f (drop (k + 1) xs)) → pick (map f (drop k xs)) ≡ whole → pick (map f (drop (k + 1) xs)) ≡ whole
  passed_on x inside is passes so_far = sym passes ∙ ap (λ ys. pick (map f ys)) (sym (left_on xs k x inside is)) ∙ so_far

  -- the element is what is looked for
  pub found_on : (x : X) (one : B) → k < length xs → x ≡ get_or xs k x → pick (f x ∷ map f (drop (k + 1) xs)) ≡ one → pick (map f (drop k xs)) ≡ whole → one ≡ whole
  found_on x one inside is finds so_far = sym finds ∙ ap (λ ys. pick (map f ys)) (sym (left_on xs k x inside is)) ∙ so_far

  pub none_on : length xs ≤ k → pick (map f (drop k xs)) ≡ whole → pick [] ≡ whole
  none_on past so_far = ap (λ ys. pick (map f ys)) (sym (drop_all k xs past)) ∙ so_far

module _ {X A B : Type 0} (f : X → A) (pick : List A → List B) (xs : List X) (k : ℕ) (whole before : List B) where
  -- an element adds what is picked out of it
  pub gathered_on : (x : X) (one after : List B) → k < length xs → x ≡ get_or xs k x → pick (f x ∷ map f (drop (k + 1) xs)) ≡ one ++ pick (map f (drop (k + 1) xs)) → after ≡ before ++ one
      → before ++ pick (map f (drop k xs)) ≡ whole → after ++ pick (map f (drop (k + 1) xs)) ≡ whole
  gathered_on x one after inside is adds pushed so_far =
      let rest = pick (map f (drop (k + 1) xs)) in
      ap (λ ys. ys ++ rest) pushed ∙ append_assoc before one rest ∙ ap (λ ys. before ++ ys) (sym adds) ∙ ap (λ ys. before ++ pick (map f ys)) (sym (left_on xs k x inside is)) ∙ so_far

  pub gathered_all : length xs ≤ k → pick [] ≡ [] → before ++ pick (map f (drop k xs)) ≡ whole → before ≡ whole
  gathered_all past none so_far = sym (append-nil before) ∙ ap (λ ys. before ++ ys) (sym none) ∙ none_on f (λ ys. before ++ pick ys) xs k whole past so_far
