-- A list that is made from another one, element by element.
use Rattle.std.proofs.Common.{◌≡◌, ℕ, ◌+◌, ◌<◌, ◌≤◌, List, [], ◌∷◌, ◌++◌, map, take, length, get_or, ap, ap₂, sym, ◌∙◌}
use Rattle.std.proofs.lemmas.List.{map_push, take_all, take_more}

pub map_more : {A B : Type 0} (f : A → B) (xs : List A) (k : ℕ) (d : A) → k < length xs → map f (take (k + 1) xs) ≡ map f (take k xs) ++ f (get_or xs k d) ∷ []
map_more f xs k d h = ap (map f) (take_more xs k d h) ∙ map_push f (take k xs) (get_or xs k d)

pub map_all : {A B : Type 0} (f : A → B) (xs : List A) (k : ℕ) → length xs ≤ k → map f (take k xs) ≡ map f xs
map_all f xs k h = ap (map f) (take_all k xs h)

-- the same, where both lists are seen by a view
pub viewed_more : {A B : Type 0} (v : A → B) (made : List A) (x : A) (g : B → B) (xs : List A) (k : ℕ) (d : A) → k < length xs → map v made ≡ map g (map v (take k xs)) → v x ≡ g (v (get_or xs k d)) → map v (made ++ x ∷ []) ≡ map g (map v (take (k + 1) xs))
viewed_more v made x g xs k d h so_far one = map_push v made x ∙ (ap₂ (λ ys y. ys ++ y ∷ []) so_far one ∙ sym (ap (map g) (map_more v xs k d h) ∙ map_push g (map v (take k xs)) (v (get_or xs k d))))

pub viewed_all : {A B : Type 0} (v : A → B) (g : B → B) (xs : List A) (k : ℕ) → length xs ≤ k → map g (map v (take k xs)) ≡ map g (map v xs)
viewed_all v g xs k h = ap (λ ys. map g (map v ys)) (take_all k xs h)
