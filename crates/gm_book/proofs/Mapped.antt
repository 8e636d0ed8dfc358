-- What a loop has made of each element so far, with one element more.
use Rattle.std.proofs.Common.{◌≡◌, ℕ, ◌+◌, ◌<◌, List, [], ◌∷◌, ◌++◌, length, get_or, map, take, sym, ap, ◌∙◌}
use Rattle.std.proofs.lemmas.List.{map-append, take_more}

module _ {X A B : Type 0} (f : X → A) (h : A → B) (xs : List X) (i : ℕ) (x d : X) (inside : i < length xs) (is : x ≡ get_or xs i d) where
  pub pushed_more : (ys new : List B) (y : B) → ys ≡ map h (map f (take i xs)) → y ≡ h (f x) → new ≡ ys ++ y ∷ [] → new ≡ map h (map f (take (i + 1) xs))
  pushed_more ys new y all one pushed =
      let behind : map h (map f (take (i + 1) xs)) ≡ map h (map f (take i xs)) ++ h (f x) ∷ [] =
      ap (λ zs. map h (map f zs)) (take_more xs i d inside ∙ ap (λ z. take i xs ++ z ∷ []) (sym is)) ∙ ap (map h) (map-append f (take i xs) (x ∷ [])) ∙ map-append h (map f (take i xs)) (f x ∷ []) in
      pushed ∙ ap (λ zs. zs ++ y ∷ []) all ∙ ap (λ z. map h (map f (take i xs)) ++ z ∷ []) one ∙ sym behind

  pub seen_more : {Y : Type 0} (g : Y → B) (ys new : List Y) (y : Y) → map g ys ≡ map h (map f (take i xs)) → g y ≡ h (f x) → new ≡ ys ++ y ∷ [] → map g new ≡ map h (map f (take (i + 1) xs))
  seen_more g ys new y all one pushed = pushed_more (map g ys) (map g new) (g y) all one (ap (map g) pushed ∙ map-append g ys (y ∷ []))
