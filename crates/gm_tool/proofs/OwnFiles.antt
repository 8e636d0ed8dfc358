-- Files that are loaded one after another.
use Rattle.std.proofs.Common.{◌≡◌, ℕ, List, [], ◌∷◌, ◌++◌, inl, inr, refl, sym, ap, ◌∙◌, append-nil, append_assoc}
use Rattle.gm_tool.specs.OwnFiles.{LoadsFirst, LoadsAtMost}

pub none_of : (before : List (List ℕ)) → LoadsFirst [] before before
none_of before = ([], [], refl, sym (append-nil before))

pub first_of : (first : List ℕ) (rest before after : List (List ℕ)) → after ≡ before ++ first ∷ [] → LoadsFirst (first ∷ rest) before after
first_of first rest before after is = (first ∷ [], rest, refl, is)

two_more : (first second : List ℕ) (before between after : List (List ℕ)) → between ≡ before ++ first ∷ [] → after ≡ between ++ second ∷ [] → after ≡ before ++ first ∷ second ∷ []
two_more first second before between after one two = two ∙ ap (λ front. front ++ second ∷ []) one ∙ append_assoc before (first ∷ []) (second ∷ [])

pub second_of : (first second : List ℕ) (rest before between after : List (List ℕ)) → between ≡ before ++ first ∷ [] → after ≡ between ++ second ∷ [] → LoadsFirst (first ∷ second ∷ rest) before after
second_of first second rest before between after one two = (first ∷ second ∷ [], rest, refl, two_more first second before between after one two)

-- the third too, or no more than two
pub third_of : (first second third : List ℕ) (before one two after : List (List ℕ)) → one ≡ before ++ first ∷ [] → two ≡ one ++ second ∷ [] → LoadsAtMost third two after
    → LoadsFirst (first ∷ second ∷ third ∷ []) before after
third_of first second third before one two after p q (inl same) = second_of first second (third ∷ []) before one after p (same ∙ q)
third_of first second third before one two after p q (inr more) =
    (first ∷ second ∷ third ∷ [], [], refl, more ∙ ap (λ front. front ++ third ∷ []) (two_more first second before one two p q) ∙ append_assoc before (first ∷ second ∷ []) (third ∷ []))
