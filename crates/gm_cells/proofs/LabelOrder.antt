-- Walks by their labels, where no smaller path comes before one: of two that are as long, the labels decide.
use Rattle.std.proofs.Common.{◌≡◌, ℕ, ◌<◌, ◌⊎◌, List, [], ◌∷◌, length, ap, suc, inl, inr, arith}
use Rattle.gm_model.specs.Matches.{IsSmallerPath}

-- the first label that differs is less
abbrev pub IsLower : List ℕ → List ℕ → Type 0
IsLower [] others = ⊥
IsLower (i ∷ labels) [] = ⊥
IsLower (i ∷ labels) (j ∷ others) = (i < j) ⊎ ((i ≡ j) × IsLower labels others)

lower_of : (a b : List ℕ) → length a ≡ length b → IsSmallerPath a b → IsLower a b
lower_of [] [] long smaller = smaller
lower_of [] (j ∷ b) long smaller = absurd (omega arith)
lower_of (i ∷ a) [] long smaller = smaller
lower_of (i ∷ a) (j ∷ b) long (inl shorter) = absurd (omega arith)
lower_of (i ∷ a) (j ∷ b) long (inr (same, inl less)) = inl less
lower_of (i ∷ a) (j ∷ b) long (inr (same, inr (equal, smaller))) = inr (equal, lower_of a b same smaller)

-- shorter ones first, then by the labels in order
pub shorter_or_lower : (a b : List ℕ) → IsSmallerPath a b → (length a < length b) ⊎ ((length a ≡ length b) × IsLower a b)
shorter_or_lower [] [] smaller = absurd smaller
shorter_or_lower [] (j ∷ b) smaller = inl (omega arith)
shorter_or_lower (i ∷ a) [] smaller = absurd smaller
shorter_or_lower (i ∷ a) (j ∷ b) (inl shorter) = inl (omega arith)
shorter_or_lower (i ∷ a) (j ∷ b) (inr (same, by_label)) = inr (ap suc same, lower_of (i ∷ a) (j ∷ b) (ap suc same) (inr (same, by_label)))
