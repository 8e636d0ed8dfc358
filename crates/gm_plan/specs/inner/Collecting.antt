-- Whether an expression collects over an orbit, and whether one that is assigned to an embedding does.
use Rattle.std.specs.Prelude.{◌≡◌, ℕ, Bool, true, false, ◌||◌, List, Some, slice_get, IsTrue}
use Rattle.gm_model.specs.declared.rule.Set.{Set}
use Rattle.gm_model.specs.Rules.{Rule, Assigns}
use Rattle.gm_model.specs.Trees.{Tree, Number, Truth, Param, Field, Same, Count, Sum, Least, Greatest, Unary, Binary, If, MakeVec2, MakeVec3, MakeRgb, tree_of}

-- whether a collector stands in the expression
abbrev pub collects : Tree → Bool
collects (Number n) = false
collects (Truth b) = false
collects (Param k) = false
collects (Field d e) = false
collects (Same d d') = false
collects (Count o d) = true
collects (Sum o d e) = true
collects (Least o d e) = true
collects (Greatest o d e) = true
collects (Unary op a) = collects a
collects (Binary op a b) = collects a || collects b
collects (If c a b) = collects c || (collects a || collects b)
collects (MakeVec2 a b) = collects a || collects b
collects (MakeVec3 a b c) = collects a || (collects b || collects c)
collects (MakeRgb a b c) = collects a || (collects b || collects c)

-- an assignment of the list is to the embedding, and its expression collects
abbrev pub SetsCollect : List Set → ℕ → Type 0
SetsCollect sets e = (k : ℕ) × (s : Set) × (slice_get sets k ≡ Some s) × (s.embed ≡ e) × IsTrue (collects (tree_of s.expr))

-- an expression that the rule assigns to the embedding collects
abbrev pub Collects : Rule → ℕ → Type 0
Collects rule e = (x : ℕ) × (tree : Tree) × Assigns rule x e tree × IsTrue (collects tree)

-- no expression that the rule assigns to the embedding does
abbrev pub CollectsNothing : Rule → ℕ → Type 0
CollectsNothing rule e = (x : ℕ) (tree : Tree) → Assigns rule x e tree → collects tree ≡ false
