-- How many collectors an expression has, and how many it can have.
use Rattle.std.specs.Prelude.{◌≡◌, ℕ, ◌+◌, ◌≤◌, Some}
use Rattle.gm_model.specs.Rules.{Rule, Assigns}
use Rattle.gm_model.specs.Trees.{Tree, Number, Truth, Param, Field, Same, Count, Sum, Least, Greatest, Unary, Binary, If, MakeVec2, MakeVec3, MakeRgb}

abbrev pub collector_count : Tree → ℕ
collector_count (Number n) = 0
collector_count (Truth b) = 0
collector_count (Param k) = 0
collector_count (Field d e) = 0
collector_count (Same d d') = 0
collector_count (Count o d) = 1
collector_count (Sum o d e) = 1
collector_count (Least o d e) = 1
collector_count (Greatest o d e) = 1
collector_count (Unary op a) = collector_count a
collector_count (Binary op a b) = collector_count a + collector_count b
collector_count (If c a b) = collector_count c + (collector_count a + collector_count b)
collector_count (MakeVec2 a b) = collector_count a + collector_count b
collector_count (MakeVec3 a b c) = collector_count a + (collector_count b + collector_count c)
collector_count (MakeRgb a b c) = collector_count a + (collector_count b + collector_count c)

-- The most in an expression of a book: a collector takes six tokens, there is one between two, and 256 in all.
abbrev pub most_collectors : ℕ
most_collectors = 36

-- no expression of the rule has more
pub record HasFewCollectors (rule : Rule) : Type 0 where
  pub pre : (tree : Tree) → rule.pre ≡ Some tree → collector_count tree ≤ most_collectors
  pub sets : (x e : ℕ) (tree : Tree) → Assigns rule x e tree → collector_count tree ≤ most_collectors
