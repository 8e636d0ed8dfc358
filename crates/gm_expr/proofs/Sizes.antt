-- How many operators and functions a tree has: what shrinks where a printer goes down it.
use Rattle.std.specs.Prelude.{ℕ, ◌+◌}
use Rattle.gm_model.specs.Trees.{Tree, Unary, Binary, If, MakeVec2, MakeVec3, MakeRgb}

abbrev pub size : Tree → ℕ
size (Unary op a) = size a + 1
size (Binary op a b) = size a + size b + 1
size (If c a b) = size c + size a + size b + 1
size (MakeVec2 a b) = size a + size b + 1
size (MakeVec3 a b c) = size a + size b + size c + 1
size (MakeRgb a b c) = size a + size b + size c + 1
size _ = 0
