-- A rule in whose expressions no number is negative.
use Rattle.std.specs.Prelude.{◌≡◌, ℕ, Some}
use Rattle.gm_model.specs.Rules.{Rule, Assigns}
use Rattle.gm_model.specs.Trees.{Tree}
use Rattle.gm_parse.specs.Meaning.{IsUnsigned}

pub record HasUnsignedExprs (rule : Rule) : Type 0 where
  pub pre : (tree : Tree) → rule.pre ≡ Some tree → IsUnsigned tree
  pub sets : (x e : ℕ) (tree : Tree) → Assigns rule x e tree → IsUnsigned tree
