-- Which nodes are marked in a table, and what is asked of the nodes of such a set.
use Rattle.std.specs.Prelude.{◌≡◌, ℕ, Bool, true, false, List, slice_index_or, IsTrue}
use Rattle.gm_model.specs.declared.rule.Side.{Side}
use Rattle.gm_model.specs.declared.rule.Side.TheVariants.{Left, Right}
use Rattle.gm_model.specs.Components.{IsAssigned, HasLetterIn}
use Rattle.gm_model.specs.Orbits.{Labels}
use Rattle.gm_model.specs.Rules.{Rule, is_preserved}

abbrev pub is_in : List Bool → ℕ → Bool
is_in nodes x = slice_index_or nodes x false

abbrev pub IsIn : List Bool → ℕ → Type 0
IsIn nodes x = is_in nodes x ≡ true

-- ---- nodes of a set

-- x is in the set and has an assignment to the embedding
abbrev pub IsAssignedIn : Rule → ℕ → List Bool → ℕ → Type 0
IsAssignedIn rule e nodes x = IsIn nodes x × IsAssigned rule e x

abbrev pub IsPreservedIn : Rule → List Bool → ℕ → Type 0
IsPreservedIn rule nodes x = IsIn nodes x × IsTrue (is_preserved rule x)

-- x is a preserved node of the set, and not one of the left set
abbrev pub IsPreservedOutside : Rule → List Bool → List Bool → ℕ → Type 0
IsPreservedOutside rule nodes left x = IsPreservedIn rule nodes x × (IsIn left x → ⊥)

-- ---- places

-- a node of the set has a letter of the type at the place
abbrev pub HasLetterAmong : Rule → Side → Labels → List Bool → ℕ → Type 0
HasLetterAmong rule side o nodes m = (x : ℕ) × IsIn nodes x × HasLetterIn rule side o x m

-- where a node of the set has a right letter of the type, a node of the left set has a left letter of it
abbrev pub IsCovered : Rule → Labels → List Bool → List Bool → ℕ → Type 0
IsCovered rule o nodes left m = HasLetterAmong rule Right o nodes m → HasLetterAmong rule Left o left m
