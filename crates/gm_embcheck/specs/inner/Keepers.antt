-- Tables that have by node the keeper of its right component, and the first preserved node by leader.
use Rattle.std.specs.Prelude.{◌≡◌, ℕ, ◌<◌, List, Option, None, MatchOption, slice_index_or, IsTrue}
use Rattle.gm_model.specs.declared.rule.Side.TheVariants.{Right}
use Rattle.gm_model.specs.Components.{IsKeeper, IsNew}
use Rattle.gm_model.specs.Orbits.{Labels}
use Rattle.gm_model.specs.Rules.{Rule, has_word, is_preserved}
use Rattle.gm_embcheck.specs.inner.Leaders.{leader_in}

abbrev pub keeper_in : List (Option ℕ) → ℕ → Option ℕ
keeper_in keepers x = slice_index_or keepers x None

-- each right node has the least preserved node of its component, or none where it has none
abbrev pub AreKeepers : Rule → Labels → List (Option ℕ) → Type 0
AreKeepers rule o keepers = (x : ℕ) → IsTrue (has_word rule Right x) → MatchOption (keeper_in keepers x) (IsNew rule o x) (IsKeeper rule o x)

-- node y is preserved and has this leader
abbrev pub IsPreservedOf : Rule → List ℕ → ℕ → ℕ → Type 0
IsPreservedOf rule leaders leader y = (leader_in leaders y ≡ leader) × IsTrue (is_preserved rule y)

-- y is the least such node
pub record IsFirstOf (rule : Rule) (leaders : List ℕ) (leader y : ℕ) : Type 0 where
  pub has : IsPreservedOf rule leaders leader y
  pub before : (z : ℕ) → z < y → IsPreservedOf rule leaders leader z → ⊥

-- by leader the least preserved node that has it, of the nodes below the count
abbrev pub AreFirstPreserved : Rule → List ℕ → ℕ → List (Option ℕ) → Type 0
AreFirstPreserved rule leaders count first = (leader : ℕ) → leader < 32 → MatchOption (keeper_in first leader)
    ((y : ℕ) → y < count → IsPreservedOf rule leaders leader y → ⊥)
    (IsFirstOf rule leaders leader)
