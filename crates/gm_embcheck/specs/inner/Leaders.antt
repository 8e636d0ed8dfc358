-- Tables that have by node the leader of its component, and how two components become one.
use Rattle.std.specs.Prelude.{◌≡◌, ◌≢◌, ℕ, ◌<◌, ◌≤◌, ◌⊎◌, ◌==◌, if◌then◌else◌, min, List, slice_index_or}
use Rattle.gm_model.specs.declared.rule.Link.{Link}
use Rattle.gm_model.specs.Orbits.{Labels}
use Rattle.gm_model.specs.Structure.{IsJoined}

abbrev pub leader_in : List ℕ → ℕ → ℕ
leader_in leaders x = slice_index_or leaders x 0

-- each node has the least node to which links with labels of the type lead from it
pub record AreLeaders (links : List Link) (o : Labels) (leaders : List ℕ) : Type 0 where
  pub joined : (x : ℕ) → x < 32 → IsJoined links o x (leader_in leaders x)
  pub least : (x y : ℕ) → x < 32 → IsJoined links o x y → leader_in leaders x ≤ y

-- the nodes that had the leader a or b have the lesser of them, and the others theirs
pub record HasJoined (old new : List ℕ) (a b : ℕ) : Type 0 where
  pub these : (x : ℕ) → x < 32 → (leader_in old x ≡ a) ⊎ (leader_in old x ≡ b) → leader_in new x ≡ min a b
  pub others : (x : ℕ) → x < 32 → leader_in old x ≢ a → leader_in old x ≢ b → leader_in new x ≡ leader_in old x

-- one leader for another
abbrev pub replaced : ℕ → ℕ → ℕ → ℕ
replaced was is x = if x == was then is else x
