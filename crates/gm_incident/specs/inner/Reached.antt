-- Which nodes are marked in a table, and how the marks spread along links.
use Rattle.std.specs.Prelude.{◌≡◌, ℕ, Bool, true, false, not, List, slice_index_or}
use Rattle.std.specs.List.{Contains, count_by}
use Rattle.gm_model.specs.declared.rule.Link.{Link}
use Rattle.gm_model.specs.Structure.{IsJoined, any_label}

abbrev pub is_reached : List Bool → ℕ → Bool
is_reached reached x = slice_index_or reached x false

abbrev pub IsReached : List Bool → ℕ → Type 0
IsReached reached x = is_reached reached x ≡ true

-- how many nodes are not marked
abbrev pub unreached : List Bool → ℕ
unreached reached = count_by not reached

-- links join the node to one of the hooks
abbrev pub IsJoinedToHook : List Link → List ℕ → ℕ → Type 0
IsJoinedToHook links hooks x = (h : ℕ) × Contains hooks h × IsJoined links any_label h x

-- the marks have spread from the old nodes along links, and none was lost
pub record HasSpread (links : List Link) (old new : List Bool) : Type 0 where
  pub kept : (x : ℕ) → IsReached old x → IsReached new x
  pub joined : (x : ℕ) → IsReached new x → (y : ℕ) × IsReached old y × IsJoined links any_label y x
