-- Which left step is the first that the candidate doesn't meet, by node, position and label.
use Rattle.std.specs.Prelude.{ℕ, ◌+◌}
use Rattle.gm_model.specs.Matches.{IsMetAt}
use Rattle.gm_model.specs.Rules.{Rule}
use Rattle.gm_model.specs.Structure.{AreGood, IsFirstBad}
use Rattle.gm_arena.specs.inner.ArenaAsMap.{as_map}
use Rattle.gm_arena.specs.inner.ArenaMap.{ArenaMap}
use Rattle.gm_plan.specs.inner.Placed.{Placed}
use Rattle.gm_match.specs.declared.fault.MatchFault.{MatchFault}
use Rattle.gm_match.specs.declared.fault.MatchFault.TheVariants as faults
use Rattle.gm_plan.specs.inner.InArena.{placement_in}

module _ (m : ArenaMap) (rule : Rule) (found : Placed) where
  -- each left step of node x is met at position p
  abbrev pub AreMetAt : ℕ → ℕ → Type 0
  AreMetAt x p = AreGood (IsMetAt (as_map m) rule (placement_in m found) x p) (m.schema.dim + 1)

  -- each left step of node x is met at each position
  abbrev pub AreMetBy : ℕ → Type 0
  AreMetBy x = AreGood (AreMetAt x) found.positions

  -- of each left node
  abbrev pub AreMet : Type 0
  AreMet = AreGood AreMetBy found.nodes

  -- position p and label i are the first at which node x isn't met
  pub record IsFirstAt (x p i : ℕ) : Type 0 where
    pub position : IsFirstBad (AreMetAt x) found.positions p
    pub label : IsFirstBad (IsMetAt (as_map m) rule (placement_in m found) x p) (m.schema.dim + 1) i

  -- the fault names the first step that isn't met
  pub data IsFirstStep : MatchFault → Type 0 where
    NotMet : (x p i : ℕ) → IsFirstBad AreMetBy found.nodes x → IsFirstAt x p i → IsFirstStep (faults.Arc x p i)
