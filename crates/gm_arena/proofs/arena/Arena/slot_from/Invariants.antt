use Rattle.std.proofs.Common.{◌≡◌, ℕ, ◌<◌, ◌≤◌, None}
use Rattle.std.specs.FinMap.{get}
use Rattle.gm_arena.proofs.arena.Arena.slot_from.Given as goal

-- no name so far is a live dart's
abbrev pub invariant-loop-name : goal.invariant-loop-name
invariant-loop-name g l = (other : ℕ) → l.fn.from ≤ other → other < l.name → get l.self.darts other ≡ None
