use Rattle.std.proofs.Common.{◌≡◌, ℕ, ◌*◌, ◌<◌, get_or}
use Rattle.gm_mapfile.proofs.building.are_numbered.Given as goal

-- the lines so far are those of their numbers
abbrev pub invariant-loop-at : goal.invariant-loop-at
invariant-loop-at l = (k : ℕ) → k < l.at → get_or l.numbers (k * l.width) 0 ≡ k
