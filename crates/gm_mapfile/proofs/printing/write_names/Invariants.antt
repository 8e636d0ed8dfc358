use Rattle.std.proofs.Common.{◌≡◌, ◌+◌, ◌*◌, ◌≤◌, ◌∷◌, ◌++◌, length, drop, map}
use Rattle.std.specs.Prelude.{decimal}
use Rattle.std.specs.List.{flat_map}
use Rattle.gm_arena.specs.inner.ArenaMap.{name_at}
use Rattle.gm_arena.specs.declared.slot.Slot.{Slot}
use Rattle.gm_mapfile.proofs.printing.write_names.Given as goal

abbrev pub invariant-loop-left : goal.invariant-loop-left
invariant-loop-left g l = record {
  within : l.at ≤ length l.line;
  before : l.at ≤ l.fn.end;
  room : 11 * (l.left + 1) ≤ l.at;
  few : l.left ≤ length l.neighbours;
  names : drop l.at l.line ≡ flat_map (λ a. 32 ∷ decimal a) (drop l.left (map (λ (s : Slot). name_at l.arena s.at) l.neighbours)) ++ drop l.fn.end l.fn.line;
  cost : l.steps + l.left ≡ l.fn.steps + length l.neighbours;
}

abbrev pub decreases-loop-left : goal.decreases-loop-left
decreases-loop-left g l = l.left
