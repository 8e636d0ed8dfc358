use Rattle.std.proofs.Common.{◌≡◌, ◌+◌, ◌≤◌, length, take}
use Rattle.gm_match.specs.inner.Layout.{AreDarts, AreHookSlots}
use Rattle.gm_match.proofs.darts.hook_darts.Given as goal

abbrev pub invariant-loop-index : goal.invariant-loop-index
invariant-loop-index g l = record {
  whole : length l.slots ≡ 32;
  so_far : AreHookSlots l.arena (take l.index l.hooks) (take l.index l.slots);
  live : AreDarts l.arena l.hooks l.index;
  cost : l.steps ≤ l.fn.steps + l.index;
  least : l.fn.steps ≤ l.steps;
}
