use Rattle.std.proofs.Common.{◌≡◌, length, take}
use Rattle.gm_plan.specs.inner.Searches.{AreHookRanks}
use Rattle.gm_plan.proofs.paths.hook_ranks.Given as goal

abbrev pub invariant-loop-hook : goal.invariant-loop-hook
invariant-loop-hook l = record {
  long : length l.ranks ≡ 32;
  ranked : AreHookRanks (take l.hook-index l.hooks) l.ranks;
}
