use Rattle.std.proofs.Common.{◌≡◌, ◌+◌, length}
use Rattle.gm_model.specs.Rules.{rule_of}
use Rattle.gm_walk.specs.inner.Walks.{AreLive, names_of}
use Rattle.gm_match.specs.inner.Layout.{AreHooksLaid}
use Rattle.gm_match.proofs.edges.lay_hooks.Given as goal

abbrev pub invariant-loop-index : goal.invariant-loop-index
invariant-loop-index g l = record {
  long : length l.slots ≡ length l.fn.slots;
  live : AreLive l.arena l.slots;
  laid : AreHooksLaid l.arena (rule_of l.plan.table) (names_of l.arena l.darts) (names_of l.arena l.walk) (length l.walk) l.nodes l.index l.slots;
  cost : l.steps + 1 ≡ l.fn.steps + l.index;
}
