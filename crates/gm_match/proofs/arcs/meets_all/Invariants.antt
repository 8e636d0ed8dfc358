use Rattle.std.proofs.Common.{◌≡◌, ℕ, ◌+◌, ◌*◌, ◌<◌, ◌≤◌, Some}
use Rattle.std.specs.List.{slice_get}
use Rattle.gm_arena.specs.inner.ArenaAsMap.{as_map}
use Rattle.gm_model.specs.Matches.{IsMetAt}
use Rattle.gm_model.specs.Rules.{rule_of}
use Rattle.gm_model.specs.Structure.{AreGood}
use Rattle.gm_plan.specs.declared.tested.Test.{Test}
use Rattle.gm_plan.specs.inner.InArena.{placement_in}
use Rattle.gm_match.proofs.arcs.meets_all.Given as goal

abbrev pub invariant-loop-test : goal.invariant-loop-test
invariant-loop-test g l = record {
  met : (t : ℕ) (test : Test) → t < l.test-index → slice_get l.test-items t ≡ Some test → AreGood (λ p. IsMetAt (as_map l.arena) (rule_of l.plan.table) (placement_in l.arena l.found) test.node p test.label) l.found.positions;
  cost : l.steps ≤ l.fn.steps + l.test-index * l.found.positions;
  least : l.fn.steps ≤ l.steps;
}
