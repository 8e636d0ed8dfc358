use Rattle.std.proofs.Common.{◌-◌}
use Rattle.gm_model.specs.Rules.{rule_of}
use Rattle.gm_plan.specs.inner.Searches.{IsSearched}
use Rattle.gm_plan.proofs.paths.least_paths.Given as goal

abbrev pub invariant-loop-done : goal.invariant-loop-done
invariant-loop-done l = IsSearched l.rows (rule_of l.rule).hooks l.search.ranks l.search.paths.items l.search.count l.done 0

-- no more ranks are found than a rule has nodes, but for that of the hooks
abbrev pub decreases-loop-done : goal.decreases-loop-done
decreases-loop-done l = 33 - l.done
