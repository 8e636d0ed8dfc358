use Rattle.std.proofs.Common.{◌+◌, ◌≤◌, ℕ, List}
use Rattle.gm_plan.specs.inner.Searches.{IsSearched}
use Rattle.gm_plan.proofs.paths.Search.follow_rank.Given as goal

abbrev pub invariant-loop-label : goal.invariant-loop-label
invariant-loop-label l = record {
  least : l.fn.self.count ≤ l.self.count;
  most : l.self.count ≤ l.fn.self.count + l.label;
  searched : (hooks : List ℕ) → IsSearched l.rows hooks l.fn.self.ranks l.fn.self.paths.items l.fn.self.count l.rank 0 →
      IsSearched l.rows hooks l.self.ranks l.self.paths.items l.self.count l.rank l.label;
}
