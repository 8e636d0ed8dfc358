use Rattle.std.proofs.Common.{◌≡◌, ℕ, List, length}
use Rattle.gm_plan.specs.inner.Searches.{row_step, rank_at, IsSearched}
use Rattle.gm_plan.proofs.Search.{IsFollowed}
use Rattle.gm_plan.proofs.paths.Search.follow.Given as goal

abbrev pub invariant-loop-node : goal.invariant-loop-node
invariant-loop-node l = record {
  long : length l.self.ranks ≡ 32;
  count : l.self.count ≡ l.fn.self.count;
  followed : (hooks : List ℕ) → IsSearched l.rows hooks l.fn.self.ranks l.fn.self.paths.items l.fn.self.count l.rank l.label →
      IsFollowed (row_step l.rows) hooks (rank_at l.self.ranks) l.self.paths.items l.self.count l.rank l.label l.node l.has_found;
}
