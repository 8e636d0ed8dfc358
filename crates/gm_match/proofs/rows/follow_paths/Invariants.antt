use Rattle.std.proofs.Common.{◌≡◌, ℕ, ◌+◌, List, length, take}
use Rattle.std.specs.List.{Contains}
use Rattle.gm_arena.specs.inner.ArenaMap.{alpha}
use Rattle.gm_model.specs.Matches.{IsPathTo}
use Rattle.gm_model.specs.Orbits.{follow}
use Rattle.gm_model.specs.Rules.{rule_of}
use Rattle.gm_plan.specs.inner.Paths.{path_nodes}
use Rattle.gm_walk.specs.inner.Walks.{AreLive}
use Rattle.gm_match.specs.inner.Layout.{dart_in}
use Rattle.gm_match.proofs.rows.follow_paths.Given as goal

abbrev pub invariant-loop-link : goal.invariant-loop-link
invariant-loop-link g l = record {
  whole : length l.row ≡ 32;
  live : AreLive l.arena l.row;
  reached : (x : ℕ) → Contains (path_nodes (rule_of l.plan.table) (take l.link-index l.link-items)) x → (h : ℕ) (path : List ℕ) → IsPathTo (rule_of l.plan.table) x h path → dart_in l.arena l.row x ≡ follow (alpha l.arena) path (dart_in l.arena l.fn.row h);
  cost : l.steps ≡ l.fn.steps + l.link-index;
}
