use Rattle.std.proofs.Common.{◌≡◌, ℕ, ◌↔◌, length, take}
use Rattle.std.specs.List.{Contains}
use Rattle.gm_incident.specs.inner.Reached.{IsReached}
use Rattle.gm_incident.proofs.joined.marked.Given as goal

abbrev pub invariant-loop-node : goal.invariant-loop-node
invariant-loop-node l = record {
  len : length l.reached ≡ 32;
  marks : (x : ℕ) → IsReached l.reached x ↔ Contains (take l.node-index l.nodes) x;
}
