use Rattle.std.proofs.Common.{◌≡◌, ◌<◌, ℕ, length, get_or, take}
use Rattle.std.specs.List.{count_by}
use Rattle.gm_model.specs.Rules.{is_end}
use Rattle.gm_incident.proofs.counts.link_counts.Given as goal

abbrev pub invariant-loop-link : goal.invariant-loop-link
invariant-loop-link l = record {
  len : length l.counts ≡ 8;
  same : (i : ℕ) → i < 8 → get_or l.counts i 0 ≡ count_by (is_end l.node i) (take l.link-index l.links);
}
