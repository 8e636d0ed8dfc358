use Rattle.std.proofs.Common.{◌≡◌, ◌+◌, ◌<◌, ℕ, length, get_or, take}
use Rattle.std.specs.List.{count_by}
use Rattle.gm_model.specs.Rules.{is_label}
use Rattle.gm_incident.proofs.counts.count_letters.Given as goal

abbrev pub invariant-loop-place : goal.invariant-loop-place
invariant-loop-place l = record {
  len : length l.counts ≡ 8;
  same : (i : ℕ) → i < 8 → get_or l.counts i 0 ≡ get_or l.fn.counts i 0 + count_by (is_label i) (take l.place l.word);
}
