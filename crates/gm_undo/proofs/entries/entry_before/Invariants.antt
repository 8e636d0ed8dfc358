use Rattle.std.proofs.Common.{◌≡◌, ℕ, ◌<◌, ◌≤◌, false}
use Rattle.gm_undo.specs.inner.Layout.{made_at}
use Rattle.gm_undo.proofs.entries.entry_before.Given as goal

abbrev pub invariant-loop-index : goal.invariant-loop-index
invariant-loop-index l = record { none : (k : ℕ) → l.index ≤ k → k < l.end → (made_at l.changes k).begins ≡ false }
