use Rattle.std.proofs.Common.{◌+◌, ◌≤◌, length}
use Rattle.std.proofs.Common.{arith}
use Rattle.gm_undo.proofs.Spans.{entry_end, changes_long}
use Rattle.gm_undo.proofs.entries.entry_behind.Goals as goal

pub returns-then-changes-index : goal.returns-then-changes-index
returns-then-changes-index c rows end entry = entry_end rows c.args.changes.now c.args.start end c.loop-index.index entry (omega (arith, c.loop-index.auto.index)) (omega (arith, c.loop-index-test.true)) (λ h. c.if-changes-index.true) c.loop-index.invariant.none

pub returns : goal.returns
returns c rows end entry =
    let some : c.args.start + 1 ≤ length c.args.changes.now = omega (arith, entry.some, entry.ends.within, changes_long rows c.args.changes.now) in
    entry_end rows c.args.changes.now c.args.start end (length c.args.changes.now) entry (omega (arith, some)) (omega arith) (λ h. absurd (omega (arith, h))) (λ k low high. c.loop-index.invariant.none k low (omega (arith, high, c.loop-index-test.false)))
