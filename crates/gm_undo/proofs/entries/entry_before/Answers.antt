use Rattle.std.proofs.Common.{◌-◌}
use Rattle.std.proofs.Common.{sym, ◌∙◌, arith}
use Rattle.std.proofs.lemmas.Bool.{false≢true}
use Rattle.gm_undo.proofs.Spans.{entry_first, change_there, changes_long}
use Rattle.gm_undo.proofs.entries.entry_before.Goals as goal

pub returns-then-changes-index : goal.returns-then-changes-index
returns-then-changes-index c rows start entry = entry_first rows c.args.changes.now start c.args.end (c.loop-index.index - 1) entry (omega (arith, c.loop-index-test.true, c.loop-index.auto.index)) c.if-changes-index.true (λ k low high. c.loop-index.invariant.none k (omega (arith, low)) high)

pub unreachable-requires : goal.unreachable-requires
unreachable-requires c =
    let rows = c.requires.0 in
    let entry = c.requires.2 in
    let none = c.loop-index.invariant.none c.requires.1 (omega (arith, c.loop-index-test.false)) entry.some in
    false≢true (sym none ∙ entry.begins.begins _ (change_there rows c.args.changes.now c.requires.1 (omega (arith, entry.some, entry.ends.within, changes_long rows c.args.changes.now))))
