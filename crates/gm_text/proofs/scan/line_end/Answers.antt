use Rattle.std.proofs.Common.{not, get_or}
use Rattle.gm_model.specs.Tokens.{is_line_feed}
use Rattle.gm_text.proofs.Runs.{run_begins, run_longer, run_stops, run_ends, in_line, at_line_feed}
use Rattle.gm_text.proofs.scan.line_end.Goals as goal

pub loop-at-init : goal.loop-at-init
loop-at-init c = run_begins (λ c. not (is_line_feed c)) c.args.text.now c.args.from c.requires

pub loop-at-preserved : goal.loop-at-preserved
loop-at-preserved c = run_longer (λ c. not (is_line_feed c)) c.args.text.now c.args.from c.loop-at.at c.loop-at.invariant c.loop-at-test.true (in_line (get_or c.args.text.now c.loop-at.at 0) c.if-text-at-ne10.true)

pub returns-after-loop-at-clause-value : goal.returns-after-loop-at-clause-value
returns-after-loop-at-clause-value c = run_ends (λ c. not (is_line_feed c)) c.args.text.now c.args.from c.loop-at.at c.loop-at.invariant c.loop-at-test.false

pub returns-after-loop-at-clause-within : goal.returns-after-loop-at-clause-within
returns-after-loop-at-clause-within c = c.loop-at.invariant.inside

pub returns-else-text-at-ne10-clause-value : goal.returns-else-text-at-ne10-clause-value
returns-else-text-at-ne10-clause-value c = run_stops (λ c. not (is_line_feed c)) c.args.text.now c.args.from c.loop-at.at c.loop-at.invariant c.loop-at-test.true (at_line_feed (get_or c.args.text.now c.loop-at.at 0) c.if-text-at-ne10.false)

pub returns-else-text-at-ne10-clause-within : goal.returns-else-text-at-ne10-clause-within
returns-else-text-at-ne10-clause-within c = c.loop-at.invariant.inside
