use Rattle.std.proofs.Common.{sym, ◌∙◌}
use Rattle.gm_model.specs.Tokens.{is_digit}
use Rattle.gm_text.proofs.Runs.{run_begins, run_longer, run_stops, run_ends}
use Rattle.gm_text.proofs.scan.number_end.Goals as goal

pub loop-at-init : goal.loop-at-init
loop-at-init c = run_begins is_digit c.args.text.now c.args.from c.requires

pub loop-at-preserved : goal.loop-at-preserved
loop-at-preserved c = run_longer is_digit c.args.text.now c.args.from c.loop-at.at c.loop-at.invariant c.loop-at-test.true (sym c.is_digit.ensures ∙ c.if-is_digit.true)

pub returns-after-loop-at-clause-value : goal.returns-after-loop-at-clause-value
returns-after-loop-at-clause-value c = run_ends is_digit c.args.text.now c.args.from c.loop-at.at c.loop-at.invariant c.loop-at-test.false

pub returns-after-loop-at-clause-within : goal.returns-after-loop-at-clause-within
returns-after-loop-at-clause-within c = c.loop-at.invariant.inside

pub returns-else-is_digit-clause-value : goal.returns-else-is_digit-clause-value
returns-else-is_digit-clause-value c = run_stops is_digit c.args.text.now c.args.from c.loop-at.at c.loop-at.invariant c.loop-at-test.true (sym c.is_digit.ensures ∙ c.if-is_digit.false)

pub returns-else-is_digit-clause-within : goal.returns-else-is_digit-clause-within
returns-else-is_digit-clause-within c = c.loop-at.invariant.inside
