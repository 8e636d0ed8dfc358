use Rattle.std.proofs.Common.{sym, ◌∙◌}
use Rattle.gm_model.specs.Tokens.{is_name_byte}
use Rattle.gm_text.proofs.Runs.{run_begins, run_longer, run_stops, run_ends}
use Rattle.gm_text.proofs.scan.name_end.Goals as goal

pub loop-at-init : goal.loop-at-init
loop-at-init c = run_begins is_name_byte c.args.text.now c.args.from c.requires

pub loop-at-preserved : goal.loop-at-preserved
loop-at-preserved c = run_longer is_name_byte c.args.text.now c.args.from c.loop-at.at c.loop-at.invariant c.loop-at-test.true (sym c.is_name_byte.ensures ∙ c.if-is_name_byte.true)

pub returns-after-loop-at-clause-value : goal.returns-after-loop-at-clause-value
returns-after-loop-at-clause-value c = run_ends is_name_byte c.args.text.now c.args.from c.loop-at.at c.loop-at.invariant c.loop-at-test.false

pub returns-after-loop-at-clause-within : goal.returns-after-loop-at-clause-within
returns-after-loop-at-clause-within c = c.loop-at.invariant.inside

pub returns-else-is_name_byte-clause-value : goal.returns-else-is_name_byte-clause-value
returns-else-is_name_byte-clause-value c = run_stops is_name_byte c.args.text.now c.args.from c.loop-at.at c.loop-at.invariant c.loop-at-test.true (sym c.is_name_byte.ensures ∙ c.if-is_name_byte.false)

pub returns-else-is_name_byte-clause-within : goal.returns-else-is_name_byte-clause-within
returns-else-is_name_byte-clause-within c = c.loop-at.invariant.inside
