use Rattle.std.proofs.Common.{map, refl, subst}
use Rattle.std.proofs.lemmas.List.{length-map}
use Rattle.gm_model.specs.Rules.{rule_of}
use Rattle.gm_model.specs.Statements.{stat_of}
use Rattle.gm_run.specs.inner.Printing.{IsNamed}
use Rattle.gm_run.specs.declared.outcome.Outcome.TheVariants as outcomes
use Rattle.gm_run.proofs.Told.{said_at, said_of, lines_more}
use Rattle.gm_run.proofs.printing.put_lines.Goals as goal

pub put_line-requires-clause-named : goal.put_line-requires-clause-named
put_line-requires-clause-named c =
    let rules = map rule_of c.args.book.now.rules in
    let said = said_at c.args.book.now.schema rules c.args.script.now.stats c.args.outcomes.now c.requires c.loop-index.index (stat_of c.get.result) _ (outcomes.Done (record { added = 0; removed = 0 })) c.loop-index-test.true c.get.ensures refl in
    subst (λ n. IsNamed n (stat_of c.get.result)) (length-map c.args.book.now.rules rule_of) said.sayable.named

pub put_line-requires-clause-speaks : goal.put_line-requires-clause-speaks
put_line-requires-clause-speaks c =
    let rules = map rule_of c.args.book.now.rules in
    said_of c.args.book.now.schema rules c.args.script.now.stats c.args.outcomes.now c.requires (stat_of c.get.result) _
    (said_at c.args.book.now.schema rules c.args.script.now.stats c.args.outcomes.now c.requires c.loop-index.index (stat_of c.get.result) _ (outcomes.Done (record { added = 0; removed = 0 })) c.loop-index-test.true c.get.ensures refl)

pub loop-index-preserved : goal.loop-index-preserved
loop-index-preserved c told tells =
    let rules = map rule_of c.args.book.now.rules in
    lines_more c.args.book.now.schema rules c.args.script.now.stats c.args.outcomes.now c.requires told tells c.loop-index.index (stat_of c.get.result) _ (outcomes.Done (record { added = 0; removed = 0 })) _ c.loop-index.text c.put_line.new.text
    c.loop-index-test.true c.get.ensures refl (c.loop-index.invariant told tells) c.in_ok-put_line.ensures
