use Rattle.std.proofs.Common.{rules, subst, ◌+◌, ◌++◌, ◌∙◌, ap, take, map, sym}
use Rattle.gm_model.specs.Rules.{rule_of}
use Rattle.gm_lines.specs.Checking.{AreLines, NoRules}
use Rattle.gm_tool.proofs.Verdicts.{verdict_sayable, more_lines, refused_below, at_most_one}
use Rattle.gm_tool.proofs.check.lines_of.Goals as goal

pub loop-rule-init : goal.loop-rule-init
loop-rule-init c = rw c.new-text.ensures NoRules

pub verdict_line-requires : goal.verdict_line-requires
verdict_line-requires c =
    verdict_sayable c.args.schema.now (rule_of c.rule-item.result) (rw c.rule-item.is (c.requires c.loop-rule.rule-index c.rule-item.result c.loop-rule-test.true))
    c.first_fault-fault.result c.first_fault-fault.ensures

pub overflow_add-refused : goal.overflow_add-refused
overflow_add-refused c =
    let few = refused_below c.args.schema.now c.args.rules.now c.loop-rule.rule-index c.loop-rule.refused c.loop-rule.text c.loop-rule.invariant in
    let one = at_most_one c.first_fault-fault.result in
    let same = c.refusals_of-refused.ensures in
    let within = c.loop-rule-test.true in
    search (rules, few, one, same, within)

pub loop-rule-preserved : goal.loop-rule-preserved
loop-rule-preserved c =
    subst (λ n. AreLines c.args.schema.now (map rule_of (take (c.loop-rule.rule-index + 1) c.args.rules.now)) (c.loop-rule.refused + n) c.put.new.self) (sym c.refusals_of-refused.ensures)
    (more_lines c.args.schema.now c.args.rules.now c.loop-rule.rule-index c.rule-item.result c.first_fault-fault.result c.loop-rule.refused c.loop-rule.text c.put.new.self
    c.loop-rule-test.true c.rule-item.is c.loop-rule.invariant c.first_fault-fault.ensures (c.in_ok-put.ensures.ok ∙ ap (λ line. c.loop-rule.text ++ line) (c.as_slice.ensures.value ∙ c.in_ok-line.ensures)))
