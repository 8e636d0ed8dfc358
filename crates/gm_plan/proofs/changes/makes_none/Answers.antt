use Rattle.std.proofs.Common.{◌≡◌, ◌<◌, ◌∙◌, [], length, sym, inl, inr, arith}
use Rattle.std.proofs.lemmas.Bool.{cases_eq, false≢true}
use Rattle.gm_model.specs.declared.step.Step.TheVariants.{Absent}
use Rattle.gm_model.specs.Rules.{rule_of}
use Rattle.gm_plan.specs.inner.Changes.{made_step}
use Rattle.gm_plan.proofs.Rows.{row_at}
use Rattle.gm_plan.proofs.changes.makes_none.Goals as goal

pub returns-in_default : goal.returns-in_default
returns-in_default c =
    let rule = rule_of c.args.rule.now in
    let within : c.loop-node.node < length rule.nodes = omega (arith, c.loop-node-test.true, c.node_count-node-end.ensures) in
    (λ e. absurd (false≢true e), λ none. absurd (c.in_default.not-Absent (row_at (made_step rule) (length rule.nodes) c.args.made.now c.requires.made c.loop-node.node c.args.label within c.requires.label [] ∙ none c.loop-node.node within)))

pub loop-node-preserved : goal.loop-node-preserved
loop-node-preserved c =
    let rule = rule_of c.args.rule.now in
    let within : c.loop-node.node < length rule.nodes = omega (arith, c.loop-node-test.true, c.node_count-node-end.ensures) in
    let here : made_step rule c.loop-node.node c.args.label ≡ Absent = sym (row_at (made_step rule) (length rule.nodes) c.args.made.now c.requires.made c.loop-node.node c.args.label within c.requires.label []) ∙ c.in-Absent.is in
    λ x h. elim (cases_eq x c.loop-node.node) [
      | inl same ↦ rw same here
      | inr apart ↦ c.loop-node.invariant x (omega arith)
    ]
