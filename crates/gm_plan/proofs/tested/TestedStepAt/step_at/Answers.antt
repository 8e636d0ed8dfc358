use Rattle.std.proofs.Common.{◌<◌, sym, subst, ◌∙◌}
use Rattle.std.proofs.lemmas.Bool.{false≢true}
use Rattle.gm_model.specs.declared.rule.Side.TheVariants.{Left}
use Rattle.gm_model.specs.Rules.{rule_of, step}
use Rattle.gm_plan.specs.inner.Searches.{row_step}
use Rattle.gm_plan.proofs.Forced.{tested_walked, tested_on_path, tested_kept}
use Rattle.gm_plan.proofs.Rows.{row_step_is}
use Rattle.gm_plan.proofs.tested.TestedStepAt.step_at.Goals as goal
use Rattle.gm_plan.proofs.tested.TestedStepAt.step_at.Goals.{then-is_walked, else-is_walked}

pub bounds-self-node : goal.bounds-self-node
bounds-self-node c = subst (λ n. c.args.node < n) (sym c.requires.node.0.long) c.requires.node.1

pub bounds-self-label : goal.bounds-self-label
bounds-self-label c = c.requires.label

pub returns-then-is_on_path : goal.returns-then-is_on_path
returns-then-is_on_path c =
    let rule = rule_of c.args.self.now.rule.now in
    let rows = c.args.self.now.left.now in
    let read = row_step_is (step rule Left) _ rows c.requires.node.0 c.args.node c.args.label c.requires.node.1 c.requires.label in
    elim c.if-is_walked.branch [
      | then-is_walked w ↦ tested_walked rule c.args.node c.args.label c.args.self.now.links.now (row_step rows c.args.node c.args.label) read (sym c.is_walked.ensures ∙ w.if-is_walked.true)
      | else-is_walked w ↦ tested_on_path rule c.args.node c.args.label c.args.self.now.links.now (sym w.is_on_path.ensures ∙ sym w.value-is ∙ c.if-is_on_path.true)
    ]

pub returns-else-is_on_path : goal.returns-else-is_on_path
returns-else-is_on_path c =
    let rule = rule_of c.args.self.now.rule.now in
    let rows = c.args.self.now.left.now in
    let read = row_step_is (step rule Left) _ rows c.requires.node.0 c.args.node c.args.label c.requires.node.1 c.requires.label in
    elim c.if-is_walked.branch [
      | then-is_walked w ↦ absurd (false≢true (sym c.if-is_on_path.false ∙ w.value-is ∙ w.if-is_walked.true))
      | else-is_walked w ↦ tested_kept rule c.args.node c.args.label c.args.self.now.links.now (row_step rows c.args.node c.args.label) read (sym c.is_walked.ensures ∙ w.if-is_walked.false) (sym w.is_on_path.ensures ∙ sym w.value-is ∙ c.if-is_on_path.false)
    ]
