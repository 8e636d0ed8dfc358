use Rattle.std.proofs.Common.{◌<◌, sym, subst, ◌∙◌}
use Rattle.gm_model.specs.declared.rule.Side.TheVariants.{Right}
use Rattle.gm_model.specs.Rules.{rule_of, step}
use Rattle.gm_plan.proofs.Changed.{is_made, none_made, none_made_steady}
use Rattle.gm_plan.proofs.Rows.{row_step_is}
use Rattle.gm_plan.proofs.changes.MadeStepAt.step_at.Goals as goal
use Rattle.gm_plan.proofs.changes.MadeStepAt.step_at.Goals.{else-has_word-via-then-has_word+else-not-is_steady, else-has_word-via-else-has_word}

pub is_steady-requires-clause-left : goal.is_steady-requires-clause-left
is_steady-requires-clause-left c = c.requires.node.0

pub is_steady-requires-clause-right : goal.is_steady-requires-clause-right
is_steady-requires-clause-right c = c.requires.node.1

pub is_steady-requires-clause-node : goal.is_steady-requires-clause-node
is_steady-requires-clause-node c = c.requires.node.2

pub is_steady-requires-clause-label : goal.is_steady-requires-clause-label
is_steady-requires-clause-label c = c.requires.label

pub bounds-self-node : goal.bounds-self-node
bounds-self-node c = subst (λ n. c.args.node < n) (sym c.requires.node.1.long) c.requires.node.2

pub bounds-self-label : goal.bounds-self-label
bounds-self-label c = c.requires.label

pub returns-then-not-is_steady : goal.returns-then-not-is_steady
returns-then-not-is_steady c =
    let read = row_step_is (step (rule_of c.args.self.now.rule.now) Right) _ c.args.self.now.right.now c.requires.node.1 c.args.node c.args.label c.requires.node.2 c.requires.label in
    read ∙ is_made (rule_of c.args.self.now.rule.now) c.args.node c.args.label (sym c.has_word.ensures ∙ c.if-has_word.true) (sym c.is_steady.ensures ∙ c.if-not-is_steady.true)

pub returns-else-has_word : goal.returns-else-has_word
returns-else-has_word c = elim c.else-has_word.branch [
  | else-has_word-via-then-has_word+else-not-is_steady w ↦ none_made_steady (rule_of c.args.self.now.rule.now) c.args.node c.args.label (sym w.is_steady.ensures ∙ w.if-not-is_steady.false)
  | else-has_word-via-else-has_word w ↦ none_made (rule_of c.args.self.now.rule.now) c.args.node c.args.label (sym c.has_word.ensures ∙ w.if-has_word.false)
]
