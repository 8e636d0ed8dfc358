use Rattle.std.proofs.Common.{◌≡◌, ◌≤◌, inl, inr, length, false, below_more, subst, ap, sym, ◌∙◌, arith}
use Rattle.std.specs.Option.{is_some}
use Rattle.std.proofs.lemmas.Bool.{cases_lt}
use Rattle.std.proofs.lemmas.Result.{err_from_is_err_and}
use Rattle.gm_model.specs.declared.rule.Side.TheVariants.{Right}
use Rattle.gm_model.specs.Rules.{rule_of, has_word}
use Rattle.gm_model.specs.Squares.{IsSquareFault}
use Rattle.gm_model.proofs.Nodes.{node_below}
use Rattle.gm_cycle.proofs.Ends.{ends_below}
use Rattle.gm_cycle.proofs.Firsts.{HasSquaresAt, squares_at, node_fault}
use Rattle.gm_cycle.proofs.check.Goals as goal
use Rattle.gm_cycle.proofs.check.Goals.{then-is_some+in_ok-check_node, else-is_some}

pub check_node-requires-clause-ends : goal.check_node-requires-clause-ends
check_node-requires-clause-ends c = ends_below c.args.schema.now (rule_of c.args.rule.now) c.right_steps-right.result c.requires.in_range c.right_steps-right.ensures

pub returns-in_err-check_node : goal.returns-in_err-check_node
returns-in_err-check_node c =
    let rule = rule_of c.args.rule.now in
    let p = err_from_is_err_and c.from_residual.result c.from_residual.ensures.1 in
    let fault : IsSquareFault c.top-top.result rule c.in_err-check_node.field-0.0 = node_fault c.top-top.result rule c.loop-node.node c.in_err-check_node.field-0.0 c.loop-node.invariant c.in_err-check_node.ensures in
    rw (p.1, p.2) (subst (λ n. IsSquareFault n rule c.in_err-check_node.field-0.0) c.top-top.ensures.value fault)

pub loop-node-preserved : goal.loop-node-preserved
loop-node-preserved c =
    let rule = rule_of c.args.rule.now in
    let x = c.loop-node.node in
    let here : HasSquaresAt c.top-top.result rule x = elim c.if-is_some.branch [
      | then-is_some+in_ok-check_node w ↦ squares_at c.top-top.result rule x w.in_ok-check_node.ensures
      | else-is_some w ↦ (λ i j a l p. absurd (let f : has_word rule Right x ≡ false = ap is_some (sym c.word.ensures) ∙ sym c.is_some.ensures ∙ w.if-is_some.false in cc))
    ] in
    below_more (HasSquaresAt c.top-top.result rule) x c.loop-node.invariant here

pub returns : goal.returns
returns c =
    let rule = rule_of c.args.rule.now in
    λ x i j a l. elim (cases_lt x (length rule.nodes)) [
      | inl b ↦ c.loop-node.invariant x (omega (arith, b)) i j a (subst (λ n. j ≤ n) (sym c.top-top.ensures.value) l)
      | inr b ↦ (λ p. absurd (let below = node_below rule Right x p in omega arith))
    ]
