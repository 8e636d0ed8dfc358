use Rattle.std.proofs.Common.{◌≡◌, ◌<◌, false, sym, ◌∙◌, w32, arith}
use Rattle.std.proofs.lemmas.Bool.{false≢true}
use Rattle.gm_model.specs.Rules.{rule_of, is_removed}
use Rattle.gm_plan.specs.inner.Changes.{has_bit}
use Rattle.gm_plan.proofs.Bits.{one_in, one_out, same_tests}
use Rattle.gm_plan.proofs.changes.nodes_removed.Goals as goal
use Rattle.gm_plan.proofs.changes.nodes_removed.Goals.{then-is_removed, else-is_removed}

pub loop-node-preserved : goal.loop-node-preserved
loop-node-preserved c =
    let l = c.loop-node in
    let few : l.node < 32 = omega (arith, c.loop-node-test.true, c.node_count-node-end.ensures, c.requires) in
    elim c.if-is_removed.branch [
      | then-is_removed w ↦ rw w.goes-is (one_in (λ x. is_removed (rule_of c.args.rule.now) x ≡ false) l.node l.goes l.invariant w32 few (λ out. absurd (false≢true (sym out ∙ sym c.is_removed.ensures ∙ w.if-is_removed.true))))
      | else-is_removed w ↦ rw w.goes-is (one_out (λ x. is_removed (rule_of c.args.rule.now) x ≡ false) l.node l.goes l.invariant (sym c.is_removed.ensures ∙ w.if-is_removed.false))
    ]

pub returns : goal.returns
returns c x h = same_tests (has_bit c.loop-node.goes x) (is_removed (rule_of c.args.rule.now) x) (c.loop-node.invariant.told x (omega (arith, h, c.loop-node-test.false, c.node_count-node-end.ensures)))
