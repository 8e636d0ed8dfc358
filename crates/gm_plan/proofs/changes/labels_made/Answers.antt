use Rattle.std.proofs.Common.{◌<◌, sym, ◌∙◌, w8, arith}
use Rattle.std.proofs.lemmas.Bool.{false≢true}
use Rattle.gm_model.specs.Rules.{rule_of}
use Rattle.gm_plan.specs.inner.Changes.{MakesNone}
use Rattle.gm_plan.proofs.Bits.{one_in, one_out}
use Rattle.gm_plan.proofs.changes.labels_made.Goals as goal
use Rattle.gm_plan.proofs.changes.labels_made.Goals.{then-not-makes_none, else-not-makes_none}

pub loop-label-preserved : goal.loop-label-preserved
loop-label-preserved c =
    let l = c.loop-label in
    let few : l.label < 8 = omega (arith, c.loop-label-test.true) in
    let none = MakesNone (rule_of c.args.rule.now) in
    elim c.if-not-makes_none.branch [
      | then-not-makes_none w ↦ rw w.bits-is (one_in none l.label l.bits l.invariant w8 few (λ o. absurd (false≢true (sym w.if-not-makes_none.true ∙ c.makes_none.ensures.1 o))))
      | else-not-makes_none w ↦ rw w.bits-is (one_out none l.label l.bits l.invariant (c.makes_none.ensures.0 w.if-not-makes_none.false))
    ]
