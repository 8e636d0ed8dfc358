use Rattle.std.proofs.Common.{◌≡◌, ◌<◌, true, get_or, rules, sym, ◌∙◌}
use Rattle.std.proofs.lemmas.List.{length-set}
use Rattle.std.proofs.lemmas.Option.{get_or_from_slice_get}
use Rattle.gm_model.specs.declared.rule.Side.TheVariants.{Left, Right}
use Rattle.gm_model.specs.declared.step.Step.TheVariants.{Absent}
use Rattle.gm_model.specs.Rules.{rule_of, step}
use Rattle.gm_model.specs.Squares.{IsSameStep}
use Rattle.gm_cycle.proofs.Closing.{told_more}
use Rattle.gm_cycle.proofs.squares.steps_that_stay.Goals as goal

pub loop-label-preserved : goal.loop-label-preserved
loop-label-preserved c =
    let rule = rule_of c.args.rule.now in
    let x = c.args.node in
    let k = c.loop-label.label in
    let b : k < 8 = c.loop-label-test.true in
    let left : get_or c.steps-left.result k Absent ≡ step rule Left x k = get_or_from_slice_get c.steps-left.result k (step rule Left x k) Absent (c.steps-left.ensures k b) in
    let right : c.step_at.result ≡ step rule Right x k = c.step_at.ensures ∙ c.requires.right x k c.requires.node b in
    let then_same : c.eq.result ≡ true → get_or c.steps-left.result k Absent ≡ c.step_at.result = search rules in
    let then_true : get_or c.steps-left.result k Absent ≡ c.step_at.result → c.eq.result ≡ true = search rules in
    record {
      len = rw length-set c.loop-label.invariant.len;
      tells = told_more c.loop-label.stays k c.eq.result (IsSameStep rule x) (rw c.loop-label.invariant.len b)
          (λ e. sym left ∙ then_same e ∙ right) (λ e. then_true (left ∙ e ∙ sym right)) c.loop-label.invariant.tells;
    }
