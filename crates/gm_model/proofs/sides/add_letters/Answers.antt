use Rattle.std.proofs.Common.{get_or, ◌≡◌, Some}
use Rattle.std.specs.List.{slice_get}
use Rattle.gm_model.specs.declared.step.Step.TheVariants.{Absent}
use Rattle.gm_model.specs.declared.word.Letter.TheVariants.{At, Gone}
use Rattle.gm_model.proofs.NodeSteps.{letter_written, letter_passed}
use Rattle.gm_model.proofs.sides.add_letters.Goals as goal
use Rattle.gm_model.proofs.sides.add_letters.Goals.{in-At, in_default}

pub loop-place-preserved : goal.loop-place-preserved
loop-place-preserved c =
    let word = c.args.word.now in
    let k = c.loop-place.place in
    let old = c.loop-place.steps in
    let held = c.loop-place.invariant.same in
    elim c.match-letter.branch [
      | in-At w ↦ (let here : slice_get word k ≡ Some (At w.in-At.label) = rw (← w.in-At.is) c.letter.ensures in rw w.steps-is record {
        len = w.fill.ensures.len;
        same = λ i h. letter_written word k i w.in-At.label (get_or c.args.steps.now i Absent) old _ here (rw c.loop-place.invariant.len h) w.fill.ensures.after (held i h);
      })
      | in_default w ↦ (let here : slice_get word k ≡ Some Gone = rw (← w.in_default.is) c.letter.ensures in rw w.steps-is record {
        len = c.loop-place.invariant.len;
        same = λ i h. letter_passed word k i (get_or c.args.steps.now i Absent) old here (held i h);
      })
    ]
