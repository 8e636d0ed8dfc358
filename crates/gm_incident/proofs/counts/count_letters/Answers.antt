use Rattle.std.proofs.Common.{get_or, ◌≡◌, Some}
use Rattle.std.specs.List.{slice_get}
use Rattle.gm_model.specs.declared.word.Letter.TheVariants.{At, Gone}
use Rattle.std.proofs.lemmas.List.{length-set}
use Rattle.gm_incident.proofs.Letters.{letter_counted, gap_counted}
use Rattle.gm_incident.proofs.counts.count_letters.Goals as goal
use Rattle.gm_incident.proofs.counts.count_letters.Goals.{in-At, in_default}

pub loop-place-preserved : goal.loop-place-preserved
loop-place-preserved c =
    let word = c.args.word.now in
    let k = c.loop-place.place in
    let counts = c.loop-place.counts in
    elim c.match-letter.branch [
      | in-At w ↦ (let here : slice_get word k ≡ Some (At w.in-At.label) = rw (← w.in-At.is) c.letter.ensures in rw w.counts-is record {
        len = rw length-set c.loop-place.invariant.len;
        same = λ i h. letter_counted word k i w.in-At.label (get_or c.args.counts.now i 0) counts here (rw c.loop-place.invariant.len h) (c.loop-place.invariant.same i h);
      })
      | in_default w ↦ (let here : slice_get word k ≡ Some Gone = rw (← w.in_default.is) c.letter.ensures in rw w.counts-is record {
        len = c.loop-place.invariant.len;
        same = λ i h. gap_counted word k i (get_or c.args.counts.now i 0) counts here (c.loop-place.invariant.same i h);
      })
    ]
