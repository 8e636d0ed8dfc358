use Rattle.std.proofs.Common.{◌∙◌, arith}
use Rattle.std.proofs.lemmas.List.{length-set}
use Rattle.gm_forms.proofs.Taking.{taken_further}
use Rattle.gm_forms.proofs.letters.with_letter.Goals as goal

pub loop-place-preserved : goal.loop-place-preserved
loop-place-preserved c =
    let l = c.loop-place in
    let long = l.invariant.0 in
    (length-set l.letters l.place c.letter.result ∙ long, taken_further l.letters c.args.word l.place c.letter.result (omega (arith, long)) c.letter.ensures l.invariant.1)
