use Rattle.std.proofs.Common.{◌≢◌, rules}
use Rattle.gm_model.specs.declared.word.Letter.TheVariants.{Gone}
use Rattle.gm_incident.specs.inner.Words.{StandsBefore}
use Rattle.gm_incident.proofs.Letters.{labels_more, distinct_more}
use Rattle.gm_incident.proofs.structure.is_plain.Goals as goal

pub loop-place-preserved : goal.loop-place-preserved
loop-place-preserved c =
    let word = c.args.word.now in
    let k = c.loop-place.place in
    let letter = c.letter-letter.result in
    let ne : letter ≢ Gone = search rules in
    let new : StandsBefore word k letter → ⊥ = search rules in
    record {
      labels = labels_more word k letter c.letter-letter.ensures ne c.loop-place.invariant.labels;
      distinct = distinct_more word k letter c.letter-letter.ensures new c.loop-place.invariant.distinct;
    }
