use Rattle.gm_model.specs.declared.word.Letter.TheVariants.{Gone}
use Rattle.gm_model.proofs.Padded.{copied-padded}
use Rattle.gm_model.proofs.word.Word.new.Goals as goal

pub invariant_of-result : goal.invariant_of-result
invariant_of-result c = copied-padded 8 Gone _ _ c.copy_from_slice.ensures.after c.if-letters-gt-MOST_LETTERS.false
