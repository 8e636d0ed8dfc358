use Rattle.std.proofs.Common.{arith}
use Rattle.gm_text.proofs.DigitWords.{number_of_word}
use Rattle.gm_text.proofs.digits.number_of_eight.Goals as goal

pub overflow_mul-pairs : goal.overflow_mul-pairs
overflow_mul-pairs c = omega (arith, (number_of_word c.args.word c.requires.0 c.requires.1).1)

pub overflow_add-pairs : goal.overflow_add-pairs
overflow_add-pairs c = omega (arith, (number_of_word c.args.word c.requires.0 c.requires.1).1)

pub returns : goal.returns
returns c digits has = (number_of_word c.args.word digits has).0
