use Rattle.gm_text.proofs.Values.{IsReadTo}
use Rattle.gm_text.proofs.lexer.value_of_many_digits.Given as goal

abbrev pub invariant-loop-digit : goal.invariant-loop-digit
invariant-loop-digit l = IsReadTo l.digits l.digit-index l.value
