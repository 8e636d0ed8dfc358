use Rattle.std.proofs.Common.{◌≡◌, ◌+◌, ◌-◌, ◌*◌, get_or, refl, sym, subst, arith}
use Rattle.gm_text.proofs.Values.{IsReadTo, IsReadTo-more, IsReadTo-all}
use Rattle.gm_text.proofs.lexer.value_of_many_digits.Goals as goal

pub returns-in_err-checked_mul : goal.returns-in_err-checked_mul
returns-in_err-checked_mul c =
    let more = IsReadTo-more c.args.digits.now c.loop-digit.digit-index c.loop-digit.value c.loop-digit-test.true c.loop-digit.invariant in
    rw c.from_residual.ensures (omega (arith, more.within, c.in_err-checked_mul.ensures))

pub returns-in_err-value : goal.returns-in_err-value
returns-in_err-value c =
    let more = IsReadTo-more c.args.digits.now c.loop-digit.digit-index c.loop-digit.value c.loop-digit-test.true c.loop-digit.invariant in
    rw c.from_residual-in_err-value.ensures (omega (arith, more.within, c.in_err-value.ensures, c.in_ok-checked_mul.ensures))

pub loop-digit-init : goal.loop-digit-init
loop-digit-init c = record { all_digits = c.requires; value = refl }

pub loop-digit-preserved : goal.loop-digit-preserved
loop-digit-preserved c =
    let l = c.loop-digit in
    let more = IsReadTo-more c.args.digits.now c.loop-digit.digit-index c.loop-digit.value c.loop-digit-test.true c.loop-digit.invariant in
    let value : c.in_ok-value.value ≡ l.value * 10 + (get_or c.args.digits.now l.digit-index 0 - 48) = omega (arith, c.in_ok-value.ensures, c.in_ok-checked_mul.ensures, c.from.ensures) in
    subst (IsReadTo c.args.digits.now (l.digit-index + 1)) (sym value) more.next

pub overflow_sub-digit : goal.overflow_sub-digit
overflow_sub-digit c = (IsReadTo-more c.args.digits.now c.loop-digit.digit-index c.loop-digit.value c.loop-digit-test.true c.loop-digit.invariant).low

pub returns : goal.returns
returns c = IsReadTo-all c.args.digits.now c.loop-digit.digit-index c.loop-digit.value c.loop-digit-test.false c.loop-digit.invariant
