use Rattle.std.proofs.Common.{ℕ, ◌+◌, ◌*◌, refl, sym, subst, arith}
use Rattle.gm_text.proofs.Values.{IsReadTo, IsReadTo-more, IsReadTo-all, value_of-few}
use Rattle.gm_text.proofs.lexer.value_of_few_digits.Goals as goal

pub overflow_mul-value : goal.overflow_mul-value
overflow_mul-value c =
    let more = IsReadTo-more c.args.digits.now c.loop-digit.digit-index c.loop-digit.value c.loop-digit-test.true c.loop-digit.invariant in
    let few = value_of-few c.args.digits.now c.requires.digits c.requires.few in
    omega (arith, more.within, few)

pub overflow_add-value : goal.overflow_add-value
overflow_add-value c =
    let more = IsReadTo-more c.args.digits.now c.loop-digit.digit-index c.loop-digit.value c.loop-digit-test.true c.loop-digit.invariant in
    let few = value_of-few c.args.digits.now c.requires.digits c.requires.few in
    omega (arith, more.within, few)

pub loop-digit-init : goal.loop-digit-init
loop-digit-init c = record { all_digits = c.requires.digits; value = refl }

pub loop-digit-preserved : goal.loop-digit-preserved
loop-digit-preserved c =
    let l = c.loop-digit in
    let more = IsReadTo-more c.args.digits.now c.loop-digit.digit-index c.loop-digit.value c.loop-digit-test.true c.loop-digit.invariant in
    subst (λ (n : ℕ). IsReadTo c.args.digits.now (l.digit-index + 1) (l.value * 10 + n)) (sym c.from.ensures) more.next

pub overflow_sub-digit : goal.overflow_sub-digit
overflow_sub-digit c = (IsReadTo-more c.args.digits.now c.loop-digit.digit-index c.loop-digit.value c.loop-digit-test.true c.loop-digit.invariant).low

pub returns : goal.returns
returns c = IsReadTo-all c.args.digits.now c.loop-digit.digit-index c.loop-digit.value c.loop-digit-test.false c.loop-digit.invariant
