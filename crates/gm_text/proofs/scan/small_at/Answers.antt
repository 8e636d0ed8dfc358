use Rattle.std.proofs.Common.{◌∙◌, arith}
use Rattle.std.proofs.lemmas.List.Sums.{prefix_len-le-length}
use Rattle.gm_text.specs.inner.Digits.{is_small}
use Rattle.gm_text.proofs.DigitRuns.{digit_at_start, run_end, run_value}
use Rattle.gm_text.proofs.scan.small_at.Goals as goal

pub returns-clause-end : goal.returns-clause-end
returns-clause-end c =
    c.in_ok-end.ensures.end
    ∙ run_end c.args.text.now c.args.start c.leading_digits-count.result c.digits_at-digits.result c.requires.inside c.type_inv.text c.digits_at-digits.ensures c.leading_digits-count.ensures
    c.in_ok-end.ensures.some c.in_ok-end.ensures.few

pub returns-clause-value : goal.returns-clause-value
returns-clause-value c =
    c.leading_number.ensures
    ∙ run_value c.args.text.now c.args.start c.leading_digits-count.result c.digits_at-digits.result c.requires.inside c.type_inv.text c.digits_at-digits.ensures c.leading_digits-count.ensures
    c.in_ok-end.ensures.some c.in_ok-end.ensures.few

pub returns-clause-digit : goal.returns-clause-digit
returns-clause-digit c =
    digit_at_start c.args.text.now c.args.start c.leading_digits-count.result c.digits_at-digits.result c.requires.inside c.type_inv.text c.digits_at-digits.ensures c.leading_digits-count.ensures
    c.in_ok-end.ensures.some c.in_ok-end.ensures.few

pub returns-clause-within : goal.returns-clause-within
returns-clause-within c = omega (arith, c.in_ok-end.ensures.end, c.in_ok-end.ensures.few, c.requires.inside)

pub leading_number-requires : goal.leading_number-requires
leading_number-requires c = record {
  some = c.in_ok-end.ensures.some;
  few = c.in_ok-end.ensures.few;
  digits = omega (arith, c.leading_digits-count.ensures);
}

pub digits_at-digits-requires : goal.digits_at-digits-requires
digits_at-digits-requires c = c.requires.inside

pub end-requires : goal.end-requires
end-requires c = omega (arith, prefix_len-le-length is_small c.digits_at-digits.result, c.leading_digits-count.ensures, c.type_inv.digits.0)

pub returns-in_err-end-clause-digit : goal.returns-in_err-end-clause-digit
returns-in_err-end-clause-digit c = rw c.from_residual.ensures tt

pub returns-in_err-end-clause-end : goal.returns-in_err-end-clause-end
returns-in_err-end-clause-end c = rw c.from_residual.ensures tt

pub returns-in_err-end-clause-within : goal.returns-in_err-end-clause-within
returns-in_err-end-clause-within c = rw c.from_residual.ensures tt

pub returns-in_err-end-clause-value : goal.returns-in_err-end-clause-value
returns-in_err-end-clause-value c = rw c.from_residual.ensures tt
