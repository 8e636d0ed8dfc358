use Rattle.std.proofs.Common.{leb, sym, ap, ◌∙◌, arith}
use Rattle.std.proofs.lemmas.Simd.{leading_from_mask_l, trailing_mask_l}
use lib.Count.{count_trailing_zeros}
use Rattle.gm_text.proofs.DigitWords.{others_mask}
use Rattle.gm_text.proofs.digits.leading_digits.Goals as goal

pub returns-then-others-eq0 : goal.returns-then-others-eq0
returns-then-others-eq0 c =
    let digits = c.args.digits in
    let long = c.fits-digits.0 in
    sym (leading_from_mask_l (leb 10) digits (sym (others_mask digits long) ∙ c.if-others-eq0.true) ∙ long)

pub returns-else-others-eq0 : goal.returns-else-others-eq0
returns-else-others-eq0 c =
    let digits = c.args.digits in
    let long = c.fits-digits.0 in
    let mask = others_mask digits long in
    ap (count_trailing_zeros 64) mask ∙ trailing_mask_l (leb 10) 64 digits (omega (arith, long)) (omega (arith, mask, c.if-others-eq0.false))
