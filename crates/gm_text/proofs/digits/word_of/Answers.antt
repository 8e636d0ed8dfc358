use Rattle.std.proofs.Common.{◌%◌, ◌^◌, ◌∙◌, ap, arith}
use Rattle.std.specs.List.{range_with_len}
use Rattle.std.proofs.lemmas.Simd.{pick_l_left, pick_l-range_with_len}
use lib.Lanes.{number_l}
use Rattle.gm_text.proofs.DigitWords.{word_fits}
use Rattle.gm_text.proofs.digits.word_of.Goals as goal

pub returns : goal.returns
returns c =
    let digits = c.args.digits in
    let long = c.fits-digits.0 in
    ap (λ bytes. number_l 256 bytes % 2 ^ 64) (pick_l_left 0 digits digits 16 (range_with_len 0 8) long tt ∙ pick_l-range_with_len 0 digits 0 8 (omega (arith, long))) ∙ word_fits digits long c.fits-digits.1
