use Rattle.std.proofs.Common.{◌-◌, ◌++◌, take, replicate, ◌∙◌}
use Rattle.gm_text.proofs.DigitWords.{at_end, number_at_end}
use Rattle.gm_text.proofs.digits.leading_number.Goals as goal

pub number_of_eight-requires : goal.number_of_eight-requires
number_of_eight-requires c = (
  replicate (8 - c.args.count) 0 ++ take c.args.count c.args.digits,
  at_end c.args.digits c.args.count c.word_of.result c.fits-digits.0 c.requires.some c.requires.few c.requires.digits c.word_of.ensures,
)

pub returns : goal.returns
returns c =
    c.number_of_eight.ensures (replicate (8 - c.args.count) 0 ++ take c.args.count c.args.digits)
    (at_end c.args.digits c.args.count c.word_of.result c.fits-digits.0 c.requires.some c.requires.few c.requires.digits c.word_of.ensures)
    ∙ number_at_end c.args.digits c.args.count
