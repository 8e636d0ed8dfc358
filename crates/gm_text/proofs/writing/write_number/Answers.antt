use Rattle.std.proofs.Common.{arith}
use Rattle.gm_text.proofs.Decimals.{ten_digits}
use Rattle.gm_text.proofs.writing.write_number.Goals as goal

pub write_digits-requires : goal.write_digits-requires
write_digits-requires c =
    let few = ten_digits c.from.result (omega (arith, c.from.ensures)) in
    (omega (arith, few, c.requires.room), c.requires.within)

pub returns-clause-few : goal.returns-clause-few
returns-clause-few c =
    let few = ten_digits c.from.result (omega (arith, c.from.ensures)) in
    omega (arith, few, c.write_digits.ensures.start)
