use Rattle.std.proofs.Common.{arith}
use Rattle.gm_mapfile.proofs.Printed.{short_size}
use Rattle.gm_mapfile.proofs.printing.write_signed.Goals as goal

pub write_digits-start-requires : goal.write_digits-start-requires
write_digits-start-requires c =
    let short = short_size c.unsigned_abs.result c.unsigned_abs.ensures.bound in
    (omega (arith, short, c.requires.room), c.requires.within)

pub returns-then-x-ge0-clause-few : goal.returns-then-x-ge0-clause-few
returns-then-x-ge0-clause-few c =
    let short = short_size c.unsigned_abs.result c.unsigned_abs.ensures.bound in
    omega (arith, short, c.write_digits-start.ensures.start)

pub write_word-requires-clause-room : goal.write_word-requires-clause-room
write_word-requires-clause-room c =
    let short = short_size c.unsigned_abs.result c.unsigned_abs.ensures.bound in
    omega (arith, short, c.requires.room, c.write_digits-start.ensures.start)

pub returns-clause-few : goal.returns-clause-few
returns-clause-few c =
    let short = short_size c.unsigned_abs.result c.unsigned_abs.ensures.bound in
    omega (arith, short, c.write_digits-start.ensures.start, c.write_word.ensures.before)
