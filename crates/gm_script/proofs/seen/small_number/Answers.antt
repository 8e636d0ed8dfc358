use Rattle.std.proofs.Common.{◌^◌, ◌<◌, arith}
use Rattle.gm_script.proofs.SmallParts.{number_next}
use Rattle.gm_script.proofs.seen.small_number.Goals as goal

pub returns-clause-seen : goal.returns-clause-seen
returns-clause-seen c =
    let small : c.in_ok-number.number.value < 2 ^ 32 = omega arith in
    rw c.from.ensures (number_next c.in_ok-number.number.value c.in_ok-number.number.place c.args.lexer.now c.small_number.new.self small c.in_ok-number.ensures.number c.place.result c.place.ensures.value c.place.ensures.within)
