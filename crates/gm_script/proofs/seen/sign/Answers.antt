use Rattle.std.proofs.Common.{refl}
use Rattle.gm_script.proofs.SmallParts.{sign_next}
use Rattle.gm_script.proofs.seen.sign.Goals as goal

pub returns-clause-seen : goal.returns-clause-seen
returns-clause-seen c =
    sign_next c.args.byte c.args.sight c.args.lexer.now c.small_sign.new.self (c.if-not-small_sign.ensures.read refl) c.requires.sight c.place-end.result c.place-end.ensures.value c.place-end.ensures.within
