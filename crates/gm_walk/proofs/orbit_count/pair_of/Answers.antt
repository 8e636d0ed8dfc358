use Rattle.std.proofs.Common.{ap, Some, ◌∙◌, arith}
use Rattle.gm_walk.proofs.RingLemmas.{two_letters}
use Rattle.gm_walk.proofs.orbit_count.pair_of.Goals as goal

pub returns-in-At-At : goal.returns-in-At-At
returns-in-At-At c = two_letters c.args.word.now _ _ (omega (arith, c.if-len-ne2.false, c.len.ensures.value)) (c.letter.ensures ∙ ap Some c.in-At-At.is-0) (c.letter-2.ensures ∙ ap Some c.in-At-At.is-1)
