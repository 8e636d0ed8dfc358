use Rattle.std.proofs.Common.{Some, ap, ◌∙◌, arith}
use Rattle.std.proofs.Math.Nat.{lt_of_le_of_lt, lt_of_lt_of_le}
use Rattle.std.proofs.lemmas.Option.{slice_get-get_or, slice_get_within}
use Rattle.gm_match.proofs.FirstTurns.{not_before, not_here}
use Rattle.gm_match.proofs.candidates.next_turn.Goals as goal

pub loop-turn-init : goal.loop-turn-init
loop-turn-init c = λ k first. not_before c.args.turns.now c.args.from c.args.position k c.requires.before first

pub bounds-turns-turn : goal.bounds-turns-turn
bounds-turns-turn c = lt_of_le_of_lt (c.loop-turn.invariant c.requires.some.0 c.requires.some.1) (slice_get_within c.args.turns.now c.requires.some.0 c.args.position c.requires.some.1.here)

pub loop-turn-preserved : goal.loop-turn-preserved
loop-turn-preserved c = λ k first. not_here c.args.turns.now c.loop-turn.turn c.args.position k first (c.loop-turn.invariant k first) c.loop-turn-test.true

pub returns-clause-before : goal.returns-clause-before
returns-clause-before c = λ j less. c.requires.some.1.before j (lt_of_lt_of_le less (c.loop-turn.invariant c.requires.some.0 c.requires.some.1))

pub returns-clause-first : goal.returns-clause-first
returns-clause-first c =
    let at_most = c.loop-turn.invariant c.requires.some.0 c.requires.some.1 in
    let within = lt_of_le_of_lt at_most (slice_get_within c.args.turns.now c.requires.some.0 c.args.position c.requires.some.1.here) in
    record {
      here = slice_get-get_or c.args.turns.now c.loop-turn.turn 0 within ∙ ap Some c.loop-turn-test.false;
      before = λ j less. c.requires.some.1.before j (lt_of_lt_of_le less at_most);
    }

pub overflow_add-turn : goal.overflow_add-turn
overflow_add-turn c =
    let within = lt_of_le_of_lt (c.loop-turn.invariant c.requires.some.0 c.requires.some.1) (slice_get_within c.args.turns.now c.requires.some.0 c.args.position c.requires.some.1.here) in
    omega (arith, within)

pub loop-turn-smaller : goal.loop-turn-smaller
loop-turn-smaller c =
    let within = lt_of_le_of_lt (c.loop-turn.invariant c.requires.some.0 c.requires.some.1) (slice_get_within c.args.turns.now c.requires.some.0 c.args.position c.requires.some.1.here) in
    omega (arith, within)
