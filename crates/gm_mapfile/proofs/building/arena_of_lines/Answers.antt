use Rattle.std.proofs.lemmas.Result.{err_from_is_err_and}
use Rattle.gm_model.proofs.Exits.{unless_ok}
use Rattle.gm_mapfile.proofs.OwnLines.{steps_made, held_set, live_below, fault_set, many_set}
use Rattle.gm_mapfile.proofs.building.arena_of_lines.Goals as goal

pub set_above-requires-clause-names : goal.set_above-requires-clause-names
set_above-requires-clause-names g c = live_below c.args.schema c.args.numbers.items c.args.values.items c.requires.lines c.in_ok-arena.arena c.in_ok-arena.ensures.holds

pub set_above-requires-clause-most : goal.set_above-requires-clause-most
set_above-requires-clause-most g c = c.requires.next

pub returns-in_err-arena-clause-held : goal.returns-in_err-arena-clause-held
returns-in_err-arena-clause-held g c = unless_ok _ c.from_residual.result c.from_residual.ensures.0

pub returns-in_err-arena-clause-least : goal.returns-in_err-arena-clause-least
returns-in_err-arena-clause-least g c = unless_ok _ c.from_residual.result c.from_residual.ensures.0

pub returns-in_err-arena-clause-most : goal.returns-in_err-arena-clause-most
returns-in_err-arena-clause-most g c = steps_made c.args.schema c.args.numbers.items c.args.values.items c.args.steps.now c.of_lines.new.steps c.of_lines.ensures.cost

pub returns-in-Some-clause-fault : goal.returns-in-Some-clause-fault
returns-in-Some-clause-fault g c = fault_set c.args.schema c.args.numbers.items c.args.values.items c.requires.lines c.in_ok-arena.arena c.args.stated c.in-Some.dart c.in_ok-arena.ensures.holds c.in-Some.ensures.stated c.in-Some.ensures.within

pub returns-in-Some-clause-most : goal.returns-in-Some-clause-most
returns-in-Some-clause-most g c = steps_made c.args.schema c.args.numbers.items c.args.values.items c.args.steps.now c.of_lines.new.steps c.of_lines.ensures.cost

pub returns-clause-held : goal.returns-clause-held
returns-clause-held g c = held_set c.args.schema c.args.numbers.items c.args.values.items c.requires.lines c.in_ok-arena.arena c.set_above.new.arena c.args.stated c.in_ok-arena.ensures.holds c.in_default.ensures.set

pub returns-clause-most : goal.returns-clause-most
returns-clause-most g c = steps_made c.args.schema c.args.numbers.items c.args.values.items c.args.steps.now c.of_lines.new.steps c.of_lines.ensures.cost

pub returns-clause-least : goal.returns-clause-least
returns-clause-least g c = many_set c.args.schema c.args.numbers.items c.args.values.items c.requires.lines c.in_ok-arena.arena c.set_above.new.arena c.args.stated c.args.steps.now c.of_lines.new.steps c.in_ok-arena.ensures.holds c.in_default.ensures.set c.of_lines.ensures.cost

pub returns-in_err-arena-clause-fault : goal.returns-in_err-arena-clause-fault
returns-in_err-arena-clause-fault g c =
    let p = err_from_is_err_and c.from_residual.result c.from_residual.ensures.1 in
    rw (p.1, p.2) tt

pub of_lines-requires-clause-schema : goal.of_lines-requires-clause-schema
of_lines-requires-clause-schema g c = c.requires.schema

pub of_lines-requires-clause-lines : goal.of_lines-requires-clause-lines
of_lines-requires-clause-lines g c = c.requires.lines
