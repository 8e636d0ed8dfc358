use Rattle.std.proofs.Common.{◌*◌, ◌≤◌, replicate, sym, subst, ap, ◌∙◌}
use Rattle.gm_arena.specs.inner.ArenaAsMap.{as_map}
use Rattle.gm_model.proofs.Exits.{unless_ok}
use Rattle.gm_cells.specs.Colours.{AreOfFirstColour}
use Rattle.gm_cells.specs.inner.Painted.{IsBeforeOdd}
use Rattle.gm_cells.proofs.ColouredLemmas.{colours_before}
use Rattle.gm_cells.proofs.colouring.orient_by.Goals as goal

pub first_colour-requires-clause-generalised : goal.first_colour-requires-clause-generalised
first_colour-requires-clause-generalised g c = c.requires.generalised

pub first_colour-requires-clause-painted : goal.first_colour-requires-clause-painted
first_colour-requires-clause-painted g c = c.requires.painted

pub first_colour-requires-clause-fits : goal.first_colour-requires-clause-fits
first_colour-requires-clause-fits g c = c.in-None.is

pub first_colour-requires-clause-long : goal.first_colour-requires-clause-long
first_colour-requires-clause-long g c = c.requires.long

pub returns-in_err-first-in-None : goal.returns-in_err-first-in-None
returns-in_err-first-in-None g c = record { orientation = unless_ok _ c.from_residual.result c.from_residual.ensures.0 }

pub returns-in_ok-first-in-None : goal.returns-in_ok-first-in-None
returns-in_ok-first-in-None g c = record { orientation = subst (AreOfFirstColour (as_map c.args.arena.now)) (sym c.new.ensures) c.in_ok-first-in-None.ensures.first }

pub returns-in_err-marks-in-Some : goal.returns-in_err-marks-in-Some
returns-in_err-marks-in-Some g c = record { orientation = unless_ok _ c.from_residual-in_err-marks-in-Some.result c.from_residual-in_err-marks-in-Some.ensures.0 }

pub odd_by-requires-clause-generalised : goal.odd_by-requires-clause-generalised
odd_by-requires-clause-generalised g c = c.requires.generalised

pub odd_by-requires-clause-odd : goal.odd_by-requires-clause-odd
odd_by-requires-clause-odd g c = rw c.in-Some.is at c.requires.painted.odd

pub odd_by-requires-clause-earlier : goal.odd_by-requires-clause-earlier
odd_by-requires-clause-earlier g c = λ d first less.
    let m = c.args.arena.now in
    colours_before m c.bound.ensures.lawful c.requires.generalised c.args.colours.now c.args.found c.requires.painted d first (subst (λ odd. IsBeforeOdd m odd d) (sym c.in-Some.is) less)

pub odd_by-requires-clause-marks : goal.odd_by-requires-clause-marks
odd_by-requires-clause-marks g c = c.deref_mut.ensures.value ∙ c.in_ok-marks-in-Some.ensures.marks ∙ ap (λ slots. replicate (2 * slots) 0) c.bound.ensures.bound

pub odd_by-requires-clause-few : goal.odd_by-requires-clause-few
odd_by-requires-clause-few g c = subst (λ slots. slots ≤ 1073741824) c.bound.ensures.bound c.in_ok-marks-in-Some.ensures.few

pub returns-in_ok-marks-in-Some : goal.returns-in_ok-marks-in-Some
returns-in_ok-marks-in-Some g c = record { orientation = c.odd_by.ensures.orientation }
