use Rattle.gm_cells.proofs.ColouredLemmas.{components_are}
use Rattle.std.proofs.Common.{replicate, ap, ◌∙◌}
use Rattle.std.proofs.Math.Nat.{le_refl}
use Rattle.gm_model.proofs.Exits.{unless_ok}
use Rattle.gm_cells.proofs.counts.count.Goals as goal

pub count_with-requires-clause-components : goal.count_with-requires-clause-components
count_with-requires-clause-components g c = components_are c.args.arena.now c.bound.ensures.lawful c.requires.generalised _ c.in_ok-found.found c.in_ok-found.ensures.painted

pub count_with-requires-clause-generalised : goal.count_with-requires-clause-generalised
count_with-requires-clause-generalised g c = c.requires.generalised

pub paint_components-requires-clause-generalised : goal.paint_components-requires-clause-generalised
paint_components-requires-clause-generalised g c = c.requires.generalised

pub paint_components-requires-clause-none : goal.paint_components-requires-clause-none
paint_components-requires-clause-none g c = c.deref_mut.ensures.value ∙ c.in_ok-colours.ensures ∙ ap (λ slots. replicate slots 0) c.bound.ensures.bound

pub returns : goal.returns
returns g c = record { counts = c.count_with.ensures.counts; room = c.count_with.ensures.room }

pub returns-in_err-colours : goal.returns-in_err-colours
returns-in_err-colours g c = record {
  counts = unless_ok _ c.from_residual.result c.from_residual.ensures.0;
  room = le_refl _;
}

pub returns-in_err-found : goal.returns-in_err-found
returns-in_err-found g c = record {
  counts = unless_ok _ c.from_residual-in_err-found.result c.from_residual-in_err-found.ensures.0;
  room = le_refl _;
}
