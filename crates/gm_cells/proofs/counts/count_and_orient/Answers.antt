use Rattle.std.proofs.Common.{length, replicate, subst, sym, ap, ◌∙◌}
use Rattle.std.proofs.lemmas.List.{length-replicate}
use Rattle.std.proofs.Math.Nat.{le_refl}
use Rattle.gm_model.proofs.Exits.{unless_ok}
use Rattle.gm_cells.specs.inner.Painted.{ArePainted}
use Rattle.gm_cells.proofs.ColouredLemmas.{components_are, written_whole}
use Rattle.gm_cells.proofs.counts.count_and_orient.Goals as goal

pub returns-in_err-colours : goal.returns-in_err-colours
returns-in_err-colours g c = record {
  counts = unless_ok _ c.from_residual.result c.from_residual.ensures.0;
  orientation = unless_ok _ c.from_residual.result c.from_residual.ensures.0;
  room = le_refl _;
}

pub paint_components-requires-clause-none : goal.paint_components-requires-clause-none
paint_components-requires-clause-none g c = c.deref_mut.ensures.value ∙ c.in_ok-colours.ensures ∙ ap (λ slots. replicate slots 0) c.bound.ensures.bound

pub returns-in_err-found : goal.returns-in_err-found
returns-in_err-found g c = record {
  counts = unless_ok _ c.from_residual-in_err-found.result c.from_residual-in_err-found.ensures.0;
  orientation = unless_ok _ c.from_residual-in_err-found.result c.from_residual-in_err-found.ensures.0;
  room = le_refl _;
}

pub count_with-requires-clause-generalised : goal.count_with-requires-clause-generalised
count_with-requires-clause-generalised g c = c.requires.generalised

pub count_with-requires-clause-components : goal.count_with-requires-clause-components
count_with-requires-clause-components g c = components_are c.args.arena.now c.bound.ensures.lawful c.requires.generalised _ c.in_ok-found.found c.in_ok-found.ensures.painted

pub returns-in_err-counts : goal.returns-in_err-counts
returns-in_err-counts g c = record {
  counts = unless_ok _ c.from_residual-in_err-counts.result c.from_residual-in_err-counts.ensures.0;
  orientation = unless_ok _ c.from_residual-in_err-counts.result c.from_residual-in_err-counts.ensures.0;
  room = c.count_with.ensures.room;
}

pub orient_by-requires-clause-generalised : goal.orient_by-requires-clause-generalised
orient_by-requires-clause-generalised g c = c.requires.generalised

pub orient_by-requires-clause-painted : goal.orient_by-requires-clause-painted
orient_by-requires-clause-painted g c =
    let m = c.args.arena.now in
    let whole = written_whole c.paint_components.new.colours _ _ (c.in_ok-found.ensures.long ∙ c.deref_mut.ensures.len) in
    subst (λ colours. ArePainted m m.next colours c.in_ok-found.found) (sym (c.deref.ensures.value ∙ whole)) c.in_ok-found.ensures.painted

pub orient_by-requires-clause-long : goal.orient_by-requires-clause-long
orient_by-requires-clause-long g c =
    let whole = written_whole c.paint_components.new.colours _ _ (c.in_ok-found.ensures.long ∙ c.deref_mut.ensures.len) in
    ap length (c.deref.ensures.value ∙ whole)
    ∙ c.in_ok-found.ensures.long
    ∙ ap length (c.deref_mut.ensures.value ∙ c.in_ok-colours.ensures)
    ∙ length-replicate c.bound.result 0
    ∙ c.bound.ensures.bound

pub returns-in_err-orientation : goal.returns-in_err-orientation
returns-in_err-orientation g c = record {
  counts = unless_ok _ c.from_residual-in_err-orientation.result c.from_residual-in_err-orientation.ensures.0;
  orientation = unless_ok _ c.from_residual-in_err-orientation.result c.from_residual-in_err-orientation.ensures.0;
  room = c.count_with.ensures.room;
}

pub returns : goal.returns
returns g c = record {
  counts = c.in_ok-counts.ensures.counts;
  orientation = c.in_ok-orientation.ensures.orientation;
  room = c.count_with.ensures.room;
}

pub paint_components-requires-clause-generalised : goal.paint_components-requires-clause-generalised
paint_components-requires-clause-generalised g c = c.requires.generalised
