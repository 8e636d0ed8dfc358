use Rattle.std.proofs.Common.{length, replicate, subst, sym, ap, ◌∙◌}
use Rattle.std.proofs.lemmas.List.{length-replicate}
use Rattle.gm_model.proofs.Exits.{unless_ok}
use Rattle.gm_cells.specs.inner.Painted.{ArePainted}
use Rattle.gm_cells.proofs.ColouredLemmas.{written_whole}
use Rattle.gm_cells.proofs.colouring.orient.Goals as goal

pub returns-in_err-colours : goal.returns-in_err-colours
returns-in_err-colours g c = record { orientation = unless_ok _ c.from_residual.result c.from_residual.ensures.0 }

pub paint_components-requires-clause-none : goal.paint_components-requires-clause-none
paint_components-requires-clause-none g c = c.deref_mut.ensures.value ∙ c.in_ok-colours.ensures ∙ ap (λ slots. replicate slots 0) c.bound.ensures.bound

pub returns-in_err-found : goal.returns-in_err-found
returns-in_err-found g c = record { orientation = unless_ok _ c.from_residual-in_err-found.result c.from_residual-in_err-found.ensures.0 }

pub orient_by-requires-clause-generalised : goal.orient_by-requires-clause-generalised
orient_by-requires-clause-generalised g c = c.requires.generalised

pub orient_by-requires-clause-painted : goal.orient_by-requires-clause-painted
orient_by-requires-clause-painted g c =
    let m = c.args.arena.now in
    let whole = written_whole c.paint_components.new.colours _ _ (c.in_ok-found.ensures.long ∙ c.deref_mut.ensures.len) in
    subst (λ colours. ArePainted m m.next colours c.in_ok-found.found) (sym (c.deref.ensures.value ∙ whole)) c.in_ok-found.ensures.painted

pub orient_by-requires-clause-long : goal.orient_by-requires-clause-long
orient_by-requires-clause-long g c =
    let whole = written_whole c.paint_components.new.colours _ _ (c.in_ok-found.ensures.long ∙ c.deref_mut.ensures.len) in
    ap length (c.deref.ensures.value ∙ whole)
    ∙ c.in_ok-found.ensures.long
    ∙ ap length (c.deref_mut.ensures.value ∙ c.in_ok-colours.ensures)
    ∙ length-replicate c.bound.result 0
    ∙ c.bound.ensures.bound

pub returns : goal.returns
returns g c = record { orientation = c.orient_by.ensures.orientation }
