use Rattle.std.proofs.Common.{◌+◌, [], ◌∷◌, sym, ap, subst, ◌∙◌}
use Rattle.gm_grid.specs.inner.Building.{point_of, AreAdded}
use Rattle.gm_grid.proofs.Finished.{point_named}
use Rattle.gm_grid.proofs.Stages.{added_more}
use Rattle.gm_grid.proofs.grid.add_dart.Goals as goal

pub returns-clause-added : goal.returns-clause-added
returns-clause-added g c =
    let m = c.args.m in
    let place = c.args.place in
    let (row, column, number) = c.requires.within in
    let point = c.point_at.ensures ∙ point_named m place.row place.column place.number row column number in
    let before = subst (λ d. AreAdded m d c.args.arena.now) (sym c.name_of.ensures.name) c.requires.before in
    let value = ap (λ v. v ∷ []) (point ∙ ap (point_of m) (sym c.name_of.ensures.name)) in
    let added = added_more m c.name_of.result c.add.result.at _ c.args.arena.now c.add.new.self before c.name_of.ensures.below value c.add.ensures.map in
    subst (λ d. AreAdded m (d + 1) c.add.new.self) c.name_of.ensures.name added
