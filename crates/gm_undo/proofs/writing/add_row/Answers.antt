use Rattle.std.proofs.Common.{◌≡◌, Some}
use Rattle.std.specs.FinMap.{get}
use Rattle.gm_undo.specs.inner.Flat.{row_in}
use Rattle.std.proofs.Common.{ap, ap₂, ◌∙◌, cond}
use Rattle.gm_arena.proofs.MapLemmas.{get-with_dart_same, get-with_dart_other}
use Rattle.gm_arena.specs.inner.Edits.{with_dart, free_dart}
use Rattle.gm_arena.specs.inner.ArenaMap.{ArenaMap}
use Rattle.gm_undo.proofs.writing.add_row.Goals as goal

pub returns-clause-own : goal.returns-clause-own
returns-clause-own g c =
    let row = row_in c.args.rows.now.rows c.args.index in
    let at = c.add.result.at in
    let map : c.add.new.self ≡ with_dart c.args.arena.now at row.name row.dart.values = c.add.ensures.map ∙ ap₂ (λ n v. with_dart c.args.arena.now at n v) c.name.ensures c.values.ensures in
    ap (λ (m : ArenaMap). get m.darts row.name) map
    ∙ get-with_dart_same c.args.arena.now at row.name row.dart.values
    ∙ ap (λ b. cond b (get c.args.arena.now.darts row.name) (Some (free_dart c.args.arena.now.schema.dim row.name row.dart.values))) c.if-stays.ensures

pub returns-clause-others : goal.returns-clause-others
returns-clause-others g c =
    let row = row_in c.args.rows.now.rows c.args.index in
    let at = c.add.result.at in
    let map : c.add.new.self ≡ with_dart c.args.arena.now at row.name row.dart.values = c.add.ensures.map ∙ ap₂ (λ n v. with_dart c.args.arena.now at n v) c.name.ensures c.values.ensures in
    λ d apart. ap (λ (m : ArenaMap). get m.darts d) map ∙ get-with_dart_other c.args.arena.now at row.name row.dart.values d apart
