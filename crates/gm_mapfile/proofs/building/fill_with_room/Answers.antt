use Rattle.std.specs.Prelude.{OnOk, IfErr}
use Rattle.std.proofs.lemmas.Result.{err_from_is_err_and}
use Rattle.std.proofs.Common.{◌≡◌, ◌+◌, ◌*◌, ◌≤◌, length, sym, ap, subst, ◌∙◌, arith, ◌/◌}
use Rattle.gm_arena.specs.inner.ArenaMap.{ArenaMap}
use Rattle.gm_model.specs.declared.schema.Schema.{Schema}
use Rattle.gm_model.specs.GMap.{IsLive}
use Rattle.gm_mapfile.specs.inner.Building.{AreInRoom, IsHeld}
use Rattle.gm_mapfile.specs.inner.Draft.{version_in}
use Rattle.gm_mapfile.specs.inner.Rows.{darts_in, rows_in}
use Rattle.gm_model.specs.Limits.{most_darts}
use Rattle.gm_mapfile.specs.inner.Faults.{IsNameFault}
use Rattle.gm_model.proofs.Exits.{never_ok}
use Rattle.gm_mapfile.proofs.Whole.{still_fresh}
use Rattle.gm_mapfile.proofs.building.fill_with_room.Goals as goal

pub reserve-requires-clause-names : goal.reserve-requires-clause-names
reserve-requires-clause-names g c = c.requires.names

pub reserve-requires-clause-darts : goal.reserve-requires-clause-darts
reserve-requires-clause-darts g c =
    let few = subst (λ d. length c.args.numbers.now / (d + 2) ≤ most_darts) (sym (c.top.ensures.value ∙ ap (λ (s : Schema). s.dim) c.schema.ensures)) c.requires.room.few in
    omega (arith, few, c.requires.fresh.count)

pub returns-in_err-reserve-clause-held : goal.returns-in_err-reserve-clause-held
returns-in_err-reserve-clause-held g c = never_ok _ c.from_residual.result c.from_residual.ensures.0

pub returns-in_err-reserve-clause-least : goal.returns-in_err-reserve-clause-least
returns-in_err-reserve-clause-least g c = never_ok _ c.from_residual.result c.from_residual.ensures.0

pub returns-in_err-reserve-clause-fault : goal.returns-in_err-reserve-clause-fault
returns-in_err-reserve-clause-fault g c =
    let p = err_from_is_err_and c.from_residual.result c.from_residual.ensures.1 in
    rw (p.1, p.2) tt

pub returns-in_err-reserve-clause-most : goal.returns-in_err-reserve-clause-most
returns-in_err-reserve-clause-most g c = omega arith

pub fill-requires-clause-fresh : goal.fill-requires-clause-fresh
fill-requires-clause-fresh g c = still_fresh _ _ c.reserve.new.self.spare c.reserve.new.self.reserved c.in_ok-reserve.ensures.map c.requires.fresh

pub fill-requires-clause-reserved : goal.fill-requires-clause-reserved
fill-requires-clause-reserved g c d live =
    let schema_is : c.reserve.new.self.schema ≡ c.args.arena.now.schema = ap (λ (x : ArenaMap). x.schema) c.in_ok-reserve.ensures.map in
    omega (arith, c.requires.end d (subst (λ (s : Schema). IsLive (rows_in s.dim c.args.numbers.now) d) schema_is live), c.in_ok-reserve.ensures.names)

pub fill-requires-clause-room : goal.fill-requires-clause-room
fill-requires-clause-room g c =
    let schema_is : c.reserve.new.self.schema ≡ c.args.arena.now.schema = ap (λ (x : ArenaMap). x.schema) c.in_ok-reserve.ensures.map in
    subst (λ s. AreInRoom s c.args.numbers.now c.args.values.now) (sym schema_is) c.requires.room

pub fill-requires-clause-spare : goal.fill-requires-clause-spare
fill-requires-clause-spare g c =
    let schema_is : c.reserve.new.self.schema ≡ c.args.arena.now.schema = ap (λ (x : ArenaMap). x.schema) c.in_ok-reserve.ensures.map in
    let dim : c.reserve.new.self.schema.dim ≡ c.top.result = ap (λ (s : Schema). s.dim) schema_is ∙ sym (c.top.ensures.value ∙ ap (λ (s : Schema). s.dim) c.schema.ensures) in
    subst (λ d. length c.args.numbers.now / (d + 2) ≤ c.reserve.new.self.spare) (sym dim) (omega (arith, c.in_ok-reserve.ensures.darts))

pub fill-requires-clause-next : goal.fill-requires-clause-next
fill-requires-clause-next g c = c.requires.next

pub returns-clause-held : goal.returns-clause-held
returns-clause-held g c =
    let schema_is : c.reserve.new.self.schema ≡ c.args.arena.now.schema = ap (λ (x : ArenaMap). x.schema) c.in_ok-reserve.ensures.map in
    subst (λ s. OnOk c.fill.result (IsHeld (version_in c.args.stated) s (darts_in s c.args.numbers.now c.args.values.now) c.fill.new.arena)) schema_is c.fill.ensures.held

pub returns-clause-fault : goal.returns-clause-fault
returns-clause-fault g c =
    let schema_is : c.reserve.new.self.schema ≡ c.args.arena.now.schema = ap (λ (x : ArenaMap). x.schema) c.in_ok-reserve.ensures.map in
    subst (λ (s : Schema). IfErr c.fill.result (IsNameFault (version_in c.args.stated) s.dim (darts_in s c.args.numbers.now c.args.values.now))) schema_is c.fill.ensures.fault

pub returns-clause-most : goal.returns-clause-most
returns-clause-most g c =
    let schema_is : c.reserve.new.self.schema ≡ c.args.arena.now.schema = ap (λ (x : ArenaMap). x.schema) c.in_ok-reserve.ensures.map in
    subst (λ (s : Schema). c.fill.new.steps ≤ c.args.steps.now + (2 * s.dim + 5) * length (darts_in s c.args.numbers.now c.args.values.now)) schema_is c.fill.ensures.most

pub returns-clause-least : goal.returns-clause-least
returns-clause-least g c = c.fill.ensures.least
