use Rattle.std.proofs.Common.{◌≡◌, ◌+◌, ◌*◌, ◌≤◌, length, sym, ap, subst}
use Rattle.gm_arena.specs.inner.ArenaMap.{ArenaMap}
use Rattle.gm_model.specs.declared.schema.Schema.{Schema}
use Rattle.gm_mapfile.specs.inner.Building.{AreInRoom, IsHeld}
use Rattle.gm_mapfile.specs.inner.Draft.{version_in}
use Rattle.gm_mapfile.specs.MapFaults.{AreBelow}
use Rattle.gm_mapfile.specs.inner.Rows.{darts_in, rows_in}
use Rattle.gm_mapfile.specs.inner.Faults.{IsNameFault}
use Rattle.gm_mapfile.proofs.Whole.{fresh_map}
use Rattle.gm_mapfile.proofs.building.build_lines.Goals as goal

pub fill_with_room-requires-clause-fresh : goal.fill_with_room-requires-clause-fresh
fill_with_room-requires-clause-fresh g c = fresh_map c.args.schema 0 0 c.new-arena.result c.new-arena.ensures

pub fill_with_room-requires-clause-room : goal.fill_with_room-requires-clause-room
fill_with_room-requires-clause-room g c =
    let schema_is : c.new-arena.result.schema ≡ c.args.schema = ap (λ (x : ArenaMap). x.schema) c.new-arena.ensures in
    subst (λ s. AreInRoom s c.args.numbers.now c.args.values.now) (sym schema_is) c.requires.room

pub fill_with_room-requires-clause-end : goal.fill_with_room-requires-clause-end
fill_with_room-requires-clause-end g c =
    let schema_is : c.new-arena.result.schema ≡ c.args.schema = ap (λ (x : ArenaMap). x.schema) c.new-arena.ensures in
    subst (λ (s : Schema). AreBelow (rows_in s.dim c.args.numbers.now) c.args.end) (sym schema_is) c.requires.end

pub fill_with_room-requires-clause-names : goal.fill_with_room-requires-clause-names
fill_with_room-requires-clause-names g c = c.requires.names

pub fill_with_room-requires-clause-next : goal.fill_with_room-requires-clause-next
fill_with_room-requires-clause-next g c = c.requires.next

pub returns-in-Err-clause-fault : goal.returns-in-Err-clause-fault
returns-in-Err-clause-fault g c =
    let schema_is : c.new-arena.result.schema ≡ c.args.schema = ap (λ (x : ArenaMap). x.schema) c.new-arena.ensures in
    subst (λ (s : Schema). IsNameFault (version_in c.args.stated) s.dim (darts_in s c.args.numbers.now c.args.values.now) c.in-Err.fault) schema_is c.in-Err.ensures.fault

pub returns-clause-held : goal.returns-clause-held
returns-clause-held g c =
    let schema_is : c.new-arena.result.schema ≡ c.args.schema = ap (λ (x : ArenaMap). x.schema) c.new-arena.ensures in
    subst (λ s. IsHeld (version_in c.args.stated) s (darts_in s c.args.numbers.now c.args.values.now) c.fill_with_room.new.arena) schema_is c.in_default.ensures.held

pub returns-clause-least : goal.returns-clause-least
returns-clause-least g c = c.in_default.ensures.least

pub returns-in-Err-clause-most : goal.returns-in-Err-clause-most
returns-in-Err-clause-most g c =
    let schema_is : c.new-arena.result.schema ≡ c.args.schema = ap (λ (x : ArenaMap). x.schema) c.new-arena.ensures in
    subst (λ (s : Schema). c.fill_with_room.new.steps ≤ c.args.steps.now + (2 * s.dim + 5) * length (darts_in s c.args.numbers.now c.args.values.now)) schema_is c.fill_with_room.ensures.most

pub returns-clause-most : goal.returns-clause-most
returns-clause-most g c =
    let schema_is : c.new-arena.result.schema ≡ c.args.schema = ap (λ (x : ArenaMap). x.schema) c.new-arena.ensures in
    subst (λ (s : Schema). c.fill_with_room.new.steps ≤ c.args.steps.now + (2 * s.dim + 5) * length (darts_in s c.args.numbers.now c.args.values.now)) schema_is c.fill_with_room.ensures.most
