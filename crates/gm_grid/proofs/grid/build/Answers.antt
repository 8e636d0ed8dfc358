use Rattle.std.proofs.Common.{◌≡◌, ℕ, ◌+◌, ◌*◌, ◌≤◌, sym, ap, subst, arith}
use Rattle.std.proofs.lemmas.Nat.{mul-lt}
use Rattle.std.proofs.lemmas.Result.{IfOk-from_err}
use Rattle.gm_arena.specs.inner.ArenaMap.{ArenaMap}
use Rattle.gm_model.specs.Maps.{IsSchema}
use Rattle.gm_grid.specs.inner.Building.{AreAdded, AreLinked}
use Rattle.gm_grid.specs.GridMap.{dart_count}
use Rattle.gm_grid.proofs.GridSchema.{is_schema}
use Rattle.gm_grid.proofs.Stages.{none_added}
use Rattle.gm_grid.proofs.grid.build.Goals as goal

few_squares : (m : ℕ) → m ≤ 100 → m * m ≤ 10200
few_squares m few = omega (arith, mul-lt m m 101 101 (omega (arith, few)) (omega (arith, few)))

no_less : (old more : ℕ) → old ≤ old + more
no_less old more = omega arith

in_all : (old added linked k : ℕ) → added ≡ old + k → linked ≡ added + 7 * k → linked ≡ old + 8 * k
in_all old added linked k first next = omega (arith, first, next)

at_most : (old added linked k : ℕ) → added ≡ old + k → linked ≡ added + 7 * k → linked ≤ old + 8 * k
at_most old added linked k first next = omega (arith, first, next)

none_linked : (m : ℕ) (a : ArenaMap) → AreAdded m (dart_count m) a → AreLinked m 0 a
none_linked m a all = record { schema_is = all.schema_is; linked = λ d low. absurd (omega (arith, low)); free = λ d low high. all.added d high; none = all.none; next_is = all.next_is }

pub overflow_mul-m : goal.overflow_mul-m
overflow_mul-m g c = omega (arith, few_squares c.args.m c.requires)

pub overflow_mul-m-2 : goal.overflow_mul-m-2
overflow_mul-m-2 g c = omega (arith, few_squares c.args.m c.requires)

pub overflow_mul-m-3 : goal.overflow_mul-m-3
overflow_mul-m-3 g c = omega (arith, few_squares c.args.m c.requires)

pub overflow_mul-m-4 : goal.overflow_mul-m-4
overflow_mul-m-4 g c = omega (arith, few_squares c.args.m c.requires)

pub reserve-requires-clause-darts : goal.reserve-requires-clause-darts
reserve-requires-clause-darts g c = omega (arith, few_squares c.args.m c.requires, ap (λ (m : ArenaMap). m.count) c.new-arena.ensures)

pub reserve-requires-clause-names : goal.reserve-requires-clause-names
reserve-requires-clause-names g c = omega (arith, few_squares c.args.m c.requires)

pub returns-in_err-make_schema-clause-linked : goal.returns-in_err-make_schema-clause-linked
returns-in_err-make_schema-clause-linked g c = IfOk-from_err c.from_residual.result _ c.from_residual.ensures.0

pub returns-in_err-make_schema-clause-least : goal.returns-in_err-make_schema-clause-least
returns-in_err-make_schema-clause-least g c = IfOk-from_err c.from_residual.result _ c.from_residual.ensures.0

pub returns-in_err-reserve-clause-linked : goal.returns-in_err-reserve-clause-linked
returns-in_err-reserve-clause-linked g c = IfOk-from_err c.from_residual-in_err-reserve.result _ c.from_residual-in_err-reserve.ensures.0

pub returns-in_err-reserve-clause-least : goal.returns-in_err-reserve-clause-least
returns-in_err-reserve-clause-least g c = IfOk-from_err c.from_residual-in_err-reserve.result _ c.from_residual-in_err-reserve.ensures.0

pub new-arena-requires : goal.new-arena-requires
new-arena-requires g c = subst IsSchema (sym c.in_ok-make_schema.ensures) is_schema

pub add_darts-requires-clause-none : goal.add_darts-requires-clause-none
add_darts-requires-clause-none g c =
    let schema = c.in_ok-make_schema in
    let room = c.in_ok-reserve.ensures in
    none_added c.args.m schema.field-0 c.new-arena.result c.reserve.new.self schema.ensures c.new-arena.ensures (omega (arith, room.darts)) (omega (arith, room.names)) room.map

pub add_darts-requires-clause-most : goal.add_darts-requires-clause-most
add_darts-requires-clause-most g c = c.requires

pub link_darts-requires-clause-most : goal.link_darts-requires-clause-most
link_darts-requires-clause-most g c = c.requires

pub link_darts-requires-clause-free : goal.link_darts-requires-clause-free
link_darts-requires-clause-free g c = none_linked c.args.m c.add_darts.new.arena c.add_darts.ensures.added

pub returns-in_err-make_schema-clause-most : goal.returns-in_err-make_schema-clause-most
returns-in_err-make_schema-clause-most g c = no_less c.args.steps.now (8 * dart_count c.args.m)

pub returns-in_err-reserve-clause-most : goal.returns-in_err-reserve-clause-most
returns-in_err-reserve-clause-most g c = no_less c.args.steps.now (8 * dart_count c.args.m)

pub returns-clause-linked : goal.returns-clause-linked
returns-clause-linked g c = c.link_darts.ensures.linked

pub returns-clause-least : goal.returns-clause-least
returns-clause-least g c = in_all c.args.steps.now c.add_darts.new.steps c.link_darts.new.steps (dart_count c.args.m) c.add_darts.ensures.cost c.link_darts.ensures.cost

pub returns-clause-most : goal.returns-clause-most
returns-clause-most g c = at_most c.args.steps.now c.add_darts.new.steps c.link_darts.new.steps (dart_count c.args.m) c.add_darts.ensures.cost c.link_darts.ensures.cost
