use Rattle.std.proofs.Common.{◌+◌, ◌*◌, arith}
use Rattle.gm_mapfile.specs.inner.Draft.{version_in}
use Rattle.gm_mapfile.specs.inner.Rows.{darts_in}
use Rattle.std.proofs.lemmas.Result.{err_from_is_err_and}
use Rattle.gm_model.proofs.Exits.{unless_ok}
use Rattle.gm_mapfile.proofs.Joined.{if_err, if_ok_both}
use Rattle.gm_mapfile.proofs.Reordered.{same_read, held_moved, fault_moved, most_moved}
use Rattle.gm_mapfile.proofs.building.build.Goals as goal

pub returns-in_default-clause-held : goal.returns-in_default-clause-held
returns-in_default-clause-held g c =
    let schema = c.args.draft.schema in
    let darts = darts_in schema c.args.draft.numbers.items c.args.draft.values.items in
    let same = c.in_ok-end.ensures.darts in
    if_ok_both c.arena_of_lines.result (λ m held _. held_moved darts (darts_in schema c.end_in_order.new.numbers.items c.end_in_order.new.values.items) same (version_in c.args.draft.stated) schema m held) c.arena_of_lines.ensures.held c.arena_of_lines.ensures.held

pub returns-in_default-clause-fault : goal.returns-in_default-clause-fault
returns-in_default-clause-fault g c =
    let schema = c.args.draft.schema in
    let darts = darts_in schema c.args.draft.numbers.items c.args.draft.values.items in
    let same = c.in_ok-end.ensures.darts in
    if_err c.arena_of_lines.result (fault_moved darts (darts_in schema c.end_in_order.new.numbers.items c.end_in_order.new.values.items) same (version_in c.args.draft.stated) schema.dim) c.arena_of_lines.ensures.fault

pub returns-in_default-clause-most : goal.returns-in_default-clause-most
returns-in_default-clause-most g c =
    let schema = c.args.draft.schema in
    let darts = darts_in schema c.args.draft.numbers.items c.args.draft.values.items in
    let same = c.in_ok-end.ensures.darts in
    most_moved darts (darts_in schema c.end_in_order.new.numbers.items c.end_in_order.new.values.items) same (2 * schema.dim + 5) c.args.steps.now c.arena_of_lines.new.steps c.arena_of_lines.ensures.most

pub returns-in_default-clause-least : goal.returns-in_default-clause-least
returns-in_default-clause-least g c = c.arena_of_lines.ensures.least

pub returns-clause-held : goal.returns-clause-held
returns-clause-held g c =
    let schema = c.args.draft.schema in
    let darts = darts_in schema c.args.draft.numbers.items c.args.draft.values.items in
    let same = same_read darts schema c.end_in_order.new.numbers.items c.as_slice-numbers.result.now c.end_in_order.new.values.items c.as_slice-values.result.now c.as_slice-numbers.ensures.value c.as_slice-values.ensures.value c.in_ok-end.ensures.darts in
    if_ok_both c.build_lines.result (λ m held _. held_moved darts (darts_in schema c.as_slice-numbers.result.now c.as_slice-values.result.now) same (version_in c.args.draft.stated) schema m held) c.build_lines.ensures.held c.build_lines.ensures.held

pub returns-clause-fault : goal.returns-clause-fault
returns-clause-fault g c =
    let schema = c.args.draft.schema in
    let darts = darts_in schema c.args.draft.numbers.items c.args.draft.values.items in
    let same = same_read darts schema c.end_in_order.new.numbers.items c.as_slice-numbers.result.now c.end_in_order.new.values.items c.as_slice-values.result.now c.as_slice-numbers.ensures.value c.as_slice-values.ensures.value c.in_ok-end.ensures.darts in
    if_err c.build_lines.result (fault_moved darts (darts_in schema c.as_slice-numbers.result.now c.as_slice-values.result.now) same (version_in c.args.draft.stated) schema.dim) c.build_lines.ensures.fault

pub returns-clause-most : goal.returns-clause-most
returns-clause-most g c =
    let schema = c.args.draft.schema in
    let darts = darts_in schema c.args.draft.numbers.items c.args.draft.values.items in
    let same = same_read darts schema c.end_in_order.new.numbers.items c.as_slice-numbers.result.now c.end_in_order.new.values.items c.as_slice-values.result.now c.as_slice-numbers.ensures.value c.as_slice-values.ensures.value c.in_ok-end.ensures.darts in
    most_moved darts (darts_in schema c.as_slice-numbers.result.now c.as_slice-values.result.now) same (2 * schema.dim + 5) c.args.steps.now c.build_lines.new.steps c.build_lines.ensures.most

pub returns-clause-least : goal.returns-clause-least
returns-clause-least g c = c.build_lines.ensures.least

pub returns-in_err-end-clause-held : goal.returns-in_err-end-clause-held
returns-in_err-end-clause-held g c = unless_ok _ c.from_residual.result c.from_residual.ensures.0

pub returns-in_err-end-clause-least : goal.returns-in_err-end-clause-least
returns-in_err-end-clause-least g c = unless_ok _ c.from_residual.result c.from_residual.ensures.0

pub end_in_order-requires : goal.end_in_order-requires
end_in_order-requires g c = record { room = c.requires.room }

pub arena_of_lines-requires-clause-schema : goal.arena_of_lines-requires-clause-schema
arena_of_lines-requires-clause-schema g c = c.requires.schema

pub arena_of_lines-requires-clause-lines : goal.arena_of_lines-requires-clause-lines
arena_of_lines-requires-clause-lines g c = rw c.in_default.is at c.in_ok-end.ensures.own

pub arena_of_lines-requires-clause-next : goal.arena_of_lines-requires-clause-next
arena_of_lines-requires-clause-next g c = c.requires.next

pub build_lines-requires-clause-schema : goal.build_lines-requires-clause-schema
build_lines-requires-clause-schema g c = c.requires.schema

pub build_lines-requires-clause-room : goal.build_lines-requires-clause-room
build_lines-requires-clause-room g c = rw (c.as_slice-numbers.ensures.value, c.as_slice-values.ensures.value) c.in_ok-end.ensures.room

pub build_lines-requires-clause-end : goal.build_lines-requires-clause-end
build_lines-requires-clause-end g c = rw c.as_slice-numbers.ensures.value (rw c.in-Some.is at c.in_ok-end.ensures.end)

pub build_lines-requires-clause-names : goal.build_lines-requires-clause-names
build_lines-requires-clause-names g c = rw c.in-Some.is at c.in_ok-end.ensures.names

pub build_lines-requires-clause-next : goal.build_lines-requires-clause-next
build_lines-requires-clause-next g c = c.requires.next

pub returns-in_err-end-clause-most : goal.returns-in_err-end-clause-most
returns-in_err-end-clause-most g c = omega arith

pub returns-in_err-end-clause-fault : goal.returns-in_err-end-clause-fault
returns-in_err-end-clause-fault g c =
    let p = err_from_is_err_and c.from_residual.result c.from_residual.ensures.1 in
    rw (p.1, p.2) tt
