use Rattle.std.proofs.Common.{◌≡◌, ◌+◌, length, map, ap}
use Rattle.gm_model.proofs.Exits.{never_ok}
use Rattle.gm_mapfile.proofs.Joined.{ok_more}
use Rattle.gm_mapfile.specs.declared.ordering.Line.{Line}
use Rattle.gm_mapfile.proofs.Reordered.{order_of, within_of, numbers_within, values_within, taken_of, room_in, darts_ordered}
use Rattle.gm_mapfile.proofs.ordering.order.Goals as goal

pub order_lines-requires : goal.order_lines-requires
order_lines-requires c =
    let schema = c.args.schema.now in
    let numbers = c.args.numbers.now.items in
    let values = c.args.values.now.items in
    let w0 = c.top.result + 2 in
    let w_is : w0 ≡ schema.dim + 2 = ap (λ x. x + 2) c.top.ensures.value in
    let lines = c.in_ok-lines.lines.items in
    let order = order_of schema numbers c.as_slice.result.now lines w0 c.as_slice.ensures.value w_is c.in_ok-lines.ensures in
    within_of numbers lines c.as_slice-2.result.now w0 (schema.dim + 2) c.as_slice-2.ensures.value w_is (numbers_within schema numbers values c.requires.room (map (λ (line : Line). line.at) lines) order)

pub order_lines-requires-2 : goal.order_lines-requires-2
order_lines-requires-2 c =
    let schema = c.args.schema.now in
    let numbers = c.args.numbers.now.items in
    let values = c.args.values.now.items in
    let w0 = c.top.result + 2 in
    let w_is : w0 ≡ schema.dim + 2 = ap (λ x. x + 2) c.top.ensures.value in
    let lines = c.in_ok-lines.lines.items in
    let order = order_of schema numbers c.as_slice.result.now lines w0 c.as_slice.ensures.value w_is c.in_ok-lines.ensures in
    within_of values lines c.as_slice-3.result.now (length c.as_slice-count.result.now) (length schema.embeds) c.as_slice-3.ensures.value (ap length c.as_slice-count.ensures)
    (values_within schema numbers values c.requires.room (map (λ (line : Line). line.at) lines) order)

pub returns-clause-room : goal.returns-clause-room
returns-clause-room c =
    let schema = c.args.schema.now in
    let numbers = c.args.numbers.now.items in
    let values = c.args.values.now.items in
    let w0 = c.top.result + 2 in
    let w_is : w0 ≡ schema.dim + 2 = ap (λ x. x + 2) c.top.ensures.value in
    let lines = c.in_ok-lines.lines.items in
    let order = order_of schema numbers c.as_slice.result.now lines w0 c.as_slice.ensures.value w_is c.in_ok-lines.ensures in
    let new_numbers = taken_of numbers lines c.as_slice-2.result.now w0 (schema.dim + 2) c.order_lines.new.all.items c.as_slice-2.ensures.value w_is c.in_ok-order_lines.ensures in
    ok_more c.order_lines-2.result
    (λ taken. room_in schema numbers values c.requires.room lines order c.order_lines.new.all.items c.order_lines-2.new.all.items new_numbers
    (taken_of values lines c.as_slice-3.result.now (length c.as_slice-count.result.now) (length schema.embeds) c.order_lines-2.new.all.items c.as_slice-3.ensures.value (ap length c.as_slice-count.ensures) taken))
    c.order_lines-2.ensures

pub returns-clause-darts : goal.returns-clause-darts
returns-clause-darts c =
    let schema = c.args.schema.now in
    let numbers = c.args.numbers.now.items in
    let values = c.args.values.now.items in
    let w0 = c.top.result + 2 in
    let w_is : w0 ≡ schema.dim + 2 = ap (λ x. x + 2) c.top.ensures.value in
    let lines = c.in_ok-lines.lines.items in
    let order = order_of schema numbers c.as_slice.result.now lines w0 c.as_slice.ensures.value w_is c.in_ok-lines.ensures in
    let new_numbers = taken_of numbers lines c.as_slice-2.result.now w0 (schema.dim + 2) c.order_lines.new.all.items c.as_slice-2.ensures.value w_is c.in_ok-order_lines.ensures in
    ok_more c.order_lines-2.result
    (λ taken. darts_ordered schema numbers values c.requires.room lines order c.order_lines.new.all.items c.order_lines-2.new.all.items new_numbers
    (taken_of values lines c.as_slice-3.result.now (length c.as_slice-count.result.now) (length schema.embeds) c.order_lines-2.new.all.items c.as_slice-3.ensures.value (ap length c.as_slice-count.ensures) taken))
    c.order_lines-2.ensures

pub returns-in_err-lines-clause-room : goal.returns-in_err-lines-clause-room
returns-in_err-lines-clause-room c = never_ok _ c.from_residual.result c.from_residual.ensures.0

pub returns-in_err-lines-clause-darts : goal.returns-in_err-lines-clause-darts
returns-in_err-lines-clause-darts c = never_ok _ c.from_residual.result c.from_residual.ensures.0

pub returns-in_err-order_lines-clause-room : goal.returns-in_err-order_lines-clause-room
returns-in_err-order_lines-clause-room c = never_ok _ c.from_residual-in_err-order_lines.result c.from_residual-in_err-order_lines.ensures.0

pub returns-in_err-order_lines-clause-darts : goal.returns-in_err-order_lines-clause-darts
returns-in_err-order_lines-clause-darts c = never_ok _ c.from_residual-in_err-order_lines.result c.from_residual-in_err-order_lines.ensures.0
