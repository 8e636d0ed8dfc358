use Rattle.std.proofs.Common.{sym, ◌∙◌, arith}
use Rattle.std.proofs.lemmas.List.{append-nil}
use Rattle.gm_model.proofs.Exits.{never_ok}
use Rattle.gm_mapfile.proofs.Reordered.{taken_more, taken_all}
use Rattle.gm_mapfile.proofs.ordering.take_lines.Goals as goal

pub returns-in_err-extend_from_slice : goal.returns-in_err-extend_from_slice
returns-in_err-extend_from_slice g c = never_ok _ c.from_residual.result c.from_residual.ensures.0

pub loop-line-init : goal.loop-line-init
loop-line-init g c = sym (append-nil c.args.taken.now.items)

pub offset_bounds-all-start : goal.offset_bounds-all-start
offset_bounds-all-start g c =
    let within = c.requires c.loop-line.line-index (record { name = 0; at = 0 }) c.loop-line-test.true in
    omega (arith, within)

pub slice_bounds-extend_from_slice-count : goal.slice_bounds-extend_from_slice-count
slice_bounds-extend_from_slice-count g c = omega arith

pub loop-line-smaller : goal.loop-line-smaller
loop-line-smaller g c = omega (arith, c.loop-line-test.true)

pub overflow_mul-start : goal.overflow_mul-start
overflow_mul-start g c =
    let within = c.requires c.loop-line.line-index (record { name = 0; at = 0 }) c.loop-line-test.true in
    omega (arith, within)

pub overflow_add-start : goal.overflow_add-start
overflow_add-start g c =
    let within = c.requires c.loop-line.line-index (record { name = 0; at = 0 }) c.loop-line-test.true in
    omega (arith, within)

pub slice_bounds-extend_from_slice-end : goal.slice_bounds-extend_from_slice-end
slice_bounds-extend_from_slice-end g c =
    let within = c.requires c.loop-line.line-index (record { name = 0; at = 0 }) c.loop-line-test.true in
    omega (arith, within)

pub loop-line-preserved : goal.loop-line-preserved
loop-line-preserved g c =
    c.in_ok-extend_from_slice.ensures.items
    ∙ taken_more c.args.width c.args.all.now c.args.lines.now c.loop-line.line-index _ _ c.loop-line-test.true c.loop-line.invariant

pub returns : goal.returns
returns g c = taken_all c.args.width c.args.all.now c.args.lines.now c.loop-line.line-index _ _ c.loop-line-test.false c.loop-line.invariant
