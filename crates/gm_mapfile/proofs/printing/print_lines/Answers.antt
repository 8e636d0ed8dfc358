use Rattle.std.proofs.Common.{◌++◌, ap, ◌∙◌, arith}
use Rattle.gm_model.proofs.Exits.{never_ok}
use Rattle.gm_mapfile.proofs.Printed.{slots_long, values_few}
use Rattle.gm_mapfile.proofs.PrintedLines.{none_printed, all_printed, all_most, all_steps, name_low, one_more, more_most}
use Rattle.gm_mapfile.proofs.printing.print_lines.Goals as goal

pub write_line-start-requires-clause-names : goal.write_line-start-requires-clause-names
write_line-start-requires-clause-names g c =
    let long = slots_long c.args.arena.now c.row-row.result.name c.row-row.result.alphas.now c.row-row.result.values.now c.requires c.row-row.ensures.dart in
    omega (arith, long, c.requires.dim)

pub write_line-start-requires-clause-values : goal.write_line-start-requires-clause-values
write_line-start-requires-clause-values g c = values_few c.args.arena.now c.row-row.result.name c.row-row.result.alphas.now c.row-row.result.values.now c.requires c.row-row.ensures.dart

pub returns-in_err-put_from-clause-most : goal.returns-in_err-put_from-clause-most
returns-in_err-put_from-clause-most g c =
    let m = c.args.arena.now in
    let long = slots_long m c.row-row.result.name c.row-row.result.alphas.now c.row-row.result.values.now c.requires c.row-row.ensures.dart in
    omega (
      arith,
      more_most m c.requires c.loop-slot.from c.args.text.now c.loop-slot.text c.args.steps.now c.loop-slot.steps c.loop-slot.invariant c.in-Some.slot.at c.row-row.result.name c.in-Some.ensures.slot c.row-row.ensures.name
          c.write_line-start.new.steps (omega (arith, long, c.in-Some.ensures.cost, c.row-row.ensures.cost, c.write_line-start.ensures.cost)),
    )

pub overflow_add-from : goal.overflow_add-from
overflow_add-from g c =
    let held = c.requires.dart c.row-row.result.name _ c.row-row.ensures.dart in
    omega (arith, held.below_next, c.requires.few_names)

pub loop-slot-smaller : goal.loop-slot-smaller
loop-slot-smaller g c =
    let m = c.args.arena.now in
    let held = c.requires.dart c.row-row.result.name _ c.row-row.ensures.dart in
    let low = name_low m c.requires c.loop-slot.from c.args.text.now c.loop-slot.text c.args.steps.now c.loop-slot.steps c.loop-slot.invariant c.in-Some.slot.at c.row-row.result.name c.in-Some.ensures.slot c.row-row.ensures.name in
    omega (arith, low, held.below_next)

pub loop-slot-preserved : goal.loop-slot-preserved
loop-slot-preserved g c =
    let m = c.args.arena.now in
    let long = slots_long m c.row-row.result.name c.row-row.result.alphas.now c.row-row.result.values.now c.requires c.row-row.ensures.dart in
    one_more m c.requires c.loop-slot.from c.args.text.now c.loop-slot.text c.args.steps.now c.loop-slot.steps c.loop-slot.invariant c.in-Some.slot.at c.row-row.result.name c.in-Some.ensures.slot c.row-row.ensures.name
    _ c.put_from.new.self c.write_line-start.new.steps c.row-row.ensures.dart (c.in_ok-put_from.ensures.ok ∙ ap (λ xs. c.loop-slot.text ++ xs) c.write_line-start.ensures.line) (omega (arith, long, c.in-Some.ensures.cost, c.row-row.ensures.cost, c.write_line-start.ensures.cost)) (omega (arith, c.in-Some.ensures.cost, c.row-row.ensures.cost, c.write_line-start.ensures.cost))

pub returns-clause-lines : goal.returns-clause-lines
returns-clause-lines g c =
    all_printed c.args.arena.now c.requires c.loop-slot.from c.args.text.now c.loop-slot.text c.args.steps.now c.loop-slot.steps c.loop-slot.invariant c.in_default.ensures.slot

pub returns-clause-least : goal.returns-clause-least
returns-clause-least g c =
    omega (arith, all_steps c.args.arena.now c.requires c.loop-slot.from c.args.text.now c.loop-slot.text c.args.steps.now c.loop-slot.steps c.loop-slot.invariant c.in_default.ensures.slot, c.in_default.ensures.cost)

pub loop-slot-init : goal.loop-slot-init
loop-slot-init g c = none_printed c.args.arena.now c.args.text.now c.args.steps.now

pub write_line-start-requires-clause-live : goal.write_line-start-requires-clause-live
write_line-start-requires-clause-live g c = c.row-row.ensures.live

pub returns-in_err-put_from-clause-lines : goal.returns-in_err-put_from-clause-lines
returns-in_err-put_from-clause-lines g c = never_ok _ c.from_residual.result c.from_residual.ensures.0

pub returns-in_err-put_from-clause-least : goal.returns-in_err-put_from-clause-least
returns-in_err-put_from-clause-least g c = never_ok _ c.from_residual.result c.from_residual.ensures.0

pub returns-clause-most : goal.returns-clause-most
returns-clause-most g c =
    omega (arith, all_most c.args.arena.now c.requires c.loop-slot.from c.args.text.now c.loop-slot.text c.args.steps.now c.loop-slot.steps c.loop-slot.invariant c.in_default.ensures.slot, c.in_default.ensures.cost)
