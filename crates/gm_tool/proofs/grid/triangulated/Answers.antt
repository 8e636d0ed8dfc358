use Rattle.std.proofs.Common.{subst}
use Rattle.gm_arena.specs.inner.ArenaAsMap.{as_map}
use Rattle.gm_grid.proofs.GridSound.{is_sound}
use Rattle.gm_model.specs.Maps.{IsDart}
use Rattle.gm_model.specs.Orbits.{HasCount}
use Rattle.gm_tool.proofs.Gridding.{plans_fit, stats_fit, stats_in_order, cut_within, counted_within, runs_least, line_made}
use Rattle.gm_tool.proofs.LoadCounts.{always}
use Rattle.gm_tool.proofs.grid.triangulated.Goals as goal

pub run-requires-clause-sound : goal.run-requires-clause-sound
run-requires-clause-sound g c = is_sound c.args.size c.requires.small (as_map c.args.arena.now) c.requires.grid

pub run-requires-clause-plans : goal.run-requires-clause-plans
run-requires-clause-plans g c = plans_fit c.args.size c.requires.small c.args.arena.now c.requires.grid c.args.plans.now c.requires.plans c.args.script.now.stats c.requires.script

pub run-requires-clause-good : goal.run-requires-clause-good
run-requires-clause-good g c = stats_fit c.args.size c.requires.small c.args.arena.now c.requires.grid c.args.plans.now c.requires.plans c.args.script.now.stats c.requires.script

pub run-requires-clause-order : goal.run-requires-clause-order
run-requires-clause-order g c = stats_in_order c.args.size c.requires.small c.args.arena.now c.requires.grid c.args.plans.now c.requires.plans c.args.script.now.stats c.requires.script

pub returns-in_err-report-clause-most : goal.returns-in_err-report-clause-most
returns-in_err-report-clause-most g c = cut_within c.args.size c.requires.small c.args.arena.now c.requires.grid c.args.plans.now c.requires.plans c.args.script.now.stats c.requires.script _ _ c.run.ensures.most

pub returns-in_err-cells-clause-most : goal.returns-in_err-cells-clause-most
returns-in_err-cells-clause-most g c =
    counted_within c.args.size c.requires.small c.args.arena.now c.requires.grid c.args.plans.now c.requires.plans c.args.script.now.stats c.requires.script
    c.run.new.arena c.in_ok-report.ensures.run.0 c.in_ok-report.ensures.run.1 c.in_ok-report.ensures.run.3 c.in_ok-report.ensures.run.4 c.run.ensures.schema (subst (HasCount (IsDart (as_map c.run.new.arena))) c.in_ok-report.ensures.darts.0 c.in_ok-report.ensures.darts.1)
    _ _ _ c.run.ensures.most c.cells_of.ensures.cost

pub returns-clause-line : goal.returns-clause-line
returns-clause-line g c =
    line_made c.args.size c.requires.small c.args.arena.now c.requires.grid c.args.plans.now c.requires.plans c.args.script.now.stats c.requires.script
    c.run.new.arena c.in_ok-report.ensures.run.0 c.in_ok-report.ensures.run.1 c.in_ok-report.ensures.run.3 c.in_ok-report.ensures.run.4 c.run.ensures.schema (subst (HasCount (IsDart (as_map c.run.new.arena))) c.in_ok-report.ensures.darts.0 c.in_ok-report.ensures.darts.1)
    _ _ _ c.line_of.result (rw c.as_slice.ensures.value c.in_ok-cells.ensures.cells) c.in_ok-report.ensures.darts.0 c.in_ok-report.ensures.next c.in_ok-report.report.lines c.in_ok-report.ensures.run.2 c.line_of.ensures

pub returns-clause-most : goal.returns-clause-most
returns-clause-most g c =
    counted_within c.args.size c.requires.small c.args.arena.now c.requires.grid c.args.plans.now c.requires.plans c.args.script.now.stats c.requires.script
    c.run.new.arena c.in_ok-report.ensures.run.0 c.in_ok-report.ensures.run.1 c.in_ok-report.ensures.run.3 c.in_ok-report.ensures.run.4 c.run.ensures.schema (subst (HasCount (IsDart (as_map c.run.new.arena))) c.in_ok-report.ensures.darts.0 c.in_ok-report.ensures.darts.1)
    _ _ _ c.run.ensures.most c.cells_of.ensures.cost

pub returns-clause-least : goal.returns-clause-least
returns-clause-least g c =
    always (runs_least c.args.size c.requires.small c.args.arena.now c.requires.grid c.args.plans.now c.requires.plans c.args.script.now.stats c.requires.script _ _ _ c.in_ok-report.ensures.least c.cells_of.ensures.least) c.line_of.result
