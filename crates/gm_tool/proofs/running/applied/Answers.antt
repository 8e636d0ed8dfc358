use Rattle.gm_arena.specs.inner.ArenaAsMap.{as_map}
use Rattle.gm_model.specs.Maps.{IsSound}
use Rattle.gm_tool.specs.MadeRuns.{IsMapBytes}
use Rattle.gm_tool.proofs.ArenaMaps.{if_such}
use Rattle.gm_tool.proofs.Lines.{plans_fit, stats_fit, stats_in_order, printable, run_made}
use Rattle.gm_tool.proofs.StepBounds.{unprinted_within, printed_within, printed_least, if_done}
use Rattle.gm_tool.proofs.running.applied.Goals as goal

pub run-requires-clause-plans : goal.run-requires-clause-plans
run-requires-clause-plans g c = plans_fit c.args.loaded.map.arena c.args.book.now c.args.script c.args.plans.now c.requires

pub run-requires-clause-good : goal.run-requires-clause-good
run-requires-clause-good g c = stats_fit c.args.loaded.map.arena c.args.book.now c.args.script c.args.plans.now c.requires

pub run-requires-clause-order : goal.run-requires-clause-order
run-requires-clause-order g c = stats_in_order c.args.loaded.map.arena c.args.book.now c.args.script c.args.plans.now c.requires

pub printed-requires : goal.printed-requires
printed-requires g c = record { printable = printable c.args.loaded.map.arena c.args.book.now c.args.script c.args.plans.now c.requires c.in_ok-report.report.lines c.in_ok-report.ensures.printable }

pub returns-clause-run : goal.returns-clause-run
returns-clause-run g c =
    let run = c.in_ok-report.ensures.run in
    run_made c.args.loaded.map.arena c.args.book.now c.args.script c.args.plans.now c.requires c.args.loaded.map.version c.run.new.arena c.run.ensures.schema c.printed.ensures.lawful
    run.0 run.1 c.in_ok-report.report.darts c.in_ok-report.report.next c.printed.result run.3 run.4 c.in_ok-report.ensures.darts.0 c.in_ok-report.ensures.next (c.printed.ensures.texts run.0 run.2)

pub returns-clause-map : goal.returns-clause-map
returns-clause-map g c = if_such (IsSound (as_map c.run.new.arena)) (λ made. IsMapBytes made.map.items) c.run.ensures.sound c.printed.result c.printed.ensures.map

pub returns-in_err-report-clause-most : goal.returns-in_err-report-clause-most
returns-in_err-report-clause-most g c =
    unprinted_within c.args.loaded.map.version c.args.loaded.map.arena c.run.new.arena c.args.book.now c.args.script c.args.plans.now c.requires c.count.ensures.lawful _ _ c.run.ensures.most

pub returns-clause-most : goal.returns-clause-most
returns-clause-most g c =
    printed_within c.args.loaded.map.version c.args.loaded.map.arena c.run.new.arena c.args.book.now c.args.script c.args.plans.now c.requires c.count.ensures.lawful c.printed.ensures.lawful
    c.in_ok-report.report.lines c.in_ok-report.ensures.only _ _ _ c.run.ensures.most c.run.ensures.schema c.printed.ensures.most

pub returns-clause-least : goal.returns-clause-least
returns-clause-least g c =
    if_done
    (printed_least c.args.loaded.map.version c.args.loaded.map.arena c.run.new.arena c.args.book.now c.args.script c.args.plans.now c.requires c.count.ensures.lawful c.printed.ensures.lawful
    c.in_ok-report.report.lines c.in_ok-report.ensures.only _ _ _ c.in_ok-report.ensures.least) c.printed.result c.printed.ensures.least
