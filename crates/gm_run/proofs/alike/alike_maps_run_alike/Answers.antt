use Rattle.gm_run.proofs.AlikeResults.{done_alike}
use Rattle.gm_run.proofs.AlikeRuns.{bounds_there, run_there}
use Rattle.gm_run.proofs.alike.alike_maps_run_alike.Goals as goal

pub returns-clause-leaves : goal.returns-clause-leaves
returns-clause-leaves c app after end added removed of_schema sound accepted alike = done_alike app (record { of_schema = of_schema; sound = sound; accepted = accepted }) after end alike added removed

pub returns-clause-runs : goal.returns-clause-runs
returns-clause-runs c rules before other stats outcomes after of_schema accepted sound good order alike = run_there rules before other stats of_schema accepted sound good alike outcomes after order

pub returns-clause-bounds : goal.returns-clause-bounds
returns-clause-bounds c rules before other stats outcomes others after end bounds most of_schema accepted sound good alike = bounds_there rules before other stats of_schema accepted sound good alike outcomes others after end bounds most
