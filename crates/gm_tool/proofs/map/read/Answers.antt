use Rattle.std.proofs.lemmas.Result.{IfOk-weaker}
use Rattle.gm_tool.proofs.Stopping.{map_stopped}
use Rattle.gm_tool.proofs.map.read.Goals as goal

pub returns-in-Ok-clause-map : goal.returns-in-Ok-clause-map
returns-in-Ok-clause-map g c = record { stands = c.in-Ok.ensures.map; sound = c.in-Ok.ensures.sound }

pub returns-in-Err-clause-stop : goal.returns-in-Err-clause-stop
returns-in-Err-clause-stop g c = map_stopped c.args.bytes.now c.map_line.result c.because.result (IfOk-weaker c.map_line.result _ _ (λ line says. says c.args.bytes.now c.in-Err.ensures.fault) c.map_line.ensures) c.because.ensures
