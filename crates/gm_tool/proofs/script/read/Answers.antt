use Rattle.std.proofs.Common.{List, map, subst}
use Rattle.gm_model.specs.Rules.{Rule, rule_of}
use Rattle.gm_script.specs.inner.Faults.{IsFaultOf}
use Rattle.gm_tool.specs.inner.Stops.{IsReadScript}
use Rattle.gm_tool.proofs.ReadBooks.{all_first}
use Rattle.gm_tool.proofs.Stopping.{script_stopped}
use Rattle.gm_tool.proofs.script.read.Goals as goal

pub returns-in-Ok-clause-script : goal.returns-in-Ok-clause-script
returns-in-Ok-clause-script c =
    subst (λ (rules : List Rule). IsReadScript c.args.book.now.schema.dim rules c.args.bytes.now c.in-Ok.script) (all_first c.requires.0 c.args.book.now c.requires.1) c.in-Ok.ensures.script

pub returns-in-Err-clause-stop : goal.returns-in-Err-clause-stop
returns-in-Err-clause-stop c =
    let fault = subst (λ (rules : List Rule). IsFaultOf c.args.bytes.now c.args.book.now.schema.dim rules c.in-Err.fault) (all_first c.requires.0 c.args.book.now c.requires.1) c.in-Err.ensures.fault in
    script_stopped c.args.bytes.now c.script_line.result c.because.result c.args.book.now.schema.dim (map rule_of c.args.book.now.rules) c.in-Err.fault fault c.script_line.ensures c.because.ensures
