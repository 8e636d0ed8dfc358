use Rattle.std.proofs.Common.{map}
use Rattle.gm_model.specs.Rules.{rule_of}
use Rattle.gm_script.proofs.Loop.{done_script, done_fault}
use Rattle.gm_script.proofs.reading.read_stats.Goals as goal

pub returns-clause-script : goal.returns-clause-script
returns-clause-script c = done_script c.args.bytes.now (map rule_of c.args.rules.now) c.args.dim c.compare_stats.new.compared c.in_ok-compare_stats.ensures.all c.finish.result c.finish.ensures.stats

pub returns-clause-fault : goal.returns-clause-fault
returns-clause-fault c = done_fault c.args.bytes.now (map rule_of c.args.rules.now) c.args.dim c.compare_stats.new.compared c.in_ok-compare_stats.ensures.all c.finish.result c.finish.ensures.fault
