use Rattle.gm_apply.proofs.Assignments.{none_more, among_them}
use Rattle.gm_apply.proofs.reading.set_of.Goals as goal

pub loop-set-preserved : goal.loop-set-preserved
loop-set-preserved c = none_more c.args.sets.now c.args.embed c.loop-set.set-index c.set-item.result c.set-item.is c.if-set-embed.false c.loop-set.invariant

pub returns-then-set-embed-clause-among : goal.returns-then-set-embed-clause-among
returns-then-set-embed-clause-among c = among_them c.args.sets.now c.args.embed c.loop-set.set-index c.set-item.result c.set-item.is c.loop-set-test.true
