use Rattle.std.proofs.Common.{arith}
use Rattle.gm_theory.proofs.Lists.{get_contained}
use Rattle.gm_eval.proofs.Keeping.{one_further}
use Rattle.gm_eval.proofs.reader.Reader.is_walked.Goals as goal

pub loop-position-init : goal.loop-position-init
loop-position-init c = record { all = λ p less. absurd (omega (arith, less)) }

pub loop-position-preserved : goal.loop-position-preserved
loop-position-preserved c = record {
  all = one_further c.args.self.now.found.now c.args.node c.args.scratch.now.walked c.loop-position.position c.slot-slot.result c.slot-slot.ensures (get_contained c.args.scratch.now.walked _ c.slot-slot.result c.in-Some.ensures) c.loop-position.invariant.all;
}

pub returns-clause-all : goal.returns-clause-all
returns-clause-all c = λ is p less. c.loop-position.invariant.all p (omega (arith, less, c.loop-position-test.false, c.loop-position.auto.position-end, c.positions-position-end.ensures.value))
