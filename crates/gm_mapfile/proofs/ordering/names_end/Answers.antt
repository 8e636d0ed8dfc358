use Rattle.std.proofs.Common.{arith}
use Rattle.gm_mapfile.proofs.ordering.names_end.Goals as goal

pub loop-number-init : goal.loop-number-init
loop-number-init c = record {
  above = λ k d less. absurd (omega (arith, less));
  few = omega arith;
}

pub overflow_add-number : goal.overflow_add-number
overflow_add-number c = omega (arith, c.requires c.loop-number.number-index 0 c.loop-number-test.true)

pub loop-number-smaller : goal.loop-number-smaller
loop-number-smaller c = omega (arith, c.loop-number-test.true)

pub returns-clause-above : goal.returns-clause-above
returns-clause-above c = λ k d less. c.loop-number.invariant.above k d (omega (arith, less, c.loop-number-test.false))

pub returns-clause-few : goal.returns-clause-few
returns-clause-few c = c.loop-number.invariant.few
