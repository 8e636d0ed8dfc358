use Rattle.std.proofs.Common.{◌+◌, ◌*◌, sym, subst, arith}
use Rattle.gm_grid.specs.inner.Building.{AreLinked}
use Rattle.gm_grid.proofs.Stages.{dart_of_square, in_grid}
use Rattle.gm_grid.proofs.grid.link_square.Goals as goal

pub loop-number-init : goal.loop-number-init
loop-number-init g c = record {
  linked = subst (λ d. AreLinked c.args.m d c.args.arena.now) (sym (dart_of_square c.args.m c.args.square 0 (8 * c.args.square) (omega arith))) c.requires.before;
  cost = omega arith;
}

pub link_dart-requires-clause-within : goal.link_dart-requires-clause-within
link_dart-requires-clause-within g c =
    let within = in_grid c.args.m c.args.square c.requires.below in
    (within.0, within.1, c.loop-number-test.true)

pub link_dart-requires-clause-before : goal.link_dart-requires-clause-before
link_dart-requires-clause-before g c = c.loop-number.invariant.linked

pub loop-number-preserved : goal.loop-number-preserved
loop-number-preserved g c = record {
  linked = subst (λ d. AreLinked c.args.m d c.link_dart.new.arena) (omega arith) c.link_dart.ensures.linked;
  cost = omega (arith, c.loop-number.invariant.cost, c.link_dart.ensures.cost);
}

pub returns-clause-linked : goal.returns-clause-linked
returns-clause-linked g c =
    let end = dart_of_square c.args.m c.args.square c.loop-number.number (8 * c.args.square + 8) (omega (arith, c.loop-number-test.false, c.loop-number.auto.number-end)) in
    subst (λ d. AreLinked c.args.m d c.loop-number.arena) end c.loop-number.invariant.linked
