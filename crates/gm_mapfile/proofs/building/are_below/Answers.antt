use Rattle.std.proofs.Common.{◌<◌, subst, sym, All, arith, get_or}
use Rattle.std.proofs.lemmas.Bool.{and_parts, ltb-true}
use Rattle.std.proofs.lemmas.List.{take_more, take_all}
use Rattle.std.proofs.lemmas.List.Elements.{All-push}
use Rattle.gm_mapfile.proofs.building.are_below.Goals as goal

pub loop-number-preserved : goal.loop-number-preserved
loop-number-preserved c = record {
  below = λ told.
      let both = and_parts c.loop-number.below _ told in
      let numbers = c.args.numbers.now in
      let at = c.loop-number.number-index in
      subst (All (λ x. x < c.args.end)) (sym (take_more numbers at 0 c.loop-number-test.true))
      (All-push (λ x. x < c.args.end) _ (get_or numbers at 0) (c.loop-number.invariant.below both.0) (ltb-true _ _ both.1));
}

pub returns : goal.returns
returns c = λ told.
    subst (All (λ x. x < c.args.end)) (take_all c.loop-number.number-index c.args.numbers.now (omega (arith, c.loop-number-test.false))) (c.loop-number.invariant.below told)
