use Rattle.std.proofs.Common.{◌∷◌, [], ◌++◌, subst, ◌∙◌, arith}
use Rattle.gm_mapfile.specs.inner.Building.{IsNotBelow}
use Rattle.gm_mapfile.specs.inner.Rows.{row_in, rows_in}
use Rattle.gm_mapfile.proofs.Chunks.{one_more, no_more, name_of_line}
use Rattle.gm_mapfile.proofs.NextName.{low_more_named, high_more_named}
use Rattle.gm_mapfile.proofs.building.least_not_below.Goals as goal

pub loop-line-preserved-then-name-next : goal.loop-line-preserved-then-name-next
loop-line-preserved-then-name-next c =
    let n = c.args.arena.now.schema.dim in
    let before = c.loop-line.invariant in
    let steps = c.in-Some.ensures.steps in
    let line = c.in-Some.line.now in
    record {
      front = before.front ++ row_in line ∷ [];
      size = steps.0 ∙ before.size;
      split = one_more n before.front _ _ line _ before.split steps.1.0 (steps.1.1 ∙ before.size);
      least = high_more_named before.front (row_in line) c.args.next _ c.loop-line.least _ (name_of_line line) c.if-name-next.true c.lesser.ensures before.least;
    }

pub loop-line-preserved : goal.loop-line-preserved
loop-line-preserved c =
    let n = c.args.arena.now.schema.dim in
    let before = c.loop-line.invariant in
    let steps = c.in-Some.ensures.steps in
    let line = c.in-Some.line.now in
    record {
      front = before.front ++ row_in line ∷ [];
      size = steps.0 ∙ before.size;
      split = one_more n before.front _ _ line _ before.split steps.1.0 (steps.1.1 ∙ before.size);
      least = low_more_named before.front (row_in line) c.args.next _ c.loop-line.least (name_of_line line) c.if-name-next.false before.least;
    }

pub returns : goal.returns
returns c =
    let n = c.args.arena.now.schema.dim in
    let before = c.loop-line.invariant in
    let steps = c.in-None.ensures.steps in
    let whole = no_more n before.front (rows_in n c.args.numbers.now) _ before.split (omega (arith, steps.1.0, before.size)) in
    subst (λ rows. IsNotBelow rows c.args.next c.loop-line.least) whole before.least
