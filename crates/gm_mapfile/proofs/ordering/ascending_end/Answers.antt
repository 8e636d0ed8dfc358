use Rattle.std.proofs.Common.{◌≡◌, ◌∷◌, [], ◌++◌, get_or, ap, subst, ◌∙◌, arith}
use Rattle.std.specs.Slice.Iter.{chunks_exact_rest}
use Rattle.gm_model.specs.Limits.{most_names}
use Rattle.gm_mapfile.specs.MapFaults.{AreBelow}
use Rattle.gm_mapfile.specs.inner.Rows.{row_in, rows_in}
use Rattle.gm_mapfile.proofs.Chunks.{one_more, no_more, name_live, name_of_line, rows_below}
use Rattle.gm_mapfile.proofs.NextName.{below_more}
use Rattle.gm_mapfile.proofs.ordering.ascending_end.Goals as goal

pub loop-line-preserved : goal.loop-line-preserved
loop-line-preserved c =
    let n = c.args.top in
    let before = c.loop-line.invariant in
    let steps = c.in-Some.ensures.steps in
    let line = c.in-Some.line.now in
    let long = steps.1.1 ∙ before.size in
    let live = name_live n before.front c.args.numbers.now _ line _ before.split steps.1.0 long in
    record {
      front = before.front ++ row_in line ∷ [];
      size = steps.0 ∙ before.size;
      split = one_more n before.front _ _ line _ before.split steps.1.0 long;
      below = below_more before.front (row_in line) (get_or line 0 0) c.loop-line.end (name_of_line line) (omega (arith, c.if-name-end.false)) before.below;
      names = omega (arith, rows_below n most_names c.args.numbers.now c.requires (get_or line 0 0) live);
    }

pub returns-clause-end : goal.returns-clause-end
returns-clause-end c =
    let n = c.args.top in
    let before = c.loop-line.invariant in
    let steps = c.in-None.ensures.steps in
    let whole = no_more n before.front (rows_in n c.args.numbers.now) _ before.split (omega (arith, steps.1.0, before.size)) in
    subst (λ rows. AreBelow rows c.loop-line.end) whole before.below

pub loop-line-init : goal.loop-line-init
loop-line-init c =
    let n = c.args.top in
    let rest : chunks_exact_rest c.into_iter-line-iterator.result ≡ c.args.numbers.now = cc (c.into_iter-line-iterator.ensures.into_iter_gives, c.chunks_exact-line-items.ensures.rest) in
    record {
      front = [];
      size = cc (c.into_iter-line-iterator.ensures.into_iter_gives, c.chunks_exact-line-items.ensures.size);
      split = ap (rows_in n) rest;
      below = λ d live. absurd cc;
      names = omega arith;
    }

pub returns-clause-names : goal.returns-clause-names
returns-clause-names c = c.loop-line.invariant.names

pub returns-then-name-end-clause-end : goal.returns-then-name-end-clause-end
returns-then-name-end-clause-end c = tt

pub returns-then-name-end-clause-names : goal.returns-then-name-end-clause-names
returns-then-name-end-clause-names c = tt

pub overflow_add-end : goal.overflow_add-end
overflow_add-end c =
    let before = c.loop-line.invariant in
    let steps = c.in-Some.ensures.steps in
    let line = c.in-Some.line.now in
    let live = name_live c.args.top before.front c.args.numbers.now _ line _ before.split steps.1.0 (steps.1.1 ∙ before.size) in
    omega (arith, rows_below c.args.top most_names c.args.numbers.now c.requires (get_or line 0 0) live)
