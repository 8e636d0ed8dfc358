use Rattle.std.proofs.Common.{◌≡◌, ◌+◌, ◌++◌, codes, decimal, drop, slice_index, refl, subst, arith}
use Rattle.std.proofs.lemmas.List.{drop_more}
use Rattle.gm_expr.specs.ExprText.{path_text}
use Rattle.gm_model.proofs.Exits.{on_err}
use Rattle.gm_text.proofs.Cuts.{IsSoFar, so_far_cut}
use Rattle.gm_expr.proofs.terms.print_path.Goals as goal

pub returns-in_err-print_step-clause-err : goal.returns-in_err-print_step-clause-err
returns-in_err-print_step-clause-err c =
    let next : path_text (drop c.loop-label.label-index c.args.path.now) ≡ (codes "@" ++ decimal (slice_index c.args.path.now c.loop-label.label-index)) ++ path_text (drop (c.loop-label.label-index + 1) c.args.path.now) = rw (drop_more c.args.path.now c.loop-label.label-index 0 (omega (arith, c.loop-label-test.true))) refl in
    on_err _ (so_far_cut _ _ _ _ _ _ (subst (IsSoFar _ _ _) next c.loop-label.invariant) c.in_err-print_step.ensures.err)
