use Rattle.std.proofs.Common.{drop}
use Rattle.gm_expr.specs.ExprText.{path_text}
use Rattle.gm_text.proofs.Cuts.{IsSoFar}
use Rattle.gm_expr.proofs.terms.print_path.Given as goal

abbrev pub invariant-loop-label : goal.invariant-loop-label
invariant-loop-label l = IsSoFar l.fn.out (path_text l.path) l.out (path_text (drop l.label-index l.path))
