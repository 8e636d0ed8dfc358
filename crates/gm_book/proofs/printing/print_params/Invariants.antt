use Rattle.std.proofs.Common.{◌≡◌, ◌++◌, take, codes}
use Rattle.std.specs.List.{flat_map}
use Rattle.gm_book.specs.Canonical.{param_text}
use Rattle.gm_book.proofs.printing.print_params.Given as goal

abbrev pub invariant-loop-param : goal.invariant-loop-param
invariant-loop-param l = l.text ≡ l.initial.text ++ flat_map (λ param. codes ", " ++ param_text param) (take l.param-index l.others)
