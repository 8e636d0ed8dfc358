use Rattle.std.proofs.Common.{◌≡◌, ◌++◌, take, map}
use Rattle.std.specs.List.{flat_map}
use Rattle.gm_model.specs.Rules.{rule_of, assignment_of}
use Rattle.gm_book.specs.Canonical.{set_text}
use Rattle.gm_book.proofs.printing.print_sets.Given as goal

abbrev pub invariant-loop-set : goal.invariant-loop-set
invariant-loop-set l = l.text ≡ l.fn.text ++ flat_map (set_text l.schema (rule_of l.rule)) (take l.set-index (map assignment_of l.sets))
