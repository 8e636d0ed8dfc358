use Rattle.std.proofs.Common.{◌≡◌, map, take}
use Rattle.gm_model.specs.Rules.{rule_of}
use Rattle.gm_dual.specs.Duals as duals
use Rattle.gm_dual.proofs.book.dual_rules.Given as goal

abbrev pub invariant-loop-rule : goal.invariant-loop-rule
invariant-loop-rule l = map rule_of l.made.items ≡ map (duals.dual_rule l.top) (map rule_of (take l.rule-index l.rules))
