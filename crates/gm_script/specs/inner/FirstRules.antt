-- The rules that a line of a script can name where there may be more of them than 16 bits count.
use Rattle.std.specs.Prelude.{◌^◌, List, map, take}
use Rattle.gm_model.specs.declared.rule.RuleTable.{RuleTable}
use Rattle.gm_model.specs.Rules.{Rule, rule_of}

abbrev pub first_rules : List RuleTable → List Rule
first_rules rules = map rule_of (take (2 ^ 16) rules)
