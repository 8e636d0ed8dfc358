use Rattle.std.proofs.Common.{take, map}
use Rattle.gm_model.specs.Rules.{rule_of}
use Rattle.gm_lines.specs.Checking.{AreLines}
use Rattle.gm_tool.proofs.check.lines_of.Given as goal

abbrev pub invariant-loop-rule : goal.invariant-loop-rule
invariant-loop-rule l = AreLines l.schema (map rule_of (take l.rule-index l.rules)) l.refused l.text
