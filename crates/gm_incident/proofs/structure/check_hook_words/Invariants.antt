use Rattle.gm_model.specs.Rules.{rule_of}
use Rattle.gm_model.specs.Structure.{AreGood, HasPlainHook}
use Rattle.gm_incident.proofs.structure.check_hook_words.Given as goal

abbrev pub invariant-loop-hook : goal.invariant-loop-hook
invariant-loop-hook l = AreGood (HasPlainHook (rule_of l.rule)) l.hook-index
