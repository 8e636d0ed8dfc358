use Rattle.std.proofs.Common.{ℕ, ◌<◌}
use Rattle.gm_model.specs.declared.rule.Side.TheVariants.{Right}
use Rattle.gm_model.specs.Components.{HasLetterIn}
use Rattle.gm_model.specs.Labels.{has}
use Rattle.gm_model.specs.Rules.{rule_of}
use Rattle.gm_plan.proofs.sources.has_letters_among.Given as goal

abbrev pub invariant-loop-place : goal.invariant-loop-place
invariant-loop-place l = (m : ℕ) → m < l.place → HasLetterIn (rule_of l.rule) Right (has l.labels) l.node m
