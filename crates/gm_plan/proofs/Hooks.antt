-- The hooks of a rule that is planned.
use Rattle.std.proofs.Common.{◌≡◌, ℕ, ◌<◌, ◌≤◌, IsTrue, List, length, sym, subst}
use Rattle.std.proofs.Math.Nat.{lt_of_lt_of_le}
use Rattle.std.proofs.lemmas.Option.{slice_get-get_or}
use Rattle.std.specs.List.{All, Contains}
use Rattle.gm_model.specs.declared.rule.Side.TheVariants.{Left}
use Rattle.gm_model.specs.declared.schema.Schema.{Schema}
use Rattle.gm_model.specs.Rules.{Rule, has_word}
use Rattle.gm_plan.specs.inner.Plans.{IsPlanned}
use Rattle.gm_plan.proofs.Distinct.{few_below}
use Rattle.gm_theory.proofs.Lists.{get_contained}
use Rattle.gm_theory.proofs.RuleLinks.{contains_has}
use Rattle.gm_theory.proofs.RuleSteps.{word_below}

module _ (schema : Schema) (rule : Rule) (planned : IsPlanned schema rule) where
  pub hook_left : (h : ℕ) → Contains rule.hooks h → IsTrue (has_word rule Left h)
  hook_left h c = contains_has (λ x. IsTrue (has_word rule Left x)) rule.hooks h planned.accepted.in_range.hooks c

  pub hook_below : (h : ℕ) → Contains rule.hooks h → h < length rule.nodes
  hook_below h c = word_below rule Left h (hook_left h c)

  pub few_hooks : length rule.hooks ≤ length rule.nodes
  few_hooks = few_below rule.hooks (length rule.nodes) planned.accepted.in_range.hooks_differ hook_below

  pub low_hooks : (hooks : List ℕ) → hooks ≡ rule.hooks → All (λ h. h < 32) hooks
  low_hooks hooks same = subst (All (λ h. h < 32)) (sym same) (λ k d h. lt_of_lt_of_le (hook_below _ (get_contained rule.hooks k _ (slice_get-get_or rule.hooks k d h))) planned.within.nodes)
