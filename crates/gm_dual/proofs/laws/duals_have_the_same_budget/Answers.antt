use Rattle.std.proofs.Common.{subst}
use Rattle.gm_model.specs.Applications.{IsBudget}
use Rattle.gm_dual.specs.Duals.{dual_application}
use Rattle.gm_dual.proofs.BookLemmas.{accepted_dual, application_twice}
use Rattle.gm_dual.proofs.BudgetLemmas.{budget_dual}
use Rattle.gm_dual.proofs.SoundLemmas.{schema_dual, sound_dual}
use Rattle.gm_dual.proofs.laws.duals_have_the_same_budget.Goals as goal

pub returns : goal.returns
returns c app budget most lawful accepted sound = (
  budget_dual app most lawful accepted budget sound,
  (λ there. subst (λ a. IsBudget a budget) (application_twice app most lawful accepted.in_range accepted.typed)
      (budget_dual (dual_application app) most (schema_dual app.map.schema most lawful) (accepted_dual app.map.schema app.rule most lawful accepted) budget (sound_dual app.map most lawful sound) there)),
)
