-- The clause is the law.
use Rattle.gm_theory.proofs.BudgetsFound.{applications_have_budgets as have_budgets}
use Rattle.gm_theory.proofs.outcomes.applications_have_budgets.Goals as goal

pub returns : goal.returns
returns c = have_budgets
