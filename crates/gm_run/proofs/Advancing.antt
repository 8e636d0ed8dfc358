-- What one line of a script comes to, by the call that applies its rule.
use Rattle.std.proofs.Common.{◌≡◌, ◌≢◌, ℕ, ◌+◌, ◌<◌, ◌≤◌, List, length, get_or, true, false, IsTrue, None, Some, Option, refl, sym, ap, subst, ◌∙◌, Result, Ok, Err, arith}
use Rattle.std.specs.FinMap.{get}
use Rattle.std.specs.Prelude.{slice_get, MatchOption, MatchResult}
use Rattle.std.specs.Option.{is_some, option_map}
use Rattle.std.proofs.lemmas.List.{length-map}
use Rattle.std.proofs.lemmas.Option.{slice_get_within, slice_get-get_or, slice_get-map, same_Some}
use Rattle.gm_model.specs.declared.memory.OutOfMemory.{OutOfMemory}
use Rattle.gm_model.specs.declared.schema.Schema.{Schema}
use Rattle.gm_model.specs.Statements.{Line}
use Rattle.gm_model.specs.declared.value.Value.{Value}
use Rattle.gm_model.specs.Acceptance.{IsAccepted}
use Rattle.gm_model.specs.Applications.{Application, Cause, IsDone, IsRefused, IsBudget}
use Rattle.gm_model.specs.Applications as causes
use Rattle.gm_model.specs.Kinds.{AreGoodParams}
use Rattle.gm_model.specs.Limits.{most_darts}
use Rattle.gm_model.specs.Maps.{Map, IsDart}
use Rattle.gm_model.specs.Rules.{Rule, rule_of}
use Rattle.gm_model.specs.Runs.{IsOutcome, IsLineOutcome}
use Rattle.gm_model.specs.Budgets.{IsLineBudget}
use Rattle.gm_model.specs.Runs as runs
use Rattle.gm_apply.specs.inner.Outcomes.{IsRefusedFor}
use Rattle.gm_commit.specs.declared.applied.Applied.{Applied}
use Rattle.gm_apply.specs.declared.refusal.Refusal.{Refusal}
use Rattle.gm_apply.specs.declared.refusal.Refusal.TheVariants as refusals
use Rattle.gm_arena.specs.inner.ArenaAsMap.{as_map}
use Rattle.gm_arena.specs.declared.slot.Slot.{Slot}
use Rattle.gm_arena.specs.inner.ArenaMap.{ArenaMap, IsAt}
use Rattle.gm_arena.specs.inner.Lawful.{IsLawful}
use Rattle.gm_match.specs.inner.Outcome as matches
use Rattle.gm_commit.specs.inner.EditLists.{HasSameRows}
use Rattle.gm_plan.specs.inner.Plans.{PlanOf, IsPlanned}
use Rattle.gm_theory.specs.inner.Outcomes.{IsGoodLine}
use Rattle.gm_theory.specs.inner.Suited.{IsRuleOf}
use Rattle.gm_run.specs.declared.outcome.Outcome.{Outcome}
use Rattle.gm_run.specs.declared.outcome.Outcome.TheVariants as outcomes
use Rattle.gm_run.specs.inner.Lines.{cause_of}
use Rattle.gm_run.specs.inner.Progress.{rules_of, IsPlanFor, ArePlansFor}
use Rattle.gm_run.specs.inner.Standing.{HasLine, WasDone, WasRefused, IsUnapplied}

-- ---- one line

refused_for : (app : Application) (refusal : Refusal) → (refusal ≢ refusals.OutOfMemory) → IsRefusedFor app refusal → (cause : Cause) × (cause_of refusal ≡ Some cause) × IsRefused app cause
refused_for app (refusals.NoDart index) other h = (causes.NoDart index, refl, h)
refused_for app (refusals.Arc x p i) other h = (causes.Arc x p i, refl, h)
refused_for app (refusals.Same x p y q) other h = (causes.Same x p y q, refl, h)
refused_for app refusals.PreNoValue other h = (causes.PreNoValue, refl, h)
refused_for app refusals.PreFalse other h = (causes.PreFalse, refl, h)
refused_for app (refusals.FullDarts live more) other h = (causes.FullDarts live more, refl, h)
refused_for app (refusals.FullNames next more) other h = (causes.FullNames next more, refl, h)
refused_for app (refusals.NoValue e x) other h = (causes.NoValue e x, refl, h)
refused_for app refusals.OutOfMemory other h = absurd (other refl)

-- the outcome of a line is that of its rule's application
outcome_here : (rules : List Rule) (before after : Map) (line : Line) (rule : Rule) (outcome : runs.Outcome) → slice_get rules line.rule ≡ Some rule → IsLineOutcome rules before line outcome after → IsOutcome (runs.application_by before rule line) outcome after
outcome_here rules before after line rule outcome is h = subst (λ r. IsOutcome (runs.application_by before r line) outcome after) (same_Some h.rule rule (sym h.rule_is ∙ is)) h.outcome_is

-- the budget of a line is that of its rule's application
budget_here : (rules : List Rule) (before : Map) (line : Line) (rule : Rule) (most : ℕ) → slice_get rules line.rule ≡ Some rule → IsLineBudget rules before line most → IsBudget (runs.application_by before rule line) most
budget_here rules before line rule most is budget = subst (λ r. IsBudget (runs.application_by before r line) most) (same_Some budget.rule rule (sym budget.rule_is ∙ is)) budget.budget

module _ (rules : List Rule) (m n : ArenaMap) (line : Line) (rule : Rule) (rule_is : slice_get rules line.rule ≡ Some rule) (start steps : ℕ)
    (within : (most : ℕ) → IsBudget (matches.application_of m rule line.hooks line.params) most → steps ≤ start + most) where
  within_line : (most : ℕ) → IsLineBudget rules (as_map m) line most → steps ≤ start + most
  within_line most given = within most (budget_here rules (as_map m) line rule most rule_is given)

  pub has_done : (applied : Applied) → IsDone (matches.application_of m rule line.hooks line.params) (as_map n) applied.added applied.removed → start + applied.added + applied.removed ≤ steps
      → HasLine rules (as_map m) line (as_map n) start steps (outcomes.Done applied)
  has_done applied done least = WasDone applied (record { rule = rule; rule_is = rule_is; outcome_is = done }) within_line (omega (arith, least))

  pub has_refused : (refusal : Refusal) → (refusal ≢ refusals.OutOfMemory) → IsRefusedFor (matches.application_of m rule line.hooks line.params) refusal → HasSameRows m n → start ≤ steps
      → HasLine rules (as_map m) line (as_map n) start steps (outcomes.Refused refusal)
  has_refused refusal other refused same rises =
      let cause = refused_for (matches.application_of m rule line.hooks line.params) refusal other refused in
      WasRefused refusal cause.0 cause.1 (record { rule = rule; rule_is = rule_is; outcome_is = (cause.2, ap as_map same) }) within_line rises

  pub is_unapplied : HasSameRows m n → IsUnapplied rules (as_map m) line (as_map n) start steps
  is_unapplied same = record { same = ap as_map same; most = within_line }

-- ---- the line's plan

pub no_less : (n more : ℕ) → n ≤ n + more
no_less n more = omega arith

-- an arena has no more darts than a map may have
pub never_more : (m : ArenaMap) (n : ℕ) → IsLawful m → n ≡ m.count → most_darts < n → ⊥
never_more m n lawful same over = let few = lawful.few_darts in omega (arith, few, same, over)

pub named : (plans : List PlanOf) (line : Line) → IsGoodLine (rules_of plans) line → line.rule < length plans
named plans line good = omega (arith, slice_get_within (rules_of plans) line.rule good.rule good.rule_is, length-map plans (λ (p : PlanOf). rule_of p.table))

module _ (plans : List PlanOf) (line : Line) (plan : PlanOf) (good : IsGoodLine (rules_of plans) line) (is : plan ≡ get_or plans line.rule plan) where
  rule_is : slice_get (rules_of plans) line.rule ≡ Some (rule_of plan.table)
  rule_is = slice_get-map (λ (p : PlanOf). rule_of p.table) plans line.rule ∙ ap (option_map (λ (p : PlanOf). rule_of p.table)) (slice_get-get_or plans line.rule plan (named plans line good) ∙ ap Some (sym is))

  same_rule : good.rule ≡ rule_of plan.table
  same_rule = same_Some good.rule (rule_of plan.table) (sym good.rule_is ∙ rule_is)

  -- the line has a dart's name for each hook of the plan's rule, and a value for each parameter
  pub hooks_fit : (hooks : List ℕ) → hooks ≡ line.hooks → length hooks ≡ length (rule_of plan.table).hooks
  hooks_fit hooks same = ap length same ∙ good.hooks ∙ ap (λ (r : Rule). length r.hooks) same_rule

  pub params_fit : (params : List Value) → params ≡ line.params → AreGoodParams (rule_of plan.table) params
  params_fit params same = subst (AreGoodParams (rule_of plan.table)) (sym same) (subst (λ (r : Rule). AreGoodParams r line.params) same_rule good.params)

  pub plan_for : (schema : Schema) → ArePlansFor schema plans → IsPlanFor schema plan
  plan_for schema all_for = subst (IsPlanFor schema) (sym is) (all_for line.rule plan (named plans line good))

-- a budget of the line is one of its application
pub line_budget_of : (plans : List PlanOf) (m : ArenaMap) (line : Line) (plan : PlanOf) (good : IsGoodLine (rules_of plans) line) (is : plan ≡ get_or plans line.rule plan) (most : ℕ) → IsLineBudget (rules_of plans) (as_map m) line most
    → IsBudget (matches.application_of m (rule_of plan.table) line.hooks line.params) most
line_budget_of plans m line plan good is most budget = budget_here (rules_of plans) (as_map m) line (rule_of plan.table) most (rule_is plans line plan good is) budget

-- the rule of this number is accepted
pub rule_accepted_here : (plans : List PlanOf) (m : ArenaMap) (rule : ℕ) (plan : PlanOf) → rule < length plans → plan ≡ get_or plans rule plan → ArePlansFor m.schema plans → IsLawful m → IsPlanned plan.schema (rule_of plan.table) → IsRuleOf m.schema (rules_of plans) rule
rule_accepted_here plans m rule plan within is all_for lawful planned = record {
  of_schema = lawful.schema;
  accepted = λ other at. subst (IsAccepted m.schema) (same_Some (rule_of plan.table) other (sym here ∙ at)) (subst (λ (s : Schema). IsAccepted s (rule_of plan.table)) (sym for_it) planned.accepted);
}
  where
    here : slice_get (rules_of plans) rule ≡ Some (rule_of plan.table)
    here = slice_get-map (λ (p : PlanOf). rule_of p.table) plans rule ∙ ap (option_map (λ (p : PlanOf). rule_of p.table)) (slice_get-get_or plans rule plan within ∙ ap Some (sym is))

    for_it : m.schema ≡ plan.schema
    for_it = subst (IsPlanFor m.schema) (sym is) (all_for rule plan within)

module _ (plans : List PlanOf) (m n : ArenaMap) (line : Line) (plan : PlanOf) (good : IsGoodLine (rules_of plans) line) (is : plan ≡ get_or plans line.rule plan) (start steps : ℕ)
    (within : (most : ℕ) → IsBudget (matches.application_of m (rule_of plan.table) line.hooks line.params) most → steps ≤ start + most) where
  pub line_done : (applied : Applied) → IsDone (matches.application_of m (rule_of plan.table) line.hooks line.params) (as_map n) applied.added applied.removed → start + applied.added + applied.removed ≤ steps
      → HasLine (rules_of plans) (as_map m) line (as_map n) start steps (outcomes.Done applied)
  line_done applied done least =
      has_done (rules_of plans) m n line (rule_of plan.table) (rule_is plans line plan good is) start steps within applied done least

  pub line_refused : (refusal : Refusal) (result : Result Outcome OutOfMemory) → MatchResult result (λ outcome. (outcome ≡ outcomes.Refused refusal) × (refusal ≢ refusals.OutOfMemory)) (λ _. refusal ≡ refusals.OutOfMemory)
      → IsRefusedFor (matches.application_of m (rule_of plan.table) line.hooks line.params) refusal × HasSameRows m n → start ≤ steps
      → MatchResult result (HasLine (rules_of plans) (as_map m) line (as_map n) start steps) (λ _. IsUnapplied (rules_of plans) (as_map m) line (as_map n) start steps)
  line_refused refusal (Ok outcome) told refused rises =
      subst (HasLine (rules_of plans) (as_map m) line (as_map n) start steps) (sym told.0)
      (has_refused (rules_of plans) m n line (rule_of plan.table) (rule_is plans line plan good is) start steps within refusal told.1 refused.0 refused.1 rises)
  line_refused refusal (Err error) told refused rises =
      is_unapplied (rules_of plans) m n line (rule_of plan.table) (rule_is plans line plan good is) start steps within refused.1

-- ---- a dart by its name

pub live_at : (m : ArenaMap) (name : ℕ) (slot : Option Slot) → IsLawful m → MatchOption slot (get m.darts name ≡ None) (λ s. IsAt m s.at name) → IsTrue (is_some slot) → IsDart (as_map m) name
live_at m name (Some s) lawful at some = lawful.live s.at name at
live_at m name None lawful at some = absurd cc

pub dead_at : (m : ArenaMap) (name : ℕ) (slot : Option Slot) → MatchOption slot (get m.darts name ≡ None) (λ s. IsAt m s.at name) → is_some slot ≡ false → IsDart (as_map m) name → ⊥
dead_at m name None at none live = let gone : is_some (get m.darts name) ≡ false = ap is_some at in let here : true ≡ false = sym live ∙ gone in absurd cc
dead_at m name (Some s) at none live = absurd cc
