-- Each good line has an outcome and a budget, and so have the lines that an `each` stands for.
use Rattle.std.proofs.Common.{◌≡◌, ℕ, ◌+◌, ◌⊎◌, false, List, [], ◌∷◌, Some, slice_get, refl, sym, ◌∙◌, subst, inl, inr}
use Rattle.gm_model.specs.declared.schema.Schema.{Schema}
use Rattle.gm_model.specs.Statements.{Line}
use Rattle.gm_model.specs.declared.value.Value.{Value}
use Rattle.gm_model.specs.declared.word.Mask.{Mask}
use Rattle.gm_model.specs.Acceptance.{IsAccepted}
use Rattle.gm_model.specs.Applications.{IsBudget}
use Rattle.gm_model.specs.Budgets.{IsLineBudget, TurnCosts, AreTurnCosts, changed_darts, done_part}
use Rattle.gm_model.specs.Kinds.{AreGoodParams}
use Rattle.gm_model.specs.Maps.{Map, IsDart, IsSchema}
use Rattle.gm_model.specs.Rules.{Rule}
use Rattle.gm_model.specs.Runs.{Outcome, Done, Refused, IsOutcome, IsLineOutcome, application_by, Turn, Taken, Passed, AreTurns, line_at}
use Rattle.gm_theory.proofs.BudgetsFound.{applications_have_budgets}
use Rattle.gm_theory.proofs.Lists.{some_same}
use Rattle.gm_theory.proofs.OutcomesFound.{applications_have_outcomes}
use Rattle.gm_theory.proofs.Tests.{true_or_false, not_both}
use Rattle.gm_theory.proofs.ValuesKept.{applications_keep_sound_maps}
use Rattle.gm_theory.specs.inner.Outcomes.{IsGoodLine, IsGoodEach, IsSoundOf}
use Rattle.gm_theory.specs.inner.Suited.{IsRuleOf}

module _ (schema : Schema) (rules : List Rule) where
  -- ---- a line

  pub record LineFound (before : Map) (line : Line) : Type 0 where
    pub outcome : Outcome
    pub after : Map
    pub is : IsLineOutcome rules before line outcome after
    pub sound : IsSoundOf schema after

  -- an outcome leaves a sound map of the schema
  pub sound_after : (before : Map) (rule : Rule) (line : Line) → IsSchema schema → IsSoundOf schema before → IsAccepted before.schema rule → AreGoodParams rule line.params →
      (outcome : Outcome) (after : Map) → IsOutcome (application_by before rule line) outcome after → IsSoundOf schema after
  sound_after before rule line of_schema here accepted params (Done added removed) after done = record {
    schema_is = done.result_is.schema ∙ here.schema_is;
    sound = applications_keep_sound_maps (application_by before rule line) after added removed (subst IsSchema (sym here.schema_is) of_schema) here.sound accepted params done;
  }
  sound_after before rule line of_schema here accepted params (Refused cause) after refused = subst (IsSoundOf schema) (sym refused.1) here
  sound_after before rule line of_schema here accepted params other after none = absurd none

  -- the rule is accepted for each map of the schema
  pub rule_accepted : (before : Map) (index : ℕ) (rule : Rule) → IsRuleOf schema rules index → IsSoundOf schema before → slice_get rules index ≡ Some rule → IsAccepted before.schema rule
  rule_accepted before index rule of here at = subst (λ (s : Schema). IsAccepted s rule) (sym here.schema_is) (of.accepted rule at)

  -- what a line costs that has this outcome
  pub record LineCosts (before : Map) (line : Line) (outcome : Outcome) (after : Map) : Type 0 where
    pub most : ℕ
    pub budget : IsLineBudget rules before line most
    pub sound : IsSoundOf schema after

  pub line_costs : (before : Map) (line : Line) → IsRuleOf schema rules line.rule → IsSoundOf schema before → IsGoodLine rules line → (outcome : Outcome) (after : Map) → IsLineOutcome rules before line outcome after → LineCosts before line outcome after
  line_costs before line of here good outcome after is = go (applications_have_budgets (application_by before good.rule line) (subst IsSchema (sym here.schema_is) of.of_schema) here.sound (rule_accepted before line.rule good.rule of here good.rule_is) good.hooks good.params)
    where
      same_rule : good.rule ≡ is.rule
      same_rule = some_same good.rule is.rule (sym good.rule_is ∙ is.rule_is)

      go : (most : ℕ) × IsBudget (application_by before good.rule line) most → LineCosts before line outcome after
      go (most, budget) = record {
        most = most;
        budget = record { rule = good.rule; rule_is = good.rule_is; budget = budget };
        sound = sound_after before is.rule line of.of_schema here (rule_accepted before line.rule is.rule of here is.rule_is) (subst (λ (r : Rule). AreGoodParams r line.params) same_rule good.params) outcome after is.outcome_is;
      }

  pub line_found : (before : Map) (line : Line) → IsRuleOf schema rules line.rule → IsSoundOf schema before → IsGoodLine rules line → LineFound before line
  line_found before line of here good = go (applications_have_outcomes (application_by before good.rule line) (subst IsSchema (sym here.schema_is) of.of_schema) here.sound accepted good.hooks good.params)
    where
      accepted : IsAccepted before.schema good.rule
      accepted = rule_accepted before line.rule good.rule of here good.rule_is

      go : (outcome : Outcome) × (after : Map) × IsOutcome (application_by before good.rule line) outcome after → LineFound before line
      go (outcome, after, is) = record {
        outcome = outcome;
        after = after;
        is = record { rule = good.rule; rule_is = good.rule_is; outcome_is = is };
        sound = sound_after before good.rule line of.of_schema here accepted good.params outcome after is;
      }

  -- ---- the lines of an `each`

  module _ (index : ℕ) (params : List Value) (of : IsRuleOf schema rules index) (good : (d : ℕ) → IsGoodLine rules (line_at index params d)) where
    pub record TurnsFound (before : Map) (leads : List ℕ) : Type 0 where
      pub turns : List Turn
      pub after : Map
      pub are : AreTurns rules index params before leads turns after

    pub turns_found : (leads : List ℕ) (before : Map) → IsSoundOf schema before → TurnsFound before leads
    turns_found [] before here = record { turns = []; after = before; are = refl }
    turns_found (d ∷ leads) before here = go (true_or_false (before.live d)) (turns_found leads)
      where
        go : IsDart before d ⊎ (before.live d ≡ false) → ((between : Map) → IsSoundOf schema between → TurnsFound between leads) → TurnsFound before (d ∷ leads)
        go (inl live) further =
            let first : LineFound before (line_at index params d) = line_found before (line_at index params d) of here (good d) in
            let rest : TurnsFound first.after leads = further first.after first.sound in
            record { turns = Taken before (line_at index params d) first.outcome ∷ rest.turns; after = rest.after; are = (live, refl, refl, first.after, first.is, rest.are) }
        go (inr dead) further = let rest : TurnsFound before leads = further before here in record { turns = Passed ∷ rest.turns; after = rest.after; are = (λ live. not_both (before.live d) live dead, rest.are) }

    -- what the turns cost that leave this map
    pub record TurnsCost (turns : List Turn) (after : Map) : Type 0 where
      pub costs : TurnCosts
      pub are : AreTurnCosts rules turns costs
      pub sound : IsSoundOf schema after

    pub turns_cost : (leads : List ℕ) (turns : List Turn) (before after : Map) → IsSoundOf schema before → AreTurns rules index params before leads turns after → TurnsCost turns after
    turns_cost [] [] before after here e = record { costs = record { least = 0; most = 0; done = 0 }; are = refl; sound = subst (IsSoundOf schema) (sym e) here }
    turns_cost [] (turn ∷ turns) before after here are = absurd are
    turns_cost (d ∷ leads) [] before after here are = absurd are
    turns_cost (d ∷ leads) (Taken map line outcome ∷ turns) before after here (live, same, asks, between, is, are) =
        let first : LineCosts before (line_at index params d) outcome between = line_costs before (line_at index params d) of here (good d) outcome between is in
        let budget : IsLineBudget rules map line first.most = subst (λ m. IsLineBudget rules m line first.most) (sym same) (subst (λ l. IsLineBudget rules before l first.most) (sym asks) first.budget) in
        let rest : TurnsCost turns after = turns_cost leads turns between after first.sound are in
        record {
          costs = record { least = changed_darts outcome + rest.costs.least; most = first.most + rest.costs.most; done = done_part outcome first.most + rest.costs.done };
          are = (first.most, rest.costs, budget, rest.are, refl);
          sound = rest.sound;
        }
    turns_cost (d ∷ leads) (Passed ∷ turns) before after here (dead, are) =
        let rest : TurnsCost turns after = turns_cost leads turns before after here are in
        record { costs = rest.costs; are = rest.are; sound = rest.sound }

-- the lines that a good `each` stands for are good
pub each_line : (rules : List Rule) (n : ℕ) (mask : Mask) (index : ℕ) (params : List Value) → IsGoodEach rules n mask index params → (d : ℕ) → IsGoodLine rules (line_at index params d)
each_line rules n mask index params good d = record { rule = good.rule; rule_is = good.rule_is; hooks = sym good.one_hook; params = good.params }
