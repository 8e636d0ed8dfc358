-- The plans of a book that was read and the lines of its script are those that a run takes, and what a run answers is the run of what was read.
use Rattle.std.proofs.Common.{◌≡◌, ℕ, List, [], ◌∷◌, inl, inr, Result, Ok, Err, length, map, All, refl, sym, ap, subst, ◌∙◌}
use Rattle.std.specs.Prelude.{Bool, true, false, if◌then◌else◌, IfOk, IfErr}
use Rattle.std.specs.List.{AllByRecursion}
use Rattle.std.proofs.lemmas.List.Elements.{All-from_recursion}
use Rattle.gm_arena.specs.inner.ArenaAsMap.{as_map}
use Rattle.gm_arena.specs.inner.ArenaMap.{ArenaMap}
use Rattle.gm_arena.specs.inner.Lawful.{IsLawful}
use Rattle.gm_mapfile.specs.inner.Rows.{darts_of, listed_of}
use Rattle.gm_mapfile.proofs.ArenaDarts.{darts_ascending}
use Rattle.gm_mapfile.proofs.Printed.{darts_counted}
use Rattle.gm_model.specs.declared.rule.Book.{Book}
use Rattle.gm_model.specs.declared.rule.RuleTable.{RuleTable}
use Rattle.gm_model.specs.declared.schema.Schema.{Schema}
use Rattle.gm_model.specs.declared.script.Script.{Script}
use Rattle.gm_model.specs.Statements.{Stat}
use Rattle.gm_model.specs.Statements as statements
use Rattle.gm_mapfile.specs.MapText.{canonical}
use Rattle.gm_mapfile.specs.declared.version.MapVersion.{MapVersion}
use Rattle.gm_model.specs.Reports.{report_text}
use Rattle.gm_model.specs.Rules.{Rule, rule_of}
use Rattle.gm_model.specs.Runs.{Outcome, State, start_of, IsRun, AreInOrder}
use Rattle.gm_script.specs.inner.Agreement.{Agrees}
use Rattle.gm_script.specs.ScriptText.{ScriptText}
use Rattle.gm_script.proofs.Agreement.{script_agrees, script_in_order}
use Rattle.gm_theory.specs.inner.Outcomes.{IsGoodStat}
use Rattle.gm_plan.specs.inner.Plans.{PlanOf, plan_of}
use Rattle.gm_run.specs.declared.outcome.Outcome as answers
use Rattle.gm_run.specs.inner.Printing.{CanBePrinted}
use Rattle.gm_run.specs.inner.Progress.{IsPlanFor, ArePlansFor, rules_of}
use Rattle.gm_lines.specs.Refusing.{Role}
use Rattle.gm_tool.specs.MadeRuns.{CanRun, inputs_of, IsFitted, IsPrinted, IsRunOf, IsRunStatus}
use Rattle.gm_tool.specs.inner.Stops.{IsSoundStop}
use Rattle.gm_tool.specs.declared.refusal.Refusal.TheVariants as refusals
use Rattle.gm_tool.specs.RunAnswer.{Inputs, Ran, IsRan, report_of, saved_of, says_refused, run_status}
use Rattle.gm_tool.specs.declared.refusal.NoText.TheVariants as nothing
use Rattle.gm_tool.specs.declared.refusal.Stop.{Stop}
use Rattle.gm_tool.specs.declared.refusal.Stop.TheVariants as stops
use Rattle.gm_tool.specs.declared.running.Made.{Made}
use Rattle.gm_mapfile.proofs.SoundRows.{same_map}
use Rattle.gm_tool.proofs.ArenaMaps.{darts_whole}

-- a run is done with status 0 or 1
status_is : (outcomes : List Outcome) → IsRunStatus (run_status outcomes)
status_is [] = inl refl
status_is (outcome ∷ outcomes) = either (says_refused outcome) (status_is outcomes)
  where
    either : (b : Bool) → IsRunStatus (run_status outcomes) → IsRunStatus (if b then 1 else run_status outcomes)
    either true h = inr refl
    either false h = h

pub rules_planned : (schema : Schema) (tables : List RuleTable) → rules_of (map (plan_of schema) tables) ≡ map rule_of tables
rules_planned schema [] = refl
rules_planned schema (table ∷ tables) = ap (λ rules. rule_of table ∷ rules) (rules_planned schema tables)

-- a statement that agrees with the rules is a good one
module _ (rules : List Rule) (n : ℕ) where
  good_stat : (stat : Stat) → Agrees n rules stat → IsGoodStat rules n stat
  good_stat (statements.Apply line) takes = record { rule = takes.rule; rule_is = takes.rule_is; hooks = takes.hooks_are; params = takes.params_are }
  good_stat (statements.Each mask k params) (labels, takes) = record { rule = takes.rule; rule_is = takes.rule_is; one_hook = sym takes.hooks_are; labels = labels; params = takes.params_are }
  good_stat statements.Undo h = tt
  good_stat statements.Redo h = tt
  good_stat statements.Group h = tt
  good_stat statements.End h = tt

  all_good : (stats : List Stat) → AllByRecursion (Agrees n rules) stats → AllByRecursion (IsGoodStat rules n) stats
  all_good [] h = tt
  all_good (stat ∷ stats) h = (good_stat stat h.0, all_good stats h.1)

  pub good_stats : (text : List ℕ) (stats : List Stat) → ScriptText text n rules stats → AllByRecursion (IsGoodStat rules n) stats
  good_stats text stats script = all_good stats (script_agrees n rules text stats script)

module _ (m : ArenaMap) (book : Book) (script : Script) (plans : List PlanOf) (can : CanRun m book script plans) where
  pub same_rules : rules_of plans ≡ map rule_of book.rules
  same_rules = ap rules_of can.plans_are ∙ rules_planned book.schema book.rules

  -- ---- what a run needs

  pub plans_fit : ArePlansFor m.schema plans
  plans_fit = subst (All (IsPlanFor m.schema)) (sym can.plans_are)
      (All-from_recursion (IsPlanFor m.schema) (map (plan_of book.schema) book.rules) (each book.rules))
    where
      each : (tables : List RuleTable) → AllByRecursion (IsPlanFor m.schema) (map (plan_of book.schema) tables)
      each [] = tt
      each (table ∷ tables) = (can.agree, each tables)

  pub stats_fit : All (IsGoodStat (rules_of plans) m.schema.dim) script.stats
  stats_fit = All-from_recursion (IsGoodStat (rules_of plans) m.schema.dim) script.stats
      (subst (λ rules. AllByRecursion (IsGoodStat rules m.schema.dim) script.stats) (sym same_rules)
      (subst (λ (schema : Schema). AllByRecursion (IsGoodStat (map rule_of book.rules) schema.dim) script.stats) (sym can.agree)
      (good_stats (map rule_of book.rules) book.schema.dim can.text script.stats can.stats)))

  pub stats_in_order : AreInOrder false script.stats
  stats_in_order = script_in_order book.schema.dim (map rule_of book.rules) can.text script.stats can.stats

  pub printable : (outcomes : List answers.Outcome) → CanBePrinted m.schema (rules_of plans) script.stats outcomes → CanBePrinted book.schema (map rule_of book.rules) script.stats outcomes
  printable outcomes h = subst (λ rules. CanBePrinted book.schema rules script.stats outcomes) same_rules (subst (λ schema. CanBePrinted schema (rules_of plans) script.stats outcomes) can.agree h)

  -- ---- what a run answers

  module _ (version : MapVersion) (after : ArenaMap) (same_schema : after.schema ≡ m.schema) (lawful_after : IsLawful after) where
    abbrev inputs : Inputs
    inputs = inputs_of version m book script

    abbrev pub left : List Outcome → Ran
    left outcomes = record { outcomes = outcomes; map = listed_of after }

    is_ran : (outcomes : List Outcome) (behind : State) → behind.map ≡ as_map after → IsRun (rules_of plans) (start_of (as_map m)) script.stats outcomes behind → IsRan inputs (left outcomes)
    is_ran outcomes behind e h = record {
      behind = behind;
      run =
          subst (λ x. IsRun (map rule_of book.rules) (start_of x) script.stats outcomes behind) (same_map m)
          (subst (λ rules. IsRun rules (start_of (as_map m)) script.stats outcomes behind) same_rules h);
      map_is = e ∙ same_map after;
      schema_is = same_schema;
      ascending = darts_ascending after;
      whole = darts_whole after lawful_after;
    }

    -- the report and the text of the map are those of the run
    pub run_made : (outcomes : List Outcome) (behind : State) (darts next : ℕ) (result : Result Made Stop) → behind.map ≡ as_map after → IsRun (rules_of plans) (start_of (as_map m)) script.stats outcomes behind → darts ≡ after.count → next ≡ after.next
        → IsPrinted (run_status outcomes) (report_text book.schema (map rule_of book.rules) script.stats outcomes darts next) (canonical version (listed_of after)) result → IsRunOf inputs result
    run_made outcomes behind darts next result e h counted named = made result
      where
        report_is : report_text book.schema (map rule_of book.rules) script.stats outcomes darts next ≡ report_of inputs (left outcomes)
        report_is =
            ap (λ k. report_text book.schema (map rule_of book.rules) script.stats outcomes k next) (counted ∙ sym (darts_counted after lawful_after))
            ∙ ap (λ k. report_text book.schema (map rule_of book.rules) script.stats outcomes (length (darts_of after)) k) named

        fitted : (r : Result Made Stop) → IsFitted (run_status outcomes) (report_text book.schema (map rule_of book.rules) script.stats outcomes darts next) (canonical version (listed_of after)) r
            → (ran : Ran) × IsRan inputs ran × IsFitted (run_status ran.outcomes) (report_of inputs ran) (saved_of inputs ran) r
        fitted r is = (left outcomes, is_ran outcomes behind e h, subst (λ t. IsFitted (run_status outcomes) t (canonical version (listed_of after)) r) report_is is)

        made : (r : Result Made Stop) → IsPrinted (run_status outcomes) (report_text book.schema (map rule_of book.rules) script.stats outcomes darts next) (canonical version (listed_of after)) r → IsRunOf inputs r
        made (Ok value) is = fitted (Ok value) is
        made (Err (stops.Bad line)) is = fitted (Err (stops.Bad line)) is
        made (Err (stops.NoText nothing.OutOfMemory)) is = tt
        made (Err (stops.NoText (nothing.Refused why))) is = fitted (Err (stops.NoText (nothing.Refused why))) is

-- texts that are fitted are printed
pub fitted_printed : (status : ℕ) (report map : List ℕ) (result : Result Made Stop) → IsFitted status report map result → IsPrinted status report map result
fitted_printed status report map (Ok made) h = h
fitted_printed status report map (Err (stops.Bad line)) h = h
fitted_printed status report map (Err (stops.NoText nothing.OutOfMemory)) h = tt
fitted_printed status report map (Err (stops.NoText (nothing.Refused why))) h = h

-- no run of lines stops for its words, for a save or for a load
pub run_is_sound : (inputs : Inputs) (result : Result Made Stop) (P : Role → Type 0) → IsRunOf inputs result → IfErr result (λ stop. IsSoundStop stop P)
run_is_sound inputs (Ok made) P h = tt
run_is_sound inputs (Err (stops.Bad line)) P h = tt
run_is_sound inputs (Err (stops.NoText nothing.OutOfMemory)) P h = tt
run_is_sound inputs (Err (stops.NoText (nothing.Refused refusals.SizeOutput))) P h = tt
run_is_sound inputs (Err (stops.NoText (nothing.Refused refusals.Agree))) P h = tt
run_is_sound inputs (Err (stops.NoText (nothing.Refused (refusals.Size role)))) P h = tt
run_is_sound inputs (Err (stops.NoText (nothing.Refused refusals.Usage))) P (ran, is, (e, long)) = absurd cc
run_is_sound inputs (Err (stops.NoText (nothing.Refused refusals.Save))) P (ran, is, (e, long)) = absurd cc
run_is_sound inputs (Err (stops.NoText (nothing.Refused (refusals.Load role)))) P (ran, is, (e, long)) = absurd cc

pub run_is_done : (inputs : Inputs) (result : Result Made Stop) → IsRunOf inputs result → IfOk result (λ made. IsRunStatus made.status)
run_is_done _ (Ok made) (ran, is, fits) = subst IsRunStatus (sym fits.0) (status_is ran.outcomes)
run_is_done _ (Err stop) h = tt
