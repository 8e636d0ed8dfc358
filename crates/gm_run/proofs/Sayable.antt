-- What a run answers can be printed: each cause names nodes of its line's rule.
use Rattle.std.proofs.Common.{◌≡◌, ℕ, zero, suc, List, [], ◌∷◌, length, Some, refl, sym, ap, subst, ◌∙◌}
use Rattle.std.specs.Prelude.{slice_get}
use Rattle.std.specs.List.{AllByRecursion}
use Rattle.std.specs.Option.{option_map, unwrap_or}
use Rattle.std.proofs.lemmas.Option.{slice_get_within, same_Some}
use Rattle.gm_model.specs.declared.rule.Side.TheVariants.{Left}
use Rattle.gm_model.specs.declared.schema.Schema.{Schema}
use Rattle.gm_model.specs.Statements.{Line, Stat}
use Rattle.gm_model.specs.Statements as statements
use Rattle.gm_model.specs.Applications.{Application, Cause, IsRefused, NoHookDart, BrokenStep, Repeated, ValuelessPre, FalsePre, NoRoom, NoNames, Valueless}
use Rattle.gm_model.specs.Budgets.{Entries}
use Rattle.gm_model.specs.Maps.{Map}
use Rattle.gm_model.specs.Rules.{Rule}
use Rattle.gm_model.specs.Runs.{State, IsOutcome, IsLineOutcome, IsStatOutcome, IsDoneHere, IsRefusedHere, IsSkipped, GoesBack, HasNoPast, GoesForth, HasNoFuture, Begins, Ends, IsTakenBack, GoesOver, IsRun}
use Rattle.gm_model.specs.Runs as runs
use Rattle.gm_theory.specs.inner.Suited.{IsSuited}
use Rattle.gm_theory.proofs.Lists.{none_some}
use Rattle.gm_theory.proofs.RuleSteps.{word_below}
use Rattle.gm_theory.proofs.RunsFound.{GoesOn, Stands, goes_on}
use Rattle.gm_run.specs.declared.outcome.Outcome.{Outcome}
use Rattle.gm_run.specs.inner.Lines.{Tells}
use Rattle.gm_run.specs.inner.Printing.{SpeaksOf, IsSayable, CanBePrinted}
use Rattle.gm_run.proofs.Telling.{as_many}

cause_speaks_of : (app : Application) (cause : Cause) → IsRefused app cause → SpeaksOf (length app.rule.nodes) (length app.map.schema.embeds) (runs.Refused cause)
cause_speaks_of app cause (NoHookDart index d at dead before) = tt
cause_speaks_of app cause (BrokenStep place x p i darts candidate first) = word_below app.rule Left x first.instance.0
cause_speaks_of app cause (Repeated place x p y q darts candidate steps first) = (word_below app.rule Left x first.here.first.0, word_below app.rule Left y first.here.second.0)
cause_speaks_of app cause (ValuelessPre place tree found is none) = tt
cause_speaks_of app cause (FalsePre place tree found is value) = tt
cause_speaks_of app cause (NoRoom place live found pre counted full) = tt
cause_speaks_of app cause (NoNames place live found pre counted fits full) = tt
cause_speaks_of app cause (Valueless place live alpha decider ready unfolded first) =
    (slice_get_within app.map.schema.embeds decider.embed first.here.embed first.here.embed_at, slice_get_within app.rule.nodes decider.node first.here.deciding.assigned.0.1.0 first.here.deciding.assigned.0.1.1)

speaks_of : (app : Application) (outcome : runs.Outcome) (after : Map) → IsOutcome app outcome after → SpeaksOf (length app.rule.nodes) (length app.map.schema.embeds) outcome
speaks_of app (runs.Done added removed) after is = tt
speaks_of app (runs.Refused cause) after is = cause_speaks_of app cause is.0
speaks_of app outcome after none = absurd none

module _ (schema : Schema) (rules : List Rule) where
  line_sayable : (before after : Map) (line : Line) (outcome : runs.Outcome) → before.schema ≡ schema → IsLineOutcome rules before line outcome after → IsSayable schema rules (statements.Apply line) outcome
  line_sayable before after line outcome same is = record {
    named = slice_get_within rules line.rule is.rule is.rule_is;
    speaks = subst (λ found. SpeaksOf (length (unwrap_or (option_map (λ (r : Rule). r.nodes) found) [])) (length schema.embeds) outcome) (sym is.rule_is)
        (subst (λ (s : Schema). SpeaksOf (length is.rule.nodes) (length s.embeds) outcome) same (speaks_of (runs.application_by before is.rule line) outcome after is.outcome_is));
  }

  -- what a step tells can be said of its statement
  step_sayable : (before after : State) (stat : Stat) (outcome : runs.Outcome) → before.map.schema ≡ schema → IsSuited schema rules stat → IsStatOutcome rules before stat outcome after → IsSayable schema rules stat outcome
  step_sayable before _ _ _ same suited (IsDoneHere line added removed after whole is) = line_sayable before.map after line (runs.Done added removed) same is
  step_sayable before _ _ _ same suited (IsRefusedHere line cause whole is) = line_sayable before.map before.map line (runs.Refused cause) same is
  step_sayable before _ _ _ same suited (IsSkipped line broken) = record { named = slice_get_within rules line.rule suited.0.rule suited.0.rule_is; speaks = tt }
  step_sayable before _ _ _ same suited (GoesBack map history is) = record { named = tt; speaks = tt }
  step_sayable before _ _ _ same suited (HasNoPast outside none) = record { named = tt; speaks = tt }
  step_sayable before _ _ _ same suited (GoesForth map history is) = record { named = tt; speaks = tt }
  step_sayable before _ _ _ same suited (HasNoFuture outside none) = record { named = tt; speaks = tt }
  step_sayable before _ _ _ same suited (Begins outside) = record { named = tt; speaks = tt }
  step_sayable before _ _ _ same suited (Ends group is whole) = record { named = tt; speaks = tt }
  step_sayable before _ _ _ same suited (IsTakenBack group is broken) = record { named = tt; speaks = tt }
  step_sayable before _ _ _ same suited (GoesOver mask index params leads turns after outside are are_turns) = record { named = slice_get_within rules index suited.0.rule suited.0.rule_is; speaks = tt }

  -- each statement has an outcome that can be said of it
  record AreSayable (stats : List Stat) (outcomes : List runs.Outcome) : Type 0 where
    pub each : length outcomes ≡ length stats
    pub sayable : (k : ℕ) (stat : Stat) (outcome : runs.Outcome) → slice_get stats k ≡ Some stat → slice_get outcomes k ≡ Some outcome → IsSayable schema rules stat outcome

  one_more : (x : Stat) (y : runs.Outcome) (stats : List Stat) (outcomes : List runs.Outcome) → IsSayable schema rules x y → AreSayable stats outcomes → AreSayable (x ∷ stats) (y ∷ outcomes)
  one_more x y stats outcomes here others = record { each = ap suc others.each; sayable = at_place }
    where
      at_place : (k : ℕ) (stat : Stat) (outcome : runs.Outcome) → slice_get (x ∷ stats) k ≡ Some stat → slice_get (y ∷ outcomes) k ≡ Some outcome → IsSayable schema rules stat outcome
      at_place zero stat outcome at other = subst (λ l. IsSayable schema rules l outcome) (same_Some x stat at) (subst (IsSayable schema rules x) (same_Some y outcome other) here)
      at_place (suc k) stat outcome at other = others.sayable k stat outcome at other

  run_sayable : (stats : List Stat) (before after : State) (entries : Entries) (outcomes : List runs.Outcome) → Stands schema before entries → AllByRecursion (IsSuited schema rules) stats → IsRun rules before stats outcomes after → AreSayable stats outcomes
  run_sayable [] before after entries [] stands suited e = record {
    each = refl;
    sayable = λ k stat outcome at other. none_some stat at;
  }
  run_sayable [] before after entries (y ∷ outcomes) stands suited h = absurd h
  run_sayable (x ∷ stats) before after entries [] stands suited h = absurd h
  run_sayable (x ∷ stats) before after entries (y ∷ outcomes) stands suited (between, step, rest) =
      let on : GoesOn schema rules before entries x y between = goes_on schema rules before entries x y between stands suited.0 step in
      one_more x y stats outcomes (step_sayable before between x y stands.sound.map.schema_is suited.0 step) (run_sayable stats between after on.behind outcomes on.stands suited.1 rest)

  pub run_can_be_printed : (stats : List Stat) (before after : State) (entries : Entries) (report : List Outcome) (outcomes : List runs.Outcome) → Stands schema before entries → AllByRecursion (IsSuited schema rules) stats → Tells report outcomes → IsRun rules before stats outcomes after
      → CanBePrinted schema rules stats report
  run_can_be_printed stats before after entries report outcomes stands suited tells run =
      let can = run_sayable stats before after entries outcomes stands suited run in
      record {
        outcomes = outcomes;
        tells = tells;
        each = sym (as_many report outcomes tells) ∙ can.each;
        sayable = can.sayable;
      }
