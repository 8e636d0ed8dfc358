-- Good files that agree have a run, which leaves a sound map, and what bounds the steps of each run of files is one number.
use Rattle.std.proofs.Common.{◌≡◌, ℕ, ◌+◌, List, [], ◌∷◌, false, refl, sym, ap, subst, ◌∙◌}
use Rattle.std.specs.List.{AllByRecursion}
use Rattle.gm_mapfile.specs.MapText.{map_of}
use Rattle.gm_model.specs.declared.schema.Schema.{Schema}
use Rattle.gm_model.specs.Budgets.{Bounds, Entries, no_entries, IsRunWithin}
use Rattle.gm_model.specs.Maps.{IsSound}
use Rattle.gm_model.specs.Rules.{Rule}
use Rattle.gm_model.specs.Runs.{AreInOrder, Outcome, State, start_of, IsRun}
use Rattle.gm_model.specs.Statements.{Stat}
use Rattle.gm_run.proofs.AlikeStates.{states_alike_self}
use Rattle.gm_run.proofs.OneRun.{one_within, run_has_bounds}
use Rattle.gm_run.proofs.RunsThrough.{RunThrough, run_through}
use Rattle.gm_script.proofs.Agreement.{script_in_order}
use Rattle.gm_theory.proofs.Lists.{none_some}
use Rattle.gm_theory.proofs.RunsFound.{GoesOn, Stands, all_suited, goes_on}
use Rattle.gm_theory.specs.inner.Suited.{IsSuited}
use Rattle.gm_tool.specs.Answer.{Files}
use Rattle.gm_tool.specs.RunAnswer.{RunNames, Inputs, Ran, HasMap, HasBook, HasScript, Agree, IsRan, IsGoodRun}
use Rattle.gm_tool.specs.StepBounds.{HasBounds, IsMost, MostOf, IsLeast, LeastOf, handling, dim_of, darts_read, darts_left}
use Rattle.gm_tool.proofs.Lines.{good_stats}
use Rattle.gm_tool.proofs.ListedMaps.{IsListedMap, settle, whole_darts}
use Rattle.gm_tool.proofs.OneRan.{declared, one_ran, stands_at}
use Rattle.gm_tool.proofs.OneRunAnswer.{same_inputs}

-- ---- what a run leaves is sound, since each statement leaves it so, and so is each map to which it goes back

module _ (schema : Schema) (rules : List Rule) where
  stays_sound : (stats : List Stat) → AllByRecursion (IsSuited schema rules) stats → (state : State) (entries : Entries) → Stands schema state entries → (outcomes : List Outcome) (after : State)
      → IsRun rules state stats outcomes after → IsSound after.map
  stays_sound [] suited state entries stands [] after e = subst (λ (s : State). IsSound s.map) (sym e) stands.sound.map.sound
  stays_sound [] suited state entries stands (o ∷ outcomes) after e = absurd e
  stays_sound (stat ∷ stats) suited state entries stands [] after e = absurd e
  stays_sound (stat ∷ stats) suited state entries stands (o ∷ outcomes) after (between, step, rest) =
      let on : GoesOn schema rules state entries stat o between = goes_on schema rules state entries stat o between stands suited.0 step in
      stays_sound stats suited.1 between on.behind on.stands outcomes after rest

-- ---- the files

module _ (files : Files) (named : RunNames) (inputs : Inputs) (the_map : HasMap files named inputs) (the_book : HasBook files named inputs) (the_script : HasScript files named inputs) (agree : Agree inputs) where
  suited : AllByRecursion (IsSuited inputs.schema inputs.rules) inputs.stats
  suited = all_suited inputs.schema inputs.rules (declared inputs the_map.0 the_map.2 the_book.4 the_script.0 the_script.2 agree) the_book.4 inputs.stats (good_stats inputs.rules inputs.schema.dim the_script.0 inputs.stats the_script.2)

  stands : Stands inputs.schema (start_of (map_of inputs.map)) no_entries
  stands = stands_at inputs the_map.0 the_map.2 the_book.4 the_script.0 the_script.2 agree

  in_order : AreInOrder false inputs.stats
  in_order = script_in_order inputs.schema.dim inputs.rules the_script.0 inputs.stats the_script.2

  -- ---- a run

  starts_listed : IsListedMap inputs.schema (map_of inputs.map)
  starts_listed = record {
    listed = inputs.map;
    is = refl;
    schema_is = agree;
    ascending = the_map.2.ascending;
    whole = whole_darts the_map.0 inputs.version inputs.map the_map.2;
  }

  run : RunThrough (IsListedMap inputs.schema) inputs.rules (start_of (map_of inputs.map)) inputs.stats
  run = run_through inputs.schema inputs.rules (IsListedMap inputs.schema) (settle inputs.schema) inputs.stats false (start_of (map_of inputs.map)) no_entries stands
      (record { map = starts_listed; past = tt; future = tt; group = λ group e. none_some group e }) refl suited in_order

  pub run_made : (ran : Ran) × IsGoodRun files named inputs ran
  run_made = (
    record { outcomes = run.outcomes; map = run.through.map.listed },
    record {
      the_map = the_map;
      the_book = the_book;
      the_script = the_script;
      agree = agree;
      is_ran = record {
        behind = run.after;
        run = run.run;
        map_is = run.through.map.is;
        schema_is = run.through.map.schema_is ∙ sym agree;
        ascending = run.through.map.ascending;
        whole = run.through.map.whole;
      };
    },
  )

  pub sound_made : (ran : Ran) → IsRan inputs ran → IsSound (map_of ran.map)
  sound_made ran is = subst IsSound is.map_is (stays_sound inputs.schema inputs.rules inputs.stats suited (start_of (map_of inputs.map)) no_entries stands ran.outcomes is.behind is.run)

  -- ---- its bounds

  pub bounds_made : (ran : Ran) → IsRan inputs ran → (bounds : Bounds) × HasBounds inputs ran bounds
  bounds_made ran is =
      let found : (bounds : Bounds) × IsRunWithin inputs.rules (start_of (map_of inputs.map)) no_entries inputs.stats ran.outcomes is.behind bounds =
      run_has_bounds inputs.schema inputs.rules inputs.stats suited (start_of (map_of inputs.map)) no_entries stands ran.outcomes is.behind is.run in
      (found.0, (is.behind, found.1))

  pub one_ran_here : (a b : Ran) → IsRan inputs a → IsRan inputs b → a ≡ b
  one_ran_here = one_ran inputs the_map.0 the_map.2 the_book.4 the_script.0 the_script.2 agree

  pub one_bounds : (a b : Ran) (bounds other : Bounds) → HasBounds inputs a bounds → HasBounds inputs b other → bounds ≡ other
  one_bounds a b bounds other (behind, within) (behind', within') =
      one_within inputs.schema inputs.rules inputs.stats suited (start_of (map_of inputs.map)) (start_of (map_of inputs.map)) no_entries no_entries stands (states_alike_self (start_of (map_of inputs.map)))
      a.outcomes b.outcomes behind behind' bounds other within within'

module _ (files : Files) (named : RunNames) where
  pub bounds_of : (inputs : Inputs) (ran : Ran) → IsGoodRun files named inputs ran → (bounds : Bounds) × HasBounds inputs ran bounds
  bounds_of inputs ran good = bounds_made files named inputs good.the_map good.the_book good.the_script good.agree ran good.is_ran

  pub sound_of : (inputs : Inputs) (ran : Ran) → IsGoodRun files named inputs ran → IsSound (map_of ran.map)
  sound_of inputs ran good = sound_made files named inputs good.the_map good.the_book good.the_script good.agree ran good.is_ran

  pub most_made : (inputs : Inputs) (ran : Ran) → IsGoodRun files named inputs ran → (most : ℕ) × IsMost files named most
  most_made inputs ran good = let has = bounds_of inputs ran good in (has.0.most + handling (dim_of inputs) (darts_read inputs) (darts_left ran), MostOf inputs ran has.0 good has.1)

  pub least_made : (inputs : Inputs) (ran : Ran) → IsGoodRun files named inputs ran → (least : ℕ) × IsLeast files named least
  least_made inputs ran good = let has = bounds_of inputs ran good in (has.0.least + darts_read inputs + darts_left ran, LeastOf inputs ran has.0 good has.1)

  -- ---- one number

  -- what is read of two good runs of the files, with their bounds, is the same
  module _ (Number : Inputs → Ran → Bounds → ℕ) where
    one_number : (a b : Inputs) (ran other : Ran) (bounds others : Bounds) → IsGoodRun files named a ran → IsGoodRun files named b other → HasBounds a ran bounds → HasBounds b other others → Number a ran bounds ≡ Number b other others
    one_number a b ran other bounds others good good' has has' =
        let same : b ≡ a = sym (same_inputs files named a b good.the_map good'.the_map good.the_book good'.the_book good.the_script good'.the_script) in
        let there : IsRan a other = subst (λ i. IsRan i other) same good'.is_ran in
        let within : HasBounds a other others = subst (λ i. HasBounds i other others) same has' in
        let rans : ran ≡ other = one_ran_here files named a good.the_map good.the_book good.the_script good.agree ran other good.is_ran there in
        let all : bounds ≡ others = one_bounds files named a good.the_map good.the_book good.the_script good.agree ran other bounds others has within in
        ap (λ r. Number a r bounds) rans ∙ (ap (Number a other) all ∙ ap (λ i. Number i other others) (sym same))

  pub one_most : (most other : ℕ) → IsMost files named most → IsMost files named other → most ≡ other
  one_most _ _ (MostOf a ran bounds good has) (MostOf b other others good' has') =
      one_number (λ i r (x : Bounds). x.most + handling (dim_of i) (darts_read i) (darts_left r)) a b ran other bounds others good good' has has'

  pub one_least : (least other : ℕ) → IsLeast files named least → IsLeast files named other → least ≡ other
  one_least _ _ (LeastOf a ran bounds good has) (LeastOf b other others good' has') =
      one_number (λ i r (x : Bounds). x.least + darts_read i + darts_left r) a b ran other bounds others good good' has has'
