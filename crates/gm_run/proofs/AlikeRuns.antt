-- From maps that are alike the statements have runs with the same outcomes and bounds, which leave states that are alike.
use Rattle.std.proofs.Common.{◌≡◌, false, List, refl, sym, subst}
use Rattle.std.specs.List.{AllByRecursion}
use Rattle.std.specs.Prelude.{All}
use Rattle.std.proofs.lemmas.List.Elements.{recursion_from_All}
use Rattle.gm_model.specs.declared.schema.Schema.{Schema}
use Rattle.gm_model.specs.Statements.{Stat}
use Rattle.gm_model.specs.Acceptance.{IsAccepted}
use Rattle.gm_model.specs.Budgets.{Bounds, no_entries, IsRunWithin}
use Rattle.gm_model.specs.Maps.{Map, IsSchema, IsSound}
use Rattle.gm_model.specs.Rules.{Rule}
use Rattle.gm_model.specs.Runs.{Outcome, State, start_of, IsRun, AreInOrder}
use Rattle.gm_theory.proofs.RunsFound.{Stands, all_suited, scripts_have_runs, stands_first}
use Rattle.gm_theory.specs.inner.Outcomes.{HasRun, IsGoodStat}
use Rattle.gm_theory.specs.inner.Suited.{IsSuited}
use Rattle.gm_run.specs.inner.Alike.{AreAlike, AreAlikeStates}
use Rattle.gm_run.proofs.AlikeLemmas.{alike_sound}
use Rattle.gm_run.proofs.OneRun.{one_run, one_within}

module _ (rules : List Rule) (before other : Map) (stats : List Stat) (of_schema : IsSchema before.schema) (accepted : All (IsAccepted before.schema) rules) (sound : IsSound before)
    (good : All (IsGoodStat rules before.schema.dim) stats) (alike : AreAlike before other) where
  all_good : AllByRecursion (IsGoodStat rules before.schema.dim) stats
  all_good = recursion_from_All (IsGoodStat rules before.schema.dim) stats good

  suited : AllByRecursion (IsSuited before.schema rules) stats
  suited = all_suited before.schema rules of_schema accepted stats all_good

  sound_there : IsSound other
  sound_there = alike_sound before other alike of_schema sound

  stands_there : Stands before.schema (start_of other) no_entries
  stands_there = subst (λ (s : Schema). Stands s (start_of other) no_entries) (sym alike.schema) (stands_first other sound_there)

  starts_alike : AreAlikeStates (start_of before) (start_of other)
  starts_alike = record { map = alike; past = tt; future = tt; group = tt; broken = refl }

  pub run_there : (outcomes : List Outcome) (after : State) → AreInOrder false stats → IsRun rules (start_of before) stats outcomes after → (end : State) × IsRun rules (start_of other) stats outcomes end × AreAlikeStates after end
  run_there outcomes after order run =
      let found : HasRun rules other.schema (start_of other) no_entries stats =
      scripts_have_runs rules other stats (subst IsSchema alike.schema of_schema) sound_there (subst (λ (s : Schema). All (IsAccepted s) rules) alike.schema accepted)
      (subst (λ (s : Schema). AllByRecursion (IsGoodStat rules s.dim) stats) alike.schema all_good) order in
      let same : (outcomes ≡ found.outcomes) × AreAlikeStates after found.after =
      one_run before.schema rules stats suited (start_of before) (start_of other) no_entries stands_there starts_alike outcomes found.outcomes after found.after run found.run in
      (found.after, subst (λ os. IsRun rules (start_of other) stats os found.after) (sym same.0) found.run, same.1)

  pub bounds_there : (outcomes others : List Outcome) (after end : State) (bounds most : Bounds) → IsRunWithin rules (start_of before) no_entries stats outcomes after bounds → IsRunWithin rules (start_of other) no_entries stats others end most → bounds ≡ most
  bounds_there = one_within before.schema rules stats suited (start_of before) (start_of other) no_entries no_entries stands_there starts_alike
