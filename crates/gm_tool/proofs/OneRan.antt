-- A script has one run: the same outcomes, and the same map after it.
use Rattle.std.proofs.Common.{◌≡◌, ℕ, List, All, subst}
use Rattle.gm_mapfile.proofs.Listed.{listed_good}
use Rattle.gm_mapfile.specs.MapText.{MapText, map_of}
use Rattle.gm_model.specs.declared.schema.Schema.{Schema}
use Rattle.gm_model.specs.Acceptance.{IsAccepted}
use Rattle.gm_model.specs.Budgets.{no_entries}
use Rattle.gm_model.specs.Maps.{IsSchema}
use Rattle.gm_model.specs.Runs.{start_of}
use Rattle.gm_run.specs.inner.Alike.{AreAlike, AreAlikeStates}
use Rattle.gm_run.proofs.AlikeStates.{states_alike_self}
use Rattle.gm_run.proofs.OneRun.{one_run}
use Rattle.gm_script.specs.ScriptText.{ScriptText}
use Rattle.gm_theory.proofs.RunsFound.{Stands, stands_first, all_suited}
use Rattle.gm_tool.specs.RunAnswer.{Inputs, Ran, IsRan, Agree}
use Rattle.gm_tool.proofs.Lines.{good_stats}
use Rattle.gm_tool.proofs.SameRows.{same_listed}

module _ (inputs : Inputs) (text : List ℕ) (stands : MapText text inputs.version inputs.map) (accepted : All (IsAccepted inputs.schema) inputs.rules)
    (script : List ℕ) (stats : ScriptText script inputs.schema.dim inputs.rules inputs.stats) (agree : Agree inputs) where
  pub declared : IsSchema inputs.schema
  declared = subst IsSchema agree (listed_good text stands.written inputs.map.schema stands.darts stands.listed).declared

  pub stands_at : Stands inputs.schema (start_of (map_of inputs.map)) no_entries
  stands_at = subst (λ (schema : Schema). Stands schema (start_of (map_of inputs.map)) no_entries) agree (stands_first (map_of inputs.map) stands.sound)

  runs : (a b : Ran) → IsRan inputs a → IsRan inputs b → (a.outcomes ≡ b.outcomes) × AreAlike (map_of a.map) (map_of b.map)
  runs a b one other =
      let both : (a.outcomes ≡ b.outcomes) × AreAlikeStates one.behind other.behind =
      one_run inputs.schema inputs.rules inputs.stats (all_suited inputs.schema inputs.rules declared accepted inputs.stats (good_stats inputs.rules inputs.schema.dim script inputs.stats stats)) (start_of (map_of inputs.map)) (start_of (map_of inputs.map)) no_entries
      stands_at (states_alike_self (start_of (map_of inputs.map))) a.outcomes b.outcomes one.behind other.behind one.run other.run in
      (both.0, subst (λ x. AreAlike x (map_of b.map)) one.map_is (subst (AreAlike one.behind.map) other.map_is both.1.map))

  pub one_ran : (a b : Ran) → IsRan inputs a → IsRan inputs b → a ≡ b
  one_ran a b one other =
      let both = runs a b one other in
      let outcomes : a.outcomes ≡ b.outcomes = both.0 in
      let listed : a.map ≡ b.map = same_listed a.map b.map one.whole other.whole both.1 one.ascending other.ascending in
      λ k. record { outcomes = outcomes k; map = listed k }
