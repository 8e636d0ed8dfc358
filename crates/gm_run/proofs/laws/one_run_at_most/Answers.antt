use Rattle.std.proofs.Common.{◌≡◌, List, subst}
use Rattle.std.specs.List.{AllByRecursion}
use Rattle.std.specs.Prelude.{All}
use Rattle.std.proofs.lemmas.List.Elements.{recursion_from_All}
use Rattle.gm_model.specs.declared.schema.Schema.{Schema}
use Rattle.gm_model.specs.Statements.{Stat}
use Rattle.gm_model.specs.Acceptance.{IsAccepted}
use Rattle.gm_model.specs.Budgets.{no_entries}
use Rattle.gm_model.specs.Maps.{Map, IsSchema, IsSound}
use Rattle.gm_model.specs.Rules.{Rule}
use Rattle.gm_model.specs.Runs.{start_of}
use Rattle.gm_theory.specs.inner.Outcomes.{IsGoodStat}
use Rattle.gm_theory.specs.inner.Suited.{IsSuited}
use Rattle.gm_theory.proofs.RunsFound.{Stands, all_suited, stands_first}
use Rattle.gm_run.proofs.AlikeStates.{states_alike_self}
use Rattle.gm_run.proofs.OneRun.{one_run, one_within, run_has_bounds}
use Rattle.gm_run.proofs.laws.one_run_at_most.Goals as goal

suited : (schema : Schema) (rules : List Rule) (stats : List Stat) → IsSchema schema → All (IsAccepted schema) rules → All (IsGoodStat rules schema.dim) stats → AllByRecursion (IsSuited schema rules) stats
suited schema rules stats is_schema accepted good = all_suited schema rules is_schema accepted stats (recursion_from_All (IsGoodStat rules schema.dim) stats good)

stands : (schema : Schema) (before : Map) → before.schema ≡ schema → IsSound before → Stands schema (start_of before) no_entries
stands schema before of_schema sound = subst (λ s. Stands s (start_of before) no_entries) of_schema (stands_first before sound)

pub returns-clause-one : goal.returns-clause-one
returns-clause-one c schema rules before stats outcomes others after end of_schema is_schema accepted sound good first second =
    one_run schema rules stats (suited schema rules stats is_schema accepted good) (start_of before) (start_of before) no_entries (stands schema before of_schema sound) (states_alike_self (start_of before)) outcomes others after end first second

pub returns-clause-bounds : goal.returns-clause-bounds
returns-clause-bounds c schema rules before stats outcomes after of_schema is_schema accepted sound good run =
    run_has_bounds schema rules stats (suited schema rules stats is_schema accepted good) (start_of before) no_entries (stands schema before of_schema sound) outcomes after run

pub returns-clause-one_pair : goal.returns-clause-one_pair
returns-clause-one_pair c schema rules before stats outcomes others after end bounds other of_schema is_schema accepted sound good first second =
    one_within schema rules stats (suited schema rules stats is_schema accepted good) (start_of before) (start_of before) no_entries no_entries (stands schema before of_schema sound) (states_alike_self (start_of before)) outcomes others after end bounds other first second
