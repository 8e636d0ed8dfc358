-- A name for what is said of the statements at each place.
use Rattle.std.specs.Prelude.{List}
use Rattle.std.specs.List.{AllZip}
use Rattle.gm_model.specs.Rules.{Rule}
use Rattle.gm_model.specs.Statements.{Stat}
use Rattle.gm_script.specs.ScriptText.{StatForm, IsStat}

abbrev pub AreStats : List Rule → List StatForm → List Stat → Type 0
AreStats rules forms stats = AllZip (IsStat rules) forms stats
