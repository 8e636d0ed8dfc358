-- Names for what is said of a listing at each place, and for the numbers that begin a dart's line.
use Rattle.std.specs.Prelude.{◌≡◌, ℕ, List, ◌++◌, map, length}
use Rattle.std.specs.List.{AllZip}
use Rattle.gm_model.specs.declared.schema.Embed.{Embed}
use Rattle.gm_model.specs.Reading.{Part, number}
use Rattle.gm_text.specs.ValueText.{Signed}
use Rattle.gm_mapfile.specs.MapText.{DartForm, DartRow, Role, DartName, IsRow, width}

abbrev pub spell_names : List ℕ → List (Part Role) → List (Part Role)
spell_names names rest = map (number DartName) names ++ rest

-- for each embedding as many numbers as its kind has
abbrev pub AreWide : List Embed → List (List Signed) → Type 0
AreWide embeds values = AllZip (λ (embed : Embed) (value : List Signed). length value ≡ width embed.kind) embeds values

abbrev pub AreRows : List Embed → List DartForm → List DartRow → Type 0
AreRows embeds forms darts = AllZip (IsRow embeds) forms darts
