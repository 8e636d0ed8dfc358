-- Names for the labels of an orbit and of a path, as they are spelled.
use Rattle.std.specs.Prelude.{ℕ, List, [], ◌∷◌, ◌++◌, map, codes}
use Rattle.std.specs.List.{flat_map}
use Rattle.gm_model.specs.Reading.{Part, number, sign}
use Rattle.gm_text.specs.SchemaText.{LabelForm}
use Rattle.gm_parse.specs.Spelling.{Role, Fixed, LabelAt, StepAt}

abbrev pub spell_labels : ℕ → List LabelForm → List (Part Role) → List (Part Role)
spell_labels n orbit rest = map (λ (form : LabelForm). number (LabelAt n form.place) form.label) orbit ++ rest

-- @0@1
abbrev pub spell_path : ℕ → List ℕ → List (Part Role) → List (Part Role)
spell_path n path rest = flat_map (λ (label : ℕ). sign Fixed (codes "@") ∷ number (StepAt n) label ∷ []) path ++ rest
