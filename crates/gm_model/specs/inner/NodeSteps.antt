-- How the steps of a node grow by one more link or letter.
use Rattle.std.specs.Prelude.{ℕ, List, None}
use Rattle.std.specs.List.{position}
use Rattle.gm_model.specs.declared.step.Step.{Step}
use Rattle.gm_model.specs.declared.step.Step.TheVariants.{Absent, Exp, Imp}
use Rattle.gm_model.specs.declared.word.Letter.{Letter}
use Rattle.gm_model.specs.Rules.{is_label, step_by}

-- the first step, or else the second
abbrev pub step_or : Step → Step → Step
step_or Absent t = t
step_or (Exp y) t = Exp y
step_or (Imp m) t = Imp m

-- what the word has at the label
abbrev pub letter_step : List Letter → ℕ → Step
letter_step word i = step_by 0 None (position (is_label i) word)
