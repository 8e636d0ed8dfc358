-- The status of a run, line by line.
use Rattle.std.proofs.Common.{◌≡◌, ℕ, ◌+◌, ◌<◌, ◌≤◌, Bool, true, false, List, ◌∷◌, drop, get_or, length, Some, sym, ap, ◌∙◌, arith}
use Rattle.std.proofs.lemmas.List.{drop_all}
use Rattle.std.specs.Prelude.{if◌then◌else◌}
use Rattle.gm_model.specs.Runs as runs
use Rattle.gm_run.specs.declared.outcome.Outcome.{Outcome}
use Rattle.gm_run.specs.inner.Lines.{outcome_of, Tells}
use Rattle.gm_run.proofs.Telling.{IsToldAt, as_many, behind, told_at}
use Rattle.gm_tool.specs.RunAnswer.{says_refused, run_status}

-- the lines from this one on have the status of all lines
abbrev pub IsStatusFrom : List runs.Outcome → ℕ → Type 0
IsStatusFrom told k = run_status (drop k told) ≡ run_status told

module _ (lines : List Outcome) (told : List runs.Outcome) (tells : Tells lines told) (k : ℕ) where
  module _ (line d : Outcome) (within : k < length lines) (line_is : line ≡ get_or lines k d) (refused : Bool) (is : (outcome : runs.Outcome) → outcome_of line ≡ Some outcome → refused ≡ says_refused outcome) (before : IsStatusFrom told k) where
    here : IsToldAt lines told tells k line
    here = told_at lines told tells k line d within line_is

    from_here : run_status (here.outcome ∷ drop (k + 1) told) ≡ run_status told
    from_here = sym (ap run_status (behind told k here.outcome here.at)) ∙ before

    pub goes_on : refused ≡ false → IsStatusFrom told (k + 1)
    goes_on done = sym (ap (λ b. if b then 1 else run_status (drop (k + 1) told)) (sym (is here.outcome here.is) ∙ done)) ∙ from_here

    pub stops : refused ≡ true → 1 ≡ run_status told
    stops at_line = sym (ap (λ b. if b then 1 else run_status (drop (k + 1) told)) (sym (is here.outcome here.is) ∙ at_line)) ∙ from_here

  pub ends : length lines ≤ k → IsStatusFrom told k → 0 ≡ run_status told
  ends past before = sym (ap run_status (drop_all k told (let many = as_many lines told tells in omega (arith, many, past)))) ∙ before
