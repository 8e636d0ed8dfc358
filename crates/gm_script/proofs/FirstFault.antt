-- A text has one first fault at most by the grammar and its limits, and then no statements are written in it.
use Rattle.std.proofs.Common.{◌≡◌, ℕ, List, Result, Ok, Err, sym, ap, ◌∙◌}
use Rattle.gm_model.specs.declared.limit.LimitKind.{LimitKind}
use Rattle.gm_model.specs.Symbols.{Mark, marks_of}
use Rattle.gm_model.specs.Reading.{LimitStandsAt}
use Rattle.gm_text.specs.SchemaText.{Passed, LimitOf, Again}
use Rattle.gm_text.specs.inner.Machine.{Stop, Ends, Passes, run}
use Rattle.gm_text.proofs.Machine.{reading_runs, ends_run, passes_run}
use Rattle.gm_script.specs.ScriptText.{StatForm, passed_of, spelling, IsSentence, IsWritten, IsTextFault, IsLimitFault, IsAgainFault}
use Rattle.gm_script.specs.inner.Reading.{State, Ended, first_state, move, role_at, never}
use Rattle.gm_script.proofs.Grammar.{grammar}

module _ (n : ℕ) (text : List ℕ) where
  abbrev pub answer_to : Result State (Stop State Passed)
  answer_to = run passed_of never (role_at n) move first_state 0 (marks_of text)

  pub written_runs : (forms : List StatForm) → IsWritten n text forms → answer_to ≡ Ok Ended
  written_runs forms written = reading_runs passed_of never (role_at n) move (IsSentence n) first_state Ended (grammar n) (marks_of text) (spelling n forms) written.read

  pub text_runs : (place : ℕ) → IsTextFault n text place → (stop : State) × (mark : Mark) × (mark.place ≡ place) × (answer_to ≡ Err (Ends stop mark))
  text_runs place fault = ends_run passed_of never (role_at n) move (IsSentence n) first_state Ended (grammar n) (marks_of text) place fault

  -- something is passed at the place
  abbrev pub PassesAt : Passed → ℕ → Type 0
  PassesAt what place = LimitStandsAt (IsSentence n) passed_of never (marks_of text) what place

  pub passed_runs : (what : Passed) (place : ℕ) → PassesAt what place → answer_to ≡ Err (Passes what place)
  passed_runs what place fault = passes_run passed_of never (role_at n) move (IsSentence n) first_state Ended (grammar n) (marks_of text) what place fault

  pub one_text_fault : (place other : ℕ) → IsTextFault n text place → IsTextFault n text other → place ≡ other
  one_text_fault place other one two =
      let first = text_runs place one in
      let second = text_runs other two in
      let same : Err (Ends first.0 first.1) ≡ Err (Ends second.0 second.1) = sym first.3 ∙ second.3 in
      let mark : first.1 ≡ second.1 = cc same in
      sym first.2 ∙ ap (λ (m : Mark). m.place) mark ∙ second.2

  one_passed : (what other : Passed) (place last : ℕ) → PassesAt what place → PassesAt other last → (what ≡ other) × (place ≡ last)
  one_passed what other place last one two =
      let same : Err (Passes what place) ≡ Err (Passes other last) = sym (passed_runs what place one) ∙ passed_runs other last two in
      (cc same, cc same)

  pub one_limit_fault : (what other : LimitKind) (place last : ℕ) → IsLimitFault n text what place → IsLimitFault n text other last → (what ≡ other) × (place ≡ last)
  one_limit_fault what other place last one two = let both = one_passed (LimitOf what) (LimitOf other) place last one two in (cc both.0, both.1)

  pub one_again_fault : (place last : ℕ) → IsAgainFault n text place → IsAgainFault n text last → place ≡ last
  one_again_fault place last one two = (one_passed Again Again place last one two).1

  pub limit_or_again : (what : LimitKind) (place other : ℕ) → IsLimitFault n text what place → IsAgainFault n text other → ⊥
  limit_or_again what place other one two = let both = one_passed (LimitOf what) Again place other one two in absurd (cc both.0)

  pub text_or_passed : (what : Passed) (place other : ℕ) → IsTextFault n text place → PassesAt what other → ⊥
  text_or_passed what place other one two =
      let first = text_runs place one in
      let same : Err (Ends first.0 first.1) ≡ Err (Passes what other) = sym first.3 ∙ passed_runs what other two in
      absurd cc

  pub none_at_text : (place : ℕ) (forms : List StatForm) → IsTextFault n text place → IsWritten n text forms → ⊥
  none_at_text place forms fault written =
      let first = text_runs place fault in
      let same : Err (Ends first.0 first.1) ≡ Ok Ended = sym first.3 ∙ written_runs forms written in
      absurd cc

  pub none_at_passed : (what : Passed) (place : ℕ) (forms : List StatForm) → PassesAt what place → IsWritten n text forms → ⊥
  none_at_passed what place forms fault written =
      let same : Err (Passes what place) ≡ Ok Ended = sym (passed_runs what place fault) ∙ written_runs forms written in
      absurd cc
