-- An expression stands at each place of a text, or the marks there have a first fault.
use Rattle.std.proofs.Common.{◌≡◌, ◌⊎◌, ℕ, Bool, true, false, List, ◌++◌, Some, None, Result, Ok, Err, inl, inr, refl, sym, ap, ◌∙◌}
use Rattle.gm_model.specs.declared.limit.LimitKind.{LimitKind}
use Rattle.gm_model.specs.Symbols.{Symbol, Mark}
use Rattle.gm_text.specs.inner.Cursor.{Cursor}
use Rattle.gm_text.specs.inner.Machine.{Stop, Ends, Passes}
use Rattle.gm_text.specs.inner.SchemaAnswers.{marks_left, IsNoToken}
use Rattle.gm_text.proofs.AtLeast.{cut, behind_all}
use Rattle.gm_text.proofs.TextMarks.{left_end, place_of_mark}
use Rattle.gm_parse.specs.declared.fault.SyntaxFault.{SyntaxFault}
use Rattle.gm_parse.specs.declared.fault.SyntaxFault.TheVariants as faults
use Rattle.gm_parse.specs.inner.Answers.{IsExprSkipped, IsSyntaxFault, run_in}
use Rattle.gm_parse.specs.inner.Reading.{Spot, first_spot, spot_move, spot_role, is_whole_spot, never}
use Rattle.gm_parse.specs.Spelling.{limit_in}
use Rattle.gm_parse.proofs.Standing.{other_spot, ends_stand, passes_stand, form_stands}
use Rattle.gm_parse.proofs.Steps.{no_token}

-- no expression goes on with what is no token
none_moves : (spot next : Spot) (symbol : Symbol) → IsNoToken symbol → spot_move spot symbol ≡ Some next → ⊥
none_moves spot next symbol none moves = let no_way : Some next ≡ None = sym moves ∙ other_spot spot symbol (no_token symbol none) in absurd cc

module _ (n : ℕ) (old : Cursor) where
  abbrev pub Skipped : Type 0
  Skipped = (new : Cursor) × IsExprSkipped n old new

  abbrev pub AtFault : Type 0
  AtFault = (fault : SyntaxFault) × IsSyntaxFault n (marks_left old) fault

  at_end : (stop : Spot) (mark : Mark) → run_in n first_spot 0 (marks_left old) ≡ Err (Ends stop mark) → (whole : Bool) → is_whole_spot stop ≡ whole → Skipped ⊎ AtFault
  at_end stop mark e false part = inr (faults.Text mark.place, ends_stand n (marks_left old) stop mark e part)
  at_end stop mark e true whole =
      let here = cut limit_in never (spot_role n) spot_move first_spot stop 0 (marks_left old) mark e in
      let (new, left) = place_of_mark old here.before mark here.after here.split in
      let split : marks_left old ≡ here.before ++ marks_left new = here.split ∙ ap (λ (ms : List Mark). here.before ++ ms) (sym left) in
      let (form, stands, same) = form_stands n (marks_left old) here.before (marks_left new) mark here.after stop here.runs whole split left here.refused in
      inl (new, record { form = form; stands = stands })

  pub skipped_or_fault : Skipped ⊎ AtFault
  skipped_or_fault = go (run_in n first_spot 0 (marks_left old)) refl
    where
      go : (answer : Result Spot (Stop Spot LimitKind)) → run_in n first_spot 0 (marks_left old) ≡ answer → Skipped ⊎ AtFault
      go (Ok to) e = absurd (behind_all limit_in never (spot_role n) spot_move (λ s. ⊥) none_moves first_spot to 0 (marks_left old) (left_end old) e)
      go (Err (Ends stop mark)) e = at_end stop mark e (is_whole_spot stop) refl
      go (Err (Passes what place)) e = inr (faults.Limit what place, passes_stand n (marks_left old) what place e)
