-- What going past an expression in a book's text answers.
use Rattle.std.specs.Prelude.{◌≡◌, ℕ, ◌++◌, IsTrue}
use Rattle.gm_text.specs.inner.Cursor.{Cursor}
use Rattle.gm_text.specs.inner.SchemaAnswers.{marks_left}
use Rattle.gm_parse.specs.declared.fault.SyntaxFault.{SyntaxFault}
use Rattle.gm_parse.specs.declared.fault.SyntaxFault.TheVariants as syntax_faults
use Rattle.gm_parse.specs.inner.Answers.{EndsBefore, Stops, run_in}
use Rattle.gm_parse.specs.inner.Reading.{Spot, first_spot, is_whole_spot}
use Rattle.gm_forms.specs.declared.form.Span.{Span}
use Rattle.gm_forms.specs.declared.form_fault.FormFault.{FormFault}
use Rattle.gm_forms.specs.declared.form_fault.FormFault.TheVariants as faults
use Rattle.gm_forms.specs.inner.Forms.{marks_in}
use Rattle.std.specs.Prelude.{Ok}

-- the marks that begin in the span lead over a whole expression, up to where it can't go on
pub record IsGoneOver (old : Cursor) (span : Span) (new : Cursor) : Type 0 where
  pub last : Spot
  pub split : marks_left old ≡ marks_in old.text span ++ marks_left new
  pub runs : (place : ℕ) → run_in span.dim first_spot place (marks_in old.text span) ≡ Ok last
  pub whole : IsTrue (is_whole_spot last)
  pub ends : EndsBefore last (marks_left new)

-- a fault of the expression's grammar and limits
abbrev pub IsValueFault : ℕ → Cursor → FormFault → Type 0
IsValueFault n old (faults.Text place) = Stops n first_spot old (syntax_faults.Text place)
IsValueFault n old (faults.Limit what place) = Stops n first_spot old (syntax_faults.Limit what place)
IsValueFault n old faults.OutOfMemory = ⊥

abbrev pub form_fault_of_syntax : SyntaxFault → FormFault
form_fault_of_syntax (syntax_faults.Text place) = faults.Text place
form_fault_of_syntax (syntax_faults.Limit what place) = faults.Limit what place
