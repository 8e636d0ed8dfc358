-- The marks where a lexer answers no token.
use Rattle.std.proofs.Common.{◌≡◌, ℕ, length, None, Ok, Err, refl, sym}
use Rattle.gm_model.specs.Symbols.{Stray, End}
use Rattle.gm_text.specs.inner.Cursor.{Cursor}
use Rattle.gm_text.specs.inner.Lexing.{rest_of, items_read}
use Rattle.gm_text.specs.declared.fault.LexFault.{LexFault}
use Rattle.gm_text.specs.inner.SchemaAnswers.{AtStray, AtEnd, IsNoneNext}
use Rattle.gm_text.proofs.Marks.{marks_at-end, marks_at-stray}

pub none_at_end : (cursor new : Cursor) (place : ℕ) → rest_of cursor ≡ items_read cursor.text (Ok None) (rest_of new) → place ≡ length cursor.text → IsNoneNext cursor place
none_at_end cursor new place answer e = record {
  mark = record { symbol = End; place = length cursor.text };
  none = AtEnd;
  marks = marks_at-end cursor.text cursor.place answer;
  here = sym e;
}

pub none_at_stray : (cursor new : Cursor) (fault : LexFault) → rest_of cursor ≡ items_read cursor.text (Err fault) (rest_of new) → IsNoneNext cursor fault.place
none_at_stray cursor new fault answer = record {
  mark = record { symbol = Stray; place = fault.place };
  none = AtStray;
  marks = marks_at-stray cursor.text cursor.place fault.place answer;
  here = refl;
}
