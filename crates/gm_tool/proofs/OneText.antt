-- A text has one first fault at most as a book and as a script, and one that has a fault stands for none.
use Rattle.std.proofs.Common.{◌≡◌, ◌≢◌, ℕ, List, refl, sym, ap, ◌∙◌}
use Rattle.std.proofs.Math.Path.{ap₂}
use Rattle.gm_forms.specs.BookText.{TwiceAt, UnknownAt, WrongKindAt, StandsForNoBook}
use Rattle.gm_model.specs.Rules.{Rule}
use Rattle.gm_book.specs.declared.fault.BookFault.{BookFault}
use Rattle.gm_book.specs.declared.fault.BookFault.TheVariants as faults
use Rattle.gm_book.specs.inner.Faults.{IsFaultOf}
use Rattle.gm_book.proofs.OneBook.{one_fault, no_book}
use Rattle.gm_script.specs.ScriptText.{StandsForNoScript}
use Rattle.gm_text.specs.SchemaText.{LimitOf, Again}
use Rattle.gm_script.proofs.FirstFault.{one_text_fault, one_limit_fault, one_again_fault, limit_or_again, text_or_passed, none_at_text, none_at_passed}
use Rattle.gm_script.proofs.OneScript.{one_disagreement, no_script_at_disagreement}
use Rattle.gm_lines.specs.BookFaults as books
use Rattle.gm_lines.specs.BookFaults.{BookTextFault, IsFirstBookFault}
use Rattle.gm_lines.specs.ScriptFaults as scripts
use Rattle.gm_lines.specs.ScriptFaults.{ScriptTextFault, IsFirstScriptFault}

-- ---- books

-- the fault as the reader of books says it, and back
abbrev as_read : BookTextFault → BookFault
as_read (books.Ends place) = faults.Text place
as_read (books.Passes what place) = faults.Limit what place
as_read (books.OfName (TwiceAt place)) = faults.Twice place
as_read (books.OfName (UnknownAt place)) = faults.Unknown place
as_read (books.OfName (WrongKindAt place)) = faults.WrongKind place

-- want of memory is no fault of a text, so anything stands for it
abbrev as_written : BookFault → BookTextFault
as_written (faults.Text place) = books.Ends place
as_written (faults.Limit what place) = books.Passes what place
as_written (faults.Twice place) = books.OfName (TwiceAt place)
as_written (faults.Unknown place) = books.OfName (UnknownAt place)
as_written (faults.WrongKind place) = books.OfName (WrongKindAt place)
as_written faults.OutOfMemory = books.Ends 0

read_again : (fault : BookTextFault) → as_written (as_read fault) ≡ fault
read_again (books.Ends place) = refl
read_again (books.Passes what place) = refl
read_again (books.OfName (TwiceAt place)) = refl
read_again (books.OfName (UnknownAt place)) = refl
read_again (books.OfName (WrongKindAt place)) = refl

no_memory : (fault : BookTextFault) → as_read fault ≢ faults.OutOfMemory
no_memory (books.Ends place) e = absurd cc
no_memory (books.Passes what place) e = absurd cc
no_memory (books.OfName (TwiceAt place)) e = absurd cc
no_memory (books.OfName (UnknownAt place)) e = absurd cc
no_memory (books.OfName (WrongKindAt place)) e = absurd cc

is_read : (text : List ℕ) (fault : BookTextFault) → IsFirstBookFault text fault → IsFaultOf text (as_read fault)
is_read text _ (books.AtEnds place h) = h
is_read text _ (books.AtPasses what place h) = h
is_read text _ (books.AtName (TwiceAt place) h) = h
is_read text _ (books.AtName (UnknownAt place) h) = h
is_read text _ (books.AtName (WrongKindAt place) h) = h

pub one_book_fault : (text : List ℕ) (fault other : BookTextFault) → IsFirstBookFault text fault → IsFirstBookFault text other → fault ≡ other
one_book_fault text fault other a b =
    let same : as_read fault ≡ as_read other = one_fault text (as_read fault) (as_read other) (no_memory fault) (no_memory other) (is_read text fault a) (is_read text other b) in
    sym (read_again fault) ∙ ap as_written same ∙ read_again other

pub no_book_at : (text : List ℕ) (fault : BookTextFault) → IsFirstBookFault text fault → StandsForNoBook text
no_book_at text fault is = no_book text (as_read fault) (no_memory fault) (is_read text fault is)

-- ---- scripts

module _ (text : List ℕ) (n : ℕ) (rules : List Rule) where
  pub one_script_fault : (fault other : ScriptTextFault) → IsFirstScriptFault text n rules fault → IsFirstScriptFault text n rules other → fault ≡ other
  one_script_fault _ _ (scripts.AtEnds p a) (scripts.AtEnds q b) = ap scripts.Ends (one_text_fault n text p q a b)
  one_script_fault _ _ (scripts.AtEnds p a) (scripts.AtPasses what q b) = absurd (text_or_passed n text (LimitOf what) p q a b)
  one_script_fault _ _ (scripts.AtEnds p a) (scripts.AtAgain q b) = absurd (text_or_passed n text Again p q a b)
  one_script_fault _ _ (scripts.AtEnds p a) (scripts.AtStat fault b) = absurd (none_at_text n text p _ a b.written)
  one_script_fault _ _ (scripts.AtPasses what p a) (scripts.AtEnds q b) = absurd (text_or_passed n text (LimitOf what) q p b a)
  one_script_fault _ _ (scripts.AtPasses what p a) (scripts.AtPasses other q b) = let same = one_limit_fault n text what other p q a b in ap₂ scripts.Passes same.0 same.1
  one_script_fault _ _ (scripts.AtPasses what p a) (scripts.AtAgain q b) = absurd (limit_or_again n text what p q a b)
  one_script_fault _ _ (scripts.AtPasses what p a) (scripts.AtStat fault b) = absurd (none_at_passed n text (LimitOf what) p _ a b.written)
  one_script_fault _ _ (scripts.AtAgain p a) (scripts.AtEnds q b) = absurd (text_or_passed n text Again q p b a)
  one_script_fault _ _ (scripts.AtAgain p a) (scripts.AtPasses what q b) = absurd (limit_or_again n text what q p b a)
  one_script_fault _ _ (scripts.AtAgain p a) (scripts.AtAgain q b) = ap scripts.Again (one_again_fault n text p q a b)
  one_script_fault _ _ (scripts.AtAgain p a) (scripts.AtStat fault b) = absurd (none_at_passed n text Again p _ a b.written)
  one_script_fault _ _ (scripts.AtStat fault a) (scripts.AtEnds q b) = absurd (none_at_text n text q _ b a.written)
  one_script_fault _ _ (scripts.AtStat fault a) (scripts.AtPasses what q b) = absurd (none_at_passed n text (LimitOf what) q _ b a.written)
  one_script_fault _ _ (scripts.AtStat fault a) (scripts.AtAgain q b) = absurd (none_at_passed n text Again q _ b a.written)
  one_script_fault _ _ (scripts.AtStat fault a) (scripts.AtStat other b) = ap scripts.OfStat (one_disagreement text n rules fault other a b)

  pub no_script_at : (fault : ScriptTextFault) → IsFirstScriptFault text n rules fault → StandsForNoScript text n rules
  no_script_at _ (scripts.AtEnds place h) = λ stats stands. none_at_text n text place stands.forms h stands.written
  no_script_at _ (scripts.AtPasses what place h) = λ stats stands. none_at_passed n text (LimitOf what) place stands.forms h stands.written
  no_script_at _ (scripts.AtAgain place h) = λ stats stands. none_at_passed n text Again place stands.forms h stands.written
  no_script_at _ (scripts.AtStat fault h) = no_script_at_disagreement text n rules fault h
