-- Why a text stands for no book: its first fault, by the grammar and its limits, and then by names; and the words that say so.
use Rattle.std.specs.Prelude.{ℕ, List, ◌++◌, codes, decimal}
use Rattle.gm_model.specs.declared.limit.LimitKind.{LimitKind}
use Rattle.gm_forms.specs.BookText.{IsTextFault, IsLimitFault, NameFault, TwiceAt, UnknownAt, WrongKindAt, IsFirstNameFault}
use Rattle.gm_mapfile.specs.MapFaults.{limit_word}

pub data BookTextFault : Type 0 where
  -- at this place no text goes on
  Ends : ℕ → BookTextFault
  -- a limit is passed at this place
  Passes : LimitKind → ℕ → BookTextFault
  -- a name is declared twice, or is unknown, or an expression has another kind than its place needs
  OfName : NameFault → BookTextFault

-- Only a text that the grammar reads within its limits has its names looked at.
pub data IsFirstBookFault (text : List ℕ) : BookTextFault → Type 0 where
  AtEnds : (place : ℕ) → IsTextFault text place → IsFirstBookFault text (Ends place)
  AtPasses : (what : LimitKind) (place : ℕ) → IsLimitFault text what place → IsFirstBookFault text (Passes what place)
  AtName : (fault : NameFault) → IsFirstNameFault text fault → IsFirstBookFault text (OfName fault)

-- ---- in words

abbrev pub name_fault_words : NameFault → List ℕ
name_fault_words (TwiceAt place) = codes "twice " ++ decimal place
name_fault_words (UnknownAt place) = codes "unknown " ++ decimal place
name_fault_words (WrongKindAt place) = codes "type " ++ decimal place

abbrev pub book_fault_words : BookTextFault → List ℕ
book_fault_words (Ends place) = codes "text " ++ decimal place
book_fault_words (Passes what place) = codes "limit " ++ limit_word what ++ codes " " ++ decimal place
book_fault_words (OfName fault) = name_fault_words fault
