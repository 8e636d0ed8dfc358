-- The words that say which fault a reader answered.
use Rattle.std.specs.Prelude.{◌≡◌, ℕ, List, [], ◌++◌}
use Rattle.gm_book.specs.declared.fault.BookFault.{BookFault}
use Rattle.gm_book.specs.declared.fault.BookFault.TheVariants as book
use Rattle.gm_forms.specs.BookText.{TwiceAt, UnknownAt, WrongKindAt}
use Rattle.gm_script.specs.ScriptText.{UnknownRuleAt, HookCountAt, ParamsAt}
use Rattle.gm_script.specs.declared.fault.ScriptFault.{ScriptFault}
use Rattle.gm_script.specs.declared.fault.ScriptFault.TheVariants as script
use Rattle.gm_lines.specs.ScriptFaults.{script_fault_words}
use Rattle.gm_lines.specs.ScriptFaults as script_faults
use Rattle.gm_lines.specs.BookFaults.{book_fault_words}
use Rattle.gm_lines.specs.BookFaults as book_faults
use Rattle.gm_lines.specs.Refusing.{IsBad, TheMap}

-- words that say why the bytes stand for no map are appended to the text
abbrev pub PutsMapFault : List ℕ → List ℕ → List ℕ → Type 0
PutsMapFault bytes old new = (why : List ℕ) × IsBad bytes TheMap why × (new ≡ old ++ why)

-- the fault is said by a line
abbrev pub IsSaidOfBook : BookFault → Type 0
IsSaidOfBook (book.Text place) = Unit {0}
IsSaidOfBook (book.Limit what place) = Unit {0}
IsSaidOfBook (book.Twice place) = Unit {0}
IsSaidOfBook (book.Unknown place) = Unit {0}
IsSaidOfBook (book.WrongKind place) = Unit {0}
IsSaidOfBook book.OutOfMemory = ⊥

abbrev pub book_words : BookFault → List ℕ
book_words (book.Text place) = book_fault_words (book_faults.Ends place)
book_words (book.Limit what place) = book_fault_words (book_faults.Passes what place)
book_words (book.Twice place) = book_fault_words (book_faults.OfName (TwiceAt place))
book_words (book.Unknown place) = book_fault_words (book_faults.OfName (UnknownAt place))
book_words (book.WrongKind place) = book_fault_words (book_faults.OfName (WrongKindAt place))
book_words book.OutOfMemory = []

-- the fault is said by a line
abbrev pub IsSaidOfScript : ScriptFault → Type 0
IsSaidOfScript (script.Text place) = Unit {0}
IsSaidOfScript (script.Limit what place) = Unit {0}
IsSaidOfScript (script.Twice place) = Unit {0}
IsSaidOfScript (script.UnknownRule place) = Unit {0}
IsSaidOfScript (script.HookCount place) = Unit {0}
IsSaidOfScript (script.Params place) = Unit {0}
IsSaidOfScript script.OutOfMemory = ⊥

abbrev pub script_words : ScriptFault → List ℕ
script_words (script.Text place) = script_fault_words (script_faults.Ends place)
script_words (script.Limit what place) = script_fault_words (script_faults.Passes what place)
script_words (script.Twice place) = script_fault_words (script_faults.Again place)
script_words (script.UnknownRule place) = script_fault_words (script_faults.OfStat (UnknownRuleAt place))
script_words (script.HookCount place) = script_fault_words (script_faults.OfStat (HookCountAt place))
script_words (script.Params place) = script_fault_words (script_faults.OfStat (ParamsAt place))
script_words script.OutOfMemory = []
