use Rattle.std.proofs.Common.{◌≡◌, ◌++◌, take, codes}
use Rattle.gm_book.specs.Canonical.{letters_text}
use Rattle.gm_book.proofs.printing.print_word.Given as goal

abbrev pub invariant-loop-place : goal.invariant-loop-place
invariant-loop-place l = l.text ≡ l.fn.text ++ (l.name ++ codes " <") ++ letters_text (take l.place l.word)
