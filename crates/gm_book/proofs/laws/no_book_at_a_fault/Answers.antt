use Rattle.gm_book.proofs.OneBook.{no_book}
use Rattle.gm_book.proofs.laws.no_book_at_a_fault.Goals as goal

pub returns : goal.returns
returns c = no_book
