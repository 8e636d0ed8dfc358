use Rattle.gm_book.proofs.OneBook.{one_book}
use Rattle.gm_book.proofs.laws.one_book_at_most.Goals as goal

pub returns : goal.returns
returns c = one_book
