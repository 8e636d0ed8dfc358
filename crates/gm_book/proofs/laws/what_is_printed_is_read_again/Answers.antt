use Rattle.gm_book.proofs.ReadAgain.{read_again}
use Rattle.gm_book.proofs.laws.what_is_printed_is_read_again.Goals as goal

pub returns : goal.returns
returns c = read_again
