use Rattle.gm_book.proofs.ReadRange.{range_from_text}
use Rattle.gm_book.proofs.laws.what_is_read_is_in_range.Goals as goal

pub returns : goal.returns
returns c = range_from_text
