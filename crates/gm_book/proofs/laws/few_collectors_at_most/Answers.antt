use Rattle.gm_book.proofs.ReadRange.{few_from_text}
use Rattle.gm_book.proofs.laws.few_collectors_at_most.Goals as goal

pub returns : goal.returns
returns c = few_from_text
