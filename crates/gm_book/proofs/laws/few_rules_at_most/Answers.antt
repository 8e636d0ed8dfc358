use Rattle.gm_book.proofs.ReadRules.{few_at_most}
use Rattle.gm_book.proofs.laws.few_rules_at_most.Goals as goal

pub returns : goal.returns
returns c = few_at_most
