use Rattle.gm_book.proofs.ReadRules.{one_hook_at_most}
use Rattle.gm_book.proofs.laws.one_hook_at_most_in_version_one.Goals as goal

pub returns : goal.returns
returns c = one_hook_at_most
