use Rattle.gm_tree.proofs.FewNames.{few_all}
use Rattle.gm_tree.proofs.laws.few_names_are_all_first.Goals as goal

pub returns : goal.returns
returns c = few_all
