use Rattle.gm_tool.proofs.OneAnswer.{one_answer}
use Rattle.gm_tool.proofs.laws.one_answer_at_most.Goals as goal

pub returns : goal.returns
returns c = one_answer
