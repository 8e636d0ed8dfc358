use Rattle.gm_tool.proofs.AnswersFound.{all_answered, answer_given}
use Rattle.gm_tool.proofs.answers.one_answer_at_least.Goals as goal

pub returns-clause-answer : goal.returns-clause-answer
returns-clause-answer c = all_answered

pub returns-clause-function : goal.returns-clause-function
returns-clause-function c = ((λ words files. (all_answered words files).0), answer_given)
