use Rattle.gm_text.specs.SchemaText.{LimitOf, Again}
use Rattle.gm_script.proofs.FirstFault.{one_text_fault, one_limit_fault, one_again_fault, limit_or_again, text_or_passed, none_at_text, none_at_passed}
use Rattle.gm_script.proofs.OneScript.{one_disagreement, no_script_at_disagreement}
use Rattle.gm_script.proofs.laws.one_first_fault_at_most.Goals as goal

pub returns-clause-text : goal.returns-clause-text
returns-clause-text c = one_text_fault

pub returns-clause-limit : goal.returns-clause-limit
returns-clause-limit c = one_limit_fault

pub returns-clause-again : goal.returns-clause-again
returns-clause-again c = one_again_fault

pub returns-clause-either : goal.returns-clause-either
returns-clause-either c n text what place other = text_or_passed n text (LimitOf what) place other

pub returns-clause-text_or_again : goal.returns-clause-text_or_again
returns-clause-text_or_again c n text place other = text_or_passed n text Again place other

pub returns-clause-limit_or_again : goal.returns-clause-limit_or_again
returns-clause-limit_or_again c = limit_or_again

pub returns-clause-disagreement : goal.returns-clause-disagreement
returns-clause-disagreement c = one_disagreement

pub returns-clause-no_disagreement_at_text : goal.returns-clause-no_disagreement_at_text
returns-clause-no_disagreement_at_text c text n rules place fault ends first = none_at_text n text place _ ends first.written

pub returns-clause-no_disagreement_at_limit : goal.returns-clause-no_disagreement_at_limit
returns-clause-no_disagreement_at_limit c text n rules what place fault passes first = none_at_passed n text (LimitOf what) place _ passes first.written

pub returns-clause-no_disagreement_at_again : goal.returns-clause-no_disagreement_at_again
returns-clause-no_disagreement_at_again c text n rules place fault passes first = none_at_passed n text Again place _ passes first.written

pub returns-clause-no_script_at_text : goal.returns-clause-no_script_at_text
returns-clause-no_script_at_text c text n rules place ends stats stands = none_at_text n text place stands.forms ends stands.written

pub returns-clause-no_script_at_limit : goal.returns-clause-no_script_at_limit
returns-clause-no_script_at_limit c text n rules what place passes stats stands = none_at_passed n text (LimitOf what) place stands.forms passes stands.written

pub returns-clause-no_script_at_again : goal.returns-clause-no_script_at_again
returns-clause-no_script_at_again c text n rules place passes stats stands = none_at_passed n text Again place stands.forms passes stands.written

pub returns-clause-no_script_at_disagreement : goal.returns-clause-no_script_at_disagreement
returns-clause-no_script_at_disagreement c = no_script_at_disagreement
