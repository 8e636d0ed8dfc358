use Rattle.gm_script.proofs.Agreement.{script_agrees, script_in_order}
use Rattle.gm_script.proofs.laws.scripts_agree_with_their_books.Goals as goal

pub returns-clause-order : goal.returns-clause-order
returns-clause-order c text n rules stats = script_in_order n rules text stats

pub returns-clause-each : goal.returns-clause-each
returns-clause-each c text n rules stats = script_agrees n rules text stats
