use Rattle.gm_undo.proofs.Tellings.{new_stands}
use Rattle.gm_undo.proofs.history.History.new.Goals as goal

pub returns-clause-history : goal.returns-clause-history
returns-clause-history c m lawful sound = rw c.new-2.ensures.items (new_stands c.new.result.labels c.new.result.width m lawful sound)
