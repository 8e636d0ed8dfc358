use Rattle.gm_text.specs.inner.Lexing.{nothing}
use Rattle.gm_text.proofs.scan.behind_blank.Goals as goal

pub returns-clause-gap : goal.returns-clause-gap
returns-clause-gap c = nothing _
