use Rattle.std.proofs.Common.{sym, ◌∙◌}
use Rattle.gm_text.specs.inner.Lexing.{nothing}
use Rattle.gm_text.proofs.Gaps.{IsPassed-blank}
use Rattle.gm_text.proofs.scan.past_blank.Goals as goal

pub returns-then-is_blank-clause-gap : goal.returns-then-is_blank-clause-gap
returns-then-is_blank-clause-gap c = (IsPassed-blank _ _ c.requires (sym c.is_blank.ensures ∙ c.if-is_blank.true)).gap _ (nothing _)

pub returns-clause-gap : goal.returns-clause-gap
returns-clause-gap c = nothing _

pub returns-then-is_blank-clause-same : goal.returns-then-is_blank-clause-same
returns-then-is_blank-clause-same c = (IsPassed-blank _ _ c.requires (sym c.is_blank.ensures ∙ c.if-is_blank.true)).same
