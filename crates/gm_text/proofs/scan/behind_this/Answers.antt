use Rattle.std.proofs.Common.{◌≡◌, true, ap, ◌∙◌}
use Rattle.gm_model.specs.Tokens.{is_blank}
use Rattle.gm_text.proofs.Gaps.{IsPassed-blank}
use Rattle.gm_text.proofs.scan.behind_this.Goals as goal

pub returns-clause-same : goal.returns-clause-same
returns-clause-same c =
    let blank : is_blank c.in-Some.blank ≡ true = rw c.in-Some.is at c.requires.blank in
    (IsPassed-blank _ _ c.requires.inside (ap is_blank c.if-text-from.false ∙ blank)).same
