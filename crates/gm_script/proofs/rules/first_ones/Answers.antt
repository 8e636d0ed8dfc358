use Rattle.std.proofs.Common.{◌∙◌, ap, take}
use Rattle.gm_script.proofs.Indices.{take_least}
use Rattle.gm_script.proofs.rules.first_ones.Goals as goal

pub returns-clause-value : goal.returns-clause-value
returns-clause-value c = ap (λ n. take n c.args.rules.now) c.min.ensures ∙ take_least 65536 c.args.rules.now
