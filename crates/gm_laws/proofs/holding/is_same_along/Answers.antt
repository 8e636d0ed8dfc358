use Rattle.std.proofs.Common.{sym, ◌∙◌}
use Rattle.gm_laws.proofs.ValueLemmas.{same_value}
use Rattle.gm_laws.proofs.holding.is_same_along.Goals as goal

pub returns-then-has : goal.returns-then-has
returns-then-has c = record { same = λ is has. same_value c.args.other c.args.value (sym c.eq.ensures ∙ is) }
