use Rattle.std.proofs.Common.{refl}
use Rattle.gm_run.proofs.lines.behind.Goals as goal

pub returns-in-Refused-Whole : goal.returns-in-Refused-Whole
returns-in-Refused-Whole c = rw (c.in-Refused-Whole.is-0, c.in-Refused-Whole.is-1) refl
