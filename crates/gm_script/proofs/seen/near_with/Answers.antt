use Rattle.std.proofs.Common.{rules}
use Rattle.gm_script.specs.declared.sight.Sight.TheVariants as sights
use Rattle.gm_script.proofs.seen.near_with.Goals as goal

pub returns-clause-seen : goal.returns-clause-seen
returns-clause-seen c = c.in_ok-token.ensures.seen sights.With (search rules)
