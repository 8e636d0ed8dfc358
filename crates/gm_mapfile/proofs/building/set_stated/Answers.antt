use Rattle.std.proofs.Common.{refl}
use Rattle.gm_mapfile.proofs.building.set_stated.Goals as goal

pub returns-in_err-next-clause-below : goal.returns-in_err-next-clause-below
returns-in_err-next-clause-below c = rw (c.from_residual.ensures, c.in_err-next.was) tt

pub returns-in_err-next-clause-set : goal.returns-in_err-next-clause-set
returns-in_err-next-clause-set c = rw (c.from_residual.ensures, c.in_err-next.was) refl

pub least_not_below-least-requires-clause-next : goal.least_not_below-least-requires-clause-next
least_not_below-least-requires-clause-next c = c.requires.next

pub least_not_below-least-requires-clause-live : goal.least_not_below-least-requires-clause-live
least_not_below-least-requires-clause-live c = c.requires.live
