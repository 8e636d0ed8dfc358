use Rattle.std.proofs.Common.{refl, subst}
use Rattle.gm_pending.specs.inner.AskedOrbits.{AreOrbitsOf}
use Rattle.gm_pending.specs.inner.Results.{PendingOf}
use Rattle.gm_pending.proofs.pending.Pending.into_orbits.Goals as goal

pub returns : goal.returns
returns c = subst (λ (a : PendingOf). AreOrbitsOf a c.self.inside.orbits.items) c.self.view_is (record { asked = refl; decided = c.self.invariant.2 })
