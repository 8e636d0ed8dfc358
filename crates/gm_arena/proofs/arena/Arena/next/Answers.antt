use Rattle.std.proofs.Common.{subst}
use Rattle.gm_arena.specs.inner.Lawful.{IsLawful}
use Rattle.gm_arena.proofs.InsideLemmas.{lawful}
use Rattle.gm_arena.proofs.arena.Arena.next.Goals as goal

pub returns-clause-lawful : goal.returns-clause-lawful
returns-clause-lawful c = subst IsLawful c.self.view_is (lawful _ _ _ _ _ _ _ _ _ _ c.self.invariant.0)
