use Rattle.gm_arena.proofs.InsideLemmas.{sound_next}
use Rattle.gm_arena.proofs.arena.Arena.set_next.Goals as goal

pub invariant_of-self : goal.invariant_of-self
invariant_of-self c =
    (sound_next _ _ _ _ _ _ _ _ _ _ c.self.invariant.0 c.args.next (rw (← c.self.view_is) at c.requires.names) c.requires.limit, c.self.invariant.1, c.self.invariant.2)
