use Rattle.gm_arena.proofs.InsideLemmas.{key_at, live_place, slot_at, name_in-get}
use Rattle.gm_arena.proofs.arena.Arena.name_of.Goals as goal

pub read_name-requires-clause-live : goal.read_name-requires-clause-live
read_name-requires-clause-live g c = key_at c.self.inside.places _ (rw (← c.self.view_is) at c.requires)

pub returns-clause-name : goal.returns-clause-name
returns-clause-name g c =
    let places = c.self.inside.places in
    let place = live_place places c.args.slot.at (rw (← c.self.view_is) at c.requires) in
    rw (← c.self.view_is, c.read_name.ensures, name_in-get places c.args.slot.at place.0 place.1) (slot_at places _ _ place.1)
