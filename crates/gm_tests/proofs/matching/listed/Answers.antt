use Rattle.gm_match.proofs.Stepping.{slot_live}
use Rattle.gm_tests.proofs.matching.listed.Goals as goal

pub name_of-name-requires : goal.name_of-name-requires
name_of-name-requires g c = slot_live c.args.arena.now c.args.found.now c.requires.live _ _ c.slot.result c.slot.ensures
