-- The clause is the law.
use Rattle.gm_arena.proofs.ArenaIsMap.{is_map}
use Rattle.gm_arena.proofs.laws.what_is_held_is_a_map.Goals as goal

pub returns : goal.returns
returns c = is_map
