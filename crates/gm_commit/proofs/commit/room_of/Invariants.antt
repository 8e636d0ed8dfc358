use Rattle.std.proofs.Common.{length}
use Rattle.gm_commit.proofs.commit.room_of.Given as goal

abbrev pub decreases-loop-orbits : goal.decreases-loop-orbits
decreases-loop-orbits l = length l.by_embed.items
