use Rattle.std.proofs.Common.{◌≡◌, map, take}
use Rattle.gm_dual.specs.Duals as duals
use Rattle.gm_dual.proofs.schema.dual_embeds.Given as goal

abbrev pub invariant-loop-embed : goal.invariant-loop-embed
invariant-loop-embed l = l.made.items ≡ map (duals.dual_embed l.top) (take l.embed-index l.embeds)
