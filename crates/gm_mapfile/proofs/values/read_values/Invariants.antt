use Rattle.std.proofs.Common.{take}
use Rattle.gm_mapfile.specs.MapReading.{ReadsValues}
use Rattle.gm_mapfile.proofs.values.read_values.Given as goal

abbrev pub invariant-loop-embed : goal.invariant-loop-embed
invariant-loop-embed l = ReadsValues (take l.embed-index l.embeds) l.fn.lexer l.lexer l.fn.values.items l.values.items
