use Rattle.gm_mapfile.specs.MapReading.{ReadsNames}
use Rattle.gm_mapfile.proofs.reading.read_names.Given as goal

abbrev pub invariant-loop : goal.invariant-loop
invariant-loop l = ReadsNames l.counter l.fn.lexer l.lexer l.fn.names.items l.names.items
