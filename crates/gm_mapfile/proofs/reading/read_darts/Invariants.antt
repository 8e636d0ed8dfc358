use Rattle.gm_mapfile.specs.MapReading.{ReadsDarts}
use Rattle.gm_mapfile.proofs.reading.read_darts.Given as goal

abbrev pub invariant-loop : goal.invariant-loop
invariant-loop l = ReadsDarts l.schema l.counter l.fn.lexer l.ahead l.numbers.items l.values.items
