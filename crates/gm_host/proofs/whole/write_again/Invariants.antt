use Rattle.std.specs.Io.KnownBytes.{Keeps}
use Rattle.gm_host.proofs.whole.write_again.Given as goal

-- what failed wrote nothing
abbrev pub invariant-loop : goal.invariant-loop
invariant-loop g l = Keeps (g.W.Write.contents l.initial.writer) (g.W.Write.contents l.writer)
