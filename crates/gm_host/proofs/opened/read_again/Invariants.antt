use Rattle.std.proofs.Common.{◌≡◌, length}
use Rattle.std.specs.Io.KnownBytes.{Keeps}
use Rattle.gm_host.proofs.opened.read_again.Given as goal

-- the room keeps its length, and what failed read nothing
abbrev pub invariant-loop : goal.invariant-loop
invariant-loop g l = (length l.room ≡ length l.initial.room) × Keeps (g.F.Read.remaining l.initial.file) (g.F.Read.remaining l.file)
