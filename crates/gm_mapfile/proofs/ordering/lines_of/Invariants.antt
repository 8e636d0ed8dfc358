use Rattle.std.proofs.Common.{◌≡◌, map}
use Rattle.gm_mapfile.specs.inner.Ordering.{counted_from}
use Rattle.gm_mapfile.specs.declared.ordering.Line.{Line}
use Rattle.gm_mapfile.proofs.ordering.lines_of.Given as goal

abbrev pub invariant-loop-at : goal.invariant-loop-at
invariant-loop-at l = map (λ (line : Line). line.at) l.lines.items ≡ counted_from 0 l.at
