use Rattle.std.proofs.Common.{◌≡◌, ◌++◌, map, take}
use Rattle.gm_mapfile.specs.inner.Ordering.{on_lines}
use Rattle.gm_mapfile.specs.declared.ordering.Line.{Line}
use Rattle.gm_mapfile.proofs.ordering.take_lines.Given as goal

abbrev pub invariant-loop-line : goal.invariant-loop-line
invariant-loop-line g l = l.taken.items ≡ l.fn.taken.items ++ on_lines l.width l.all (map (λ (line : Line). line.at) (take l.line-index l.lines))
