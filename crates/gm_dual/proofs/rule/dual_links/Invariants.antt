use Rattle.std.proofs.Common.{◌≡◌, map, take}
use Rattle.gm_dual.specs.Duals as duals
use Rattle.gm_dual.proofs.rule.dual_links.Given as goal

abbrev pub invariant-loop-link : goal.invariant-loop-link
invariant-loop-link l = l.made.items ≡ map (duals.dual_link l.top) (take l.link-index l.links)
