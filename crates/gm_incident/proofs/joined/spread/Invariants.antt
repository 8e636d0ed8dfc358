use Rattle.std.proofs.Common.{◌≡◌, ◌<◌, ◌≤◌, true, false, length, take}
use Rattle.std.specs.List.{All}
use Rattle.gm_model.specs.declared.rule.Link.{Link}
use Rattle.gm_incident.specs.inner.Reached.{is_reached, unreached, HasSpread}
use Rattle.gm_incident.proofs.joined.spread.Given as goal

abbrev pub invariant-loop-link : goal.invariant-loop-link
invariant-loop-link l = record {
  len : length l.reached ≡ 32;
  spread : HasSpread l.links l.fn.reached l.reached;
  more : l.has_spread ≡ true → unreached l.reached < unreached l.fn.reached;
  no_more : unreached l.reached ≤ unreached l.fn.reached;
  done : l.has_spread ≡ false → All (λ (link : Link). is_reached l.reached link.from ≡ is_reached l.reached link.to) (take l.link-index l.links);
}
