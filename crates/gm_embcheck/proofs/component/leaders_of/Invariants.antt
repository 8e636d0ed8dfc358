use Rattle.std.proofs.Common.{take}
use Rattle.std.specs.List.{All}
use Rattle.gm_model.specs.Labels.{has}
use Rattle.gm_embcheck.proofs.Leaders.{AreJoined, IsClosed}
use Rattle.gm_embcheck.proofs.component.leaders_of.Given as goal

abbrev pub invariant-loop-link : goal.invariant-loop-link
invariant-loop-link l = record {
  joined : AreJoined l.links (has l.mask) l.leaders;
  closed : All (IsClosed l.leaders (has l.mask)) (take l.link-index l.links);
}
