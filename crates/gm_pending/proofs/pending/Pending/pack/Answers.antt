use Rattle.std.proofs.Common.{subst}
use Rattle.gm_pending.specs.inner.Results.{IsResultDart}
use Rattle.gm_pending.proofs.on_deciding.OrbitsWalked.{added_sides, few_nodes}
use Rattle.gm_pending.proofs.pending.Pending.pack.Goals as goal

pub new-requires : goal.new-requires
new-requires c =
    let app = c.args.self.now in
    let prepared = c.labels.ensures.prepared in
    few_nodes app prepared c.in-New.node (added_sides app prepared c.in-New.node c.in-New.position (subst (IsResultDart app) c.in-New.is c.requires)).1
