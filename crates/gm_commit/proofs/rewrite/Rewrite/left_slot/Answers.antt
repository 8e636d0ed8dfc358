use Rattle.std.proofs.Common.{◌<◌, sym, subst}
use Rattle.gm_commit.specs.inner.InstanceEdits.{RewriteRows}
use Rattle.gm_commit.proofs.on_rewrite.EndsOfInstances.{slot_is}
use Rattle.gm_commit.proofs.rewrite.Rewrite.left_slot.Goals as goal

pub slot-requires-clause-node : goal.slot-requires-clause-node
slot-requires-clause-node c = subst (λ (r : RewriteRows). c.args.node < r.placed.nodes) (sym c.self.view_is) c.requires.left

pub returns : goal.returns
returns c = rw (← c.self.view_is) (sym (slot_is c.self.inside.found.now c.args.node c.args.position c.slot.result c.slot.ensures))
