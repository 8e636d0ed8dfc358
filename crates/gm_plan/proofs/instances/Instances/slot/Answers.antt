use Rattle.std.proofs.Common.{◌≡◌, ◌+◌, ◌*◌, ◌<◌, Some, length, sym, ap, subst, ◌∙◌, arith}
use Rattle.std.proofs.lemmas.Option.{slice_get-get_or}
use Rattle.gm_plan.specs.inner.Placed.{Placed, slot_at}
use Rattle.gm_plan.proofs.Placing.{within_rows}
use Rattle.gm_plan.proofs.instances.Instances.slot.Goals as goal

pub index-requires : goal.index-requires
index-requires c =
    let node = subst (λ (placed : Placed). c.args.node < placed.nodes) (sym c.self.view_is) c.requires.node in
    let position = subst (λ (placed : Placed). c.args.position < placed.positions) (sym c.self.view_is) c.requires.position in
    omega (arith, within_rows c.args.position c.args.node c.self.inside.positions c.self.inside.nodes (length c.self.inside.slots.items) position node c.self.invariant.slots)

pub returns : goal.returns
returns c =
    let node = subst (λ (placed : Placed). c.args.node < placed.nodes) (sym c.self.view_is) c.requires.node in
    let position = subst (λ (placed : Placed). c.args.position < placed.positions) (sym c.self.view_is) c.requires.position in
    let within = within_rows c.args.position c.args.node c.self.inside.positions c.self.inside.nodes (length c.self.inside.slots.items) position node c.self.invariant.slots in
    subst (λ (placed : Placed). slot_at placed c.args.node c.args.position ≡ Some c.index.result.now) c.self.view_is
    (slice_get-get_or c.self.inside.slots.items (c.args.position * c.self.inside.nodes + c.args.node) c.index.result.now within ∙ ap Some (sym c.index.ensures))
