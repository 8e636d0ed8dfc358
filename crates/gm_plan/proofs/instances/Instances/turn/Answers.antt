use Rattle.std.proofs.Common.{◌<◌, length, subst, sym, arith}
use Rattle.gm_plan.specs.inner.Placed.{Placed}
use Rattle.gm_plan.proofs.Placing.{within_rows}
use Rattle.gm_plan.proofs.instances.Instances.turn.Goals as goal

pub index-requires : goal.index-requires
index-requires c =
    let place = subst (λ (placed : Placed). c.args.place < placed.places) (sym c.self.view_is) c.requires.place in
    let position = subst (λ (placed : Placed). c.args.position < placed.positions) (sym c.self.view_is) c.requires.position in
    omega (arith, within_rows c.args.position c.args.place c.self.inside.positions c.self.inside.places (length c.self.inside.turns.items) position place c.self.invariant.turns)
