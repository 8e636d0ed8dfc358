use Rattle.std.proofs.Common.{[], ◌∷◌, refl, ◌∙◌, arith}
use Rattle.gm_commit.specs.inner.InstanceEdits.{told_by, end_of, arc_between, made_in}
use Rattle.gm_commit.proofs.on_rewrite.JoinedLists.{length_same}
use Rattle.gm_commit.proofs.on_commit.ArcsAtOnce.{slots_live, alphas_arcs}
use Rattle.gm_commit.proofs.rewrite.Rewrite.link_nodes.Goals as goal

pub set_alphas-requires-clause-label : goal.set_alphas-requires-clause-label
set_alphas-requires-clause-label g c = (c.requires.arcs 0 (omega (arith, c.slots_of-from.ensures.some))).label

pub set_alphas-requires-clause-live : goal.set_alphas-requires-clause-live
set_alphas-requires-clause-live g c =
    slots_live c.args.arena.now (made_in (told_by c.args.self.now) c.args.slots.now) c.slots_of-from.result.now c.args.self.now.placed.positions (end_of (told_by c.args.self.now) c.args.node) c.slots_of-from.ensures.long c.slots_of-from.ensures.slots (λ p h. (c.requires.arcs p h).from)

pub set_alphas-requires-clause-to_live : goal.set_alphas-requires-clause-to_live
set_alphas-requires-clause-to_live g c =
    slots_live c.args.arena.now (made_in (told_by c.args.self.now) c.args.slots.now) c.slots_of-to.result.now c.args.self.now.placed.positions (end_of (told_by c.args.self.now) c.args.other) c.slots_of-to.ensures.long c.slots_of-to.ensures.slots (λ p h. (c.requires.arcs p h).to)

pub returns-clause-map : goal.returns-clause-map
returns-clause-map g c =
    c.set_alphas.ensures.map
    ∙ alphas_arcs (made_in (told_by c.args.self.now) c.args.slots.now) c.args.label (λ p. arc_between (told_by c.args.self.now) c.args.node p c.args.label (c.args.other, p)) c.slots_of-from.result.now c.slots_of-to.result.now c.args.arena.now c.args.self.now.placed.positions c.slots_of-from.ensures.long c.slots_of-to.ensures.long (λ p. refl) c.slots_of-from.ensures.slots c.slots_of-to.ensures.slots

pub returns-clause-cost : goal.returns-clause-cost
returns-clause-cost g c =
    let arcs = length_same (λ p. arc_between (told_by c.args.self.now) c.args.node p c.args.label (c.args.other, p) ∷ []) c.args.self.now.placed.positions 1 (λ p. refl) in
    omega (arith, c.set_alphas.ensures.cost, c.slots_of-from.ensures.long, arcs)
