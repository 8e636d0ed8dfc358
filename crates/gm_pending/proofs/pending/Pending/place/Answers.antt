use Rattle.std.proofs.Common.{◌≡◌, ◌<◌, IsTrue, subst, refl, sym}
use Rattle.gm_model.specs.declared.rule.Side.TheVariants.{Left}
use Rattle.gm_model.specs.Rules.{has_word}
use Rattle.gm_plan.specs.inner.InArena.{slot_number}
use Rattle.gm_pending.specs.inner.Results.{PendingOf, IsPrepared, rule_in, scene_in}
use Rattle.gm_plan.proofs.Looked.{slot_answered}
use Rattle.gm_pending.proofs.on_pending.ResultDarts.{stays_there}
use Rattle.gm_plan.specs.inner.Plans.{IsLeftCount}
use Rattle.gm_theory.proofs.Arcs.{kept_name}
use Rattle.gm_pending.proofs.on_pending.PreparedIsLawful.{law}
use Rattle.gm_pending.proofs.on_pending.LeftNodes.{right_added}
use Rattle.gm_pending.proofs.on_deciding.OrbitsWalked.{few_nodes}
use Rattle.gm_pending.proofs.pending.Pending.place.Goals as goal

pub returns-then-node-left_nodes-clause-dart : goal.returns-then-node-left_nodes-clause-dart
returns-then-node-left_nodes-clause-dart c =
    let app = c.args.self.now in
    let prepared : IsPrepared app = subst IsPrepared c.self.view_is c.self.invariant.0 in
    let left : IsTrue (has_word (rule_in app) Left c.args.node) = subst (λ (a : PendingOf). IsTrue (has_word (rule_in a) Left c.args.node)) c.self.view_is ((c.left_nodes.ensures.left c.args.node).1 c.if-node-left_nodes.true) in
    let lies : slot_number app.placed c.args.node c.args.position ≡ c.slot.result.at = subst (λ (a : PendingOf). slot_number a.placed c.args.node c.args.position ≡ c.slot.result.at) c.self.view_is (slot_answered c.self.inside.found.now c.args.node c.args.position c.slot.result c.slot.ensures) in
    let below : c.args.node < app.placed.nodes = (prepared.matched.nodes c.args.node).0 left in
    rw (c.old.ensures, ← lies) (prepared.matched.live c.args.node c.args.position below c.requires.1, stays_there app prepared c.args.node c.args.position left c.requires)

pub slot-requires-clause-node : goal.slot-requires-clause-node
slot-requires-clause-node c = (c.self.invariant.0.matched.nodes c.args.node).0 ((c.left_nodes.ensures.left c.args.node).1 c.if-node-left_nodes.true)

pub slot-requires-clause-position : goal.slot-requires-clause-position
slot-requires-clause-position c = subst (λ (a : PendingOf). c.args.position < a.placed.positions) (sym c.self.view_is) c.requires.1

pub returns-then-node-left_nodes-clause-name : goal.returns-then-node-left_nodes-clause-name
returns-then-node-left_nodes-clause-name c =
    let app = c.args.self.now in
    let prepared : IsPrepared app = subst IsPrepared c.self.view_is c.self.invariant.0 in
    let left : IsTrue (has_word (rule_in app) Left c.args.node) = subst (λ (a : PendingOf). IsTrue (has_word (rule_in a) Left c.args.node)) c.self.view_is ((c.left_nodes.ensures.left c.args.node).1 c.if-node-left_nodes.true) in
    let lies : slot_number app.placed c.args.node c.args.position ≡ c.slot.result.at = subst (λ (a : PendingOf). slot_number a.placed c.args.node c.args.position ≡ c.slot.result.at) c.self.view_is (slot_answered c.self.inside.found.now c.args.node c.args.position c.slot.result c.slot.ensures) in
    rw (c.old.ensures, ← lies) (sym (kept_name (scene_in app) _ _ _ (law app prepared) c.args.node c.args.position left))

pub returns-else-node-left_nodes-clause-name : goal.returns-else-node-left_nodes-clause-name
returns-else-node-left_nodes-clause-name c = rw c.new.ensures refl

pub returns-else-node-left_nodes-clause-dart : goal.returns-else-node-left_nodes-clause-dart
returns-else-node-left_nodes-clause-dart c =
    let app = c.args.self.now in
    rw c.new.ensures (right_added (rule_in app) c.left_nodes.result c.args.node (subst (λ (a : PendingOf). IsLeftCount (rule_in a) c.left_nodes.result) c.self.view_is c.left_nodes.ensures.left) c.if-node-left_nodes.false c.requires.0, c.requires.1)

pub new-requires : goal.new-requires
new-requires c = few_nodes c.args.self.now (subst IsPrepared c.self.view_is c.self.invariant.0) c.args.node c.requires.0
