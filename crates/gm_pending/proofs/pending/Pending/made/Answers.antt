use Rattle.std.proofs.Common.{◌≡◌, ◌<◌, sym, subst, length, ap, ◌∙◌, arith}
use Rattle.gm_model.specs.declared.rule.Side.TheVariants.{Right}
use Rattle.gm_model.specs.declared.step.Step.TheVariants.{Absent, Exp, Imp}
use Rattle.gm_model.specs.Rules.{step, width}
use Rattle.gm_model.specs.Unfolding.{IsMadeArc}
use Rattle.gm_pending.specs.inner.Results.{PendingOf, IsPrepared, rule_in, scene_in, name_of}
use Rattle.gm_pending.proofs.on_pending.PreparedIsLawful.{law}
use Rattle.gm_pending.proofs.on_pending.MadeArcs.{unmade_there}
use Rattle.gm_plan.specs.inner.Placed.{turn_at}
use Rattle.gm_pending.proofs.pending.Pending.made.Goals as goal

pub place-requires : goal.place-requires
place-requires c =
    let app = c.args.self.now in
    let prepared : IsPrepared app = subst IsPrepared c.self.view_is c.self.invariant.0 in
    let is : step (rule_in app) Right c.in_ok-node.node c.args.label ≡ Exp c.in-Exp.other = subst (λ (a : PendingOf). step (rule_in a) Right c.in_ok-node.node c.args.label ≡ Exp c.in-Exp.other) c.self.view_is (sym c.in-Exp.ensures) in
    let at = c.in_ok-node.ensures.0 in
    (((law app prepared).steps.right_back c.in_ok-node.node c.args.label c.in-Exp.other at.0 c.requires.label is).0, at.1)

pub turn-requires-clause-place : goal.turn-requires-clause-place
turn-requires-clause-place c =
    let app = c.args.self.now in
    let prepared : IsPrepared app = subst IsPrepared c.self.view_is c.self.invariant.0 in
    let is : step (rule_in app) Right c.in_ok-node.node c.args.label ≡ Imp c.in-Imp.place = subst (λ (a : PendingOf). step (rule_in a) Right c.in_ok-node.node c.args.label ≡ Imp c.in-Imp.place) c.self.view_is (sym c.in-Imp.ensures) in
    let low : c.in-Imp.place < width (rule_in app) = (law app prepared).steps.right_place c.in_ok-node.node c.args.label c.in-Imp.place c.in_ok-node.ensures.0.0 is in
    let there : c.in-Imp.place < app.placed.places = rw prepared.matched.places low in
    subst (λ (a : PendingOf). c.in-Imp.place < a.placed.places) (sym c.self.view_is) there

pub returns-in-Absent : goal.returns-in-Absent
returns-in-Absent c = λ e made.
    let app = c.args.self.now in
    let prepared : IsPrepared app = subst IsPrepared c.self.view_is c.self.invariant.0 in
    let is : step (rule_in app) Right c.in_ok-node.node c.args.label ≡ Absent = subst (λ (a : PendingOf). step (rule_in a) Right c.in_ok-node.node c.args.label ≡ Absent) c.self.view_is (sym c.in-Absent.ensures) in
    unmade_there (scene_in app) _ _ _ (law app prepared) c.in_ok-node.node c.in_ok-node.position c.args.label e c.in_ok-node.ensures.0 is
    (subst (λ d. IsMadeArc (scene_in app) d c.args.label e) c.in_ok-node.ensures.1 made)

pub instance-requires : goal.instance-requires
instance-requires c = c.requires.dart

pub step-requires-clause-node : goal.step-requires-clause-node
step-requires-clause-node c =
    let prepared : IsPrepared c.args.self.now = subst IsPrepared c.self.view_is c.self.invariant.0 in
    subst (λ (a : PendingOf). c.in_ok-node.node < length (rule_in a).nodes) (sym c.self.view_is) ((law c.args.self.now prepared).steps.right_below c.in_ok-node.node c.in_ok-node.ensures.0.0)

pub step-requires-clause-label : goal.step-requires-clause-label
step-requires-clause-label c =
    let prepared : IsPrepared c.args.self.now = subst IsPrepared c.self.view_is c.self.invariant.0 in
    omega (arith, c.requires.label, prepared.lawful.dim)

pub turn-requires-clause-position : goal.turn-requires-clause-position
turn-requires-clause-position c = subst (λ (a : PendingOf). c.in_ok-node.position < a.placed.positions) (sym c.self.view_is) c.in_ok-node.ensures.0.1

pub place-requires-in-Imp : goal.place-requires-in-Imp
place-requires-in-Imp c = (c.in_ok-node.ensures.0.0, subst (λ (a : PendingOf). c.turn.result < a.placed.positions) c.self.view_is c.turn.ensures.within)

pub returns-in-Exp : goal.returns-in-Exp
returns-in-Exp c =
    let app = c.args.self.now in
    let is : step (rule_in app) Right c.in_ok-node.node c.args.label ≡ Exp c.in-Exp.other = subst (λ (a : PendingOf). step (rule_in a) Right c.in_ok-node.node c.args.label ≡ Exp c.in-Exp.other) c.self.view_is (sym c.in-Exp.ensures) in
    let at = c.in_ok-node.ensures in
    (record { node = c.in_ok-node.node; position = c.in_ok-node.position; right = at.0.0; within = at.0.1; label = c.requires.label; from = at.1; leads = rw is c.place.ensures.name }, c.place.ensures.dart)

pub returns-in-Imp : goal.returns-in-Imp
returns-in-Imp c =
    let app = c.args.self.now in
    let is : step (rule_in app) Right c.in_ok-node.node c.args.label ≡ Imp c.in-Imp.place = subst (λ (a : PendingOf). step (rule_in a) Right c.in_ok-node.node c.args.label ≡ Imp c.in-Imp.place) c.self.view_is (sym c.in-Imp.ensures) in
    let at = c.in_ok-node.ensures in
    let turned : c.turn.result ≡ turn_at app.placed c.in_ok-node.position c.in-Imp.place = subst (λ (a : PendingOf). c.turn.result ≡ turn_at a.placed c.in_ok-node.position c.in-Imp.place) c.self.view_is c.turn.ensures.value in
    let leads : name_of app c.place-in-Imp.result ≡ (scene_in app).name_of c.in_ok-node.node (turn_at app.placed c.in_ok-node.position c.in-Imp.place) = c.place-in-Imp.ensures.name ∙ ap ((scene_in app).name_of c.in_ok-node.node) turned in
    (record { node = c.in_ok-node.node; position = c.in_ok-node.position; right = at.0.0; within = at.0.1; label = c.requires.label; from = at.1; leads = rw is leads }, c.place-in-Imp.ensures.dart)
