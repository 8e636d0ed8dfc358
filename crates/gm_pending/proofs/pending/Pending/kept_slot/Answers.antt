use Rattle.std.proofs.Common.{◌≡◌, subst}
use Rattle.gm_model.specs.declared.rule.Side.TheVariants.{Left, Right}
use Rattle.gm_model.specs.Rules.{has_word}
use Rattle.gm_plan.specs.inner.InArena.{slot_number}
use Rattle.gm_theory.proofs.Tests.{both_true}
use Rattle.gm_pending.specs.inner.Results.{PendingOf, IsPrepared, rule_in}
use Rattle.gm_plan.proofs.Looked.{slot_answered}
use Rattle.gm_pending.proofs.pending.Pending.kept_slot.Goals as goal

pub returns-clause-live : goal.returns-clause-live
returns-clause-live c =
    let app = c.args.self.now in
    let prepared : IsPrepared app = subst IsPrepared c.self.view_is c.self.invariant.0 in
    let left = (both_true (has_word (rule_in app) Left c.args.keeper) (has_word (rule_in app) Right c.args.keeper) c.requires.preserved).0 in
    let lies : slot_number app.placed c.args.keeper c.args.position ≡ c.slot.result.at = subst (λ (a : PendingOf). slot_number a.placed c.args.keeper c.args.position ≡ c.slot.result.at) c.self.view_is (slot_answered c.self.inside.found.now c.args.keeper c.args.position c.slot.result c.slot.ensures) in
    rw (← lies) (prepared.matched.live c.args.keeper c.args.position ((prepared.matched.nodes c.args.keeper).0 left) c.requires.position)

pub returns-clause-slot : goal.returns-clause-slot
returns-clause-slot c = subst (λ (a : PendingOf). slot_number a.placed c.args.keeper c.args.position ≡ c.slot.result.at) c.self.view_is (slot_answered c.self.inside.found.now c.args.keeper c.args.position c.slot.result c.slot.ensures)
