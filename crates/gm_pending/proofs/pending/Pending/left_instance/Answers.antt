use Rattle.std.proofs.Common.{◌≢◌, ℕ, MatchOption, sym, ◌∙◌, subst}
use Rattle.std.proofs.lemmas.Bool.{false≢true}
use Rattle.gm_model.specs.Rules.{rule_of}
use Rattle.gm_plan.specs.inner.InArena.{slot_number}
use Rattle.gm_plan.specs.inner.Lookup.{IsWithin, IsAtSlot}
use Rattle.gm_pending.specs.inner.Results.{PendingOf, IsPrepared}
use Rattle.gm_pending.proofs.on_pending.ResultDarts.{one_left_count}
use Rattle.gm_pending.proofs.on_marks.BitsOfInstances.{none_matched}
use Rattle.gm_pending.specs.inner.AskedOrbits.{IsLookedUp}
use Rattle.gm_pending.proofs.pending.Pending.left_instance.Goals as goal

pub instance_at-requires : goal.instance_at-requires
instance_at-requires c = one_left_count (rule_of c.self.inside.plan.now.table) _ _ c.left_nodes.ensures.left c.self.invariant.0.matched.nodes

pub returns-in-Some-clause-instance : goal.returns-in-Some-clause-instance
returns-in-Some-clause-instance c = subst (λ (a : PendingOf). MatchOption c.find.result ((x p : ℕ) → IsWithin a.placed x p → slot_number a.placed x p ≢ c.args.slot.at) (λ i. IsAtSlot a.placed c.args.slot.at i.0 i.1)) c.self.view_is c.find.ensures

pub find-requires : goal.find-requires
find-requires c = subst (IsLookedUp c.self.inside.found.now) c.in-Some.is c.self.invariant.3

pub returns-in-Some-clause-prepared : goal.returns-in-Some-clause-prepared
returns-in-Some-clause-prepared c = subst IsPrepared c.self.view_is c.self.invariant.0

pub returns-in-None-clause-prepared : goal.returns-in-None-clause-prepared
returns-in-None-clause-prepared c = subst IsPrepared c.self.view_is c.self.invariant.0

pub returns-in-None-clause-instance : goal.returns-in-None-clause-instance
returns-in-None-clause-instance c = subst (λ (a : PendingOf). MatchOption c.instance_at.result ((x p : ℕ) → IsWithin a.placed x p → slot_number a.placed x p ≢ c.args.slot.at) (λ i. IsAtSlot a.placed c.args.slot.at i.0 i.1)) c.self.view_is c.instance_at.ensures

pub returns-then-not-is_set-clause-prepared : goal.returns-then-not-is_set-clause-prepared
returns-then-not-is_set-clause-prepared c = subst IsPrepared c.self.view_is c.self.invariant.0

pub returns-then-not-is_set-clause-instance : goal.returns-then-not-is_set-clause-instance
returns-then-not-is_set-clause-instance c = subst (λ (a : PendingOf). (x p : ℕ) → IsWithin a.placed x p → slot_number a.placed x p ≢ c.args.slot.at) c.self.view_is
    (none_matched c.self.inside.found.now c.self.inside.matched c.args.slot.at c.self.invariant.4 (λ set. false≢true (sym c.if-not-is_set.true ∙ c.is_set.ensures.1 (rw c.from.ensures set))))
