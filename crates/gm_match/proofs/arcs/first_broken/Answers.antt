use Rattle.std.proofs.Common.{ℕ, sym, subst, ◌∙◌, arith}
use Rattle.gm_arena.specs.inner.ArenaMap.{alpha}
use Rattle.gm_model.specs.declared.step.Step.{Step}
use Rattle.gm_model.specs.Matches.{IsStepMet}
use Rattle.gm_model.specs.Structure.{AreGood, IsFirstBad}
use Rattle.std.specs.Option.{MatchOption}
use Rattle.gm_plan.specs.inner.InArena.{placement_in}
use Rattle.gm_match.proofs.ForcedMet.{forced_met}
use Rattle.gm_match.proofs.Stepping.{other_below, place_below}
use Rattle.gm_match.proofs.TestsMet.{exp_some, imp_some}
use Rattle.gm_match.proofs.arcs.first_broken.Goals as goal

pub first_unlinked-requires-clause-other : goal.first_unlinked-requires-clause-other
first_unlinked-requires-clause-other g c = other_below c.args.arena.now c.args.plan.now c.requires.matchable c.args.found.now c.requires.candidate.1.laid c.args.test.node c.args.test.label _ c.requires.label (sym (c.requires.kept (exp_some c.args.test.step _ c.in-Exp.is)) ∙ c.in-Exp.is)

pub first_unturned-requires-clause-place : goal.first_unturned-requires-clause-place
first_unturned-requires-clause-place g c = place_below c.args.arena.now c.args.plan.now c.requires.matchable c.args.found.now c.requires.candidate.1.laid c.args.test.node c.args.test.label _ c.requires.node (sym (c.requires.kept (imp_some c.args.test.step _ c.in-Imp.is)) ∙ c.in-Imp.is)

pub returns-in-Absent-clause-first : goal.returns-in-Absent-clause-first
returns-in-Absent-clause-first g c = λ p less. forced_met c.args.arena.now c.args.plan.now c.requires.matchable c.args.found.now c.requires.candidate c.args.test.node p c.args.test.label (omega (arith, less, c.requires.end)) (c.requires.forced c.in-Absent.is)

pub returns-in-Exp-clause-first : goal.returns-in-Exp-clause-first
returns-in-Exp-clause-first g c =
    let m = c.args.arena.now in
    let found = c.args.found.now in
    let is_met : Step → ℕ → Type 0 = λ s p. IsStepMet (alpha m) (placement_in m found) c.args.test.node p c.args.test.label s in
    subst (λ s. MatchOption c.first_unlinked.result (AreGood (is_met s) c.args.end) (IsFirstBad (is_met s) c.args.end)) (sym c.in-Exp.is ∙ c.requires.kept (exp_some c.args.test.step _ c.in-Exp.is)) c.first_unlinked.ensures.first

pub returns-in-Imp-clause-first : goal.returns-in-Imp-clause-first
returns-in-Imp-clause-first g c =
    let m = c.args.arena.now in
    let found = c.args.found.now in
    let is_met : Step → ℕ → Type 0 = λ s p. IsStepMet (alpha m) (placement_in m found) c.args.test.node p c.args.test.label s in
    subst (λ s. MatchOption c.first_unturned.result (AreGood (is_met s) c.args.end) (IsFirstBad (is_met s) c.args.end)) (sym c.in-Imp.is ∙ c.requires.kept (imp_some c.args.test.step _ c.in-Imp.is)) c.first_unturned.ensures.first

pub first_unlinked-requires-clause-lawful : goal.first_unlinked-requires-clause-lawful
first_unlinked-requires-clause-lawful g c = c.requires.matchable.lawful

pub first_unlinked-requires-clause-map : goal.first_unlinked-requires-clause-map
first_unlinked-requires-clause-map g c = c.requires.matchable.generalised

pub first_unlinked-requires-clause-live : goal.first_unlinked-requires-clause-live
first_unlinked-requires-clause-live g c = c.requires.candidate.1.laid.slots

pub first_unlinked-requires-clause-node : goal.first_unlinked-requires-clause-node
first_unlinked-requires-clause-node g c = c.requires.node

pub first_unlinked-requires-clause-label : goal.first_unlinked-requires-clause-label
first_unlinked-requires-clause-label g c = c.requires.label

pub first_unlinked-requires-clause-end : goal.first_unlinked-requires-clause-end
first_unlinked-requires-clause-end g c = c.requires.end

pub first_unturned-requires-clause-lawful : goal.first_unturned-requires-clause-lawful
first_unturned-requires-clause-lawful g c = c.requires.matchable.lawful

pub first_unturned-requires-clause-live : goal.first_unturned-requires-clause-live
first_unturned-requires-clause-live g c = c.requires.candidate.1.laid.slots

pub first_unturned-requires-clause-node : goal.first_unturned-requires-clause-node
first_unturned-requires-clause-node g c = c.requires.node

pub first_unturned-requires-clause-label : goal.first_unturned-requires-clause-label
first_unturned-requires-clause-label g c = c.requires.label

pub first_unturned-requires-clause-end : goal.first_unturned-requires-clause-end
first_unturned-requires-clause-end g c = c.requires.end

pub returns-in-Absent-clause-cost : goal.returns-in-Absent-clause-cost
returns-in-Absent-clause-cost g c = omega arith

pub returns-in-Absent-clause-least : goal.returns-in-Absent-clause-least
returns-in-Absent-clause-least g c = omega arith

pub returns-in-Exp-clause-cost : goal.returns-in-Exp-clause-cost
returns-in-Exp-clause-cost g c = c.first_unlinked.ensures.cost

pub returns-in-Exp-clause-least : goal.returns-in-Exp-clause-least
returns-in-Exp-clause-least g c = c.first_unlinked.ensures.least

pub returns-in-Imp-clause-cost : goal.returns-in-Imp-clause-cost
returns-in-Imp-clause-cost g c = c.first_unturned.ensures.cost

pub returns-in-Imp-clause-least : goal.returns-in-Imp-clause-least
returns-in-Imp-clause-least g c = c.first_unturned.ensures.least
