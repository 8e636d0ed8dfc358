use Rattle.std.proofs.Common.{ℕ, ◌+◌, ◌*◌, ◌≤◌, get_or, length, sym, subst, ◌∙◌, inl, inr, arith}
use Rattle.std.proofs.lemmas.Bool.{cases_eq, false≢true}
use Rattle.std.proofs.lemmas.Option.{same_Some, slice_get-get_or, slice_get_within}
use Rattle.std.proofs.Math.Nat.{le_trans}
use Rattle.gm_arena.specs.inner.ArenaAsMap.{as_map}
use Rattle.gm_model.specs.declared.schema.Schema.{Schema}
use Rattle.gm_model.specs.declared.step.Step.TheVariants.{Absent}
use Rattle.gm_model.specs.Matches.{IsMetAt}
use Rattle.gm_model.specs.Rules.{rule_of}
use Rattle.gm_model.specs.Structure.{AreGood}
use Rattle.gm_plan.specs.declared.tested.Test.{Test}
use Rattle.gm_plan.specs.inner.Tested.{test_of}
use Rattle.gm_plan.specs.inner.InArena.{placement_in}
use Rattle.gm_match.proofs.TestsMet.{each_met, label_found, node_found, none_broken, tests_cost}
use Rattle.gm_match.proofs.arcs.meets_all.Goals as goal

pub first_broken-requires-clause-node : goal.first_broken-requires-clause-node
first_broken-requires-clause-node g c =
    let tests = c.tests-test-items.result.now in
    node_found c.args.arena.now c.args.plan.now c.requires.matchable c.args.found.now c.requires.candidate tests c.tests-test-items.ensures _ _ (slice_get-get_or tests c.loop-test.test-index (test_of 0 0 Absent) (omega arith))

pub first_broken-requires-clause-label : goal.first_broken-requires-clause-label
first_broken-requires-clause-label g c =
    let tests = c.tests-test-items.result.now in
    label_found c.args.arena.now c.args.plan.now c.requires.matchable c.args.found.now c.requires.candidate tests c.tests-test-items.ensures _ _ (slice_get-get_or tests c.loop-test.test-index (test_of 0 0 Absent) (omega arith))

pub first_broken-requires-clause-forced : goal.first_broken-requires-clause-forced
first_broken-requires-clause-forced g c =
    let tests = c.tests-test-items.result.now in
    λ none. absurd ((c.tests-test-items.ensures.each _ _ (slice_get-get_or tests c.loop-test.test-index (test_of 0 0 Absent) (omega arith))).some none)

pub first_broken-requires-clause-kept : goal.first_broken-requires-clause-kept
first_broken-requires-clause-kept g c =
    let tests = c.tests-test-items.result.now in
    λ some. sym (c.tests-test-items.ensures.each _ _ (slice_get-get_or tests c.loop-test.test-index (test_of 0 0 Absent) (omega arith))).is

pub returns-then-is_some-clause-cost : goal.returns-then-is_some-clause-cost
returns-then-is_some-clause-cost g c =
    let tests = c.tests-test-items.result.now in
    let rule = rule_of c.args.plan.now.table in
    let i = c.loop-test.invariant in
    let few = subst (λ (s : Schema). length tests ≤ length rule.nodes * (s.dim + 1)) (sym c.requires.matchable.schema) c.tests-test-items.ensures.few in
    let cost : c.first_broken.new.steps ≤ c.args.steps.now + (c.loop-test.test-index + 1) * c.args.found.now.positions = omega (arith, i.cost, c.first_broken.ensures.cost, c.positions-positions.ensures.value) in
    tests_cost (c.args.arena.now.schema.dim + 1) (length rule.nodes) c.args.found.now.positions (length tests) (c.loop-test.test-index + 1) _ _ (omega arith) few cost

pub loop-test-preserved : goal.loop-test-preserved
loop-test-preserved g c =
    let tests = c.tests-test-items.result.now in
    let i = c.loop-test.invariant in
    let at = slice_get-get_or tests c.loop-test.test-index (test_of 0 0 Absent) (omega arith) in
    let item = get_or tests c.loop-test.test-index (test_of 0 0 Absent) in
    let met : Test → ℕ → Type 0 = λ test n. AreGood (λ p. IsMetAt (as_map c.args.arena.now) (rule_of c.args.plan.now.table) (placement_in c.args.arena.now c.args.found.now) test.node p test.label) n in
    let good = none_broken c.first_broken.result _ _ (sym c.is_some.ensures ∙ c.if-is_some.false) c.first_broken.ensures.first in
    let all = subst (met item) c.positions-positions.ensures.value good in
    record {
      met = λ t test h here. elim (cases_eq t c.loop-test.test-index) [
        | inl same ↦ subst (λ test. met test c.args.found.now.positions) (same_Some _ _ (sym at ∙ rw same at here)) all
        | inr apart ↦ i.met t test (omega arith) here
      ];
      cost = omega (arith, i.cost, c.first_broken.ensures.cost, c.positions-positions.ensures.value);
      least = le_trans i.least c.first_broken.ensures.least;
    }

pub returns-clause-met : goal.returns-clause-met
returns-clause-met g c =
    let tests = c.tests-test-items.result.now in
    λ yes. each_met c.args.arena.now c.args.plan.now c.requires.matchable c.args.found.now c.requires.candidate tests c.tests-test-items.ensures
    (λ t test here. c.loop-test.invariant.met t test (let within = slice_get_within tests t test here in omega (arith, within)) here)

pub returns-clause-cost : goal.returns-clause-cost
returns-clause-cost g c =
    let tests = c.tests-test-items.result.now in
    let rule = rule_of c.args.plan.now.table in
    let few = subst (λ (s : Schema). length tests ≤ length rule.nodes * (s.dim + 1)) (sym c.requires.matchable.schema) c.tests-test-items.ensures.few in
    tests_cost (c.args.arena.now.schema.dim + 1) (length rule.nodes) c.args.found.now.positions (length tests) c.loop-test.test-index _ _ (omega (arith, c.loop-test.auto.test-index-end)) few c.loop-test.invariant.cost

pub loop-test-init : goal.loop-test-init
loop-test-init g c = record {
  met = λ t test less here. absurd (omega (arith, less));
  cost = omega arith;
  least = omega arith;
}

pub loop-test-smaller : goal.loop-test-smaller
loop-test-smaller g c = omega (arith, c.loop-test-test.true)

pub first_broken-requires-clause-matchable : goal.first_broken-requires-clause-matchable
first_broken-requires-clause-matchable g c = c.requires.matchable

pub first_broken-requires-clause-candidate : goal.first_broken-requires-clause-candidate
first_broken-requires-clause-candidate g c = c.requires.candidate

pub first_broken-requires-clause-end : goal.first_broken-requires-clause-end
first_broken-requires-clause-end g c = omega (arith, c.positions-positions.ensures.value)

pub returns-then-is_some-clause-met : goal.returns-then-is_some-clause-met
returns-then-is_some-clause-met g c = λ yes. absurd (false≢true yes)

pub returns-then-is_some-clause-least : goal.returns-then-is_some-clause-least
returns-then-is_some-clause-least g c = le_trans c.loop-test.invariant.least c.first_broken.ensures.least

pub returns-clause-least : goal.returns-clause-least
returns-clause-least g c = c.loop-test.invariant.least
