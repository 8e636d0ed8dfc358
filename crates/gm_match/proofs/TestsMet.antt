-- Where each listed test is met, each left step is.
use Rattle.std.proofs.Common.{◌≡◌, ◌≢◌, ℕ, ◌+◌, ◌*◌, ◌<◌, ◌≤◌, inl, inr, IsTrue, false, List, [], Option, Some, None, MatchOption, refl, sym, subst, ◌∙◌, arith}
use Rattle.std.proofs.Math.Nat.{mul-le-mul_right}
use Rattle.std.specs.List.{position, slice_get}
use Rattle.std.specs.Option.{unwrap_or}
use Rattle.std.specs.Prelude.{is_some}
use Rattle.gm_model.specs.declared.rule.Side.TheVariants.{Left}
use Rattle.gm_model.specs.declared.schema.Schema.{Schema}
use Rattle.gm_model.specs.declared.step.Step.{Step}
use Rattle.gm_model.specs.declared.step.Step.TheVariants.{Absent, Exp, Imp}
use Rattle.gm_model.specs.declared.word.Letter.{Letter}
use Rattle.gm_model.specs.Matches.{IsMetAt}
use Rattle.gm_model.specs.Rules.{has_word, is_label, rule_of, step, word_at}
use Rattle.gm_model.specs.Structure.{AreGood}
use Rattle.gm_theory.proofs.RuleSteps.{step_back, step_place}
use Rattle.gm_arena.specs.inner.ArenaAsMap.{as_map}
use Rattle.gm_arena.specs.inner.ArenaMap.{ArenaMap}
use Rattle.gm_plan.specs.declared.tested.Test.{Test}
use Rattle.gm_plan.specs.inner.Placed.{Placed}
use Rattle.gm_plan.specs.inner.Plans.{PlanOf}
use Rattle.gm_plan.specs.inner.Tested.{AreTests, test_of}
use Rattle.gm_match.specs.inner.Firsts.{AreMet}
use Rattle.gm_match.specs.inner.Layout.{AreMatchable, IsCandidateAt}
use Rattle.gm_plan.specs.inner.InArena.{placement_in}
use Rattle.gm_match.proofs.ForcedMet.{forced_met}
use Rattle.gm_match.proofs.Stepping.{node_below}

pub exp_some : (s : Step) (y : ℕ) → s ≡ Exp y → s ≢ Absent
exp_some s y e none = let both : Exp y ≡ Absent = sym e ∙ none in absurd (cc)

pub imp_some : (s : Step) (k : ℕ) → s ≡ Imp k → s ≢ Absent
imp_some s k e none = let both : Imp k ≡ Absent = sym e ∙ none in absurd (cc)

pub none_broken : (first : Option ℕ) (AllMet : Type 0) (IsBroken : ℕ → Type 0) → is_some first ≡ false → MatchOption first AllMet IsBroken → AllMet
none_broken None AllMet IsBroken e met = met
none_broken (Some p) AllMet IsBroken e met = absurd (cc)

pub tests_cost : (labels nodes k count index start after : ℕ) → index ≤ count → count ≤ nodes * labels → after ≤ start + index * k → after ≤ start + labels * (nodes * k)
tests_cost labels nodes k count index start after most few cost =
    let part : index * k ≤ nodes * labels * k = mul-le-mul_right k (omega (arith, most, few)) in
    omega (arith, part, cost)

-- a node that has a letter has a word
lettered : (word : Option (List Letter)) (i k : ℕ) → position (is_label i) (unwrap_or word []) ≡ Some k → IsTrue (is_some word)
lettered None i k e = absurd (cc)
lettered (Some letters) i k e = refl

module _ (m : ArenaMap) (plan : PlanOf) (able : AreMatchable m plan) (found : Placed) (at : (hooks : List ℕ) × IsCandidateAt m (rule_of plan.table) hooks found) (tests : List Test) (are : AreTests plan.schema.dim (rule_of plan.table) tests) where
  has_left : (x i : ℕ) → i ≤ plan.schema.dim → (s : Step) → step (rule_of plan.table) Left x i ≡ s → s ≢ Absent → IsTrue (has_word (rule_of plan.table) Left x)
  has_left x i low Absent e some = absurd (some refl)
  has_left x i low (Exp y) e some =
      let back = step_back plan.schema (rule_of plan.table) able.planned.accepted.in_range able.planned.accepted.incidence Left x i y low e in
      (step_back plan.schema (rule_of plan.table) able.planned.accepted.in_range able.planned.accepted.incidence Left y i x low back.1).0
  has_left x i low (Imp k) e some = lettered (word_at (rule_of plan.table) Left x) i k (step_place x k _ _ e).1

  pub node_found : (t : ℕ) (test : Test) → slice_get tests t ≡ Some test → test.node < found.nodes
  node_found t test here =
      let is = are.each t test here in
      (at.1.laid.nodes test.node).0 (has_left test.node test.label is.label test.step is.is is.some)

  pub label_found : (t : ℕ) (test : Test) → slice_get tests t ≡ Some test → test.label ≤ m.schema.dim
  label_found t test here = subst (λ (s : Schema). test.label ≤ s.dim) (sym able.schema) (are.each t test here).label

  pub each_met : ((t : ℕ) (test : Test) → slice_get tests t ≡ Some test → AreGood (λ p. IsMetAt (as_map m) (rule_of plan.table) (placement_in m found) test.node p test.label) found.positions) → AreMet m (rule_of plan.table) found
  each_met met x h p within i less =
      let low : i ≤ plan.schema.dim = subst (λ (s : Schema). i ≤ s.dim) able.schema (omega (arith, less)) in
      elim (are.all x i (node_below m plan able found at.1.laid x h) low) [
        | inl forced ↦ forced_met m plan able found at x p i within forced
        | inr (t, here) ↦ met t (test_of x i (step (rule_of plan.table) Left x i)) here p within
      ]
