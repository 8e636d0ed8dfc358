-- Which step of the candidate is the first that isn't met, and what its slots are.
use Rattle.std.proofs.Common.{◌≡◌, ℕ, ◌+◌, ◌*◌, ◌<◌, ◌≤◌, inl, inr, List, length, get_or, Some, sym, subst, arith}
use Rattle.std.proofs.lemmas.Bool.{cases_order}
use Rattle.std.proofs.lemmas.Nat.{mul-add-lt}
use Rattle.std.proofs.lemmas.Option.{slice_get-get_or, slice_get_within, get_or_from_slice_get}
use Rattle.gm_model.specs.declared.rule.Side.TheVariants.{Left}
use Rattle.gm_model.specs.declared.schema.Schema.{Schema}
use Rattle.gm_model.specs.declared.step.Step.TheVariants.{Exp, Imp}
use Rattle.gm_model.specs.declared.value.Value.{Value}
use Rattle.gm_model.specs.Applications.{IsStepBefore, IsFirstBroken}
use Rattle.gm_model.specs.Maps.{dimension}
use Rattle.gm_model.specs.Matches.{IsInstance, IsMetAt}
use Rattle.gm_model.specs.Rules.{Rule, rule_of, step}
use Rattle.gm_model.specs.Structure.{IsFirstBad}
use Rattle.gm_arena.specs.declared.slot.Slot.{Slot}
use Rattle.gm_arena.specs.inner.ArenaAsMap.{as_map}
use Rattle.gm_arena.specs.inner.ArenaMap.{ArenaMap, IsAt, IsLiveSlot, name_at}
use Rattle.gm_arena.specs.inner.Lawful.{IsLawful}
use Rattle.gm_arena.proofs.MapLemmas.{IsAt-name_at}
use Rattle.gm_plan.specs.inner.Placed.{Placed, slot_at}
use Rattle.gm_plan.specs.inner.Plans.{PlanOf, IsLeftCount}
use Rattle.gm_theory.proofs.RuleSteps.{step_back, step_within, word_below}
use Rattle.gm_walk.specs.inner.Walks.{AreLive}
use Rattle.gm_walk.proofs.MarkLemmas.{same_slot}
use Rattle.gm_match.specs.inner.Firsts.{AreMetBy, AreMet, IsFirstAt}
use Rattle.gm_match.specs.inner.Layout.{AreMatchable, IsLaid}
use Rattle.gm_plan.specs.inner.InArena.{placement_in}
use Rattle.gm_match.specs.inner.Outcome.{application_of}

module _ (m : ArenaMap) (found : Placed) where
  -- ---- slots

  pub slot_live : AreLive m found.slots → (x p : ℕ) (s : Slot) → slot_at found x p ≡ Some s → IsLiveSlot m s.at
  slot_live live x p s e = let at = p * found.nodes + x in subst (λ (t : Slot). IsLiveSlot m t.at) (get_or_from_slice_get found.slots at s s e) (live at s (slice_get_within found.slots at s e))

  pub slot_some : found.positions * found.nodes ≡ length found.slots → (x p : ℕ) → x < found.nodes → p < found.positions → (s : Slot) × (slot_at found x p ≡ Some s)
  slot_some long x p h k =
      let at = p * found.nodes + x in
      let within : at < length found.slots = omega (arith, mul-add-lt p found.nodes x found.positions k h) in
      (get_or found.slots at (record { at = 0 }), slice_get-get_or found.slots at (record { at = 0 }) within)

module _ (m : ArenaMap) (rule : Rule) (found : Placed) where
  -- ---- the steps together

  module _ (laid : IsLaid m rule found) where
    pub meets_all : AreMet m rule found → (x p i : ℕ) → IsInstance rule (placement_in m found) x p → i ≤ dimension (as_map m) → IsMetAt (as_map m) rule (placement_in m found) x p i
    meets_all met x p i at label = met x ((laid.nodes x).0 at.0) p at.1 i (omega arith)

    pub first_broken : (hooks : List ℕ) (params : List Value) (x p i : ℕ) → IsFirstBad (AreMetBy m rule found) found.nodes x → IsFirstAt m rule found x p i → IsFirstBroken (application_of m rule hooks params) (placement_in m found) x p i
    first_broken hooks params x p i node first = record {
      instance = ((laid.nodes x).1 node.within, first.position.within);
      label = omega (arith, first.label.within);
      broken = first.label.fails;
      before = before;
    }
      where
        before : (y q j : ℕ) → IsStepBefore (application_of m rule hooks params) (placement_in m found) y q j x p i → IsInstance rule (placement_in m found) y q → j ≤ dimension (as_map m) → IsMetAt (as_map m) rule (placement_in m found) y q j
        before y q j (inl (inl less)) at label = node.before y less q at.1 j (omega arith)
        before y q j (inl (inr (same, less))) at label = subst (λ z. IsMetAt (as_map m) rule (placement_in m found) z q j) (sym same) (first.position.before q less j (omega arith))
        before y q j (inr (same, equal, less)) at label =
            subst (λ z. IsMetAt (as_map m) rule (placement_in m found) z q j) (sym same) (subst (λ r. IsMetAt (as_map m) rule (placement_in m found) x r j) (sym equal) (first.label.before j less))

-- ---- where the steps of a left node lead

module _ (m : ArenaMap) (plan : PlanOf) (able : AreMatchable m plan) (found : Placed) (laid : IsLaid m (rule_of plan.table) found) where
  pub node_below : (x : ℕ) → x < found.nodes → x < length (rule_of plan.table).nodes
  node_below x h = word_below (rule_of plan.table) Left x ((laid.nodes x).1 h)

  label_below : (i : ℕ) → i ≤ m.schema.dim → i ≤ plan.schema.dim
  label_below i h = subst (λ (s : Schema). i ≤ s.dim) able.schema h

  pub other_below : (x i y : ℕ) → i ≤ m.schema.dim → step (rule_of plan.table) Left x i ≡ Exp y → y < found.nodes
  other_below x i y h e = (laid.nodes y).0 (step_back plan.schema (rule_of plan.table) able.planned.accepted.in_range able.planned.accepted.incidence Left x i y (label_below i h) e).0

  pub place_below : (x i k : ℕ) → x < found.nodes → step (rule_of plan.table) Left x i ≡ Imp k → k < found.places
  place_below x i k h e = subst (λ w. k < w) (sym laid.places) (step_within plan.schema (rule_of plan.table) able.planned.accepted.in_range able.planned.accepted.incidence Left x i k ((laid.nodes x).1 h) e)

-- two live slots of one dart are one
pub one_slot : (m : ArenaMap) → IsLawful m → (s t : Slot) → IsLiveSlot m s.at → IsLiveSlot m t.at → name_at m s.at ≡ name_at m t.at → s ≡ t
one_slot m lawful s t s_live t_live same = same_slot s t (lawful.one_slot t.at s.at (name_at m t.at) (IsAt-name_at m t.at t_live) (subst (IsAt m s.at) same (IsAt-name_at m s.at s_live)))

-- a rule has one number of left nodes
pub same_count : (rule : Rule) (a b : ℕ) → IsLeftCount rule a → IsLeftCount rule b → a ≡ b
same_count rule a b is_a is_b = elim (cases_order a b) [
  | inl e ↦ e
  | inr (inl h) ↦ absurd (let k : a < a = (is_a a).0 ((is_b a).1 h) in omega arith)
  | inr (inr h) ↦ absurd (let k : b < b = (is_b b).0 ((is_a b).1 h) in omega arith)
]
