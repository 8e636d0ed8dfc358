-- The end of a right node at a position is its dart of the result.
use Rattle.std.proofs.Common.{◌≡◌, ℕ, zero, suc, ◌+◌, ◌-◌, ◌*◌, ◌<◌, ◌≤◌, ◌⊎◌, false, not, ◌&&◌, [], length, Some, None, IsTrue, refl, sym, ap, inl, inr, arith, ◌∙◌}
use Rattle.std.proofs.lemmas.Bool.{cases_lt, lt-ltb, le-ltb}
use Rattle.gm_model.specs.declared.rule.Side.TheVariants.{Left, Right}
use Rattle.gm_model.specs.declared.step.Step.{Step}
use Rattle.gm_model.specs.declared.step.Step.TheVariants.{Absent, Imp}
use Rattle.gm_model.specs.Rules.{Rule, has_word, is_added, step}
use Rattle.gm_model.specs.Unfolding.{added_before}
use Rattle.gm_arena.specs.inner.ArenaAsMap.{as_map}
use Rattle.gm_arena.specs.declared.slot.Slot.{Slot}
use Rattle.gm_plan.specs.inner.Changes.{is_steady, made_step}
use Rattle.gm_plan.specs.inner.Placed.{Placed, slot_at}
use Rattle.std.proofs.lemmas.Option.{get_or_from_slice_get}
use Rattle.gm_theory.proofs.Arcs.{kept_name}
use Rattle.gm_theory.proofs.NewNames.{added_step, new_name}
use Rattle.gm_theory.proofs.RuleSteps.{word_below}
use Rattle.gm_theory.proofs.Tests.{and_true, both_true, true_or_false, true_not, not_both}
use Rattle.gm_commit.specs.declared.rewrite.Arcs.{Arcs}
use Rattle.gm_commit.specs.declared.rewrite.Arcs.TheVariants.{Freed, Made}
use Rattle.gm_commit.specs.inner.InstanceEdits.{RewriteOf, as_list, concat_below, slot_in, rewrite_of, end_of, written_step, arc_by, arc_at, arcs_at, removed_of, removed_in}
use Rattle.gm_commit.specs.inner.EditLists.{IsResultEnd, end_name}
use Rattle.gm_pending.specs.inner.Results.{PendingOf, IsPrepared, IsRightInstance, rule_in, place_in, scene_in}
use Rattle.gm_pending.proofs.on_pending.ResultDarts.{stays_there}
use Rattle.gm_pending.proofs.on_pending.PreparedIsLawful.{law}
use Rattle.gm_pending.proofs.on_pending.LeftNodes.{not_left}
use Rattle.gm_commit.proofs.on_new_darts.Numbers.{number_below}

module _ (app : PendingOf) (prepared : IsPrepared app) where
  -- the left nodes come first, and each other node is added
  pub other_added : (x : ℕ) → app.placed.nodes ≤ x → x < length (rule_in app).nodes → IsTrue (is_added (rule_in app) x)
  other_added x h b = elim (prepared.planned.accepted.in_range.some_word x b) [
    | inl l ↦ not_both (has_word (rule_in app) Left x) l (not_left (rule_in app) app.placed.nodes x prepared.matched.nodes h)
    | inr r ↦ and_true (not (has_word (rule_in app) Left x)) (has_word (rule_in app) Right x) (true_not (has_word (rule_in app) Left x) (not_left (rule_in app) app.placed.nodes x prepared.matched.nodes h)) r
  ]

  pub left_not_added : (x : ℕ) → x < app.placed.nodes → is_added (rule_in app) x ≡ false
  left_not_added x h = let l : IsTrue (has_word (rule_in app) Left x) = (prepared.matched.nodes x).1 h in rw l refl

  pub added_number : (x : ℕ) → x ≤ length (rule_in app).nodes → added_before (rule_in app) x ≡ x - app.placed.nodes
  added_number zero h = omega arith
  added_number (suc x) h = go (cases_lt x app.placed.nodes) (added_number x (omega arith))
    where
      go : (x < app.placed.nodes) ⊎ (app.placed.nodes ≤ x) → added_before (rule_in app) x ≡ x - app.placed.nodes → added_before (rule_in app) (suc x) ≡ suc x - app.placed.nodes
      go (inl l) earlier =
          let same : added_before (rule_in app) (suc x) ≡ added_before (rule_in app) x = rw (left_not_added x l) (omega arith) in
          omega (arith, same, earlier)
      go (inr l) earlier = omega (arith, added_step (rule_in app) x (other_added x l (omega arith)), earlier)

  pub right_end : (x p : ℕ) → IsRightInstance app x p → IsResultEnd app (end_of (rewrite_of app) x p) × (end_name app (end_of (rewrite_of app) x p) ≡ (scene_in app).name_of x p)
  right_end x p r = elim (cases_lt x app.placed.nodes) [
    | inl l ↦
        let left : IsTrue (has_word (rule_in app) Left x) = (prepared.matched.nodes x).1 l in
        rw (lt-ltb x app.placed.nodes l) (
          (prepared.matched.live x p l r.1, stays_there app prepared x p left r),
          sym (kept_name (scene_in app) _ _ _ (law app prepared) x p left),
        )
    | inr l ↦
        let below : x < length (rule_in app).nodes = word_below (rule_in app) Right x r.0 in
        let added : IsTrue (is_added (rule_in app) x) = other_added x l below in
        let number : added_before (rule_in app) x ≡ x - app.placed.nodes = added_number x (omega arith) in
        rw (le-ltb x app.placed.nodes l, ← number) (
          number_below (rule_in app) app.placed.positions x p added below r.1,
          omega (arith, new_name (as_map app.map) (rule_in app) (place_in app) x p added),
        )
  ]

-- ---- what the code makes of them

pub slot_is : (placed : Placed) (x p : ℕ) (slot : Slot) → slot_at placed x p ≡ Some slot → slot_in placed x p ≡ slot
slot_is placed x p slot e = get_or_from_slice_get placed.slots (p * placed.nodes + x) slot (record { at = 0 }) e

-- a step that is absent has no arcs
pub no_arcs : (rewrite : RewriteOf) (arcs : Arcs) (x i : ℕ) (step : Step) → step ≡ written_step rewrite arcs x i → step ≡ Absent → arcs_at rewrite arcs x i ≡ []
no_arcs rewrite arcs x i step f g = go rewrite.placed.positions
  where
    none : (p : ℕ) → arc_at rewrite arcs x i p ≡ None
    none p = ap (arc_by rewrite arcs x p i) (sym f ∙ g) ∙ absent arcs
      where
        absent : (a : Arcs) → arc_by rewrite a x p i Absent ≡ None
        absent Freed = refl
        absent Made = refl

    go : (n : ℕ) → concat_below (λ p. as_list (arc_at rewrite arcs x i p)) n ≡ []
    go zero = refl
    go (suc n) = rw (go n, none n) refl

-- a letter that is written is that of a right step
pub made_turn : (rule : Rule) (x i m : ℕ) → made_step rule x i ≡ Imp m → IsTrue (has_word rule Right x) × (step rule Right x i ≡ Imp m)
made_turn rule x i m e = elim (true_or_false (has_word rule Right x && not (is_steady rule x i))) [
  | inl w ↦ ((both_true (has_word rule Right x) (not (is_steady rule x i)) w).0, rw w at e)
  | inr a ↦ absurd (let none : Absent ≡ Imp m = rw a at e in cc)
]

-- no dart of a node that stays is removed
pub none_removed : (rewrite : RewriteOf) (x : ℕ) → rewrite.goes x ≡ false → removed_in rewrite x ≡ []
none_removed rewrite x e = go rewrite.placed.positions
  where
    go : (n : ℕ) → concat_below (removed_of rewrite x) n ≡ []
    go zero = refl
    go (suc n) = rw (go n, e) refl
