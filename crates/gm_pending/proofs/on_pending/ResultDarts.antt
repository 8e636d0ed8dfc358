-- Slots and instances of an application: which dart of the result a slot, or an instance of a right node, is.
use Rattle.std.proofs.Common.{◌≡◌, ◌≢◌, ℕ, ◌<◌, ◌≤◌, ◌⊎◌, not, false, IsTrue, refl, sym, ap, ◌∙◌, subst, inl, inr, arith}
use Rattle.std.proofs.lemmas.Bool.{cases_lt}
use Rattle.gm_model.specs.declared.rule.Side.TheVariants.{Left, Right}
use Rattle.gm_model.specs.Rules.{Rule, has_word}
use Rattle.gm_model.specs.Unfolding.{IsDartAfter, IsGone, IsMadeArc, IsArcAfter}
use Rattle.gm_arena.specs.inner.ArenaMap.{IsAt, IsLiveSlot, name_at, alpha}
use Rattle.gm_arena.proofs.InsideLemmas.{is_some_at}
use Rattle.gm_arena.proofs.MapLemmas.{name_at-is, IsAt-name_at, IsLiveName-name_at}
use Rattle.gm_plan.specs.inner.InArena.{slot_number}
use Rattle.gm_plan.specs.inner.Plans.{IsLeftCount}
use Rattle.gm_theory.proofs.Arcs.{kept_name, right_dart, arc_to}
use Rattle.gm_theory.proofs.Scenes.{IsRightAt}
use Rattle.gm_theory.proofs.Tests.{both_true, and_true, not_true, true_not, true_or_false, not_both}
use Rattle.gm_walk.specs.declared.at.At.{At}
use Rattle.gm_walk.specs.declared.at.At.TheVariants.{Old, New}
use Rattle.gm_walk.specs.inner.Keys.{is_old}
use Rattle.gm_plan.specs.inner.Lookup.{IsWithin, IsAtSlot}
use Rattle.gm_pending.specs.inner.Results.{PendingOf, IsPrepared, rule_in, scene_in, name_of, IsResultDart}
use Rattle.gm_pending.proofs.on_pending.PreparedIsLawful.{law}
use Rattle.gm_pending.proofs.on_pending.MadeArcs.{made_there, unmade_kept}

module _ (app : PendingOf) (prepared : IsPrepared app) where
  -- the dart at a live slot is a dart of the old map
  pub live_dart : (slot : ℕ) → IsLiveSlot app.map slot → IsTrue ((scene_in app).live (name_at app.map slot))
  live_dart slot live = IsLiveName-name_at app.map slot prepared.lawful live

  -- slots with one dart are one
  pub same_slot : (slot other : ℕ) → IsLiveSlot app.map slot → IsLiveSlot app.map other → name_at app.map slot ≡ name_at app.map other → slot ≡ other
  same_slot slot other live live' e =
      prepared.lawful.one_slot other slot (name_at app.map other) (IsAt-name_at app.map other live')
      (subst (IsAt app.map slot) e (IsAt-name_at app.map slot live))

  -- the neighbour of a dart that stays, where it is a dart of the result, stays as well
  pub old_result : (slot : ℕ) → IsLiveSlot app.map slot → IsDartAfter (scene_in app) (name_at app.map slot) → IsGone (scene_in app) (name_at app.map slot) → ⊥
  old_result slot live (inl (old, stays)) = stays
  old_result slot live (inr (y, q, a, b, e)) = λ gone.
      let sides : IsTrue (not (has_word (rule_in app) Left y)) × IsTrue (has_word (rule_in app) Right y) = both_true (not (has_word (rule_in app) Left y)) (has_word (rule_in app) Right y) a in
      not_both ((scene_in app).live (name_at app.map slot)) (live_dart slot live) (ap (scene_in app).live e ∙ (law app prepared).names.fresh y q (not_true (has_word (rule_in app) Left y) sides.0) (sides.1, b))

  pub result_dart : (at : At) → IsResultDart app at → IsDartAfter (scene_in app) (name_of app at)
  result_dart (Old slot) (live, stays) = inl (live_dart slot.at live, stays)
  result_dart (New x p) (added, within) = inr (x, p, added, within, refl)

  -- an arc of a right step begins at each dart of an added node
  pub never_unmade : (x p i : ℕ) → IsResultDart app (New x p) → i ≤ app.map.schema.dim → ((e : ℕ) → IsMadeArc (scene_in app) (name_of app (New x p)) i e → ⊥) → ⊥
  never_unmade x p i (added, within) h unmade =
      let sides : IsTrue (not (has_word (rule_in app) Left x)) × IsTrue (has_word (rule_in app) Right x) = both_true (not (has_word (rule_in app) Left x)) (has_word (rule_in app) Right x) added in
      let made = made_there (scene_in app) _ _ _ (law app prepared) x p i (sides.1, within) h ((law app prepared).steps.added_whole x i (not_true (has_word (rule_in app) Left x) sides.0) sides.1 h) in
      unmade made.0 made.1

  -- so where none begins, the dart is an old one
  pub unmade_old : (at : At) (i : ℕ) → IsResultDart app at → i ≤ app.map.schema.dim → ((e : ℕ) → IsMadeArc (scene_in app) (name_of app at) i e → ⊥) → IsTrue (is_old at)
  unmade_old (Old slot) i dart h unmade = refl
  unmade_old (New x p) i dart h unmade = absurd (never_unmade x p i dart h unmade)

  -- where none begins at an old dart, its old arc is kept, and leads to a dart of the result
  pub old_kept : (slot to i : ℕ) → IsResultDart app (Old (record { at = slot })) → i ≤ app.map.schema.dim → ((e : ℕ) → IsMadeArc (scene_in app) (name_at app.map slot) i e → ⊥) → IsAt app.map to (alpha app.map i (name_at app.map slot)) →
      IsArcAfter (scene_in app) (name_at app.map slot) i (name_at app.map to) × IsResultDart app (Old (record { at = to }))
  old_kept slot to i dart h unmade at =
      let name : name_at app.map to ≡ alpha app.map i (name_at app.map slot) = name_at-is app.map to _ at in
      let kept = unmade_kept (scene_in app) _ _ _ (law app prepared) (name_at app.map slot) i h unmade (inl (live_dart slot dart.0, dart.1)) in
      let arc : IsArcAfter (scene_in app) (name_at app.map slot) i (name_at app.map to) = rw name kept.1 in
      let live : IsLiveSlot app.map to = is_some_at _ _ at in
      (arc, (live, old_result to live (arc_to (scene_in app) _ _ _ (law app prepared) _ i _ arc)))

  -- the dart of a preserved node stays
  pub stays_there : (x p : ℕ) → IsTrue (has_word (rule_in app) Left x) → IsRightAt (scene_in app) x p → IsGone (scene_in app) (name_at app.map (slot_number app.placed x p)) → ⊥
  stays_there x p l r = old_result (slot_number app.placed x p) (prepared.matched.live x p ((prepared.matched.nodes x).0 l) r.1)
      (subst (IsDartAfter (scene_in app)) (kept_name (scene_in app) _ _ _ (law app prepared) x p l) (right_dart (scene_in app) _ _ _ (law app prepared) x p r))

  module _ (slot : ℕ) (dart : IsLiveSlot app.map slot × (IsGone (scene_in app) (name_at app.map slot) → ⊥)) where
    -- an instance at the slot of a dart of the result is a right node's
    pub instance_lies : (x p : ℕ) → IsAtSlot app.placed slot x p → IsRightAt (scene_in app) x p × (name_at app.map slot ≡ (scene_in app).name_of x p)
    instance_lies x p here = go (true_or_false (has_word (rule_in app) Right x))
      where
        left : IsTrue (has_word (rule_in app) Left x)
        left = (prepared.matched.nodes x).1 here.0.0

        lies : name_at app.map slot ≡ name_at app.map (slot_number app.placed x p)
        lies = ap (name_at app.map) (sym here.1)

        go : IsTrue (has_word (rule_in app) Right x) ⊎ (has_word (rule_in app) Right x ≡ false) → IsRightAt (scene_in app) x p × (name_at app.map slot ≡ (scene_in app).name_of x p)
        go (inl r) = ((r, here.0.1), lies ∙ sym (kept_name (scene_in app) _ _ _ (law app prepared) x p left))
        go (inr g) = absurd (dart.1 (x, p, and_true (has_word (rule_in app) Left x) (not (has_word (rule_in app) Right x)) left (true_not (has_word (rule_in app) Right x) g), here.0.1, lies))

    -- at a slot without an instance lies no right node
    pub none_lies : ((x p : ℕ) → IsWithin app.placed x p → slot_number app.placed x p ≢ slot) → (x p : ℕ) → IsRightAt (scene_in app) x p → name_at app.map slot ≡ (scene_in app).name_of x p → ⊥
    none_lies none x p r e = go (true_or_false (has_word (rule_in app) Left x))
      where
        go : IsTrue (has_word (rule_in app) Left x) ⊎ (has_word (rule_in app) Left x ≡ false) → ⊥
        go (inl l) =
            let node : x < app.placed.nodes = (prepared.matched.nodes x).0 l in
            none x p (node, r.1) (sym (same_slot slot (slot_number app.placed x p) dart.0 (prepared.matched.live x p node r.1) (e ∙ kept_name (scene_in app) _ _ _ (law app prepared) x p l)))
        go (inr a) = not_both ((scene_in app).live ((scene_in app).name_of x p)) (subst (λ d. IsTrue ((scene_in app).live d)) e (live_dart slot dart.0)) ((law app prepared).names.fresh x p a r)

-- the number of left nodes is one
pub one_left_count : (rule : Rule) (a b : ℕ) → IsLeftCount rule a → IsLeftCount rule b → a ≡ b
one_left_count rule a b left left' = elim (cases_lt a b) [
  | inl h ↦ absurd (let k : a < a = (left a).0 ((left' a).1 h) in omega arith)
  | inr h ↦ elim (cases_lt b a) [
    | inl k ↦ absurd (let l : b < b = (left' b).0 ((left b).1 k) in omega arith)
    | inr k ↦ omega arith
  ]
]
