-- Where no arc of a right step begins, the old arc is kept.
use Rattle.std.proofs.Common.{◌≡◌, ℕ, ◌<◌, ◌≤◌, ◌⊎◌, not, false, IsTrue, refl, sym, ap, ◌∙◌, subst, inl, inr}
use Rattle.gm_model.specs.declared.step.Step.{Step}
use Rattle.gm_model.specs.declared.step.Step.TheVariants.{Absent, Exp, Imp}
use Rattle.gm_model.specs.Unfolding.{Scene, IsStep, IsGone, IsDartAfter, IsCutAt, IsMadeArc, IsArcAfter}
use Rattle.gm_theory.proofs.Arcs.{kept_name, kept_arc, same_instance}
use Rattle.gm_theory.proofs.Scenes.{IsRightAt, IsLawful}
use Rattle.gm_theory.proofs.Tests.{both_true, and_true, not_both, not_true, same_or_not, search_below, true_not, true_or_false}

module _ (scene : Scene) (count width : ℕ) (label : ℕ → ℕ) (law : IsLawful scene count width label) where
  -- an arc begins at each right instance with a step
  pub made_there : (x p i : ℕ) → IsRightAt scene x p → i ≤ scene.dimension → IsStep (scene.right x i) → (e : ℕ) × IsMadeArc scene (scene.name_of x p) i e
  made_there x p i r h s = go (scene.right x i) refl
    where
      go : (t : Step) → scene.right x i ≡ t → (e : ℕ) × IsMadeArc scene (scene.name_of x p) i e
      go Absent f = absurd (rw f at s)
      go (Exp y) f = (scene.name_of y p, record { node = x; position = p; right = r.0; within = r.1; label = h; from = refl; leads = rw f refl })
      go (Imp m) f = (scene.name_of x (scene.turn p m), record { node = x; position = p; right = r.0; within = r.1; label = h; from = refl; leads = rw f refl })

  -- and none at one without
  pub unmade_there : (x p i e : ℕ) → IsRightAt scene x p → scene.right x i ≡ Absent → IsMadeArc scene (scene.name_of x p) i e → ⊥
  unmade_there x p i e r f made =
      let same : (x ≡ made.node) × (p ≡ made.position) = same_instance scene count width label law x p made.node made.position r (made.right, made.within) made.from in
      let none : scene.right made.node i ≡ Absent = subst (λ z. scene.right z i ≡ Absent) same.0 f in
      rw none at made.leads

  module _ (d i : ℕ) (h : i ≤ scene.dimension) (unmade : (e : ℕ) → IsMadeArc scene d i e → ⊥) where
    no_step : (x p : ℕ) → IsRightAt scene x p → d ≡ scene.name_of x p → IsStep (scene.right x i) → ⊥
    no_step x p r e s =
        let made : (c : ℕ) × IsMadeArc scene (scene.name_of x p) i c = made_there x p i r h s in
        unmade made.0 (subst (λ b. IsMadeArc scene b i made.0) (sym e) made.1)

    uncut : IsDartAfter scene d → IsTrue (scene.live d) → IsCutAt scene d i → ⊥
    uncut after live (x, p, l, b, s, e) = side (true_or_false (scene.is_right x)) after
      where
        side : IsTrue (scene.is_right x) ⊎ (scene.is_right x ≡ false) → IsDartAfter scene d → ⊥
        side (inl r) any = no_step x p (r, b) (e ∙ sym (kept_name scene count width label law x p l)) (law.steps.left_then_right x i l r h s)
        side (inr g) (inl (old, stays)) = stays (x, p, and_true (scene.is_left x) (not (scene.is_right x)) l (true_not (scene.is_right x) g), b, e)
        side (inr g) (inr (y, q, a, c, f)) =
            let sides : IsTrue (not (scene.is_left y)) × IsTrue (scene.is_right y) = both_true (not (scene.is_left y)) (scene.is_right y) a in
            no_step y q (sides.1, c) f (law.steps.added_whole y i (not_true (scene.is_left y) sides.0) sides.1 h)

    -- a dart of the result where none begins is an old one, and keeps its arc
    pub unmade_kept : IsDartAfter scene d → IsTrue (scene.live d) × IsArcAfter scene d i (scene.alpha i d)
    unmade_kept (inl (live, stays)) = (live, kept_arc scene count width label law d i live h (uncut (inl (live, stays)) live))
    unmade_kept (inr (x, p, a, b, e)) =
        let sides : IsTrue (not (scene.is_left x)) × IsTrue (scene.is_right x) = both_true (not (scene.is_left x)) (scene.is_right x) a in
        absurd (no_step x p (sides.1, b) e (law.steps.added_whole x i (not_true (scene.is_left x) sides.0) sides.1 h))

  -- each dart of the result has an arc at each label
  module _ (d i : ℕ) (h : i ≤ scene.dimension) where
    abbrev IsCutBy : ℕ → ℕ → Type 0
    IsCutBy x p = IsTrue (scene.is_left x) × IsStep (scene.left x i) × (d ≡ scene.dart_of x p)

    step_or_not : (s : Step) → IsStep s ⊎ (IsStep s → ⊥)
    step_or_not Absent = inr (λ s. absurd s)
    step_or_not (Exp y) = inl tt
    step_or_not (Imp m) = inl tt

    by_or_not : (x p : ℕ) → IsCutBy x p ⊎ (IsCutBy x p → ⊥)
    by_or_not x p = go (true_or_false (scene.is_left x)) (step_or_not (scene.left x i)) (same_or_not d (scene.dart_of x p))
      where
        go : IsTrue (scene.is_left x) ⊎ (scene.is_left x ≡ false) → IsStep (scene.left x i) ⊎ (IsStep (scene.left x i) → ⊥) → (d ≡ scene.dart_of x p) ⊎ (d ≡ scene.dart_of x p → ⊥) → IsCutBy x p ⊎ (IsCutBy x p → ⊥)
        go (inl l) (inl s) (inl e) = inl (l, s, e)
        go (inl l) (inl s) (inr other) = inr (λ cut. other cut.2)
        go (inl l) (inr none) e = inr (λ cut. none cut.1)
        go (inr a) s e = inr (λ cut. not_both (scene.is_left x) cut.0 a)

    abbrev IsCutIn : ℕ → Type 0
    IsCutIn x = (p : ℕ) × (p < scene.positions) × IsCutBy x p

    in_or_not : (x : ℕ) → IsCutIn x ⊎ (IsCutIn x → ⊥)
    in_or_not x = elim (search_below (IsCutBy x) (by_or_not x) scene.positions) [
      | inl there ↦ inl there
      | inr none ↦ inr (λ there. none there.0 there.1 there.2)
    ]

    cut_or_not : IsCutAt scene d i ⊎ (IsCutAt scene d i → ⊥)
    cut_or_not = elim (search_below IsCutIn in_or_not count) [
      | inl (x, b, (p, c, (l, s, e))) ↦ inl (x, p, l, c, s, e)
      | inr none ↦ inr (λ cut. none cut.0 (law.steps.left_below cut.0 cut.2) (cut.1, cut.3, (cut.2, cut.4, cut.5)))
    ]

    made_from : (x p : ℕ) → IsRightAt scene x p → d ≡ scene.name_of x p → IsStep (scene.right x i) → (e : ℕ) × IsArcAfter scene d i e
    made_from x p r e s =
        let made : (c : ℕ) × IsMadeArc scene (scene.name_of x p) i c = made_there x p i r h s in
        (made.0, inr (subst (λ b. IsMadeArc scene b i made.0) (sym e) made.1))

    pub exists_arc : IsDartAfter scene d → (e : ℕ) × IsArcAfter scene d i e
    exists_arc (inr (x, p, a, b, e)) =
        let sides : IsTrue (not (scene.is_left x)) × IsTrue (scene.is_right x) = both_true (not (scene.is_left x)) (scene.is_right x) a in
        made_from x p (sides.1, b) e (law.steps.added_whole x i (not_true (scene.is_left x) sides.0) sides.1 h)
    exists_arc (inl (live, stays)) = elim cut_or_not [
      | inr uncut ↦ (scene.alpha i d, kept_arc scene count width label law d i live h uncut)
      | inl (x, p, l, b, s, e) ↦ elim (true_or_false (scene.is_right x)) [
        | inl r ↦ made_from x p (r, b) (e ∙ sym (kept_name scene count width label law x p l)) (law.steps.left_then_right x i l r h s)
        | inr g ↦ absurd (stays (x, p, and_true (scene.is_left x) (not (scene.is_right x)) l (true_not (scene.is_right x) g), b, e))
      ]
    ]

  -- no dart of the result is gone
  pub not_gone : (d : ℕ) → IsDartAfter scene d → IsGone scene d → ⊥
  not_gone d (inl (live, stays)) gone = stays gone
  not_gone d (inr (x, p, a, b, e)) (y, q, g, c, f) =
      let sides : IsTrue (not (scene.is_left x)) × IsTrue (scene.is_right x) = both_true (not (scene.is_left x)) (scene.is_right x) a in
      let left : IsTrue (scene.is_left y) = (both_true (scene.is_left y) (not (scene.is_right y)) g).0 in
      not_both (scene.live d) (subst (λ u. IsTrue (scene.live u)) (sym f) (law.darts.live y q (left, c)))
      (ap scene.live e ∙ law.names.fresh x p (not_true (scene.is_left x) sides.0) (sides.1, b))
