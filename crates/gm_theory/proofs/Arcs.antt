-- The arcs of an unfolding: kept and made arcs never meet, arcs lead both ways, and they lead to darts of the result.
use Rattle.std.proofs.Common.{◌≡◌, ℕ, ◌<◌, ◌≤◌, ◌⊎◌, not, IsTrue, false, refl, sym, ◌∙◌, ap, subst, inl, inr}
use Rattle.gm_model.specs.declared.step.Step.{Step}
use Rattle.gm_model.specs.declared.step.Step.TheVariants.{Absent, Exp, Imp}
use Rattle.gm_model.specs.Unfolding.{Scene, IsStep, IsGone, IsDartAfter, IsCutAt, IsKeptArc, LeadsBy, IsMadeArc, IsArcAfter}
use Rattle.gm_theory.proofs.Scenes.{IsRightAt, IsLawful}
use Rattle.gm_theory.proofs.Tests.{both_true, and_true, not_true, true_not, true_or_false, not_both}

-- a step that is one, by what it is
pub exp_is_step : (s : Step) (y : ℕ) → s ≡ Exp y → IsStep s
exp_is_step s y e = rw e tt

pub imp_is_step : (s : Step) (m : ℕ) → s ≡ Imp m → IsStep s
imp_is_step s m e = rw e tt

module _ (scene : Scene) (count width : ℕ) (label : ℕ → ℕ) (law : IsLawful scene count width label) where
  -- ---- names

  -- the name of a preserved node is its dart
  pub kept_name : (x p : ℕ) → IsTrue (scene.is_left x) → scene.name_of x p ≡ scene.dart_of x p
  kept_name x p l = law.names.kept x p l

  -- two instances of the right side with one name are one
  pub same_instance : (x p y q : ℕ) → IsRightAt scene x p → IsRightAt scene y q → scene.name_of x p ≡ scene.name_of y q → (x ≡ y) × (p ≡ q)
  same_instance x p y q r r' e = go (true_or_false (scene.is_left x)) (true_or_false (scene.is_left y))
    where
      live_name : (z t : ℕ) → IsTrue (scene.is_left z) → t < scene.positions → IsTrue (scene.live (scene.name_of z t))
      live_name z t l h = rw (law.names.kept z t l) (law.darts.live z t (l, h))

      go : IsTrue (scene.is_left x) ⊎ (scene.is_left x ≡ false) → IsTrue (scene.is_left y) ⊎ (scene.is_left y ≡ false) → (x ≡ y) × (p ≡ q)
      go (inl l) (inl l') = law.darts.injective x p y q (l, r.1) (l', r'.1) (sym (law.names.kept x p l) ∙ e ∙ law.names.kept y q l')
      go (inl l) (inr a') = not_both (scene.live (scene.name_of y q)) (subst (λ d. IsTrue (scene.live d)) e (live_name x p l r.1)) (law.names.fresh y q a' r')
      go (inr a) (inl l') = not_both (scene.live (scene.name_of x p)) (subst (λ d. IsTrue (scene.live d)) (sym e) (live_name y q l' r'.1)) (law.names.fresh x p a r)
      go (inr a) (inr a') = law.names.differ x p y q a a' r r' e

  -- ---- kept and made arcs never meet

  -- where the far end of an old arc is cut at its label, so is the near end
  pub cut_back : (d i : ℕ) → IsTrue (scene.live d) → i ≤ scene.dimension → IsCutAt scene (scene.alpha i d) i → IsCutAt scene d i
  cut_back d i live h (y, q, l, b, s, e) = go (scene.left y i) refl
    where
      back : d ≡ scene.alpha i (scene.dart_of y q)
      back = sym (law.old.back d i live h) ∙ ap (scene.alpha i) e

      go : (step : Step) → scene.left y i ≡ step → IsCutAt scene d i
      go Absent f = absurd (rw f at s)
      go (Exp z) f =
          let other : IsTrue (scene.is_left z) × (scene.left z i ≡ Exp y) = law.steps.left_back y i z l h f in
          (z, q, other.0, b, exp_is_step (scene.left z i) y other.1, back ∙ law.darts.links y q i z (l, b) h f)
      go (Imp m) f =
          (y, scene.turn q m, l, law.turns.within q m b (law.steps.left_place y i m l f), s, back ∙ law.darts.letters y q i m (l, b) h f)

  -- an old arc of a dart that isn't cut is kept
  pub kept_arc : (d i : ℕ) → IsTrue (scene.live d) → i ≤ scene.dimension → (IsCutAt scene d i → ⊥) → IsArcAfter scene d i (scene.alpha i d)
  kept_arc d i live h uncut = inl record { live = live; label = h; leads = refl; uncut = uncut; uncut_there = λ c. uncut (cut_back d i live h c) }

  -- the arcs of right steps
  pub link_arc : (x p i y : ℕ) → IsRightAt scene x p → i ≤ scene.dimension → scene.right x i ≡ Exp y → IsArcAfter scene (scene.name_of x p) i (scene.name_of y p)
  link_arc x p i y r h e = inr record { node = x; position = p; right = r.0; within = r.1; label = h; from = refl; leads = rw e refl }

  pub letter_arc : (x p i m : ℕ) → IsRightAt scene x p → i ≤ scene.dimension → scene.right x i ≡ Imp m → IsArcAfter scene (scene.name_of x p) i (scene.name_of x (scene.turn p m))
  letter_arc x p i m r h e = inr record { node = x; position = p; right = r.0; within = r.1; label = h; from = refl; leads = rw e refl }

  -- a made arc and a kept arc don't begin at one dart with one label
  pub never_meet : (d i e e' : ℕ) → IsKeptArc scene d i e → IsMadeArc scene d i e' → ⊥
  never_meet d i e e' kept made = go (true_or_false (scene.is_left made.node)) (scene.right made.node i) refl
    where
      there : IsStep (scene.right made.node i) → IsTrue (scene.is_left made.node) ⊎ (scene.is_left made.node ≡ false) → ⊥
      there s (inl l) = kept.uncut (made.node, made.position, l, made.within, law.steps.right_then_left made.node i l made.right made.label s, made.from ∙ law.names.kept made.node made.position l)
      there s (inr a) = not_both (scene.live d) kept.live (ap scene.live made.from ∙ law.names.fresh made.node made.position a (made.right, made.within))

      go : IsTrue (scene.is_left made.node) ⊎ (scene.is_left made.node ≡ false) → (step : Step) → scene.right made.node i ≡ step → ⊥
      go side Absent f = rw f at made.leads
      go side (Exp y) f = there (exp_is_step _ y f) side
      go side (Imp m) f = there (imp_is_step _ m f) side

  -- ---- arcs lead both ways, to darts of the result

  pub arc_back : (d i e : ℕ) → IsArcAfter scene d i e → IsArcAfter scene e i d
  arc_back d i e (inl kept) = inl record {
    live = subst (λ c. IsTrue (scene.live c)) kept.leads (law.old.stays d i kept.live kept.label);
    label = kept.label;
    leads = ap (scene.alpha i) (sym kept.leads) ∙ law.old.back d i kept.live kept.label;
    uncut = kept.uncut_there;
    uncut_there = kept.uncut;
  }
  arc_back d i e (inr made) = go (scene.right made.node i) refl
    where
      r : IsRightAt scene made.node made.position
      r = (made.right, made.within)

      to : (c : ℕ) → IsArcAfter scene c i (scene.name_of made.node made.position) → e ≡ c → IsArcAfter scene e i d
      to c arc f = subst (λ u. IsArcAfter scene u i d) (sym f) (subst (λ u. IsArcAfter scene c i u) (sym made.from) arc)

      go : (step : Step) → scene.right made.node i ≡ step → IsArcAfter scene e i d
      go Absent f = absurd (rw f at made.leads)
      go (Exp y) f =
          let other : IsTrue (scene.is_right y) × (scene.right y i ≡ Exp made.node) = law.steps.right_back made.node i y made.right made.label f in
          to (scene.name_of y made.position) (link_arc y made.position i made.node (other.0, made.within) made.label other.1) (rw f at made.leads)
      go (Imp m) f =
          let place : m < width = law.steps.right_place made.node i m made.right f in
          let turned : IsArcAfter scene (scene.name_of made.node (scene.turn made.position m)) i (scene.name_of made.node (scene.turn (scene.turn made.position m) m)) = letter_arc made.node (scene.turn made.position m) i m (made.right, law.turns.within made.position m made.within place) made.label f in
          to (scene.name_of made.node (scene.turn made.position m)) (subst (λ t. IsArcAfter scene (scene.name_of made.node (scene.turn made.position m)) i (scene.name_of made.node t)) (law.turns.twice made.position m made.within place) turned) (rw f at made.leads)

  -- an instance of the right side is a dart of the result
  pub right_dart : (x p : ℕ) → IsRightAt scene x p → IsDartAfter scene (scene.name_of x p)
  right_dart x p r = go (true_or_false (scene.is_left x))
    where
      stays : (l : IsTrue (scene.is_left x)) → IsGone scene (scene.name_of x p) → ⊥
      stays l (y, q, g, b, e) =
          let sides : IsTrue (scene.is_left y) × IsTrue (not (scene.is_right y)) = both_true (scene.is_left y) (not (scene.is_right y)) g in
          let same : (x ≡ y) × (p ≡ q) = law.darts.injective x p y q (l, r.1) (sides.0, b) (sym (law.names.kept x p l) ∙ e) in
          not_both (scene.is_right x) r.0 (ap scene.is_right same.0 ∙ not_true (scene.is_right y) sides.1)

      go : IsTrue (scene.is_left x) ⊎ (scene.is_left x ≡ false) → IsDartAfter scene (scene.name_of x p)
      go (inl l) = inl (rw (law.names.kept x p l) (law.darts.live x p (l, r.1)), stays l)
      go (inr a) = inr (x, p, and_true (not (scene.is_left x)) (scene.is_right x) (true_not (scene.is_left x) a) r.0, r.1, refl)

  -- the darts of removed nodes are cut at each label
  pub gone_cut : (d i : ℕ) → i ≤ scene.dimension → IsGone scene d → IsCutAt scene d i
  gone_cut d i h (x, p, g, b, e) =
      let sides : IsTrue (scene.is_left x) × IsTrue (not (scene.is_right x)) = both_true (scene.is_left x) (not (scene.is_right x)) g in
      (x, p, sides.0, b, law.steps.removed_whole x i sides.0 (not_true (scene.is_right x) sides.1) h, e)

  pub arc_from : (d i e : ℕ) → IsArcAfter scene d i e → IsDartAfter scene d
  arc_from d i e (inl kept) = inl (kept.live, λ g. kept.uncut (gone_cut d i kept.label g))
  arc_from d i e (inr made) = subst (IsDartAfter scene) (sym made.from) (right_dart made.node made.position (made.right, made.within))

  pub arc_to : (d i e : ℕ) → IsArcAfter scene d i e → IsDartAfter scene e
  arc_to d i e arc = arc_from e i d (arc_back d i e arc)

  -- ---- one arc from each dart with each label

  pub one_arc : (d i e e' : ℕ) → IsArcAfter scene d i e → IsArcAfter scene d i e' → e ≡ e'
  one_arc d i e e' (inl a) (inl b) = sym a.leads ∙ b.leads
  one_arc d i e e' (inl a) (inr b) = absurd (never_meet d i e e' a b)
  one_arc d i e e' (inr a) (inl b) = absurd (never_meet d i e' e b a)
  one_arc d i e e' (inr a) (inr b) = go (scene.right a.node i) refl
    where
      same : (a.node ≡ b.node) × (a.position ≡ b.position)
      same = same_instance a.node a.position b.node b.position (a.right, a.within) (b.right, b.within) (sym a.from ∙ b.from)

      there : LeadsBy scene a.node a.position (scene.right a.node i) e'
      there = subst (λ x. LeadsBy scene x a.position (scene.right x i) e') (sym same.0) (subst (λ p. LeadsBy scene b.node p (scene.right b.node i) e') (sym same.1) b.leads)

      go : (step : Step) → scene.right a.node i ≡ step → e ≡ e'
      go Absent f = absurd (rw f at a.leads)
      go (Exp y) f = let h : e ≡ scene.name_of y a.position = rw f at a.leads in let k : e' ≡ scene.name_of y a.position = rw f at there in h ∙ sym k
      go (Imp m) f = let h : e ≡ scene.name_of a.node (scene.turn a.position m) = rw f at a.leads in let k : e' ≡ scene.name_of a.node (scene.turn a.position m) = rw f at there in h ∙ sym k
