-- The unfolding of a lawful scene exists, is determined, and is a generalised map.
use Rattle.std.proofs.Common.{◌≡◌, ℕ, ◌<◌, ◌≤◌, ◌⊎◌, Bool, not, ◌&&◌, IsTrue, true, false, refl, sym, ◌∙◌, subst, inl, inr, arith}
use Rattle.gm_model.specs.declared.step.Step.{Step}
use Rattle.gm_model.specs.declared.step.Step.TheVariants.{Absent, Exp, Imp}
use Rattle.gm_model.specs.GMap.{IsGMap}
use Rattle.gm_model.specs.Unfolding.{Scene, IsDartAfter, IsCutAt, IsArcAfter, IsUnfolding, next_after}
use Rattle.gm_theory.proofs.Arcs.{exp_is_step, imp_is_step, kept_name, kept_arc, link_arc, letter_arc, right_dart, arc_from, arc_to, arc_back, one_arc}
use Rattle.gm_theory.proofs.Commuting.{find_instance, uncut_instance, commutes_after}
use Rattle.gm_theory.proofs.Scenes.{IsLawful}
use Rattle.gm_theory.proofs.Tests.{both_true, and_true, not_true, true_not, true_or_false, not_both}

module _ (scene : Scene) (count width : ℕ) (label : ℕ → ℕ) (law : IsLawful scene count width label) where
  -- ---- any unfolding

  pub unfolding_generalised : (IsLive : ℕ → Type 0) (alpha : ℕ → ℕ → ℕ) (next : ℕ) → IsUnfolding scene IsLive alpha next → IsGMap scene.dimension IsLive alpha
  unfolding_generalised IsLive alpha next u = record {
    stays = λ d i live h. (u.darts (alpha i d)).1 (arc_to scene count width label law d i (alpha i d) ((u.arcs d i (alpha i d) h).0 (live, refl)));
    back = λ d i live h. ((u.arcs (alpha i d) i d h).1 (arc_back scene count width label law d i (alpha i d) ((u.arcs d i (alpha i d) h).0 (live, refl)))).1;
    commutes = λ d i j live far h. commutes_after scene count width label law IsLive alpha next u d i j ((u.darts d).0 live) (omega arith) h (inl far);
  }

  pub unfolding_below : (IsLive : ℕ → Type 0) (alpha : ℕ → ℕ → ℕ) (next : ℕ) → IsUnfolding scene IsLive alpha next → (d : ℕ) → IsLive d → d < next
  unfolding_below IsLive alpha next u d live = rw u.next_is (go ((u.darts d).0 live))
    where
      go : IsDartAfter scene d → d < next_after scene
      go (inl (old, stays)) = let h : d < scene.next = law.names.live_below d old in omega arith
      go (inr (x, p, a, b, e)) = rw e (law.names.below x p (not_true (scene.is_left x) (both_true (not (scene.is_left x)) (scene.is_right x) a).0) ((both_true (not (scene.is_left x)) (scene.is_right x) a).1, b))

  -- two unfoldings have the same darts, arcs and next name
  pub unfoldings_agree : (IsLive IsLive' : ℕ → Type 0) (alpha alpha' : ℕ → ℕ → ℕ) (next next' : ℕ) → IsUnfolding scene IsLive alpha next → IsUnfolding scene IsLive' alpha' next' →
      (next ≡ next') × ((d : ℕ) → IsLive d → IsLive' d) × ((d i : ℕ) → IsLive d → i ≤ scene.dimension → alpha i d ≡ alpha' i d)
  unfoldings_agree IsLive IsLive' alpha alpha' next next' u v =
      (u.next_is ∙ sym v.next_is, λ d live. (v.darts d).1 ((u.darts d).0 live), λ d i live h. sym (((v.arcs d i (alpha i d) h).1 ((u.arcs d i (alpha i d) h).0 (live, refl))).1))

  -- ---- one unfolding

  abbrev pub FoundIn : (ℕ → Bool) → (ℕ → ℕ → ℕ) → ℕ → Type 0
  FoundIn test name d = ((x : ℕ) × (p : ℕ) × IsTrue (test x) × (p < scene.positions) × (d ≡ name x p)) ⊎ ((x p : ℕ) → IsTrue (test x) → p < scene.positions → d ≡ name x p → ⊥)

  found_right : (d : ℕ) → FoundIn scene.is_right scene.name_of d
  found_right d = find_instance scene count width label law scene.is_right scene.name_of law.steps.right_below d

  abbrev is_gone_node : ℕ → Bool
  is_gone_node x = scene.is_left x && not (scene.is_right x)

  found_gone : (d : ℕ) → FoundIn is_gone_node scene.dart_of d
  found_gone d = find_instance scene count width label law is_gone_node scene.dart_of (λ x h. law.steps.left_below x (both_true (scene.is_left x) (not (scene.is_right x)) h).0) d

  -- whether d is a dart of the result, where it is found
  abbrev live_by : (d : ℕ) → FoundIn scene.is_right scene.name_of d → FoundIn is_gone_node scene.dart_of d → Bool
  live_by d (inl found) gone = true
  live_by d (inr none) (inl gone) = false
  live_by d (inr none) (inr stays) = scene.live d

  -- where a right step leads, and where there is none, the old neighbour
  abbrev along : ℕ → ℕ → ℕ → ℕ → Step → ℕ
  along d i x p Absent = scene.alpha i d
  along d i x p (Exp y) = scene.name_of y p
  along d i x p (Imp m) = scene.name_of x (scene.turn p m)

  abbrev alpha_by : (i d : ℕ) → FoundIn scene.is_right scene.name_of d → ℕ
  alpha_by i d (inl (x, p, r, b, e)) = along d i x p (scene.right x i)
  alpha_by i d (inr none) = scene.alpha i d

  pub live_after : ℕ → Bool
  live_after d = live_by d (found_right d) (found_gone d)

  pub alpha_after : ℕ → ℕ → ℕ
  alpha_after i d = alpha_by i d (found_right d)

  live_then : (d : ℕ) (f : FoundIn scene.is_right scene.name_of d) (g : FoundIn is_gone_node scene.dart_of d) → IsTrue (live_by d f g) → IsDartAfter scene d
  live_then d (inl (x, p, r, b, e)) g h = subst (IsDartAfter scene) (sym e) (right_dart scene count width label law x p (r, b))
  live_then d (inr none) (inl gone) h = not_both false h refl
  live_then d (inr none) (inr stays) h = inl (h, λ g. stays g.0 g.1 g.2 g.3 g.4)

  then_live : (d : ℕ) (f : FoundIn scene.is_right scene.name_of d) (g : FoundIn is_gone_node scene.dart_of d) → IsDartAfter scene d → IsTrue (live_by d f g)
  then_live d (inl found) g after = refl
  then_live d (inr none) g (inr (x, p, a, b, e)) = absurd (none x p (both_true (not (scene.is_left x)) (scene.is_right x) a).1 b e)
  then_live d (inr none) (inl gone) (inl (live, stays)) = absurd (stays gone)
  then_live d (inr none) (inr kept) (inl (live, stays)) = live

  -- an arc of the result leads there
  arc_there : (d i : ℕ) (f : FoundIn scene.is_right scene.name_of d) → IsDartAfter scene d → i ≤ scene.dimension → IsArcAfter scene d i (alpha_by i d f)
  arc_there d i (inl (x, p, r, b, e)) after h = go (scene.right x i) refl
    where
      node : scene.right x i ≡ Absent → IsTrue (scene.is_left x) ⊎ (scene.is_left x ≡ false) → IsTrue (scene.is_left x)
      node f (inl l) = l
      node f (inr a) = absurd (rw f at (law.steps.added_whole x i a r h))

      no_left : scene.right x i ≡ Absent → IsTrue (scene.is_left x) → (t : Step) → scene.left x i ≡ t → scene.left x i ≡ Absent
      no_left f l Absent g = g
      no_left f l (Exp y) g = absurd (rw f at (law.steps.left_then_right x i l r h (exp_is_step _ y g)))
      no_left f l (Imp m) g = absurd (rw f at (law.steps.left_then_right x i l r h (imp_is_step _ m g)))

      go : (t : Step) → scene.right x i ≡ t → IsArcAfter scene d i (along d i x p (scene.right x i))
      go Absent f =
          let l : IsTrue (scene.is_left x) = node f (true_or_false (scene.is_left x)) in
          let dart : d ≡ scene.dart_of x p = e ∙ kept_name scene count width label law x p l in
          let live : IsTrue (scene.live d) = subst (λ u. IsTrue (scene.live u)) (sym dart) (law.darts.live x p (l, b)) in
          rw f (kept_arc scene count width label law d i live h (λ c. uncut_instance scene count width label law x p i (l, b) (no_left f l (scene.left x i) refl) (subst (λ u. IsCutAt scene u i) dart c)))
      go (Exp y) f = rw f (subst (λ u. IsArcAfter scene u i (scene.name_of y p)) (sym e) (link_arc scene count width label law x p i y (r, b) h f))
      go (Imp m) f = rw f (subst (λ u. IsArcAfter scene u i (scene.name_of x (scene.turn p m))) (sym e) (letter_arc scene count width label law x p i m (r, b) h f))
  arc_there d i (inr none) (inr (x, p, a, b, e)) h = absurd (none x p (both_true (not (scene.is_left x)) (scene.is_right x) a).1 b e)
  arc_there d i (inr none) (inl (live, stays)) h = kept_arc scene count width label law d i live h uncut
    where
      uncut : IsCutAt scene d i → ⊥
      uncut (x, p, l, b, s, e) = side (true_or_false (scene.is_right x))
        where
          side : IsTrue (scene.is_right x) ⊎ (scene.is_right x ≡ false) → ⊥
          side (inl r) = none x p r b (e ∙ sym (kept_name scene count width label law x p l))
          side (inr g) = stays (x, p, and_true (scene.is_left x) (not (scene.is_right x)) l (true_not (scene.is_right x) g), b, e)

  pub unfolding_exists : IsUnfolding scene (λ d. IsTrue (live_after d)) alpha_after (next_after scene)
  unfolding live_after alpha_after
  unfolding_exists = record {
    darts = λ d. (live_then d (found_right d) (found_gone d), then_live d (found_right d) (found_gone d));
    arcs = λ d i e h. (
      λ there. subst (λ u. IsArcAfter scene d i u) there.1 (arc_there d i (found_right d) (live_then d (found_right d) (found_gone d) there.0) h),
      λ arc. (then_live d (found_right d) (found_gone d) (arc_from scene count width label law d i e arc), one_arc scene count width label law d i (alpha_by i d (found_right d)) e (arc_there d i (found_right d) (arc_from scene count width label law d i e arc) h) arc),
    );
    next_is = refl;
  }
