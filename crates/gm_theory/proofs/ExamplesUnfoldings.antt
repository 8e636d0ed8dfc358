-- A test of an unfolding, arc by arc, and what it shows.
use Rattle.std.proofs.Common.{◌≡◌, ℕ, ◌+◌, ◌<◌, ◌≤◌, Bool, true, false, not, ◌&&◌, ◌||◌, ◌⊎◌, IsTrue, eqb, refl, sym, ◌∙◌, ap, subst, inl, inr, arith}
use Rattle.std.proofs.lemmas.Bool.{eqb-true, eq-eqb, or_cases, and_from}
use Rattle.gm_model.specs.declared.step.Step.{Step}
use Rattle.gm_model.specs.declared.step.Step.TheVariants.{Absent, Exp, Imp}
use Rattle.gm_model.specs.Unfolding.{Scene, IsStep, IsGone, IsDartAfter, IsCutAt, IsKeptArc, IsMadeArc, LeadsBy, IsArcAfter, IsUnfolding, next_after}
use Rattle.gm_theory.proofs.ExamplesChecks.{each_below, each, some_below, some, fails, ◌implies◌, implied}
use Rattle.gm_theory.proofs.Tests.{both_true, not_true, true_or_false, not_both}

-- Over a scene of `count` nodes whose darts, old and new, lie below the bound; and the darts and neighbours of a result.
module _ (scene : Scene) (count bound : ℕ) (live : ℕ → Bool) (alpha : ℕ → ℕ → ℕ) where
  -- some instance of a node with the property has the dart d
  abbrev instance_test : (ℕ → Bool) → (ℕ → ℕ → ℕ) → ℕ → Bool
  instance_test node name d = some_below count (λ x. some_below scene.positions (λ p. node x && eqb (name x p) d))

  abbrev IsInstance : (ℕ → Bool) → (ℕ → ℕ → ℕ) → ℕ → Type 0
  IsInstance node name d = (x : ℕ) × (p : ℕ) × (x < count) × IsTrue (node x) × (p < scene.positions) × (d ≡ name x p)

  found : (node : ℕ → Bool) (name : ℕ → ℕ → ℕ) (d : ℕ) → IsTrue (instance_test node name d) → IsInstance node name d
  found node name d t =
      let outer : (x : ℕ) × (x < count) × IsTrue (some_below scene.positions (λ p. node x && eqb (name x p) d)) = some count (λ x. some_below scene.positions (λ p. node x && eqb (name x p) d)) t in
      let inner : (p : ℕ) × (p < scene.positions) × IsTrue (node outer.0 && eqb (name outer.0 p) d) = some scene.positions (λ p. node outer.0 && eqb (name outer.0 p) d) outer.2 in
      (outer.0, inner.0, outer.1, (both_true _ _ inner.2).0, inner.1, sym (eqb-true _ _ (both_true _ _ inner.2).1))

  missing : (node : ℕ → Bool) (name : ℕ → ℕ → ℕ) (d : ℕ) → instance_test node name d ≡ false → IsInstance node name d → ⊥
  missing node name d t (x, p, b, n, c, e) = outer (true_or_false (some_below scene.positions (λ q. node x && eqb (name x q) d)))
    where
      outer : IsTrue (some_below scene.positions (λ q. node x && eqb (name x q) d)) ⊎ (some_below scene.positions (λ q. node x && eqb (name x q) d) ≡ false) → ⊥
      outer (inl h) = fails count (λ y. some_below scene.positions (λ q. node y && eqb (name y q) d)) t x b h
      outer (inr h) = fails scene.positions (λ q. node x && eqb (name x q) d) h p c (and_from (node x) (eqb (name x p) d) n (eq-eqb (name x p) d (sym e)))

  abbrev gone_node : ℕ → Bool
  gone_node x = scene.is_left x && not (scene.is_right x)

  abbrev new_node : ℕ → Bool
  new_node x = not (scene.is_left x) && scene.is_right x

  abbrev is_step : Step → Bool
  is_step Absent = false
  is_step (Exp y) = true
  is_step (Imp m) = true

  step_shown : (s : Step) → IsTrue (is_step s) → IsStep s
  step_shown Absent h = not_both false h refl
  step_shown (Exp y) h = tt
  step_shown (Imp m) h = tt

  step_true : (s : Step) → IsStep s → IsTrue (is_step s)
  step_true Absent h = absurd h
  step_true (Exp y) h = refl
  step_true (Imp m) h = refl

  abbrev cut_node : ℕ → ℕ → Bool
  cut_node i x = scene.is_left x && is_step (scene.left x i)

  abbrev cut_test : ℕ → ℕ → Bool
  cut_test d i = instance_test (cut_node i) scene.dart_of d

  cut_shown : (d i : ℕ) → IsTrue (cut_test d i) → IsCutAt scene d i
  cut_shown d i t = let f : IsInstance (cut_node i) scene.dart_of d = found (cut_node i) scene.dart_of d t in
      (f.0, f.1, (both_true _ _ f.3).0, f.4, step_shown _ (both_true _ _ f.3).1, f.5)

  -- ---- the tests

  -- each dart is one of the result where it is to be, and each old or new dart lies below the bound
  abbrev dart_test : ℕ → Bool
  dart_test d = (live d implies ((scene.live d && not (instance_test gone_node scene.dart_of d)) || instance_test new_node scene.name_of d)) && (scene.live d && not (instance_test gone_node scene.dart_of d) implies live d)

  abbrev kept_test : ℕ → ℕ → Bool
  kept_test d i = scene.live d && eqb (scene.alpha i d) (alpha i d) && not (cut_test d i) && not (cut_test (alpha i d) i)

  -- the right step of x at position p leads to e
  abbrev leads_test : ℕ → ℕ → ℕ → Step → Bool
  leads_test x p e Absent = false
  leads_test x p e (Exp y) = eqb e (scene.name_of y p)
  leads_test x p e (Imp m) = eqb e (scene.name_of x (scene.turn p m))

  abbrev maker_test : ℕ → ℕ → ℕ → ℕ → Bool
  maker_test d i x p = scene.is_right x && eqb d (scene.name_of x p) && leads_test x p (alpha i d) (scene.right x i)

  abbrev made_test : ℕ → ℕ → Bool
  made_test d i = some_below count (λ x. some_below scene.positions (λ p. maker_test d i x p))

  -- each arc of the result is kept or made, and each old arc is in the result or is cut
  abbrev arc_test : ℕ → ℕ → Bool
  arc_test d i = (live d implies (kept_test d i || made_test d i)) && (scene.live d implies (cut_test d i || (live d && eqb (alpha i d) (scene.alpha i d))))

  -- each made arc is in the result
  abbrev maker_kept : ℕ → ℕ → ℕ → Step → Bool
  maker_kept x p i Absent = true
  maker_kept x p i (Exp y) = live (scene.name_of x p) && eqb (alpha i (scene.name_of x p)) (scene.name_of y p)
  maker_kept x p i (Imp m) = live (scene.name_of x p) && eqb (alpha i (scene.name_of x p)) (scene.name_of x (scene.turn p m))

  abbrev node_test : ℕ → Bool
  node_test x = scene.is_right x implies each_below scene.positions (λ p. each_below (scene.dimension + 1) (λ i. maker_kept x p i (scene.right x i)))

  abbrev added_test : ℕ → Bool
  added_test x = new_node x implies each_below scene.positions (λ p. live (scene.name_of x p))

  abbrev pub unfolding_test : Bool
  unfolding_test = each_below bound (λ d. dart_test d && each_below (scene.dimension + 1) (arc_test d)) && each_below count (λ x. node_test x && added_test x)

  -- ---- what they show

  module _ (next : ℕ) (old_below : (d : ℕ) → IsTrue (scene.live d) → d < bound) (below : (d : ℕ) → IsTrue (live d) → d < bound)
      (left_below : (x : ℕ) → IsTrue (scene.is_left x) → x < count) (right_below : (x : ℕ) → IsTrue (scene.is_right x) → x < count) (next_is : next ≡ next_after scene) (t : IsTrue unfolding_test) where
    dart : (d : ℕ) → d < bound → IsTrue (dart_test d)
    dart d b = (both_true _ _ (each bound (λ d. dart_test d && each_below (scene.dimension + 1) (arc_test d)) (both_true _ _ t).0 d b)).0

    arc : (d i : ℕ) → d < bound → i ≤ scene.dimension → IsTrue (arc_test d i)
    arc d i b h = each (scene.dimension + 1) (arc_test d) (both_true _ _ (each bound (λ d. dart_test d && each_below (scene.dimension + 1) (arc_test d)) (both_true _ _ t).0 d b)).1 i (omega arith)

    node : (x : ℕ) → x < count → IsTrue (node_test x) × IsTrue (added_test x)
    node x b = both_true (node_test x) (added_test x) (each count (λ x. node_test x && added_test x) (both_true _ _ t).1 x b)

    stays_shown : (d : ℕ) → IsTrue (not (instance_test gone_node scene.dart_of d)) → IsGone scene d → ⊥
    stays_shown d h (x, p, g, b, e) = missing gone_node scene.dart_of d (not_true _ h) (x, p, left_below x (both_true _ _ g).0, g, b, e)

    stays_true : (d : ℕ) → (IsGone scene d → ⊥) → IsTrue (not (instance_test gone_node scene.dart_of d))
    stays_true d h = go (true_or_false (instance_test gone_node scene.dart_of d))
      where
        go : IsTrue (instance_test gone_node scene.dart_of d) ⊎ (instance_test gone_node scene.dart_of d ≡ false) → IsTrue (not (instance_test gone_node scene.dart_of d))
        go (inl g) = let f : IsInstance gone_node scene.dart_of d = found gone_node scene.dart_of d g in absurd (h (f.0, f.1, f.3, f.4, f.5))
        go (inr f) = ap not f

    dart_there : (d : ℕ) → IsTrue (live d) → IsDartAfter scene d
    dart_there d l = go (or_cases _ _ (implied (live d) _ (both_true _ _ (dart d (below d l))).0 l))
      where
        go : IsTrue (scene.live d && not (instance_test gone_node scene.dart_of d)) ⊎ IsTrue (instance_test new_node scene.name_of d) → IsDartAfter scene d
        go (inl h) = inl ((both_true (scene.live d) _ h).0, stays_shown d (both_true (scene.live d) (not (instance_test gone_node scene.dart_of d)) h).1)
        go (inr h) = let f : IsInstance new_node scene.name_of d = found new_node scene.name_of d h in inr (f.0, f.1, f.3, f.4, f.5)

    dart_back : (d : ℕ) → IsDartAfter scene d → IsTrue (live d)
    dart_back d (inl (l, stays)) = implied _ (live d) (both_true _ _ (dart d (old_below d l))).1 (and_from (scene.live d) _ l (stays_true d stays))
    dart_back d (inr (x, p, n, b, e)) = subst (λ c. IsTrue (live c)) (sym e) (each scene.positions (λ p. live (scene.name_of x p)) (implied (new_node x) _ (node x (right_below x (both_true _ _ n).1)).1 n) p b)

    uncut_shown : (d i : ℕ) → IsTrue (not (cut_test d i)) → IsCutAt scene d i → ⊥
    uncut_shown d i h (x, p, l, b, s, e) = missing (cut_node i) scene.dart_of d (not_true _ h) (x, p, left_below x l, and_from (scene.is_left x) _ l (step_true _ s), b, e)

    leads_shown : (x p e : ℕ) (s : Step) → IsTrue (leads_test x p e s) → LeadsBy scene x p s e
    leads_shown x p e Absent h = not_both false h refl
    leads_shown x p e (Exp y) h = eqb-true _ _ h
    leads_shown x p e (Imp m) h = eqb-true _ _ h

    maker_shown : (d i x p : ℕ) → i ≤ scene.dimension → p < scene.positions → IsTrue (maker_test d i x p) → IsMadeArc scene d i (alpha i d)
    maker_shown d i x p h b m = record {
      node = x;
      position = p;
      right = (both_true _ _ (both_true _ _ m).0).0;
      within = b;
      label = h;
      from = eqb-true _ _ (both_true _ _ (both_true _ _ m).0).1;
      leads = leads_shown x p (alpha i d) (scene.right x i) (both_true _ _ m).1;
    }

    made_shown : (d i : ℕ) → i ≤ scene.dimension → IsTrue (made_test d i) → IsMadeArc scene d i (alpha i d)
    made_shown d i h m =
        let outer : (x : ℕ) × (x < count) × IsTrue (some_below scene.positions (λ p. maker_test d i x p)) = some count (λ x. some_below scene.positions (λ p. maker_test d i x p)) m in
        let inner : (p : ℕ) × (p < scene.positions) × IsTrue (maker_test d i outer.0 p) = some scene.positions (λ p. maker_test d i outer.0 p) outer.2 in
        maker_shown d i outer.0 inner.0 h inner.1 inner.2

    kept_shown : (d i : ℕ) → i ≤ scene.dimension → IsTrue (kept_test d i) → IsKeptArc scene d i (alpha i d)
    kept_shown d i h k = record {
      live = (both_true _ _ (both_true _ _ (both_true _ _ k).0).0).0;
      label = h;
      leads = eqb-true _ _ (both_true _ _ (both_true _ _ (both_true _ _ k).0).0).1;
      uncut = uncut_shown d i (both_true _ _ (both_true _ _ k).0).1;
      uncut_there = uncut_shown (alpha i d) i (both_true _ _ k).1;
    }

    arc_there : (d i : ℕ) → i ≤ scene.dimension → IsTrue (live d) → IsArcAfter scene d i (alpha i d)
    arc_there d i h l = go (or_cases _ _ (implied (live d) _ (both_true _ _ (arc d i (below d l) h)).0 l))
      where
        go : IsTrue (kept_test d i) ⊎ IsTrue (made_test d i) → IsArcAfter scene d i (alpha i d)
        go (inl k) = inl (kept_shown d i h k)
        go (inr m) = inr (made_shown d i h m)

    made_back : (x p i e : ℕ) (s : Step) → IsTrue (maker_kept x p i s) → LeadsBy scene x p s e → IsTrue (live (scene.name_of x p)) × (alpha i (scene.name_of x p) ≡ e)
    made_back x p i e Absent k h = absurd h
    made_back x p i e (Exp y) k h = ((both_true _ _ k).0, eqb-true _ _ (both_true _ _ k).1 ∙ sym h)
    made_back x p i e (Imp m) k h = ((both_true _ _ k).0, eqb-true _ _ (both_true _ _ k).1 ∙ sym h)

    arc_back : (d i e : ℕ) → IsArcAfter scene d i e → IsTrue (live d) × (alpha i d ≡ e)
    arc_back d i e (inl kept) = go (or_cases _ _ (implied (scene.live d) _ (both_true _ _ (arc d i (old_below d kept.live) kept.label)).1 kept.live))
      where
        go : IsTrue (cut_test d i) ⊎ IsTrue (live d && eqb (alpha i d) (scene.alpha i d)) → IsTrue (live d) × (alpha i d ≡ e)
        go (inl c) = absurd (kept.uncut (cut_shown d i c))
        go (inr h) = ((both_true (live d) _ h).0, eqb-true (alpha i d) (scene.alpha i d) (both_true (live d) (eqb (alpha i d) (scene.alpha i d)) h).1 ∙ kept.leads)
    arc_back d i e (inr made) =
        let there : IsTrue (live (scene.name_of made.node made.position)) × (alpha i (scene.name_of made.node made.position) ≡ e) = made_back made.node made.position i e (scene.right made.node i)
        (each (scene.dimension + 1) _ (each scene.positions _ (implied (scene.is_right made.node) _ (node made.node (right_below made.node made.right)).0 made.right) made.position made.within) i (let h : i ≤ scene.dimension = made.label in omega arith)) made.leads in
        subst (λ c. IsTrue (live c) × (alpha i c ≡ e)) (sym made.from) there

    pub unfolding_shown : IsUnfolding scene (λ d. IsTrue (live d)) alpha next
    unfolding_shown = record {
      darts = λ d. (dart_there d, dart_back d);
      arcs = λ d i e h. (λ there. subst (IsArcAfter scene d i) there.1 (arc_there d i h there.0), arc_back d i e);
      next_is = next_is;
    }
