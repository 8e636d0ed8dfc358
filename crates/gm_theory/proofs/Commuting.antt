-- Distant labels commute in the result: where a square closes by its steps, and elsewhere as they did before.
use Rattle.std.proofs.Common.{◌≡◌, ℕ, ◌<◌, ◌≤◌, ◌⊎◌, Bool, not, IsTrue, false, refl, sym, ◌∙◌, ap, subst, inl, inr}
use Rattle.gm_model.specs.declared.step.Step.{Step}
use Rattle.gm_model.specs.declared.step.Step.TheVariants.{Absent, Exp, Imp}
use Rattle.gm_model.specs.Squares.{IsApart, ClosesBy, Closes}
use Rattle.gm_model.specs.Unfolding.{Scene, IsStep, IsDartAfter, IsCutAt, IsArcAfter, IsUnfolding}
use Rattle.gm_theory.proofs.Arcs.{exp_is_step, imp_is_step, kept_name, cut_back, kept_arc, link_arc, letter_arc}
use Rattle.gm_theory.proofs.Corners.{apart_swap, closes_swap, closes_absent, corner}
use Rattle.gm_theory.proofs.Scenes.{IsLeftAt, IsRightAt, IsSteadyNode, IsLawful}
use Rattle.gm_theory.proofs.Tests.{both_true, and_true, true_not, true_or_false, not_both, same_or_not, search_below}

module _ (scene : Scene) (count width : ℕ) (label : ℕ → ℕ) (law : IsLawful scene count width label) where
  -- ---- which instance a dart is

  -- d is the dart of this left node at this position
  abbrev pub IsLeftDart : ℕ → ℕ → ℕ → Type 0
  IsLeftDart d x p = IsLeftAt scene x p × (d ≡ scene.dart_of x p)

  abbrev pub IsRightDart : ℕ → ℕ → ℕ → Type 0
  IsRightDart d x p = IsRightAt scene x p × (d ≡ scene.name_of x p)

  -- whether d is the dart of an instance whose node passes the test
  pub find_instance : (test : ℕ → Bool) (name : ℕ → ℕ → ℕ) → ((x : ℕ) → IsTrue (test x) → x < count) → (d : ℕ) →
      ((x : ℕ) × (p : ℕ) × IsTrue (test x) × (p < scene.positions) × (d ≡ name x p)) ⊎ ((x p : ℕ) → IsTrue (test x) → p < scene.positions → d ≡ name x p → ⊥)
  find_instance test name bound d = end (search_below IsAt at_or_not count)
    where
      IsAt : ℕ → Type 0
      IsAt x = (p : ℕ) × IsTrue (test x) × (p < scene.positions) × (d ≡ name x p)

      at_or_not : (x : ℕ) → IsAt x ⊎ (IsAt x → ⊥)
      at_or_not x = tell (true_or_false (test x)) (search_below (λ p. d ≡ name x p) (λ p. same_or_not d (name x p)) scene.positions)
        where
          tell : IsTrue (test x) ⊎ (test x ≡ false) → ((p : ℕ) × (p < scene.positions) × (d ≡ name x p)) ⊎ ((p : ℕ) → p < scene.positions → d ≡ name x p → ⊥) → IsAt x ⊎ (IsAt x → ⊥)
          tell (inr f) found = inr (λ a. not_both (test x) a.1 f)
          tell (inl t) (inl (p, h, e)) = inl (p, t, h, e)
          tell (inl t) (inr none) = inr (λ a. none a.0 a.2 a.3)

      end : ((x : ℕ) × (x < count) × IsAt x) ⊎ ((x : ℕ) → x < count → IsAt x → ⊥) → ((x : ℕ) × (p : ℕ) × IsTrue (test x) × (p < scene.positions) × (d ≡ name x p)) ⊎ ((x p : ℕ) → IsTrue (test x) → p < scene.positions → d ≡ name x p → ⊥)
      end (inl (x, b, (p, t, h, e))) = inl (x, p, t, h, e)
      end (inr none) = inr (λ x p t h e. none x (bound x t) (p, t, h, e))

  -- ---- darts that keep an arc

  -- each instance at d is preserved, and has the same step at the label on both sides
  abbrev pub IsSteady : ℕ → ℕ → Type 0
  IsSteady d i = (x p : ℕ) → IsLeftDart d x p → IsSteadyNode scene x i

  pub steady_instance : (x p i : ℕ) → IsLeftAt scene x p → IsSteadyNode scene x i → IsSteady (scene.dart_of x p) i
  steady_instance x p i at steady y q (l, e) = subst (λ z. IsSteadyNode scene z i) (law.darts.injective x p y q at l e).0 steady

  -- an instance without the step isn't cut
  pub uncut_instance : (x p i : ℕ) → IsLeftAt scene x p → scene.left x i ≡ Absent → IsCutAt scene (scene.dart_of x p) i → ⊥
  uncut_instance x p i at f (y, q, l, b, s, e) =
      let same : x ≡ y = (law.darts.injective x p y q at (l, b) e).0 in
      let g : scene.left y i ≡ Absent = subst (λ z. scene.left z i ≡ Absent) same f in
      rw g at s

  -- a dart that keeps its i-arc, and isn't cut at i, keeps its j-arc as well: at each instance there the square of i and j
  -- lacks a step, so it is as it was
  pub uncut_steady : (d i j : ℕ) → i ≤ scene.dimension → j ≤ scene.dimension → IsApart i j → (IsCutAt scene d i → ⊥) → IsSteady d j
  uncut_steady d i j hi hj apart uncut x p (at, e) = go (scene.left x i) refl
    where
      cut : IsStep (scene.left x i) → IsSteadyNode scene x j
      cut s = absurd (uncut (x, p, at.0, at.1, s, e))

      preserved : scene.left x i ≡ Absent → IsTrue (scene.is_right x) ⊎ (scene.is_right x ≡ false) → IsTrue (scene.is_right x)
      preserved f (inl r) = r
      preserved f (inr g) = absurd (rw f at (law.steps.removed_whole x i at.0 g hi))

      no_right : scene.left x i ≡ Absent → IsTrue (scene.is_right x) → scene.right x i ≡ Absent
      no_right f r = right_step (scene.right x i) refl
        where
          right_step : (t : Step) → scene.right x i ≡ t → scene.right x i ≡ Absent
          right_step Absent g = g
          right_step (Exp y) g = absurd (rw f at (law.steps.right_then_left x i at.0 r hi (exp_is_step _ y g)))
          right_step (Imp m) g = absurd (rw f at (law.steps.right_then_left x i at.0 r hi (imp_is_step _ m g)))

      square : IsTrue (scene.is_right x) → scene.right x i ≡ Absent → IsApart i j → IsSteadyNode scene x j
      square r g (inl h) = pick (law.steps.squares x i j r h hj)
        where
          pick : (IsSteadyNode scene x i × IsSteadyNode scene x j) ⊎ Closes scene.right label x i j → IsSteadyNode scene x j
          pick (inl (a, b)) = b
          pick (inr c) = absurd (closes_absent scene.right label x i j g c)
      square r g (inr h) = pick (law.steps.squares x j i r h hi)
        where
          pick : (IsSteadyNode scene x j × IsSteadyNode scene x i) ⊎ Closes scene.right label x j i → IsSteadyNode scene x j
          pick (inl (a, b)) = a
          pick (inr c) = absurd (closes_absent scene.right label x i j g (closes_swap scene.right label x j i c))

      go : (s : Step) → scene.left x i ≡ s → IsSteadyNode scene x j
      go Absent f = let r : IsTrue (scene.is_right x) = preserved f (true_or_false (scene.is_right x)) in square r (no_right f r) apart
      go (Exp y) f = cut (exp_is_step _ y f)
      go (Imp m) f = cut (imp_is_step _ m f)

  -- ---- squares, whichever label is greater

  pub square_at : (x i j : ℕ) → IsTrue (scene.is_right x) → i ≤ scene.dimension → j ≤ scene.dimension → IsApart i j → (IsSteadyNode scene x i × IsSteadyNode scene x j) ⊎ Closes scene.right label x i j
  square_at x i j r hi hj (inl h) = law.steps.squares x i j r h hj
  square_at x i j r hi hj (inr h) = turn (law.steps.squares x j i r h hi)
    where
      turn : (IsSteadyNode scene x j × IsSteadyNode scene x i) ⊎ Closes scene.right label x j i → (IsSteadyNode scene x i × IsSteadyNode scene x j) ⊎ Closes scene.right label x i j
      turn (inl (a, b)) = inl (b, a)
      turn (inr c) = inr (closes_swap scene.right label x j i c)

  -- at an instance that is as it was: its square closes after all, or its i-neighbour keeps its j-arc
  pub neighbour_steady : (x p i j : ℕ) → p < scene.positions → i ≤ scene.dimension → j ≤ scene.dimension → IsApart i j → IsSteadyNode scene x i → IsSteadyNode scene x j →
      Closes scene.right label x i j ⊎ IsSteady (scene.alpha i (scene.dart_of x p)) j
  neighbour_steady x p i j b hi hj apart si sj = go (scene.left x i) refl
    where
      at : IsLeftAt scene x p
      at = (si.left, b)

      live : IsTrue (scene.live (scene.dart_of x p))
      live = law.darts.live x p at

      go : (s : Step) → scene.left x i ≡ s → Closes scene.right label x i j ⊎ IsSteady (scene.alpha i (scene.dart_of x p)) j
      go Absent f = inr (uncut_steady (scene.alpha i (scene.dart_of x p)) i j hi hj apart (λ c. uncut_instance x p i at f (cut_back scene count width label law (scene.dart_of x p) i live hi c)))
      go (Imp m) f = inr (rw (law.darts.letters x p i m at hi f) (steady_instance x (scene.turn p m) j (si.left, law.turns.within p m b (law.steps.left_place x i m si.left f)) sj))
      go (Exp y) f = pick (square_at y i j other.0 hi hj apart)
        where
          g : scene.right x i ≡ Exp y
          g = sym si.same ∙ f

          other : IsTrue (scene.is_right y) × (scene.right y i ≡ Exp x)
          other = law.steps.right_back x i y si.right hi g

          left_y : IsTrue (scene.is_left y)
          left_y = (law.steps.left_back x i y si.left hi f).0

          pick : (IsSteadyNode scene y i × IsSteadyNode scene y j) ⊎ Closes scene.right label y i j → Closes scene.right label x i j ⊎ IsSteady (scene.alpha i (scene.dart_of x p)) j
          pick (inl (a, c)) = inr (rw (law.darts.links x p i y at hi f) (steady_instance y p j (left_y, b) c))
          pick (inr c) = inl (corner scene.right label (λ z. IsTrue (scene.is_right z)) x y i j (λ z k r e. (law.steps.right_back z i k r hi e).1) (λ z k r e. (law.steps.right_back z j k r hj e).0) other.0 g other.1 c)

  -- ---- the result

  module _ (IsLive : ℕ → Type 0) (alpha : ℕ → ℕ → ℕ) (next : ℕ) (unfolding_is : IsUnfolding scene IsLive alpha next) where
    pub arc_of : (d i e : ℕ) → i ≤ scene.dimension → IsArcAfter scene d i e → alpha i d ≡ e
    arc_of d i e h arc = ((unfolding_is.arcs d i e h).1 arc).1

    pub link_of : (x p i y : ℕ) → IsRightAt scene x p → i ≤ scene.dimension → scene.right x i ≡ Exp y → alpha i (scene.name_of x p) ≡ scene.name_of y p
    link_of x p i y r h e = arc_of (scene.name_of x p) i (scene.name_of y p) h (link_arc scene count width label law x p i y r h e)

    pub letter_of : (x p i m : ℕ) → IsRightAt scene x p → i ≤ scene.dimension → scene.right x i ≡ Imp m → alpha i (scene.name_of x p) ≡ scene.name_of x (scene.turn p m)
    letter_of x p i m r h e = arc_of (scene.name_of x p) i (scene.name_of x (scene.turn p m)) h (letter_arc scene count width label law x p i m r h e)

    -- a steady dart keeps its arc
    pub steady_keeps : (d i : ℕ) → IsTrue (scene.live d) → i ≤ scene.dimension → IsSteady d i → alpha i d ≡ scene.alpha i d
    steady_keeps d i live h steady = pick (find_instance scene.is_left scene.dart_of law.steps.left_below d)
      where
        keep : (IsCutAt scene d i → ⊥) → alpha i d ≡ scene.alpha i d
        keep uncut = arc_of d i (scene.alpha i d) h (kept_arc scene count width label law d i live h uncut)

        pick : ((x : ℕ) × (p : ℕ) × IsTrue (scene.is_left x) × (p < scene.positions) × (d ≡ scene.dart_of x p)) ⊎ ((x p : ℕ) → IsTrue (scene.is_left x) → p < scene.positions → d ≡ scene.dart_of x p → ⊥) → alpha i d ≡ scene.alpha i d
        pick (inr none) = keep (λ c. none c.0 c.1 c.2 c.3 c.5)
        pick (inl (x, p, l, b, e)) = go (scene.left x i) refl
          where
            node : IsSteadyNode scene x i
            node = steady x p ((l, b), e)

            name : scene.name_of x p ≡ d
            name = kept_name scene count width label law x p l ∙ sym e

            go : (s : Step) → scene.left x i ≡ s → alpha i d ≡ scene.alpha i d
            go Absent f = keep (λ c. uncut_instance x p i (l, b) f (subst (λ u. IsCutAt scene u i) e c))
            go (Exp y) f =
                ap (alpha i) (sym name) ∙ link_of x p i y (node.right, b) h (sym node.same ∙ f) ∙ kept_name scene count width label law y p (law.steps.left_back x i y l h f).0
                ∙ sym (law.darts.links x p i y (l, b) h f) ∙ ap (scene.alpha i) (sym e)
            go (Imp m) f =
                ap (alpha i) (sym name) ∙ letter_of x p i m (node.right, b) h (sym node.same ∙ f) ∙ kept_name scene count width label law x (scene.turn p m) l
                ∙ sym (law.darts.letters x p i m (l, b) h f) ∙ ap (scene.alpha i) (sym e)

    -- where the square of an instance closes, the labels commute there
    pub closed_commutes : (x p i j : ℕ) → IsRightAt scene x p → i ≤ scene.dimension → j ≤ scene.dimension → Closes scene.right label x i j → alpha i (alpha j (scene.name_of x p)) ≡ alpha j (alpha i (scene.name_of x p))
    closed_commutes x p i j r hi hj c = go (scene.right x i) refl (scene.right x j) refl c
      where
        go : (s : Step) → scene.right x i ≡ s → (t : Step) → scene.right x j ≡ t → ClosesBy scene.right label i j s t → alpha i (alpha j (scene.name_of x p)) ≡ alpha j (alpha i (scene.name_of x p))
        go (Exp y) e (Exp z) f (w, a, b) =
            ap (alpha i) (link_of x p j z r hj f) ∙ link_of z p i w ((law.steps.right_back x j z r.0 hj f).0, r.1) hi b
            ∙ sym (ap (alpha j) (link_of x p i y r hi e) ∙ link_of y p j w ((law.steps.right_back x i y r.0 hi e).0, r.1) hj a)
        go (Exp y) e (Imp m) f a =
            ap (alpha i) (letter_of x p j m r hj f) ∙ link_of x (scene.turn p m) i y (r.0, law.turns.within p m r.1 (law.steps.right_place x j m r.0 f)) hi e
            ∙ sym (ap (alpha j) (link_of x p i y r hi e) ∙ letter_of y p j m ((law.steps.right_back x i y r.0 hi e).0, r.1) hj a)
        go (Imp m) e (Exp z) f a =
            ap (alpha i) (link_of x p j z r hj f) ∙ letter_of z p i m ((law.steps.right_back x j z r.0 hj f).0, r.1) hi a
            ∙ sym (ap (alpha j) (letter_of x p i m r hi e) ∙ link_of x (scene.turn p m) j z (r.0, law.turns.within p m r.1 (law.steps.right_place x i m r.0 e)) hj f)
        go (Imp m) e (Imp m') f a =
            let b : m < width = law.steps.right_place x i m r.0 e in
            let b' : m' < width = law.steps.right_place x j m' r.0 f in
            ap (alpha i) (letter_of x p j m' r hj f) ∙ letter_of x (scene.turn p m') i m (r.0, law.turns.within p m' r.1 b') hi e
            ∙ sym (ap (scene.name_of x) (law.turns.commute p m m' r.1 b b' a))
            ∙ sym (ap (alpha j) (letter_of x p i m r hi e) ∙ letter_of x (scene.turn p m) j m' (r.0, law.turns.within p m r.1 b) hj f)
        go Absent e t f a = elim a [ ]
        go (Exp y) e Absent f a = elim a [ ]
        go (Imp m) e Absent f a = elim a [ ]

    -- where a dart and its two neighbours keep their arcs, the labels commute as they did
    pub kept_commutes : (d i j : ℕ) → IsTrue (scene.live d) → i ≤ scene.dimension → j ≤ scene.dimension → IsApart i j → IsSteady d i → IsSteady d j → IsSteady (scene.alpha i d) j → IsSteady (scene.alpha j d) i →
        alpha i (alpha j d) ≡ alpha j (alpha i d)
    kept_commutes d i j live hi hj apart si sj sij sji =
        ap (alpha i) (steady_keeps d j live hj sj) ∙ steady_keeps (scene.alpha j d) i (law.old.stays d j live hj) hi sji ∙ old apart
        ∙ sym (ap (alpha j) (steady_keeps d i live hi si) ∙ steady_keeps (scene.alpha i d) j (law.old.stays d i live hi) hj sij)
      where
        old : IsApart i j → scene.alpha i (scene.alpha j d) ≡ scene.alpha j (scene.alpha i d)
        old (inl h) = law.old.commutes d i j live h hj
        old (inr h) = sym (law.old.commutes d j i live h hi)

    pub commutes_after : (d i j : ℕ) → IsDartAfter scene d → i ≤ scene.dimension → j ≤ scene.dimension → IsApart i j → alpha i (alpha j d) ≡ alpha j (alpha i d)
    commutes_after d i j after hi hj apart = pick (find_instance scene.is_right scene.name_of law.steps.right_below d)
      where
        -- at an instance that is as it was
        as_before : (x p : ℕ) → p < scene.positions → d ≡ scene.dart_of x p → IsSteadyNode scene x i → IsSteadyNode scene x j → Closes scene.right label x i j ⊎ (alpha i (alpha j d) ≡ alpha j (alpha i d))
        as_before x p b e si sj = both (neighbour_steady x p i j b hi hj apart si sj) (neighbour_steady x p j i b hj hi (apart_swap i j apart) sj si)
          where
            both : Closes scene.right label x i j ⊎ IsSteady (scene.alpha i (scene.dart_of x p)) j → Closes scene.right label x j i ⊎ IsSteady (scene.alpha j (scene.dart_of x p)) i → Closes scene.right label x i j ⊎ (alpha i (alpha j d) ≡ alpha j (alpha i d))
            both (inl c) other = inl c
            both (inr s) (inl c) = inl (closes_swap scene.right label x j i c)
            both (inr s) (inr s') = inr (rw e (kept_commutes (scene.dart_of x p) i j (law.darts.live x p (si.left, b)) hi hj apart (steady_instance x p i (si.left, b) si) (steady_instance x p j (si.left, b) sj) s s'))

        closed : (x p : ℕ) → IsRightAt scene x p → d ≡ scene.name_of x p → Closes scene.right label x i j → alpha i (alpha j d) ≡ alpha j (alpha i d)
        closed x p r e c = rw e (closed_commutes x p i j r hi hj c)

        -- at no instance of the right side, and so of the left
        outside : ((x p : ℕ) → IsTrue (scene.is_right x) → p < scene.positions → d ≡ scene.name_of x p → ⊥) → IsDartAfter scene d → alpha i (alpha j d) ≡ alpha j (alpha i d)
        outside none (inr (x, p, a, b, e)) = absurd (none x p (both_true (not (scene.is_left x)) (scene.is_right x) a).1 b e)
        outside none (inl (live, stays)) = kept_commutes d i j live hi hj apart (λ x p h. absurd (alone x p h)) (λ x p h. absurd (alone x p h)) (next_to i j hi hj apart) (next_to j i hj hi (apart_swap i j apart))
          where
            alone : (x p : ℕ) → IsLeftDart d x p → ⊥
            alone x p ((l, b), e) = side (true_or_false (scene.is_right x))
              where
                side : IsTrue (scene.is_right x) ⊎ (scene.is_right x ≡ false) → ⊥
                side (inl r) = none x p r b (e ∙ sym (kept_name scene count width label law x p l))
                side (inr g) = stays (x, p, and_true (scene.is_left x) (not (scene.is_right x)) l (true_not (scene.is_right x) g), b, e)

            next_to : (k l : ℕ) → k ≤ scene.dimension → l ≤ scene.dimension → IsApart k l → IsSteady (scene.alpha k d) l
            next_to k l hk hl far = uncut_steady (scene.alpha k d) k l hk hl far (λ c. cut_alone (cut_back scene count width label law d k live hk c))
              where
                cut_alone : IsCutAt scene d k → ⊥
                cut_alone (x, p, left, b, s, e) = alone x p ((left, b), e)

        pick : ((x : ℕ) × (p : ℕ) × IsTrue (scene.is_right x) × (p < scene.positions) × (d ≡ scene.name_of x p)) ⊎ ((x p : ℕ) → IsTrue (scene.is_right x) → p < scene.positions → d ≡ scene.name_of x p → ⊥) → alpha i (alpha j d) ≡ alpha j (alpha i d)
        pick (inr none) = outside none after
        pick (inl (x, p, r, b, e)) = square (square_at x i j r hi hj apart)
          where
            square : (IsSteadyNode scene x i × IsSteadyNode scene x j) ⊎ Closes scene.right label x i j → alpha i (alpha j d) ≡ alpha j (alpha i d)
            square (inr c) = closed x p (r, b) e c
            square (inl (si, sj)) = finish (as_before x p b (e ∙ kept_name scene count width label law x p si.left) si sj)
              where
                finish : Closes scene.right label x i j ⊎ (alpha i (alpha j d) ≡ alpha j (alpha i d)) → alpha i (alpha j d) ≡ alpha j (alpha i d)
                finish (inl c) = closed x p (r, b) e c
                finish (inr done) = done
