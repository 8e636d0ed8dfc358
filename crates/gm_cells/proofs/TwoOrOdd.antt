-- A finite map has two colours or an odd walk. Its neighbours are followed one after another; each dart has a walk to a dart that stands for those it was joined with, and the parity of the walk is its colour.
use Rattle.std.proofs.Common.{◌≡◌, ◌≢◌, ℕ, zero, suc, ◌+◌, ◌%◌, ◌<◌, ◌≤◌, ◌⊎◌, Bool, true, false, cond, eqb, List, [], ◌∷◌, ◌++◌, IsTrue, length, refl, sym, ap, subst, ◌∙◌, inl, inr, arith, length-append}
use Rattle.std.proofs.lemmas.Bool.{cases_lt, cases_eq, ne_eqb, eq-eqb, false≢true}
use Rattle.gm_model.specs.GMap.{IsGMap}
use Rattle.gm_cells.specs.Colours.{LeadsTo, IsTwoColouring, IsOddWalk}
use Rattle.gm_cells.proofs.WalkLemmas.{step_back, turned, walk_orbit, orbit_live}

module _ (n : ℕ) (live : ℕ → Bool) (alpha : ℕ → ℕ → ℕ) (gmap : IsGMap n (λ d. IsTrue (live d)) alpha) where
  abbrev pub HasOddWalk : Type 0
  HasOddWalk = (d : ℕ) × (labels : List ℕ) × IsTrue (live d) × IsOddWalk n alpha d labels

  -- the pairs before (d, i)
  abbrev Before : ℕ → ℕ → ℕ → ℕ → Type 0
  Before d i e j = (e < d) ⊎ ((e ≡ d) × (j < i))

  -- the dart and its neighbour stand for one dart, and have walks of two parities to it
  record AreApart (rep : ℕ → ℕ) (walk : ℕ → List ℕ) (d i : ℕ) : Type 0 where
    same : rep (alpha i d) ≡ rep d
    parity : length (walk (alpha i d)) % 2 ≢ length (walk d) % 2

  -- each dart has a walk, and the pairs before (d, i) were followed
  record IsPartial (d i : ℕ) : Type 0 where
    rep : ℕ → ℕ
    walk : ℕ → List ℕ
    leads : (e : ℕ) → IsTrue (live e) → LeadsTo n alpha (rep e) (walk e) e
    done : (e j : ℕ) → Before d i e j → IsTrue (live e) → j ≤ n → alpha j e ≢ e → AreApart rep walk e j

  begun : IsPartial 0 0
  begun = record {
    rep = λ e. e;
    walk = λ e. [];
    leads = λ e h. refl;
    done = λ e j before. absurd (elim before [ inl h ↦ omega arith | inr h ↦ (let k = h.1 in omega arith) ]);
  }

  append_walk : (a b : ℕ) (w u : List ℕ) (x : ℕ) → LeadsTo n alpha b w x → LeadsTo n alpha a u b → LeadsTo n alpha a (w ++ u) x
  append_walk a b [] u x at on = subst (LeadsTo n alpha a u) (sym at) on
  append_walk a b (i ∷ w) u x walk on = (walk.0, walk.1, append_walk a b w u (alpha i x) walk.2 on)

  -- who stood for b has the other dart for it, and a longer walk
  abbrev rep_to : (ℕ → ℕ) → ℕ → ℕ → ℕ → ℕ
  rep_to rep b a x = cond (eqb (rep x) b) a (rep x)

  abbrev walk_to : (ℕ → ℕ) → (ℕ → List ℕ) → ℕ → List ℕ → ℕ → List ℕ
  walk_to rep walk b u x = cond (eqb (rep x) b) (walk x ++ u) (walk x)

  module _ (d i : ℕ) (s : IsPartial d i) where
    split : (e j : ℕ) → Before d (suc i) e j → Before d i e j ⊎ ((e ≡ d) × (j ≡ i))
    split e j (inl h) = inl (inl h)
    split e j (inr h) = elim (cases_lt j i) [ inl l ↦ inl (inr (h.0, l)) | inr l ↦ inr (h.0, (let k = h.1 in omega arith)) ]

    -- the pair itself is apart, or needn't be
    followed : (IsTrue (live d) → i ≤ n → alpha i d ≢ d → AreApart s.rep s.walk d i) → IsPartial d (suc i)
    followed one = record {
      rep = s.rep;
      walk = s.walk;
      leads = s.leads;
      done = λ e j before h low moves. elim (split e j before) [
        | inl old ↦ s.done e j old h low moves
        | inr is ↦ go e j is.0 is.1 h low moves
      ];
    }
      where
        go : (e j : ℕ) → e ≡ d → j ≡ i → IsTrue (live e) → j ≤ n → alpha j e ≢ e → AreApart s.rep s.walk e j
        go e j a b =
            let P : ℕ → ℕ → Type 0 = λ x y. IsTrue (live x) → y ≤ n → alpha y x ≢ x → AreApart s.rep s.walk x y in
            subst (λ x. P x j) (sym a) (subst (P d) (sym b) one)

    module _ (here : IsTrue (live d)) (low : i ≤ n) (moves : alpha i d ≢ d) where
      there : IsTrue (live (alpha i d))
      there = gmap.stays d i here low

      -- walks of one parity to one dart make an odd walk
      odd : s.rep (alpha i d) ≡ s.rep d → length (s.walk (alpha i d)) % 2 ≡ length (s.walk d) % 2 → HasOddWalk
      odd same parity =
          let onward : LeadsTo n alpha (s.rep d) (i ∷ s.walk (alpha i d)) d = (low, moves, subst (λ a. LeadsTo n alpha a (s.walk (alpha i d)) (alpha i d)) same (s.leads (alpha i d) there)) in
          let round = turned n (λ d. IsTrue (live d)) alpha gmap (s.rep d) (s.rep d) (s.walk d) (i ∷ s.walk (alpha i d)) d here (s.leads d here) onward in
          (s.rep d, round.0, orbit_live n (λ d. IsTrue (live d)) alpha gmap d (s.rep d) here (walk_orbit n (λ d. IsTrue (live d)) alpha gmap (s.rep d) (s.walk d) d (s.leads d here)), record { odd = (let long = round.2 in omega arith); leads = round.1 })

      -- two darts that stand for two: one comes to stand for both
      joined : s.rep (alpha i d) ≢ s.rep d → IsPartial d (suc i)
      joined apart = record {
        rep = rep_to s.rep (s.rep (alpha i d)) (s.rep d);
        walk = walk_to s.rep s.walk (s.rep (alpha i d)) bridge.0;
        leads = λ e h. elim (cases_eq (s.rep e) (s.rep (alpha i d))) [
          | inl is ↦ rw (rep_in e is, walk_in e is) (append_walk (s.rep d) (s.rep (alpha i d)) (s.walk e) bridge.0 e (subst (λ x. LeadsTo n alpha x (s.walk e) e) is (s.leads e h)) bridge.1)
          | inr not_in ↦ rw (rep_out e not_in, walk_out e not_in) (s.leads e h)
        ];
        done = λ e j before h low' moves'. elim (split e j before) [
          | inl old ↦ kept e j (s.done e j old h low' moves')
          | inr is ↦ subst (λ x. AreApart (rep_to s.rep (s.rep (alpha i d)) (s.rep d)) (walk_to s.rep s.walk (s.rep (alpha i d)) bridge.0) x j) (sym is.0) (subst (AreApart (rep_to s.rep (s.rep (alpha i d)) (s.rep d)) (walk_to s.rep s.walk (s.rep (alpha i d)) bridge.0) d) (sym is.1) new)
        ];
      }
        where
          bridge : (u : List ℕ) × LeadsTo n alpha (s.rep d) u (s.rep (alpha i d)) × (length u ≡ length (s.walk (alpha i d)) + length (i ∷ s.walk d))
          bridge = turned n (λ d. IsTrue (live d)) alpha gmap (s.rep d) (s.rep (alpha i d)) (s.walk (alpha i d)) (i ∷ s.walk d) (alpha i d) there (s.leads (alpha i d) there) (step_back n (λ d. IsTrue (live d)) alpha gmap (s.rep d) d i (s.walk d) here low moves (s.leads d here))

          rep_in : (x : ℕ) → s.rep x ≡ s.rep (alpha i d) → rep_to s.rep (s.rep (alpha i d)) (s.rep d) x ≡ s.rep d
          rep_in x is = ap (λ t. cond t (s.rep d) (s.rep x)) (eq-eqb (s.rep x) (s.rep (alpha i d)) is)

          walk_in : (x : ℕ) → s.rep x ≡ s.rep (alpha i d) → walk_to s.rep s.walk (s.rep (alpha i d)) bridge.0 x ≡ s.walk x ++ bridge.0
          walk_in x is = ap (λ t. cond t (s.walk x ++ bridge.0) (s.walk x)) (eq-eqb (s.rep x) (s.rep (alpha i d)) is)

          rep_out : (x : ℕ) → s.rep x ≢ s.rep (alpha i d) → rep_to s.rep (s.rep (alpha i d)) (s.rep d) x ≡ s.rep x
          rep_out x h = ap (λ t. cond t (s.rep d) (s.rep x)) (ne_eqb (s.rep x) (s.rep (alpha i d)) h)

          walk_out : (x : ℕ) → s.rep x ≢ s.rep (alpha i d) → walk_to s.rep s.walk (s.rep (alpha i d)) bridge.0 x ≡ s.walk x
          walk_out x h = ap (λ t. cond t (s.walk x ++ bridge.0) (s.walk x)) (ne_eqb (s.rep x) (s.rep (alpha i d)) h)

          kept : (e j : ℕ) → AreApart s.rep s.walk e j → AreApart (rep_to s.rep (s.rep (alpha i d)) (s.rep d)) (walk_to s.rep s.walk (s.rep (alpha i d)) bridge.0) e j
          kept e j old = elim (cases_eq (s.rep e) (s.rep (alpha i d))) [
            | inl is ↦ record {
              same = rep_in (alpha j e) (old.same ∙ is) ∙ sym (rep_in e is);
              parity = λ p. old.parity (let x = ap length (walk_in (alpha j e) (old.same ∙ is)) in let y = ap length (walk_in e is) in omega (arith, length-append (s.walk (alpha j e)) bridge.0, length-append (s.walk e) bridge.0));
            }
            | inr h ↦ record {
              same = rep_out (alpha j e) (λ is. h (sym old.same ∙ is)) ∙ old.same ∙ sym (rep_out e h);
              parity = λ p. old.parity (ap (λ w. length w % 2) (sym (walk_out (alpha j e) (λ is. h (sym old.same ∙ is)))) ∙ p ∙ ap (λ w. length w % 2) (walk_out e h));
            }
          ]

          new : AreApart (rep_to s.rep (s.rep (alpha i d)) (s.rep d)) (walk_to s.rep s.walk (s.rep (alpha i d)) bridge.0) d i
          new = record {
            same = rep_in (alpha i d) refl ∙ sym (rep_out d (λ e. apart (sym e)));
            parity = λ p. (let x = ap length (walk_in (alpha i d) refl) in let y = ap length (walk_out d (λ e. apart (sym e))) in let z = bridge.2 in omega (arith, length-append (s.walk (alpha i d)) bridge.0));
          }

    step : IsPartial d (suc i) ⊎ HasOddWalk
    step = go (live d) refl
      where
        go : (t : Bool) → live d ≡ t → IsPartial d (suc i) ⊎ HasOddWalk
        go false e = inl (followed (λ h. absurd (false≢true (sym e ∙ h))))
        go true here = elim (cases_lt n i) [
          | inl past ↦ inl (followed (λ h low. absurd (omega arith)))
          | inr low ↦ elim (cases_eq (alpha i d) d) [
            | inl stays ↦ inl (followed (λ h low' moves. absurd (moves stays)))
            | inr moves ↦ elim (cases_eq (s.rep (alpha i d)) (s.rep d)) [
              | inl same ↦ elim (cases_eq (length (s.walk (alpha i d)) % 2) (length (s.walk d) % 2)) [
                | inl parity ↦ inr (odd here low moves same parity)
                | inr parity ↦ inl (followed (λ h low' moves'. record { same = same; parity = parity }))
              ]
              | inr apart ↦ inl (joined here low moves apart)
            ]
          ]
        ]

  row : (d i : ℕ) → IsPartial d 0 → IsPartial d i ⊎ HasOddWalk
  row d zero s = inl s
  row d (suc i) s = elim (row d i s) [ inl t ↦ step d i t | inr o ↦ inr o ]

  next_row : (d : ℕ) → IsPartial d (suc n) → IsPartial (suc d) 0
  next_row d s = record {
    rep = s.rep;
    walk = s.walk;
    leads = s.leads;
    done = λ e j before h low. s.done e j (elim before [ inl l ↦ (elim (cases_lt e d) [ inl k ↦ inl k | inr k ↦ inr ((omega arith), (omega arith)) ]) | inr l ↦ absurd (let k = l.1 in omega arith) ]) h low;
  }

  rows : (d : ℕ) → IsPartial d 0 ⊎ HasOddWalk
  rows zero = inl begun
  rows (suc d) = elim (rows d) [
    | inl s ↦ elim (row d (suc n) s) [ inl t ↦ inl (next_row d t) | inr o ↦ inr o ]
    | inr o ↦ inr o
  ]

  two_parities : (r q : ℕ) → r < 2 → q < 2 → r ≢ q → eqb r 0 ≢ eqb q 0
  two_parities r q h k apart e = elim (cases_eq r 0) [
    | inl x ↦ elim (cases_eq q 0) [ inl y ↦ apart (x ∙ sym y) | inr y ↦ false≢true (sym (ne_eqb q 0 y) ∙ sym e ∙ eq-eqb r 0 x) ]
    | inr x ↦ elim (cases_eq q 0) [ inl y ↦ false≢true (sym (ne_eqb r 0 x) ∙ e ∙ eq-eqb q 0 y) | inr y ↦ apart (omega arith) ]
  ]

  pub two_or_odd : (next : ℕ) → ((d : ℕ) → IsTrue (live d) → d < next) → ((colour : ℕ → Bool) × IsTwoColouring n alpha (λ d. IsTrue (live d)) colour) ⊎ ((d : ℕ) × (labels : List ℕ) × IsTrue (live d) × IsOddWalk n alpha d labels)
  two_or_odd next below = elim (rows next) [
    | inr o ↦ inr o
    | inl s ↦ inl ((λ d. eqb (length (s.walk d) % 2) 0), (λ d i h low moves. (let one = s.done d i (inl (below d h)) h low moves in two_parities (length (s.walk (alpha i d)) % 2) (length (s.walk d) % 2) (omega arith) (omega arith) one.parity)))
  ]
