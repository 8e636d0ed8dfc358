-- A map has one orientation at most.
use Rattle.std.proofs.Common.{◌≡◌, ℕ, zero, suc, ◌+◌, ◌%◌, ◌<◌, ◌⊎◌, Bool, true, false, not, List, [], ◌∷◌, length, get_or, refl, sym, ap, subst, ◌∙◌, inl, inr, arith}
use Rattle.std.specs.List.{Contains}
use Rattle.std.proofs.lemmas.Bool.{cases_lt, cases_order, false≢true}
use Rattle.std.proofs.lemmas.List.{get_or_default}
use Rattle.gm_model.specs.Maps.{Map, IsDart, IsGeneralised, dimension}
use Rattle.gm_cells.specs.Cells.{labels_to}
use Rattle.gm_cells.specs.Colours.{IsComponentLead, IsJoined, AreOfFirstColour, IsFirstOdd, IsOrientation}
use Rattle.gm_cells.specs.declared.orientation.Orientation.{Orientation}
use Rattle.gm_cells.specs.declared.orientation.Orientation.TheVariants.{Two, Odd}
use Rattle.gm_theory.proofs.LeastPaths.{smaller_or_same}
use Rattle.gm_walk.proofs.OrbitLemmas.{orbit_join}
use Rattle.gm_cells.proofs.WalkLemmas.{orbit_walk, orbit_turned, orbit_live, even_odd}

-- ---- rising lists

abbrev Rises : List ℕ → Type 0
Rises xs = (p q : ℕ) → p < q → q < length xs → get_or xs p 0 < get_or xs q 0

tail_rises : (x : ℕ) (xs : List ℕ) → Rises (x ∷ xs) → Rises xs
tail_rises x xs h p q less within = h (suc p) (suc q) (omega arith) (omega arith)

-- what the tail contains is above the head
above : (x : ℕ) (xs : List ℕ) → Rises (x ∷ xs) → (y : ℕ) → Contains xs y → x < y
above x xs h y c = (let at : get_or xs c.0 0 ≡ y = get_or_default xs c.0 0 y c.1 ∙ c.2 in let k = c.1 in subst (λ z. x < z) at (h 0 (suc c.0) (omega arith) (omega arith)))

here : (x : ℕ) (xs : List ℕ) → Contains (x ∷ xs) x
here x xs = (0, omega arith, refl)

later : (x : ℕ) (xs : List ℕ) (y : ℕ) → Contains xs y → Contains (x ∷ xs) y
later x xs y c = (suc c.0, (let k = c.1 in omega arith), c.2)

either : (x : ℕ) (xs : List ℕ) (y : ℕ) → Contains (x ∷ xs) y → (x ≡ y) ⊎ Contains xs y
either x xs y (zero, within, is) = inl is
either x xs y (suc k, within, is) = inr (k, omega arith, is)

nothing : (y : ℕ) → Contains [] y → ⊥
nothing y c = (let k = c.1 in omega arith)

same_list : (xs ys : List ℕ) → Rises xs → Rises ys → ((z : ℕ) → Contains xs z → Contains ys z) → ((z : ℕ) → Contains ys z → Contains xs z) → xs ≡ ys
same_list [] [] h k to from = refl
same_list [] (y ∷ ys) h k to from = absurd (nothing y (from y (here y ys)))
same_list (x ∷ xs) [] h k to from = absurd (nothing x (to x (here x xs)))
same_list (x ∷ xs) (y ∷ ys) h k to from =
    let heads : x ≡ y = one (either y ys x (to x (here x xs))) (either x xs y (from y (here y ys))) in
    let tails : xs ≡ ys = same_list xs ys (tail_rises x xs h) (tail_rises y ys k)
    (λ z c. (let up = above x xs h z c in elim (either y ys z (to z (later x xs z c))) [ inl e ↦ absurd (omega arith) | inr d ↦ d ]))
    (λ z c. (let up = above y ys k z c in elim (either x xs z (from z (later y ys z c))) [ inl e ↦ absurd (omega arith) | inr d ↦ d ])) in
    cc
  where
    one : (y ≡ x) ⊎ Contains ys x → (x ≡ y) ⊎ Contains xs y → x ≡ y
    one (inl e) b = sym e
    one (inr c) (inl e) = e
    one (inr c) (inr d) = absurd (let up = above y ys k x c in let up' = above x xs h y d in omega arith)

-- ---- colours

module _ (map : Map) (gmap : IsGeneralised map) where
  turn_round : (d e : ℕ) → IsDart map d → IsJoined map d e → IsJoined map e d
  turn_round = orbit_turned (dimension map) (IsDart map) map.alpha gmap

  -- what no least dart of a component has, no dart has
  by_lead : (d : ℕ) → IsDart map d → ((e : ℕ) → IsJoined map d e → IsComponentLead map e → ⊥) → ⊥
  by_lead d live none = go (d + 1) d (omega arith) ([], tt, refl)
    where
      go : (bound e : ℕ) → e < bound → IsJoined map d e → ⊥
      go zero e less joined = omega arith
      go (suc bound) e less joined = none e joined (record {
        live = orbit_live (dimension map) (IsDart map) map.alpha gmap d e live joined;
        least = λ f on live'. elim (cases_lt f e) [
          | inl lower ↦ absurd (go bound f (omega arith) (orbit_join map.alpha (labels_to (dimension map)) d e f joined on))
          | inr more ↦ more
        ];
      })

  bools : (a b : Bool) → (a ≡ b) ⊎ (a ≡ b → ⊥)
  bools true true = inl refl
  bools true false = inr (λ e. false≢true (sym e))
  bools false true = inr false≢true
  bools false false = inl refl

  -- two colourings in which the least darts have the first colour are one
  one_colour : (first other : List ℕ) (a : AreOfFirstColour map first) (b : AreOfFirstColour map other) (d : ℕ) → IsDart map d → a.colour d ≡ b.colour d
  one_colour first other a b d live = elim (bools (a.colour d) (b.colour d)) [
    | inl e ↦ e
    | inr apart ↦ absurd (by_lead d live (λ e joined lead.
        let w = orbit_walk (dimension map) (IsDart map) map.alpha gmap e d joined in
        apart (alike (a.colour d) (b.colour d) (length w.0 % 2)
        (told (a.colour d) (a.colour e) (length w.0 % 2) (a.leads e lead) (even_odd (dimension map) (IsDart map) map.alpha gmap (IsDart map) (λ x i one low. gmap.stays x i one low) a.colour a.two e w.0 d live w.1))
        (told (b.colour d) (b.colour e) (length w.0 % 2) (b.leads e lead) (even_odd (dimension map) (IsDart map) map.alpha gmap (IsDart map) (λ x i one low. gmap.stays x i one low) b.colour b.two e w.0 d live w.1)))))
  ]
    where
      told : (c l : Bool) (r : ℕ) → l ≡ true → ((r ≡ 0) × (c ≡ l)) ⊎ ((r ≡ 1) × (c ≡ not l)) → ((r ≡ 0) × (c ≡ true)) ⊎ ((r ≡ 1) × (c ≡ false))
      told c l r e (inl h) = inl (h.0, h.1 ∙ e)
      told c l r e (inr h) = inr (h.0, h.1 ∙ ap not e)

      alike : (c c' : Bool) (r : ℕ) → ((r ≡ 0) × (c ≡ true)) ⊎ ((r ≡ 1) × (c ≡ false)) → ((r ≡ 0) × (c' ≡ true)) ⊎ ((r ≡ 1) × (c' ≡ false)) → c ≡ c'
      alike c c' r (inl h) (inl k) = h.1 ∙ sym k.1
      alike c c' r (inl h) (inr k) = absurd (let x = h.0 in let y = k.0 in omega arith)
      alike c c' r (inr h) (inl k) = absurd (let x = h.0 in let y = k.0 in omega arith)
      alike c c' r (inr h) (inr k) = h.1 ∙ sym k.1

  one_first : (first other : List ℕ) → AreOfFirstColour map first → AreOfFirstColour map other → first ≡ other
  one_first first other a b = same_list first other a.ascending b.ascending
      (λ d c. (let one = (a.listed d).0 c in (b.listed d).1 (one.0, sym (one_colour first other a b d one.0) ∙ one.1)))
      (λ d c. (let one = (b.listed d).0 c in (a.listed d).1 (one.0, one_colour first other a b d one.0 ∙ one.1)))

  -- two colours of the map are two colours of each component
  never_both : (first : List ℕ) (start : ℕ) (labels : List ℕ) → AreOfFirstColour map first → IsFirstOdd map start labels → ⊥
  never_both first start labels a b = b.none (a.colour, λ e i joined low moves. a.two e i (orbit_live (dimension map) (IsDart map) map.alpha gmap start e (let lead = b.lead in lead.live) joined) low moves)

  -- ---- odd walks

  one_walk : (start : ℕ) (a b : List ℕ) → IsFirstOdd map start a → IsFirstOdd map start b → a ≡ b
  one_walk start a b x y = elim (smaller_or_same a b) [
    | inl e ↦ e
    | inr (inl less) ↦ absurd (let w = y.walk in let v = x.walk in w.least a v.walk less)
    | inr (inr more) ↦ absurd (let w = x.walk in let v = y.walk in w.least b v.walk more)
  ]

  one_start : (start other : ℕ) (a b : List ℕ) → IsFirstOdd map start a → IsFirstOdd map other b → start ≡ other
  one_start start other a b x y = elim (cases_order start other) [
    | inl e ↦ e
    | inr (inl less) ↦ absurd (x.none (y.earlier start x.lead less))
    | inr (inr more) ↦ absurd (y.none (x.earlier other y.lead more))
  ]

  one_odd : (start other : ℕ) (a b : List ℕ) → IsFirstOdd map start a → IsFirstOdd map other b → Odd start a ≡ Odd other b
  one_odd start other a b x y =
      let e : start ≡ other = one_start start other a b x y in
      let f : a ≡ b = one_walk start a b x (subst (λ s. IsFirstOdd map s b) (sym e) y) in
      cc

pub one_orientation : (map : Map) (answer other : Orientation) → IsGeneralised map → IsOrientation map answer → IsOrientation map other → answer ≡ other
one_orientation map (Two first) (Two other) gmap a b = ap Two (one_first map gmap first other a b)
one_orientation map (Two first) (Odd start labels) gmap a b = absurd (never_both map gmap first start labels a b)
one_orientation map (Odd start labels) (Two first) gmap a b = absurd (never_both map gmap first start labels b a)
one_orientation map (Odd start labels) (Odd start' labels') gmap a b = one_odd map gmap start start' labels labels' a b
