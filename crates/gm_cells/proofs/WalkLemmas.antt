-- Walks without steps that stay where they are.
use Rattle.std.proofs.Common.{◌≡◌, ◌≢◌, ℕ, ◌+◌, ◌%◌, ◌≤◌, ◌⊎◌, Bool, true, false, not, List, [], ◌∷◌, length, IsTrue, refl, sym, ap, subst, ◌∙◌, inl, inr, arith}
use Rattle.std.proofs.lemmas.Bool.{cases_eq, le-leb, leb-true, false≢true}
use Rattle.gm_model.specs.GMap.{IsGMap}
use Rattle.gm_model.specs.Orbits.{IsPathIn, IsInOrbit, follow}
use Rattle.gm_cells.specs.Cells.{labels_to}
use Rattle.gm_cells.specs.Colours.{LeadsTo, IsTwoColouring, IsOddWalk}
use Rattle.gm_walk.proofs.OrbitLemmas.{live_along, orbit_back, orbit_join}

module _ (n : ℕ) (IsLive : ℕ → Type 0) (alpha : ℕ → ℕ → ℕ) (gmap : IsGMap n IsLive alpha) where
  -- a step back along the same label
  pub step_back : (e d i : ℕ) (w : List ℕ) → IsLive d → i ≤ n → alpha i d ≢ d → LeadsTo n alpha e w d → LeadsTo n alpha e (i ∷ w) (alpha i d)
  step_back e d i w live within moves leads =
      let back : alpha i (alpha i d) ≡ d = gmap.back d i live within in
      (within, (λ same. moves (sym same ∙ back)), subst (LeadsTo n alpha e w) (sym back) leads)

  -- a walk, turned round, in front of another
  pub turned : (e f : ℕ) (w v : List ℕ) (d : ℕ) → IsLive d → LeadsTo n alpha f w d → LeadsTo n alpha e v d → (u : List ℕ) × LeadsTo n alpha e u f × (length u ≡ length w + length v)
  turned e f [] v d live at leads = (v, subst (LeadsTo n alpha e v) at leads, omega arith)
  turned e f (i ∷ w) v d live walk leads =
      let rest = turned e f w (i ∷ v) (alpha i d) (gmap.stays d i live walk.0) walk.2 (step_back e d i v live walk.0 walk.1 leads) in
      (rest.0, rest.1, omega (arith, rest.2))

  -- what a walk leads to is in the orbit
  pub walk_orbit : (e : ℕ) (w : List ℕ) (d : ℕ) → LeadsTo n alpha e w d → IsInOrbit alpha (labels_to n) d e
  walk_orbit e [] d at = ([], tt, at)
  walk_orbit e (i ∷ w) d walk = let rest = walk_orbit e w (alpha i d) walk.2 in (i ∷ rest.0, (le-leb i n walk.0, rest.1), rest.2)

  within_to : (i : ℕ) → IsTrue (labels_to n i) → i ≤ n
  within_to i h = leb-true i n h

  -- and the other way, without the steps that stay
  path_walk : (path : List ℕ) (e d : ℕ) → IsPathIn (labels_to n) path → follow alpha path d ≡ e → (w : List ℕ) × LeadsTo n alpha e w d
  path_walk [] e d inside ends = ([], ends)
  path_walk (i ∷ path) e d inside ends =
      let rest = path_walk path e (alpha i d) inside.1 ends in
      elim (cases_eq (alpha i d) d) [
        | inl stays ↦ (rest.0, subst (LeadsTo n alpha e rest.0) stays rest.1)
        | inr moves ↦ (i ∷ rest.0, (leb-true i n inside.0, moves, rest.1))
      ]

  pub orbit_walk : (e d : ℕ) → IsInOrbit alpha (labels_to n) d e → (w : List ℕ) × LeadsTo n alpha e w d
  orbit_walk e d to = path_walk to.0 e d to.1 to.2

  pub orbit_turned : (d e : ℕ) → IsLive d → IsInOrbit alpha (labels_to n) d e → IsInOrbit alpha (labels_to n) e d
  orbit_turned = orbit_back n IsLive alpha (labels_to n) gmap (λ i h. leb-true i n h)

  pub orbit_live : (d e : ℕ) → IsLive d → IsInOrbit alpha (labels_to n) d e → IsLive e
  orbit_live d e live to = subst IsLive to.2 (live_along n IsLive alpha (labels_to n) gmap (λ i h. leb-true i n h) to.0 d live to.1)

  -- ---- colours along a walk

  flip : (a b : Bool) → a ≢ b → a ≡ not b
  flip true true h = absurd (h refl)
  flip true false h = refl
  flip false true h = refl
  flip false false h = absurd (h refl)

  module _ (IsOne : ℕ → Type 0) (stays : (d i : ℕ) → IsOne d → i ≤ n → IsOne (alpha i d)) (colour : ℕ → Bool) (two : IsTwoColouring n alpha IsOne colour) where
    -- an even walk keeps the colour, and an odd one changes it
    pub even_odd : (e : ℕ) (w : List ℕ) (d : ℕ) → IsOne d → LeadsTo n alpha e w d → ((length w % 2 ≡ 0) × (colour d ≡ colour e)) ⊎ ((length w % 2 ≡ 1) × (colour d ≡ not (colour e)))
    even_odd e [] d one at = inl (refl, ap colour at)
    even_odd e (i ∷ w) d one walk =
        let other : colour (alpha i d) ≡ not (colour d) = flip (colour (alpha i d)) (colour d) (two d i one walk.0 walk.1) in
        elim (even_odd e w (alpha i d) (stays d i one walk.0) walk.2) [
          | inl even ↦ inr (omega (arith, even.0), turn_not (colour d) (colour e) (sym other ∙ even.1))
          | inr odd ↦ inl (omega (arith, odd.0), same_not (colour d) (colour e) (sym other ∙ odd.1))
        ]
      where
        turn_not : (a b : Bool) → not a ≡ b → a ≡ not b
        turn_not true b e = ap not e
        turn_not false b e = ap not e

        same_not : (a b : Bool) → not a ≡ not b → a ≡ b
        same_not true true e = refl
        same_not true false e = cc
        same_not false true e = cc
        same_not false false e = refl

    pub no_odd_walk : (d : ℕ) (w : List ℕ) → IsOne d → IsOddWalk n alpha d w → ⊥
    no_odd_walk d w one walk = elim (even_odd d w d one walk.leads) [
      | inl even ↦ (let odd = walk.odd in omega (arith, even.0))
      | inr odd ↦ not_itself (colour d) odd.1
    ]
      where
        not_itself : (a : Bool) → a ≡ not a → ⊥
        not_itself true e = false≢true (sym e)
        not_itself false e = false≢true e

-- a component with an odd walk has no two colours
pub no_colours : (n : ℕ) (IsLive : ℕ → Type 0) (alpha : ℕ → ℕ → ℕ) (gmap : IsGMap n IsLive alpha) (d : ℕ) (w : List ℕ) (colour : ℕ → Bool) → IsOddWalk n alpha d w → IsTwoColouring n alpha (IsInOrbit alpha (labels_to n) d) colour → ⊥
no_colours n IsLive alpha gmap d w colour walk two = no_odd_walk n IsLive alpha gmap (IsInOrbit alpha (labels_to n) d) (λ e i joined low. orbit_join alpha (labels_to n) d e (alpha i e) joined (i ∷ [], (le-leb i n low, tt), refl)) colour two d w ([], tt, refl) walk
