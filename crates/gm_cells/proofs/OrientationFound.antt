-- A generalised map whose names lie below its next name has an orientation: each component has two colours or an odd walk, and so there is a first one without colours, or each has them.
use Rattle.std.proofs.Common.{◌≡◌, ◌≢◌, ℕ, suc, ◌<◌, ◌≤◌, ◌⊎◌, Bool, true, false, not, List, [], ◌∷◌, IsTrue, refl, sym, ap, ◌∙◌, inl, inr, arith}
use Rattle.std.proofs.lemmas.Bool.{cases_lt, le-leb, leb-true, false≢true}
use Rattle.gm_model.specs.GMap.{IsGMap}
use Rattle.gm_model.specs.Maps.{Map, IsDart, IsGeneralised, dimension}
use Rattle.gm_cells.specs.declared.orientation.Orientation.{Orientation}
use Rattle.gm_cells.specs.declared.orientation.Orientation.TheVariants.{Two, Odd}
use Rattle.gm_cells.specs.Cells.{labels_to}
use Rattle.gm_cells.specs.Colours.{IsTwoColouring, IsComponentLead, IsJoined, HasColoursAt, IsOddWalk, IsLeastOddWalk, IsOrientation}
use Rattle.gm_theory.proofs.ValuesFound.{IsLeast, least_below}
use Rattle.gm_theory.proofs.ValuesReach.{IsDecided}
use Rattle.gm_walk.proofs.OrbitLemmas.{orbit_join}
use Rattle.gm_cells.proofs.Ascending.{ascending_below}
use Rattle.gm_cells.specs.inner.Ascending.{IsAscendingOf}
use Rattle.gm_cells.proofs.CountsFound.{decide_dart, decide_joined, decide_lead}
use Rattle.gm_cells.proofs.LeastWalkFound.{least_odd_walk}
use Rattle.gm_cells.proofs.TwoOrOdd.{two_or_odd}
use Rattle.gm_cells.proofs.WalkLemmas.{turned, orbit_walk, orbit_turned, orbit_live, no_colours}

-- ---- tests

abbrev test : {P : Type 0} → IsDecided P → Bool
test (inl has) = true
test (inr none) = false

test_has : {P : Type 0} (side : IsDecided P) → IsTrue (test side) → P
test_has (inl has) h = has
test_has (inr none) h = absurd (false≢true h)

has_test : {P : Type 0} (side : IsDecided P) → P → IsTrue (test side)
has_test (inl has) p = refl
has_test (inr none) p = absurd (none p)

abbrev is_same : Bool → Bool → Bool
is_same true b = b
is_same false b = not b

same_self : (b : Bool) → is_same b b ≡ true
same_self true = refl
same_self false = refl

same_apart : (a b c : Bool) → a ≢ b → is_same a c ≢ is_same b c
same_apart true true c apart e = apart refl
same_apart false false c apart e = apart refl
same_apart true false true apart e = false≢true (sym e)
same_apart true false false apart e = false≢true e
same_apart false true true apart e = false≢true e
same_apart false true false apart e = false≢true (sym e)

is_true : (b : Bool) → IsDecided (b ≡ true)
is_true true = inl refl
is_true false = inr false≢true

module _ (map : Map) (below : (d : ℕ) → IsDart map d → d < map.next) (gmap : IsGeneralised map) where
  joins : (d e f : ℕ) → IsJoined map d e → IsJoined map e f → IsJoined map d f
  joins = orbit_join map.alpha (labels_to (dimension map))

  turns : (d e : ℕ) → IsDart map d → IsJoined map d e → IsJoined map e d
  turns = orbit_turned (dimension map) (IsDart map) map.alpha gmap

  lives : (d e : ℕ) → IsDart map d → IsJoined map d e → IsDart map e
  lives = orbit_live (dimension map) (IsDart map) map.alpha gmap

  steps_to : (d i : ℕ) → i ≤ dimension map → IsJoined map d (map.alpha i d)
  steps_to d i low = (i ∷ [], (le-leb i (dimension map) low, tt), refl)

  low_labels : (i : ℕ) → IsTrue (labels_to (dimension map) i) → i ≤ dimension map
  low_labels i h = leb-true i (dimension map) h

  decide_in : (d e : ℕ) → IsDart map d → IsDecided (IsJoined map d e)
  decide_in = decide_joined map below gmap (labels_to (dimension map)) low_labels

  -- ---- one component

  abbrev HasOddWalkAt : ℕ → Type 0
  HasOddWalkAt d = (labels : List ℕ) × IsOddWalk (dimension map) map.alpha d labels

  -- an odd walk at a dart of the component makes one at each: to that dart, along it, and back
  odd_from : (d e : ℕ) → IsDart map d → IsJoined map d e → HasOddWalkAt e → HasOddWalkAt d
  odd_from d e live joined (labels, walk) =
      let there = orbit_walk (dimension map) (IsDart map) map.alpha gmap e d joined in
      let live_there = lives d e live joined in
      let home = turned (dimension map) (IsDart map) map.alpha gmap d e there.0 [] d live there.1 refl in
      let around = turned (dimension map) (IsDart map) map.alpha gmap d e labels home.0 e live_there walk.leads home.1 in
      let whole = turned (dimension map) (IsDart map) map.alpha gmap d d home.0 around.0 e live_there home.1 around.1 in
      (whole.0, record { odd = (let odd = walk.odd in omega (arith, home.2, around.2, whole.2)); leads = whole.1 })

  module _ (d : ℕ) (live : IsDart map d) where
    is_in : ℕ → Bool
    is_in e = test (decide_in d e live)

    joined_in : (e : ℕ) → IsTrue (is_in e) → IsJoined map d e
    unfolding is_in
    joined_in e h = test_has (decide_in d e live) h

    in_joined : (e : ℕ) → IsJoined map d e → IsTrue (is_in e)
    unfolding is_in
    in_joined e joined = has_test (decide_in d e live) joined

    component : IsGMap (dimension map) (λ e. IsTrue (is_in e)) map.alpha
    component = record {
      stays = λ e i h low. in_joined (map.alpha i e) (joins d e (map.alpha i e) (joined_in e h) (steps_to e i low));
      back = λ e i h low. gmap.back e i (lives d e live (joined_in e h)) low;
      commutes = λ e i j h apart low. gmap.commutes e i j (lives d e live (joined_in e h)) apart low;
    }

    pub colours_or_odd : HasColoursAt map d ⊎ HasOddWalkAt d
    colours_or_odd = go (two_or_odd (dimension map) is_in map.alpha component map.next (λ e h. below e (lives d e live (joined_in e h))))
      where
        go : ((colour : ℕ → Bool) × IsTwoColouring (dimension map) map.alpha (λ e. IsTrue (is_in e)) colour) ⊎ ((e : ℕ) × (labels : List ℕ) × IsTrue (is_in e) × IsOddWalk (dimension map) map.alpha e labels) → HasColoursAt map d ⊎ HasOddWalkAt d
        go (inl (colour, two)) = inl (colour, λ e i joined low moves. two e i (in_joined e joined) low moves)
        go (inr (e, labels, h, walk)) = inr (odd_from d e live (joined_in e h) (labels, walk))

  -- ---- the first component with an odd walk

  abbrev IsOddLead : ℕ → Type 0
  IsOddLead d = IsComponentLead map d × HasOddWalkAt d

  decide_odd_lead : (d : ℕ) → IsDecided (IsOddLead d)
  decide_odd_lead d = go (decide_lead map below gmap (labels_to (dimension map)) low_labels d)
    where
      by : IsComponentLead map d → HasColoursAt map d ⊎ HasOddWalkAt d → IsDecided (IsOddLead d)
      by lead (inl colours) = inr (λ h. no_colours (dimension map) (IsDart map) map.alpha gmap d h.1.0 colours.0 h.1.1 colours.1)
      by lead (inr odd) = inl (lead, odd)

      go : IsDecided (IsComponentLead map d) → IsDecided (IsOddLead d)
      go (inl lead) = by lead (colours_or_odd d lead.live)
      go (inr none) = inr (λ h. none h.0)

  odd_here : (d : ℕ) → IsLeast IsOddLead d → (answer : Orientation) × IsOrientation map answer
  odd_here d ((lead, (labels, walk)), before) = (
    Odd d least.0,
    record {
      lead = lead;
      none = λ colours. no_colours (dimension map) (IsDart map) map.alpha gmap d labels colours.0 walk colours.1;
      earlier = λ e other less. by e other less (colours_or_odd e other.live);
      walk = least.1;
    },
  )
    where
      least : (shortest : List ℕ) × IsLeastOddWalk (dimension map) map.alpha d shortest
      least = least_odd_walk (dimension map) map.alpha d labels walk

      by : (e : ℕ) → IsComponentLead map e → e < d → HasColoursAt map e ⊎ HasOddWalkAt e → HasColoursAt map e
      by e other less (inl colours) = colours
      by e other less (inr odd) = absurd (before e less (other, odd))

  -- ---- the least dart of a component

  lead_of : (d : ℕ) → IsDart map d → (e : ℕ) × IsJoined map d e × IsComponentLead map e
  lead_of d live = go (least_below (IsJoined map d) (λ e. decide_in d e live) (suc d))
    where
      go : ((e : ℕ) × (e < suc d) × IsLeast (IsJoined map d) e) ⊎ ((e : ℕ) → e < suc d → IsJoined map d e → ⊥) → (e : ℕ) × IsJoined map d e × IsComponentLead map e
      go (inr none) = absurd (none d (omega arith) ([], tt, refl))
      go (inl (e, b, (joined, before))) = (e, joined, record { live = lives d e live joined; least = λ f on other. by f on (cases_lt f e) })
        where
          by : (f : ℕ) → IsJoined map e f → (f < e) ⊎ (e ≤ f) → e ≤ f
          by f on (inl less) = absurd (before f less (joins d e f joined on))
          by f on (inr more) = more

  one_lead : (d e f : ℕ) → IsDart map d → IsJoined map d e → IsComponentLead map e → IsJoined map d f → IsComponentLead map f → e ≡ f
  one_lead d e f live to_e first to_f other =
      let up : e ≤ f = first.least f (joins e d f (turns d e live to_e) to_f) other.live in
      let down : f ≤ e = other.least e (joins f d e (turns d f live to_f) to_e) first.live in
      omega arith

  -- ---- the first colour, where no component has an odd walk

  module _ (colour : ℕ → Bool) (two : IsTwoColouring (dimension map) map.alpha (IsDart map) colour) where
    colour_by : (d : ℕ) → IsDecided (IsDart map d) → Bool
    colour_by d (inl live) = is_same (colour d) (colour (lead_of d live).0)
    colour_by d (inr dead) = false

    -- the colour that the least dart has is the first
    first_of : ℕ → Bool
    first_of d = colour_by d (decide_dart map below gmap d)

    told : (d e : ℕ) → IsDart map d → IsJoined map d e → IsComponentLead map e → first_of d ≡ is_same (colour d) (colour e)
    unfolding first_of colour_by
    told d e live joined lead = go (decide_dart map below gmap d)
      where
        go : (side : IsDecided (IsDart map d)) → colour_by d side ≡ is_same (colour d) (colour e)
        go (inl l) = let own = lead_of d l in ap (λ f. is_same (colour d) (colour f)) (one_lead d own.0 e live own.1 own.2 joined lead)
        go (inr dead) = absurd (dead live)

    of_two : IsTwoColouring (dimension map) map.alpha (IsDart map) first_of
    of_two d i live low moves same =
        let own = lead_of d live in
        let there = gmap.stays d i live low in
        let here_is = told d own.0 live own.1 own.2 in
        let there_is = told (map.alpha i d) own.0 there (joins (map.alpha i d) d own.0 (turns d (map.alpha i d) live (steps_to d i low)) own.1) own.2 in
        same_apart (colour (map.alpha i d)) (colour d) (colour own.0) (two d i live low moves) (sym there_is ∙ same ∙ here_is)

    of_leads : (d : ℕ) → IsComponentLead map d → first_of d ≡ true
    of_leads d lead = told d d lead.live ([], tt, refl) lead ∙ same_self (colour d)

    abbrev IsOne : ℕ → Type 0
    IsOne d = IsDart map d × (first_of d ≡ true)

    decide_one : (d : ℕ) → IsDecided (IsOne d)
    decide_one d = go (decide_dart map below gmap d) (is_true (first_of d))
      where
        go : IsDecided (IsDart map d) → IsDecided (first_of d ≡ true) → IsDecided (IsOne d)
        go (inl live) (inl first) = inl (live, first)
        go (inl live) (inr other) = inr (λ h. other h.1)
        go (inr dead) first = inr (λ h. dead h.0)

    listed : (answer : Orientation) × IsOrientation map answer
    listed = go (ascending_below IsOne decide_one map.next)
      where
        go : (first : List ℕ) × IsAscendingOf IsOne map.next first → (answer : Orientation) × IsOrientation map answer
        go (first, all) = (
          Two first,
          record {
            colour = first_of;
            two = of_two;
            leads = of_leads;
            listed = λ d. ((λ c. ((all.same d).0 c).1), (λ one. (all.same d).1 (below d one.0, one)));
            ascending = all.rising;
          },
        )

  -- ---- one or the other

  all_coloured : ((d : ℕ) → d < map.next → IsOddLead d → ⊥) → (answer : Orientation) × IsOrientation map answer
  all_coloured none = go (two_or_odd (dimension map) map.live map.alpha gmap map.next below)
    where
      go : ((colour : ℕ → Bool) × IsTwoColouring (dimension map) map.alpha (IsDart map) colour) ⊎ ((d : ℕ) × (labels : List ℕ) × IsDart map d × IsOddWalk (dimension map) map.alpha d labels) → (answer : Orientation) × IsOrientation map answer
      go (inl (colour, two)) = listed colour two
      go (inr (d, labels, live, walk)) = let own = lead_of d live in absurd (none own.0 (below own.0 own.2.live) (own.2, odd_from own.0 d own.2.live (turns d own.0 live own.1) (labels, walk)))

  pub orientation_exists : (answer : Orientation) × IsOrientation map answer
  orientation_exists = go (least_below IsOddLead decide_odd_lead map.next)
    where
      go : ((d : ℕ) × (d < map.next) × IsLeast IsOddLead d) ⊎ ((d : ℕ) → d < map.next → IsOddLead d → ⊥) → (answer : Orientation) × IsOrientation map answer
      go (inl (d, b, least)) = odd_here d least
      go (inr none) = all_coloured none
