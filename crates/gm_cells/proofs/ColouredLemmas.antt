-- What the colours of all components say of a map: the darts of the first colour, how many components there are, and the first that has no two colours.
use Rattle.std.proofs.Common.{◌≡◌, ◌≢◌, ℕ, ◌+◌, ◌*◌, ◌%◌, ◌<◌, ◌≤◌, eqb, Bool, true, false, List, ◌++◌, Option, Some, None, length, take, replicate, refl, sym, ap, subst, ◌∙◌, inl, inr, arith}
use Rattle.std.specs.Option.{IsSome}
use Rattle.std.specs.FinMap.{get}
use Rattle.std.proofs.Math.Seq.{take-append_seam}
use Rattle.std.proofs.lemmas.Bool.{cases_eq, false≢true, ne_eqb, eq-eqb}
use Rattle.gm_model.specs.Maps.{IsGeneralised, IsDart}
use Rattle.gm_model.specs.Orbits.{HasOrbits}
use Rattle.gm_arena.specs.inner.ArenaAsMap.{as_map}
use Rattle.gm_arena.specs.inner.ArenaMap.{ArenaMap, Dart, IsAt, IsLiveSlot, IsLiveName, name_at, alpha}
use Rattle.gm_arena.specs.inner.Lawful.{IsLawful}
use Rattle.gm_arena.proofs.MapLemmas.{name_at-is, slot_of_name, name_below}
use Rattle.gm_cells.specs.inner.Ascending.{IsAscendingOf}
use Rattle.gm_cells.specs.Cells.{labels_to}
use Rattle.gm_cells.specs.Colours.{IsComponentLead, HasColoursAt, AreOfFirstColour, LeadsTo}
use Rattle.gm_cells.specs.inner.Search.{IsFresh, IsSearched}
use Rattle.gm_cells.specs.inner.OddStart.{IsOddStart}
use Rattle.gm_cells.specs.inner.Painted.{colour_in, IsPaintedFrom, HasPaintedLead, IsBeforeOdd, IsOddLead, ArePainted}
use Rattle.gm_cells.specs.declared.components.Components.{Components}
use Rattle.gm_cells.proofs.Ascending.{all_of}
use Rattle.gm_cells.proofs.PaintedLemmas.{one_lead, zero_at}
use Rattle.gm_cells.proofs.SearchLemmas.{mark_parity}
use Rattle.gm_cells.proofs.WalkLemmas.{orbit_walk, orbit_turned, orbit_live}

-- two numbers of 1 and 2 that differ aren't both 1, and not both 2
apart : (a b : ℕ) → a ≢ b → a ≢ 0 → a ≤ 2 → b ≢ 0 → b ≤ 2 → eqb a 1 ≢ eqb b 1
apart a b differ some few some' few' same = elim (cases_eq a 1) [
  | inl x ↦ elim (cases_eq b 1) [ inl y ↦ differ (x ∙ sym y) | inr y ↦ false≢true (sym (ne_eqb b 1 y) ∙ sym same ∙ eq-eqb a 1 x) ]
  | inr x ↦ elim (cases_eq b 1) [ inl y ↦ false≢true (sym (ne_eqb a 1 x) ∙ same ∙ eq-eqb b 1 y) | inr y ↦ differ (omega arith) ]
]

module _ (m : ArenaMap) (lawful : IsLawful m) (gmap : IsGeneralised (as_map m)) (colours : List ℕ) where
  live_at : (slot d : ℕ) → IsAt m slot d → IsLiveSlot m slot
  live_at slot d at = rw at refl

  -- whether a dart has the first colour
  abbrev pub is_first_at : (d : ℕ) (o : Option Dart) → get m.darts d ≡ o → Bool
  is_first_at d None e = false
  is_first_at d (Some dart) e = eqb (colour_in colours (lawful.dart d dart e).slot) 1

  abbrev pub is_first : ℕ → Bool
  is_first d = is_first_at d (get m.darts d) refl

  first_is : (slot d : ℕ) → IsAt m slot d → is_first d ≡ eqb (colour_in colours slot) 1
  first_is slot d at = go (get m.darts d) refl (lawful.live slot d at)
    where
      go : (o : Option Dart) (e : get m.darts d ≡ o) → IsSome o → is_first_at d o e ≡ eqb (colour_in colours slot) 1
      go None e h = absurd (false≢true h)
      go (Some dart) e h = ap (λ s. eqb (colour_in colours s) 1) (lawful.one_slot slot (lawful.dart d dart e).slot d at (lawful.dart d dart e).at)

  pub has_first : (slot d : ℕ) → IsAt m slot d → colour_in colours slot ≡ 1 → is_first d ≡ true
  has_first slot d at one = first_is slot d at ∙ eq-eqb (colour_in colours slot) 1 one

  pub has_other : (slot d : ℕ) → IsAt m slot d → colour_in colours slot ≢ 1 → is_first d ≡ true → ⊥
  has_other slot d at other one = false≢true (sym (first_is slot d at ∙ ne_eqb (colour_in colours slot) 1 other) ∙ one)

  -- a live dart of the first colour
  abbrev pub IsOfFirst : ℕ → Type 0
  IsOfFirst d = IsLiveName m d × (is_first d ≡ true)

  module _ (found : Components) (s : ArePainted m m.next colours found) where
    lead_of : (slot d : ℕ) → IsAt m slot d → HasPaintedLead m m.next colours slot
    lead_of slot d at = (s.led slot (s.done slot d at (name_below m d lawful (lawful.live slot d at)))).1

    -- neighbours of a component before the first odd one differ
    differ : (d slot x i : ℕ) → IsAt m slot x → IsComponentLead (as_map m) d → IsBeforeOdd m found.odd d → IsPaintedFrom m d colours slot → i ≤ m.schema.dim → alpha m i x ≢ x → is_first (alpha m i x) ≢ is_first x
    differ d slot x i at first before by low moves =
        let f = s.proper d slot i first before (live_at slot x at) by low in
        let there : IsAt m f.to (alpha m i x) = subst (λ y. IsAt m f.to (alpha m i y)) (name_at-is m slot x at) f.there in
        let other = f.other refl (λ e. moves (some_same _ _ (sym there ∙ (ap (get m.slots) e ∙ at)))) in
        let to_is = (s.led f.to f.some).1.by.colour in
        let is = by.colour in
        λ same. apart (colour_in colours f.to) (colour_in colours slot) other f.some (omega (arith, to_is)) (λ e. omega (arith, is, e)) (omega (arith, is)) (sym (first_is f.to (alpha m i x) there) ∙ same ∙ first_is slot x at)
      where
        some_same : (a b : ℕ) → Some a ≡ Some b → a ≡ b
        some_same a b e = cc

    -- each component before the first odd one has two colours
    pub colours_before : (d : ℕ) → IsComponentLead (as_map m) d → IsBeforeOdd m found.odd d → HasColoursAt (as_map m) d
    colours_before d first before = (
      is_first,
      λ x i joined low moves.
          let live = orbit_live m.schema.dim (IsLiveName m) (alpha m) gmap d x first.live joined in
          let there = slot_of_name m x lawful live in
          let lead = lead_of there.0 x there.1 in
          let back = orbit_walk m.schema.dim (IsLiveName m) (alpha m) gmap d x (orbit_turned m.schema.dim (IsLiveName m) (alpha m) gmap d x first.live joined) in
          let same = one_lead m lawful gmap lead.lead d x lead.by.labels back.0 live lead.first first (subst (λ y. LeadsTo m.schema.dim (alpha m) lead.lead lead.by.labels y) (name_at-is m there.0 x there.1) lead.by.leads) back.1 in
          differ d there.0 x i there.1 first before (subst (λ e. IsPaintedFrom m e colours there.0) same lead.by) low moves,
    )

    -- so many components
    pub components_are : HasOrbits (IsDart (as_map m)) (alpha m) (labels_to m.schema.dim) found.count
    components_are = (s.counted.0, all_of (IsComponentLead (as_map m)) m.next s.counted.0 (λ d first. name_below m d lawful first.live) s.counted.1, s.counted.2)

    -- without an odd one, these are the darts of the first colour
    pub first_colour_is : found.odd ≡ None → (first : List ℕ) → IsAscendingOf IsOfFirst m.next first → AreOfFirstColour (as_map m) first
    first_colour_is none first listed = record {
      colour = is_first;
      two = λ d i live low moves.
          let there = slot_of_name m d lawful live in
          let lead = lead_of there.0 d there.1 in
          differ lead.lead there.0 d i there.1 lead.first (subst (λ o. IsBeforeOdd m o lead.lead) (sym none) tt) lead.by low moves;
      leads = λ d lead. (let there = slot_of_name m d lawful lead.live in has_first there.0 d there.1 (s.own there.0 d there.1 lead (name_below m d lawful lead.live)));
      listed = λ d. ((λ c. (let h = (listed.same d).0 c in h.1)), (λ one. (listed.same d).1 (name_below m d lawful one.0, one)));
      ascending = listed.rising;
    }

-- ---- the first component without two colours

-- no walk has a mark yet
pub fresh_marks : (m : ArenaMap) (d n : ℕ) → IsFresh m d (replicate n 0)
fresh_marks m d n slot k labels live leads = zero_at n (2 * slot + k % 2)

-- the search from its least dart finds the odd walk
pub odd_started : (m : ArenaMap) (from slot n : ℕ) (marks : List ℕ) → IsOddLead m from slot → ((d : ℕ) → IsComponentLead (as_map m) d → d < name_at m slot → HasColoursAt (as_map m) d) → IsSearched m (name_at m slot) (replicate n 0) marks → IsOddStart m slot marks
odd_started m from slot n marks odd earlier found = record {
  live = odd.live;
  lead = odd.first;
  earlier = earlier;
  odd = (
      let walk = odd.walk.1 in
      let reached = found.least slot odd.walk.0 odd.live walk.leads in
      let is = reached.mark in
      let same = mark_parity marks slot 1 (length odd.walk.0) (sym walk.odd) in
      λ e. omega (arith, is, same, e)
      );
  by = λ other k w live leads marked. elim (found.only other k live marked) [ inl old ↦ absurd (old (zero_at n (2 * other + k % 2))) | inr by ↦ by ];
  least = found.least;
}

-- the colours that were written stand in the whole vector
pub written_whole : (colours behind : List ℕ) (long : ℕ) → length colours ≡ long → take long (colours ++ behind) ≡ colours
written_whole colours behind long is = ap (λ n. take n (colours ++ behind)) (sym is) ∙ take-append_seam colours behind
