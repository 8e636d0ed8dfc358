-- The whole walk from a dart that wasn't seen: it is the dart's orbit, of which nothing was seen.
use Rattle.std.proofs.Common.{◌≡◌, ℕ, zero, suc, ◌+◌, ◌*◌, ◌-◌, ◌<◌, ◌≤◌, List, [], ◌++◌, Some, length, get_or, unwrap_or, take, refl, sym, ap, subst, ◌∙◌, inl, inr, arith, length-append}
use Rattle.std.specs.List.{Contains}
use Rattle.std.specs.Option.{option_map}
use Rattle.std.specs.Prelude.{slice_get}
use Rattle.std.proofs.lemmas.Bool.{cases_lt}
use Rattle.std.proofs.lemmas.List.{length-map, get_or_append_left, get_or-append_right, get_or_default, get_or-take, length-take-le}
use Rattle.std.proofs.lemmas.List.Elements.{Contains-append_right}
use Rattle.std.proofs.lemmas.Option.{slice_get-get_or, slice_get_within}
use Rattle.gm_model.specs.declared.word.Letter.{Letter}
use Rattle.gm_model.specs.declared.word.Letter.TheVariants.{At, Gone}
use Rattle.gm_model.specs.Maps.{IsGeneralised}
use Rattle.gm_model.specs.Orbits.{Labels, HasNoRepeats, IsInOrbit, IsWalk}
use Rattle.gm_model.specs.Rules.{label_of}
use Rattle.gm_arena.specs.inner.ArenaAsMap.{as_map}
use Rattle.gm_arena.specs.inner.ArenaMap.{ArenaMap, IsLiveName, alpha, name_at}
use Rattle.gm_arena.specs.inner.Lawful.{IsLawful}
use Rattle.gm_arena.specs.declared.slot.Slot.{Slot}
use Rattle.gm_arena.proofs.MapLemmas.{IsLiveName-name_at}
use Rattle.gm_walk.specs.inner.Seen.{HasLettersOf, IsClosed, HasGrownBy}
use Rattle.gm_walk.specs.inner.Walks.{AreLive, IsLabelUpTo, IsWord, along, label_at, names_of}
use Rattle.gm_walk.proofs.GrowLemmas.{neighbour_in}
use Rattle.gm_walk.proofs.NameLemmas.{name_there}
use Rattle.gm_walk.proofs.OrbitLemmas.{orbit_join}

-- ---- lists without repeats

pub distinct_append : (xs ys : List ℕ) → HasNoRepeats xs → HasNoRepeats ys → ((d : ℕ) → Contains xs d → Contains ys d → ⊥) → HasNoRepeats (xs ++ ys)
distinct_append xs ys first second apart p q less within same = elim (cases_lt q (length xs)) [
  | inl k ↦ first p q less k (sym (get_or_append_left xs ys 0 p (omega arith)) ∙ (same ∙ get_or_append_left xs ys 0 q k))
  | inr past ↦ elim (cases_lt p (length xs)) [
    | inl k ↦
        let d = get_or (xs ++ ys) q 0 in
        apart d (p, k, get_or_default xs p d 0 k ∙ (sym (get_or_append_left xs ys 0 p k) ∙ same))
        (q - length xs, room past, get_or_default ys (q - length xs) d 0 (room past) ∙ sym (get_or-append_right xs ys (length xs) q 0 refl past))
    | inr also ↦
        second (p - length xs) (q - length xs) (omega arith) (room past)
        (sym (get_or-append_right xs ys (length xs) p 0 refl also) ∙ (same ∙ get_or-append_right xs ys (length xs) q 0 refl past))
  ]
]
  where
    room : length xs ≤ q → q - length xs < length ys
    room past = omega (arith, length-append xs ys)

-- what is at a place isn't among the elements before it
pub not_before : (xs : List ℕ) (k : ℕ) → HasNoRepeats xs → k < length xs → Contains (take k xs) (get_or xs k 0) → ⊥
not_before xs k distinct within (p, h, e) =
    let less : p < k = omega (arith, length-take-le k xs (omega arith)) in
    distinct p k less within (sym (get_or-take k xs p 0 less) ∙ (sym (get_or_default (take k xs) p (get_or xs k 0) 0 h) ∙ e))

-- ---- the walk

-- its steps are those of the slots that it adds
pub walk_steps : (n start after old new walked : ℕ) → new ≡ old + walked → after ≤ start + 4 * (n + 1) * walked → after + 4 * (n + 1) * old ≤ start + 4 * (n + 1) * new
walk_steps n start after old new walked e most = rw e (omega (arith, most))

pub names_live : (m : ArenaMap) → IsLawful m → (slots : List Slot) → AreLive m slots → (p : ℕ) → p < length (names_of m slots) → IsLiveName m (get_or (names_of m slots) p 0)
names_live m lawful slots live p h =
    let within : p < length slots = omega (arith, length-map slots (λ (s : Slot). name_at m s.at)) in
    let none : Slot = record { at = 0 } in
    subst (IsLiveName m) (sym (name_there m slots p none within)) (IsLiveName-name_at m (get_or slots p none).at lawful (live p none within))

-- the label at a place of a word is one of the map's
label_low : (n : ℕ) (word : List Letter) → IsWord n word → (l : ℕ) → l < length word → label_at word l ≤ n
label_low n word is l within = go (get_or word l Gone) (slice_get-get_or word l Gone within) (is l Gone within)
  where
    go : (letter : Letter) → slice_get word l ≡ Some letter → IsLabelUpTo n letter → label_at word l ≤ n
    go (At i) e few = let there : label_at word l ≡ i = ap (λ x. unwrap_or (option_map label_of x) 0) e in omega arith
    go Gone e few = absurd few

module _ (m : ArenaMap) (word : List Letter) (d : ℕ) (walk : List ℕ) (whole : IsWalk (along m word) (length word) d walk) where
  some_dart : 0 < length walk
  some_dart = slice_get_within walk 0 d whole.starts

  starts_with : get_or walk 0 0 ≡ d
  starts_with = let both : Some (get_or walk 0 0) ≡ Some d = sym (slice_get-get_or walk 0 0 some_dart) ∙ whole.starts in cc

  -- each dart of it is in the orbit of the first
  in_orbit : (o : Labels) → HasLettersOf o word → (bound p : ℕ) → p < bound → p < length walk → IsInOrbit (alpha m) o d (get_or walk p 0)
  in_orbit o has zero p h k = absurd (omega arith)
  in_orbit o has (suc bound) p h k = elim (cases_lt 0 p) [
    | inl some ↦
        let s = whole.least p some k in
        let at = s.2 in
        let less = at.earlier in
        let from = get_or walk s.0 0 in
        subst (IsInOrbit (alpha m) o d) (sym at.leads) (orbit_join (alpha m) o d from (along m word from s.1) (in_orbit o has bound s.0 (omega arith) (omega arith)) (neighbour_in m word o has from s.1 at.place))
    | inr none ↦ (let first : p ≡ 0 = omega arith in ([], tt, sym (ap (λ q. get_or walk q 0) first ∙ starts_with)))
  ]

  module _ (gmap : IsGeneralised (as_map m)) (is : IsWord m.schema.dim word) (lives : (p : ℕ) → p < length walk → IsLiveName m (get_or walk p 0)) (before : List ℕ) (closed : IsClosed m word before) (lacks : Contains before d → ⊥) where
    -- what leads to a dart of a closed list is one of its darts
    none_at : (bound p : ℕ) → p < bound → p < length walk → Contains before (get_or walk p 0) → ⊥
    none_at zero p h k c = absurd (omega arith)
    none_at (suc bound) p h k c = elim (cases_lt 0 p) [
      | inl some ↦
          let s = whole.least p some k in
          let at = s.2 in
          let less = at.earlier in
          let from = get_or walk s.0 0 in
          let earlier : s.0 < length walk = omega arith in
          let back : along m word (get_or walk p 0) s.1 ≡ from =
          ap (λ x. along m word x s.1) at.leads ∙ gmap.back from (label_at word s.1) (lives s.0 earlier) (label_low m.schema.dim word is s.1 at.place) in
          none_at bound s.0 (omega arith) earlier (subst (Contains before) back (closed (get_or walk p 0) s.1 c at.place))
      | inr none ↦ (let first : p ≡ 0 = omega arith in lacks (subst (Contains before) (ap (λ q. get_or walk q 0) first ∙ starts_with) c))
    ]

    none_seen : (e : ℕ) → Contains before e → Contains walk e → ⊥
    none_seen e c (p, h, same) = none_at (length walk) p h h (subst (Contains before) (sym (sym (get_or_default walk p e 0 h) ∙ same)) c)

    pub walk_distinct : HasNoRepeats before → HasNoRepeats (before ++ walk)
    walk_distinct distinct = distinct_append before walk distinct whole.distinct none_seen

  pub walk_grown : (before : List ℕ) → HasGrownBy m word d before (before ++ walk)
  walk_grown before = record {
    longer = omega (arith, length-append before walk);
    front = λ p h. get_or_append_left before walk 0 p h;
    there = Contains-append_right before walk d (0, some_dart, get_or_default walk 0 d 0 some_dart ∙ starts_with);
    closed = λ p place past h within.
        let room : p - length before < length walk = omega (arith, length-append before walk) in
        subst (λ x. Contains (before ++ walk) (along m word x place)) (sym (get_or-append_right before walk (length before) p 0 refl past))
        (Contains-append_right before walk _ (whole.closed (p - length before) place (inl room) room within));
    only = λ o has p past h.
        let room : p - length before < length walk = omega (arith, length-append before walk) in
        subst (IsInOrbit (alpha m) o d) (sym (get_or-append_right before walk (length before) p 0 refl past)) (in_orbit o has (length walk) (p - length before) room room);
  }
