-- The names of all places in order are those of the live darts.
use Rattle.std.proofs.Common.{◌≡◌, ◌≢◌, ℕ, zero, suc, ◌<◌, ◌≤◌, List, [], ◌∷◌, get_or, length, Some, refl, sym, ap, subst, ◌∙◌, inl, inr, arith}
use Rattle.std.specs.FinMap as map
use Rattle.std.specs.FinMap.{len-entries}
use Rattle.std.specs.List.{Contains}
use Rattle.std.specs.Ordering.{nat_cmp}
use Rattle.std.specs.Prelude.{Result, Ok, Err, IfOk}
use Rattle.std.specs.List.Sorted.{IsNonDecreasing, IsPermutation}
use Rattle.std.proofs.lemmas.Bool.{cases_eq}
use Rattle.std.proofs.lemmas.List.{get_or_default, get_or-map, length-map}
use Rattle.std.proofs.lemmas.List.Sorted.{Contains-permutation, length_permutation}
use Rattle.slab.specs.Slab.{Slab, get, entries}
use Rattle.slab.proofs.SlabLemmas.{Contains-entries, length-entries}
use Rattle.gm_model.specs.declared.schema.Schema.{Schema}
use Rattle.gm_model.specs.declared.value.Value.{Value}
use Rattle.gm_arena.specs.declared.slot.Slot.{Slot}
use Rattle.gm_arena.specs.declared.arena.Place.{Place}
use Rattle.gm_arena.specs.inner.ArenaMap.{Dart, IsLiveName}
use Rattle.gm_arena.specs.inner.Inside.{place_names, darts_in, map_of, FitTogether}
use Rattle.gm_arena.proofs.InsideLemmas.{held, some_of}
use Rattle.gm_arena.proofs.Keys.{rising, live}

abbrev Rises : List ℕ → Type 0
Rises ks = (p q : ℕ) → p < q → q < length ks → get_or ks p 0 < get_or ks q 0

ahead : (k : ℕ) (ks : List ℕ) (x : ℕ) → Contains ks x → Contains (k ∷ ks) x
ahead k ks x (j, h, e) = (suc j, omega (arith, h), e)

behind : (y : ℕ) (ys : List ℕ) (x : ℕ) → Contains (y ∷ ys) x → y ≢ x → Contains ys x
behind y ys x (zero, h, e) apart = absurd (apart e)
behind y ys x (suc j, h, e) apart = (j, omega (arith, h), e)

above : (k : ℕ) (ks : List ℕ) → Rises (k ∷ ks) → (x : ℕ) → Contains ks x → k < x
above k ks up x (j, h, e) = (let more = up 0 (suc j) (omega arith) (omega (arith, h)) in omega (arith, more, get_or_default ks j 0 x h, e))

least : (k : ℕ) (ks : List ℕ) → Rises (k ∷ ks) → (x : ℕ) → Contains (k ∷ ks) x → k ≤ x
least k ks up x (zero, h, e) = omega (arith, e)
least k ks up x (suc j, h, e) = (let more = above k ks up x (j, omega (arith, h), e) in omega (arith, more))

lowest : (y : ℕ) (ys : List ℕ) → IsNonDecreasing (y ∷ ys) → (x : ℕ) → Contains (y ∷ ys) x → y ≤ x
lowest y ys sorted x (j, h, e) = (let more = sorted 0 j x (omega arith) h in omega (arith, more, e))

-- a list in order that has each of as many rising numbers has these alone
same_list : (ks ys : List ℕ) → Rises ks → IsNonDecreasing ys → ((x : ℕ) → Contains ks x → Contains ys x) → (length ks ≤ length ys) × (length ys ≤ length ks → ys ≡ ks)
same_list [] [] up sorted has = (omega arith, λ few. refl)
same_list [] (y ∷ ys) up sorted has = (omega arith, λ few. absurd (omega (arith, few)))
same_list (k ∷ ks) [] up sorted has = absurd (let c = has k (0, omega arith, refl) in let none = c.1 in omega (arith, none))
same_list (k ∷ ks) (y ∷ ys) up sorted has =
    let first = lowest y ys sorted k (has k (0, omega arith, refl)) in
    let later : IsNonDecreasing ys = λ i j d less within. sorted (suc i) (suc j) d (omega (arith, less)) (omega (arith, within)) in
    elim (cases_eq k y) [
      | inl same ↦
          let r = same_list ks ys (λ p q less within. up (suc p) (suc q) (omega (arith, less)) (omega (arith, within))) later
          (λ x c. let more = above k ks up x c in behind y ys x (has x (ahead k ks x c)) (λ e. omega (arith, more, same, e))) in
          (let most = r.0 in omega (arith, most), λ few. ap (λ n. n ∷ ys) (sym same) ∙ ap (λ xs. k ∷ xs) (r.1 (omega (arith, few))))
      | inr apart ↦
          let r = same_list (k ∷ ks) ys up later
          (λ x c. let more = least k ks up x c in behind y ys x (has x c) (λ e. apart (omega (arith, more, first, e)))) in
          (let most = r.0 in omega (arith, most), λ few. absurd (let most = r.0 in omega (arith, most, few)))
    ]

-- what two clauses say of a result that is a value
pub of_both : {T E : Type 0} (result : Result T E) (P Q S : T → Type 0) → IfOk result P → IfOk result Q → ((x : T) → P x → Q x → S x) → IfOk result S
of_both (Ok x) P Q S p q both = both x p q
of_both (Err e) P Q S p q both = p

-- the name of a place is among those of all
named : (places : Slab Place) (slot : ℕ) (place : Place) → get places slot ≡ Some place → Contains (place_names places) place.name
named places slot place here =
    let f = λ (e : ℕ × Place). e.1.name in
    let c = (Contains-entries places slot place).1 here in
    (c.0, rw (length-map (entries places) f) c.1, get_or-map f (entries places) c.0 (slot, place) place.name c.1 ∙ ap f c.2)

module _ (schema : Schema) (labels width : ℕ) (places : Slab Place) (neighbours : List Slot) (values : List Value) (table : List ℕ) (next spare bound : ℕ) (sound : FitTogether schema labels width places neighbours values table next spare bound) where
  abbrev darts : map.FinMap nat_cmp Dart
  darts = darts_in labels width places neighbours values table

  live_named : (x : ℕ) → Contains (map.keys darts) x → Contains (place_names places) x
  live_named x c =
      let lives = subst (IsLiveName (map_of schema labels width places neighbours values table next spare bound)) c.2 (live (map_of schema labels width places neighbours values table next spare bound) c.0 x c.1) in
      let dart : (d : Dart) × (map.get darts x ≡ Some d) = some_of _ lives in
      let at = held schema labels width places neighbours values table next spare bound sound x dart.0 dart.1 in
      subst (Contains (place_names places)) at.same (named places at.slot at.place at.here)

  -- the names of all places in order are those of the live darts
  pub names_in_order : (names : List ℕ) → IsPermutation (place_names places) names → IsNonDecreasing names → names ≡ map.keys darts
  names_in_order names moved ascending =
      (same_list (map.keys darts) names (rising (map_of schema labels width places neighbours values table next spare bound)) ascending
      (λ x c. Contains-permutation (place_names places) names x moved (live_named x c))).1
      (omega (arith, length_permutation (place_names places) names moved, length-map (entries places) (λ (e : ℕ × Place). e.1.name), length-entries places, sound.counted, len-entries darts, length-map (map.entries darts) (λ e. e.0)))
