-- What is collected over an orbit, from the walk of its slots.
use Rattle.std.proofs.Common.{◌≡◌, ℕ, ◌+◌, ◌-◌, ◌*◌, ◌<◌, ◌≤◌, ◌⊎◌, ℤ, pos, ◌≤ℤ◌, IsTrue, List, [], ◌∷◌, length, map, All, Contains, Option, Some, get_or, slice_get, refl, sym, ◌∙◌, ap, subst, inl, inr, arith}
use Rattle.std.specs.Int.{int_max, int_min}
use Rattle.std.specs.List.{fold, AllByRecursion}
use Rattle.std.proofs.lemmas.Int.{fold-int_max_bounds, fold-int_max_reached, fold-int_min_bounds, fold-int_min_reached}
use Rattle.std.proofs.lemmas.List.{length-map}
use Rattle.std.proofs.lemmas.Option.{slice_get_within}
use Rattle.std.proofs.lemmas.List.Elements.{recursion_from_All}
use Rattle.gm_model.specs.declared.expr.DartTerm.{DartTerm}
use Rattle.gm_model.specs.declared.value.Kind.{Kind}
use Rattle.gm_model.specs.declared.value.Kind.TheVariants as kinds
use Rattle.gm_model.specs.declared.value.Value.{Value}
use Rattle.gm_model.specs.declared.value.Value.TheVariants as values
use Rattle.gm_model.specs.declared.word.Mask.{Mask}
use Rattle.gm_model.specs.Expressions.{HasValue, IsMade, IsCollected, IsFirstOf, components, dart_at, total}
use Rattle.gm_model.specs.Kinds.{sum_kind}
use Rattle.gm_model.specs.Labels.{has}
use Rattle.gm_model.specs.Orbits.{HasCount, IsWalk}
use Rattle.gm_model.specs.Trees.{Count, Sum, Least, Greatest}
use Rattle.gm_model.specs.Values.{kind_of}
use Rattle.gm_arena.specs.declared.slot.Slot.{Slot}
use Rattle.gm_arena.specs.inner.ArenaAsMap.{value}
use Rattle.gm_arena.specs.inner.ArenaMap.{ArenaMap, IsAt, name_at}
use Rattle.gm_arena.proofs.MapLemmas.{name_at-is}
use Rattle.gm_walk.specs.inner.Walks.{AreLive, along, letters_of, names_of}
use Rattle.gm_theory.proofs.Lists.{none_some, some_same}
use Rattle.gm_theory.proofs.ValuesLists.{IsIn, in_contained, contains_in, one_total}
use Rattle.gm_theory.proofs.ValuesUnique.{one_count}
use Rattle.gm_eval.specs.declared.reader.Reader.{Reader}
use Rattle.gm_eval.specs.inner.Readers.{IsOrbit, reading_of}
use Rattle.gm_eval.specs.inner.Sums.{part, part_at, parts_at, parts_for, sum_of}
use Rattle.gm_eval.proofs.Costs.{walk_within}
use Rattle.gm_eval.proofs.Operated.{Found, found_as}
use Rattle.gm_eval.proofs.OrbitWalks.{walk_lists}
use Rattle.gm_eval.proofs.Sums.{total_is}

-- ---- lists

in_map : {A B : Type 0} (f : A → B) (xs : List A) (x : A) → IsIn x xs → IsIn (f x) (map f xs)
in_map f [] x i = absurd i
in_map f (y ∷ xs) x (inl e) = inl (ap f e)
in_map f (y ∷ xs) x (inr i) = inr (in_map f xs x i)

of_map : {A B : Type 0} (f : A → B) (xs : List A) (y : B) → IsIn y (map f xs) → (x : A) × IsIn x xs × (f x ≡ y)
of_map f [] y i = absurd i
of_map f (x ∷ xs) y (inl e) = (x, inl refl, e)
of_map f (x ∷ xs) y (inr i) = let rest : (z : _) × IsIn z xs × (f z ≡ y) = of_map f xs y i in (rest.0, inr rest.1, rest.2)

pub all_in : {A : Type 0} (P : A → Type 0) (xs : List A) (x : A) → AllByRecursion P xs → IsIn x xs → P x
all_in P [] x all i = absurd i
all_in P (y ∷ xs) x all (inl e) = subst P e all.0
all_in P (y ∷ xs) x all (inr i) = all_in P xs x all.1 i

map_twice : {A B C : Type 0} (g : B → C) (f : A → B) (xs : List A) → map g (map f xs) ≡ map (λ x. g (f x)) xs
map_twice g f [] = refl
map_twice g f (x ∷ xs) = ap (λ ys. g (f x) ∷ ys) (map_twice g f xs)

starts : (f : Slot → ℕ) (xs : List Slot) (none : Slot) (d : ℕ) → slice_get (map f xs) 0 ≡ Some d → f (get_or xs 0 none) ≡ d
starts f [] none d h = none_some d h
starts f (x ∷ xs) none d h = some_same (f x) d h

start_in : (xs : List Slot) (none : Slot) → 1 ≤ length xs → IsIn (get_or xs 0 none) xs
start_in [] none some = absurd (omega arith)
start_in (x ∷ xs) none some = inl refl

-- ---- the orbit of a term's dart

-- a walk's slots are those of the orbit
pub orbit_of : (reader : Reader) (mask : Mask) (term : DartTerm) (from : ℕ) (slots : List Slot) → IsAt reader.arena.now from (dart_at (reading_of reader) term) → ((i : ℕ) → IsTrue (has mask i) → i ≤ 7)
    → IsWalk (along reader.arena.now (letters_of mask)) (length (letters_of mask)) (name_at reader.arena.now from) (names_of reader.arena.now slots) → AreLive reader.arena.now slots → IsOrbit reader mask term slots
orbit_of reader mask term from slots at few walk live =
    let m = reader.arena.now in
    let d = dart_at (reading_of reader) term in
    let walked : IsWalk (along m (letters_of mask)) (length (letters_of mask)) d (names_of m slots) = subst (λ d. IsWalk (along m (letters_of mask)) (length (letters_of mask)) d (names_of m slots)) (name_at-is m from d at) walk in
    record { listed = walk_lists m mask few d (names_of m slots) walked; first = walked.starts; live = live }

module _ (reader : Reader) (mask : Mask) (term : DartTerm) (slots : List Slot) (orbit : IsOrbit reader mask term slots) where
  abbrev m : ArenaMap
  m = reader.arena.now

  abbrev Collected : ℕ → Type 0
  Collected = IsCollected (reading_of reader) mask term

  abbrev name_of : Slot → ℕ
  name_of s = name_at m s.at

  abbrev first : Slot
  first = get_or slots 0 (record { at = 0 })

  pub some_slot : 1 ≤ length slots
  some_slot = let some : 0 < length (names_of m slots) = slice_get_within (names_of m slots) 0 (dart_at (reading_of reader) term) orbit.first in omega (arith, some, length-map slots name_of)

  first_in : IsIn first slots
  first_in = start_in slots (record { at = 0 }) some_slot

  first_is : name_of first ≡ dart_at (reading_of reader) term
  first_is = starts name_of slots (record { at = 0 }) (dart_at (reading_of reader) term) orbit.first

  counted : HasCount Collected (length slots)
  counted = (names_of m slots, orbit.listed, length-map slots name_of)

  pub collected : (s : Slot) → IsIn s slots → Collected (name_of s)
  collected s i = (orbit.listed.same (name_of s)).0 (contains_in (names_of m slots) (name_of s) (in_map name_of slots s i))

  pub slot_in : (d : ℕ) → Collected d → (s : Slot) × IsIn s slots × (name_of s ≡ d)
  slot_in d c = of_map name_of slots d (in_contained (names_of m slots) d ((orbit.listed.same d).1 c))

  -- ---- units

  pub within : (old new : ℕ) → new ≤ old + length term.path + 4 * (m.schema.dim + 1) * length slots + length slots + 1 → (u : ℕ) → (count : ℕ) × HasCount Collected count × (u ≡ length term.path + count) → new ≤ old + 6 * (m.schema.dim + 1) * u
  within old new few u (count, c, e) =
      let same : count ≡ length slots = one_count Collected count (length slots) c counted in
      let units : u ≡ length term.path + length slots = omega (arith, e, same) in
      let bound : new - old ≤ 6 * (m.schema.dim + 1) * (length term.path + length slots) = walk_within m.schema.dim (length term.path) (length slots) (new - old) some_slot (omega (arith, few)) in
      subst (λ v. new ≤ old + 6 * (m.schema.dim + 1) * v) (sym units) (omega (arith, bound))

  -- ---- their number

  pub count_found : (n : ℤ) (o : Option Value) → n ≡ pos (length slots) → Found (IsMade kinds.Int (n ∷ [])) o → Found (HasValue (reading_of reader) (Count mask term)) o
  count_found n o e h = found_as (IsMade kinds.Int (n ∷ [])) (HasValue (reading_of reader) (Count mask term)) o
      (λ v made. (length slots, counted, subst (λ x. IsMade kinds.Int (x ∷ []) v) e made)) back h
    where
      back : (v : Value) → HasValue (reading_of reader) (Count mask term) v → IsMade kinds.Int (n ∷ []) v
      back v (count, c, made) = subst (λ x. IsMade kinds.Int (x ∷ []) v) (ap pos (one_count Collected count (length slots) c counted) ∙ sym e) made

  -- ---- their values

  module _ (e : ℕ) (kind : Kind) (typed : (s : Slot) → IsIn s slots → kind_of (value m e (name_of s)) ≡ kind) where
    all_typed : (xs : List Slot) → ((s : Slot) → IsIn s xs → IsIn s slots) → AllByRecursion (λ s. kind_of (value m e (name_of s)) ≡ kind) xs
    all_typed [] h = tt
    all_typed (s ∷ xs) h = (typed s (h s (inl refl)), all_typed xs (λ t i. h t (inr i)))

    total_at : (xs : List Slot) → 1 ≤ length xs → ((s : Slot) → IsIn s xs → IsIn s slots) → total (map (λ s. components (value m e (name_of s))) xs) ≡ parts_for kind (sum_of (parts_at m e 0 xs)) (sum_of (parts_at m e 1 xs)) (sum_of (parts_at m e 2 xs))
    total_at [] some h = absurd (omega arith)
    total_at (s ∷ xs) some h = total_is (λ (t : Slot). value m e (name_of t)) kind s xs (all_typed (s ∷ xs) h)

    total_here : total (map (λ d. components (value m e d)) (names_of m slots)) ≡ parts_for kind (sum_of (parts_at m e 0 slots)) (sum_of (parts_at m e 1 slots)) (sum_of (parts_at m e 2 slots))
    total_here = ap total (map_twice (λ d. components (value m e d)) name_of slots) ∙ total_at slots some_slot (λ s i. i)

    own : kind_of (value m e (dart_at (reading_of reader) term)) ≡ kind
    own = subst (λ d. kind_of (value m e d) ≡ kind) first_is (typed first first_in)

    pub sum_found : (sum : Kind) (x y z : ℤ) (o : Option Value) → sum_kind kind ≡ Some sum → x ≡ sum_of (parts_at m e 0 slots) → y ≡ sum_of (parts_at m e 1 slots) → z ≡ sum_of (parts_at m e 2 slots)
        → Found (IsMade sum (parts_for kind x y z)) o → Found (HasValue (reading_of reader) (Sum mask term e)) o
    sum_found sum x y z o f ex ey ez h = found_as (IsMade sum (parts_for kind x y z)) (HasValue (reading_of reader) (Sum mask term e)) o there back h
      where
        parts_are : parts_for kind x y z ≡ total (map (λ d. components (value m e d)) (names_of m slots))
        parts_are = (λ i. parts_for kind (ex i) (ey i) (ez i)) ∙ sym total_here

        there : (v : Value) → IsMade sum (parts_for kind x y z) v → HasValue (reading_of reader) (Sum mask term e) v
        there v made = (names_of m slots, orbit.listed, sum, ap sum_kind own ∙ f, subst (λ parts. IsMade sum parts v) parts_are made)

        back : (v : Value) → HasValue (reading_of reader) (Sum mask term e) v → IsMade sum (parts_for kind x y z) v
        back v (darts, l, k, g, made) =
            subst (λ parts. IsMade sum parts v) (sym parts_are)
            (subst (λ parts. IsMade sum parts v) (one_total (λ d. components (value m e d)) Collected darts (names_of m slots) l orbit.listed).1
            (subst (λ j. IsMade j (total (map (λ d. components (value m e d)) darts)) v) (some_same k sum (sym g ∙ ap sum_kind own ∙ f)) made))

  -- ---- their least and greatest number

  module _ (e : ℕ) (typed : (s : Slot) → IsIn s slots → kind_of (value m e (name_of s)) ≡ kinds.Int) where
    number_of : (v : Value) → kind_of v ≡ kinds.Int → v ≡ values.Int (part 0 v)
    number_of (values.Int x) h = refl
    number_of v h = absurd (cc)

    -- a number among theirs that goes before each
    first_of : (before : ℤ → ℤ → Type 0) (r : ℤ) → (r ≡ part_at m e 0 first) ⊎ Contains (parts_at m e 0 slots) r → All (before r) (parts_at m e 0 slots) → IsFirstOf (reading_of reader) before mask term e (values.Int r)
    first_of before r reached bounds = (r, refl, there reached, all)
      where
        there : (r ≡ part_at m e 0 first) ⊎ Contains (parts_at m e 0 slots) r → (d : ℕ) × Collected d × (value m e d ≡ values.Int r)
        there (inl h) = (name_of first, collected first first_in, number_of (value m e (name_of first)) (typed first first_in) ∙ ap values.Int (sym h))
        there (inr c) = go (of_map (part_at m e 0) slots r (in_contained (parts_at m e 0 slots) r c))
          where
            go : (s : Slot) × IsIn s slots × (part_at m e 0 s ≡ r) → (d : ℕ) × Collected d × (value m e d ≡ values.Int r)
            go (s, i, h) = (name_of s, collected s i, number_of (value m e (name_of s)) (typed s i) ∙ ap values.Int h)

        all : (d : ℕ) (y : ℤ) → Collected d → value m e d ≡ values.Int y → before r y
        all d y c h = go (slot_in d c)
          where
            go : (s : Slot) × IsIn s slots × (name_of s ≡ d) → before r y
            go (s, i, n) = subst (before r) (ap (λ v. part 0 v) (ap (value m e) n ∙ h)) (all_in (before r) (parts_at m e 0 slots) (part_at m e 0 s) (recursion_from_All (before r) (parts_at m e 0 slots) bounds) (in_map (part_at m e 0) slots s i))

    pub least_found : (r : ℤ) → r ≡ fold int_min (part_at m e 0 first) (parts_at m e 0 slots) → HasValue (reading_of reader) (Least mask term e) (values.Int r)
    least_found r h = first_of ◌≤ℤ◌ r (fold-int_min_reached (part_at m e 0 first) (parts_at m e 0 slots) r h) (fold-int_min_bounds (part_at m e 0 first) (parts_at m e 0 slots) r h).1

    pub greatest_found : (r : ℤ) → r ≡ fold int_max (part_at m e 0 first) (parts_at m e 0 slots) → HasValue (reading_of reader) (Greatest mask term e) (values.Int r)
    greatest_found r h = first_of (λ x y. y ≤ℤ x) r (fold-int_max_reached (part_at m e 0 first) (parts_at m e 0 slots) r h) (fold-int_max_bounds (part_at m e 0 first) (parts_at m e 0 slots) r h).1
