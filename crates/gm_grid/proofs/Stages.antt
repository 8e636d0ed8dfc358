-- One dart more of a grid, added or linked.
use Rattle.std.proofs.Common.{◌≡◌, ◌≢◌, ℕ, zero, suc, ◌+◌, ◌*◌, ◌/◌, ◌%◌, ◌<◌, ◌≤◌, List, [], ◌∷◌, Option, None, Some, MatchOption, is_some, inl, inr, sym, ap, ap₂, subst, ◌∙◌, arith}
use Rattle.std.specs.Option.{option_map}
use Rattle.std.specs.Ordering.{nat_cmp}
use Rattle.std.specs.FinMap.{get, get-empty}
use Rattle.std.proofs.lemmas.Bool.{cases_eq, cases_lt}
use Rattle.std.proofs.lemmas.Nat.{div-add-mod', div_below, mod_below}
use Rattle.gm_model.specs.declared.schema.Schema.{Schema}
use Rattle.gm_model.specs.declared.value.Value.{Value}
use Rattle.gm_arena.specs.declared.slot.Slot.{Slot}
use Rattle.gm_arena.specs.inner.ArenaMap.{ArenaMap, Dart, IsAt, IsLiveName}
use Rattle.gm_arena.specs.inner.Edits.{empty_map, with_dart, with_alpha, free_dart, turned}
use Rattle.gm_arena.proofs.InsideLemmas.{some_of}
use Rattle.gm_arena.proofs.MapLemmas.{get-with_dart_same, get-with_dart_other, get-with_alpha_same, get-with_alpha_other}
use Rattle.gm_grid.specs.GridMap.{dart, grid_schema, dart_count}
use Rattle.gm_grid.specs.inner.Building.{neighbour_of, point_of, free_of, linked_of, AreAdded, AreLinked}

-- ---- adding

-- room for all darts, and none of them
pub none_added : (m : ℕ) (schema : Schema) (empty reserved : ArenaMap) → schema ≡ grid_schema → empty ≡ empty_map schema → dart_count m ≤ reserved.spare → dart_count m ≤ reserved.reserved
    → reserved ≡ record empty { spare = reserved.spare; reserved = reserved.reserved } → AreAdded m 0 reserved
none_added m schema empty reserved schema_is empty_is room names is = record {
  schema_is = ap (λ (x : ArenaMap). x.schema) is ∙ (ap (λ (x : ArenaMap). x.schema) empty_is ∙ schema_is);
  added = λ d low. absurd (omega (arith, low));
  none = λ d high. ap (λ (x : ArenaMap). get x.darts d) is ∙ (ap (λ (x : ArenaMap). get x.darts d) empty_is ∙ get-empty nat_cmp d);
  next_is = ap (λ (x : ArenaMap). x.next) is ∙ ap (λ (x : ArenaMap). x.next) empty_is;
  spare = omega (arith, room);
  reserved = names;
}

pub added_more : (m d slot : ℕ) (values : List Value) (a after : ArenaMap) → AreAdded m d a → d < dart_count m → values ≡ point_of m d ∷ [] → after ≡ with_dart a slot d values → AreAdded m (d + 1) after
added_more m d slot values a after before below values_are is = record {
  schema_is = ap (λ (x : ArenaMap). x.schema) is ∙ before.schema_is;
  added = λ e low. elim (cases_eq e d) [
    | inl same ↦ subst (λ x. get after.darts x ≡ Some (free_of m x)) (sym same)
        (ap (λ (x : ArenaMap). get x.darts d) is ∙ (get-with_dart_same a slot d values ∙ ap₂ (λ n v. Some (free_dart n d v)) (ap (λ (s : Schema). s.dim) before.schema_is) values_are))
    | inr apart ↦ ap (λ (x : ArenaMap). get x.darts e) is ∙ (get-with_dart_other a slot d values e apart ∙ before.added e (omega (arith, low, apart)))
  ];
  none = λ e high. ap (λ (x : ArenaMap). get x.darts e) is ∙ (get-with_dart_other a slot d values e (λ same. absurd (omega (arith, high, same))) ∙ before.none e (omega (arith, high)));
  next_is = ap (λ (x : ArenaMap). x.next) is ∙ omega (arith, before.next_is);
  spare = rw is (omega (arith, before.spare, below));
  reserved = rw is before.reserved;
}

-- ---- linking

pub live_of : (m upto : ℕ) (a : ArenaMap) → AreLinked m upto a → (d : ℕ) → d < dart_count m → IsLiveName a d
live_of m upto a state d below = elim (cases_lt d upto) [
  | inl low ↦ ap is_some (state.linked d low)
  | inr high ↦ ap is_some (state.free d high below)
]

pub live_turned : (a : ArenaMap) (d label to e : ℕ) → IsLiveName a e → IsLiveName (with_alpha a d label to) e
live_turned a d label to e live = elim (cases_eq e d) [
  | inl same ↦
      let was = some_of (get a.darts d) (subst (IsLiveName a) same live) in
      subst (IsLiveName (with_alpha a d label to)) (sym same) (ap is_some (get-with_alpha_same a d label to ∙ ap (option_map (λ dart. turned dart label to)) was.1))
  | inr apart ↦ ap is_some (get-with_alpha_other a d label to e apart) ∙ live
]

-- the dart whose slot was found is at it
pub at_slot : (a : ArenaMap) (d : ℕ) (found : Option Slot) (slot : Slot) → found ≡ Some slot → MatchOption found (get a.darts d ≡ None) (λ s. IsAt a s.at d) → IsAt a slot.at d
at_slot a d found slot is at = subst (λ o. MatchOption o (get a.darts d ≡ None) (λ (s : Slot). IsAt a s.at d)) is at

pub at_turned : (a after : ArenaMap) (d label to slot e : ℕ) → after ≡ with_alpha a d label to → IsAt a slot e → IsAt after slot e
at_turned a after d label to slot e is at = subst (λ (m : ArenaMap). IsAt m slot e) (sym is) at

module _ (m d : ℕ) (a one two three : ArenaMap) (along around across : ℕ)
    (first : one ≡ with_alpha a d 0 along) (second : two ≡ with_alpha one d 1 around) (third : three ≡ with_alpha two d 2 across) where
  other : (e : ℕ) → e ≢ d → get three.darts e ≡ get a.darts e
  other e apart =
      (ap (λ (x : ArenaMap). get x.darts e) third ∙ get-with_alpha_other two d 2 across e apart)
      ∙ ((ap (λ (x : ArenaMap). get x.darts e) second ∙ get-with_alpha_other one d 1 around e apart)
      ∙ (ap (λ (x : ArenaMap). get x.darts e) first ∙ get-with_alpha_other a d 0 along e apart))

  turned_once : (dart : Dart) → get a.darts d ≡ Some dart → get one.darts d ≡ Some (turned dart 0 along)
  turned_once dart is = ap (λ (x : ArenaMap). get x.darts d) first ∙ (get-with_alpha_same a d 0 along ∙ ap (option_map (λ dart. turned dart 0 along)) is)

  turned_twice : (dart : Dart) → get one.darts d ≡ Some dart → get two.darts d ≡ Some (turned dart 1 around)
  turned_twice dart is = ap (λ (x : ArenaMap). get x.darts d) second ∙ (get-with_alpha_same one d 1 around ∙ ap (option_map (λ dart. turned dart 1 around)) is)

  turned_thrice : (dart : Dart) → get two.darts d ≡ Some dart → get three.darts d ≡ Some (turned dart 2 across)
  turned_thrice dart is = ap (λ (x : ArenaMap). get x.darts d) third ∙ (get-with_alpha_same two d 2 across ∙ ap (option_map (λ dart. turned dart 2 across)) is)

  pub linked_more : AreLinked m d a → d < dart_count m → along ≡ neighbour_of m 0 d → around ≡ neighbour_of m 1 d → across ≡ neighbour_of m 2 d → AreLinked m (d + 1) three
  linked_more before below along_is around_is across_is = record {
    schema_is = ap (λ (x : ArenaMap). x.schema) third ∙ (ap (λ (x : ArenaMap). x.schema) second ∙ (ap (λ (x : ArenaMap). x.schema) first ∙ before.schema_is));
    linked = λ e low. elim (cases_eq e d) [
      | inl same ↦ subst (λ x. get three.darts x ≡ Some (linked_of m x)) (sym same)
          (turned_thrice _ (turned_twice _ (turned_once _ (before.free d (omega arith) below)))
          ∙ λ i. Some (record { alphas = along_is i ∷ around_is i ∷ across_is i ∷ []; values = point_of m d ∷ [] }))
      | inr apart ↦ other e apart ∙ before.linked e (omega (arith, low, apart))
    ];
    free = λ e high low. other e (λ same. absurd (omega (arith, high, same))) ∙ before.free e (omega (arith, high)) low;
    none = λ e high. other e (λ same. absurd (omega (arith, high, same, below))) ∙ before.none e high;
    next_is = ap (λ (x : ArenaMap). x.next) third ∙ (ap (λ (x : ArenaMap). x.next) second ∙ (ap (λ (x : ArenaMap). x.next) first ∙ before.next_is));
  }

-- ---- the row and the column of a square

any_square : (m square : ℕ) → square < m * m → 0 < m
any_square zero square below = absurd (omega (arith, below))
any_square (suc m) square below = omega arith

pub in_grid : (m square : ℕ) → square < m * m → (square / m < m) × (square % m < m)
in_grid m square below = let some = any_square m square below in (div_below square m m some below, mod_below square m some)

pub dart_of_square : (m square number d : ℕ) → d ≡ 8 * square + number → dart m (square / m) (square % m) number ≡ d
dart_of_square m square number d is = omega (arith, is, div-add-mod' square m)
