-- One dart more: what the arena then has of the rows, and which names are had twice.
use Rattle.std.proofs.Common.{◌≡◌, ℕ, ◌+◌, ◌<◌, ◌≤◌, min, true, false, List, [], ◌∷◌, ◌++◌, length, Option, Some, None, is_some, ◌⊎◌, inl, inr, refl, sym, ap, subst, ◌∙◌, arith}
use Rattle.std.specs.Prelude.{MatchOption, OnSome}
use Rattle.std.specs.FinMap.{get}
use Rattle.std.proofs.lemmas.Bool.{cases_eq, cases_lt}
use Rattle.std.proofs.lemmas.List.{length_push, length-replicate}
use Rattle.gm_model.specs.declared.value.Value.{Value}
use Rattle.gm_model.specs.GMap.{Row, row_of, IsLive}
use Rattle.gm_mapfile.specs.MapFaults.{rows_named, AreNamedOnce, IsLeastTwice}
use Rattle.gm_arena.specs.inner.ArenaMap.{ArenaMap, Dart, IsLiveName}
use Rattle.gm_arena.specs.inner.Edits.{with_dart, free_dart}
use Rattle.gm_arena.proofs.MapLemmas.{get-with_dart_same, get-with_dart_other, IsAt-with_dart_same, slots-with_dart_other}
use Rattle.gm_mapfile.specs.inner.Building.{IsFresh, IsNextLeast, IsTwice, AreAdded}
use Rattle.gm_mapfile.proofs.Named.{none_of, row_of_push_other, live_push, named_push_same, named_push_other, named_none, named_some}

same_some : {A : Type 0} (x y : A) → Some x ≡ Some y → x ≡ y
same_some x y e = cc e

-- before the first
pub none_added : (n : ℕ) (m : ArenaMap) → IsFresh m → AreAdded n [] m None
none_added n m fresh = record {
  live = λ d. rw (fresh.none d) refl;
  slots = λ slot name at. let none : None ≡ Some name = sym (fresh.no_slots slot) ∙ at in absurd cc;
  whole = λ d dart is. let none : None ≡ Some dart = sym (fresh.none d) ∙ is in absurd cc;
  twice = (λ d. omega arith, fresh.count);
}

pub none_next : (m : ArenaMap) → IsFresh m → IsNextLeast m
none_next m fresh = record {
  above = λ name live. let none : false ≡ true = rw (fresh.none name) at live in absurd cc;
  least = λ bound all. omega (arith, fresh.next);
}

-- ---- names

-- a name that is new
distinct_more : (rows : List Row) (row : Row) → row_of rows row.name ≡ None → AreNamedOnce rows → AreNamedOnce (rows ++ row ∷ [])
distinct_more rows row none distinct d =
    elim (cases_eq d row.name) [
      | inl e ↦ rw e (omega (arith, named_push_same rows row, named_none rows row.name none))
      | inr apart ↦ omega (arith, named_push_other rows row d apart, distinct d)
    ]

least_more : (rows : List Row) (row : Row) (t : ℕ) → row_of rows row.name ≡ None → IsLeastTwice rows t → IsLeastTwice (rows ++ row ∷ []) t
least_more rows row t none least = record {
  twice = elim (cases_eq t row.name) [
    | inl e ↦ absurd (let some : 1 < rows_named rows row.name = subst (λ d. 1 < rows_named rows d) e least.twice in omega (arith, named_none rows row.name none))
    | inr apart ↦ omega (arith, named_push_other rows row t apart, least.twice)
  ];
  least = λ e lt. elim (cases_eq e row.name) [
    | inl same ↦ rw same (omega (arith, named_push_same rows row, named_none rows row.name none))
    | inr apart ↦ omega (arith, named_push_other rows row e apart, least.least e lt)
  ];
}

-- a name that some row has already
pub least_again : (rows : List Row) (row : Row) (t : ℕ) → IsLive rows row.name → (t ≡ row.name) ⊎ (1 < rows_named rows t) → t ≤ row.name → ((e : ℕ) → e < t → rows_named rows e ≤ 1) → IsLeastTwice (rows ++ row ∷ []) t
least_again rows row t live which below least = record {
  twice = elim (cases_eq t row.name) [
    | inl e ↦ rw e (omega (arith, named_push_same rows row, named_some rows row.name live))
    | inr apart ↦ elim which [
      | inl e ↦ absurd (apart e)
      | inr twice ↦ omega (arith, named_push_other rows row t apart, twice)
    ]
  ];
  least = λ e lt. omega (arith, named_push_other rows row e (λ same. omega (arith, same, lt, below)), least e lt);
}

pub twice_again : (m : ArenaMap) (rows : List Row) (row : Row) (found : Option ℕ) (t : ℕ) → IsLive rows row.name → IsTwice m rows found → MatchOption found (t ≡ row.name) (λ least. t ≡ min least row.name) → IsLeastTwice (rows ++ row ∷ []) t
twice_again m rows row None t live twice is = least_again rows row t live (inl is) (omega (arith, is)) (λ e lt. twice.0 e)
twice_again m rows row (Some least) t live twice is =
    elim (cases_lt least row.name) [
      | inl lt ↦ let low : t ≡ least = omega (arith, is, lt) in
          least_again rows row t live (inr (rw low twice.twice)) (omega (arith, low, lt)) (λ e below. twice.least e (omega (arith, low, below)))
      | inr ge ↦ let high : t ≡ row.name = omega (arith, is, ge) in
          least_again rows row t live (inl high) (omega (arith, high)) (λ e below. twice.least e (omega (arith, high, below, ge)))
    ]

-- ---- the arena

module _ (m : ArenaMap) (slot name : ℕ) (values : List Value) where
  live_is : (d : ℕ) → IsLiveName (with_dart m slot name values) d → (d ≡ name) ⊎ IsLiveName m d
  live_is d live = elim (cases_eq d name) [
    | inl e ↦ inl e
    | inr apart ↦ inr (sym (ap is_some (get-with_dart_other m slot name values d apart)) ∙ live)
  ]

  live_was : (d : ℕ) → IsLiveName m d → IsLiveName (with_dart m slot name values) d
  live_was d live = elim (cases_eq d name) [
    | inl e ↦ rw e (ap is_some (get-with_dart_same m slot name values))
    | inr apart ↦ ap is_some (get-with_dart_other m slot name values d apart) ∙ live
  ]

  pub next_more : IsNextLeast m → IsNextLeast (with_dart m slot name values)
  next_more next = record {
    above = λ d live. elim (live_is d live) [
      | inl e ↦ omega (arith, e)
      | inr was ↦ omega (arith, next.above d was)
    ];
    least = λ bound all.
        let old : m.next ≤ bound = next.least bound (λ d live. all d (live_was d live)) in
        let new : name < bound = all name (ap is_some (get-with_dart_same m slot name values)) in
        omega arith;
  }

module _ (n : ℕ) (rows : List Row) (row : Row) (m : ArenaMap) (found : Option ℕ) (added : AreAdded n rows m found) where
  -- where the name is there already, nothing is added
  pub added_again : (t : ℕ) → is_some (get m.darts row.name) ≡ true → MatchOption found (t ≡ row.name) (λ least. t ≡ min least row.name) → AreAdded n (rows ++ row ∷ []) m (Some t)
  added_again t there is =
      let live : IsLive rows row.name = sym (added.live row.name) ∙ there in
      record {
        live = λ d. elim (cases_eq d row.name) [
          | inl e ↦ rw e (there ∙ sym (live_push rows row))
          | inr apart ↦ added.live d ∙ sym (ap is_some (row_of_push_other rows row d apart))
        ];
        slots = added.slots;
        whole = added.whole;
        twice = twice_again m rows row found t live added.twice is;
      }

  module _ (slot : ℕ) (values : List Value) (dim : m.schema.dim ≡ n) where
    none : get m.darts row.name ≡ None → row_of rows row.name ≡ None
    none new_name = none_of _ (sym (added.live row.name) ∙ ap is_some new_name)

    twice_more : row_of rows row.name ≡ None → (o : Option ℕ) → IsTwice m rows o → IsTwice (with_dart m slot row.name values) (rows ++ row ∷ []) o
    twice_more none None twice = (distinct_more rows row none twice.0, omega (arith, twice.1, length_push rows row))
    twice_more none (Some t) twice = least_more rows row t none twice

    pub added_more : get m.darts row.name ≡ None → AreAdded n (rows ++ row ∷ []) (with_dart m slot row.name values) found
    added_more new_name = record {
      live = λ d. elim (cases_eq d row.name) [
        | inl e ↦ rw e (ap is_some (get-with_dart_same m slot row.name values) ∙ sym (live_push rows row))
        | inr apart ↦ ap is_some (get-with_dart_other m slot row.name values d apart) ∙ (added.live d ∙ sym (ap is_some (row_of_push_other rows row d apart)))
      ];
      slots = λ s name at. elim (cases_eq s slot) [
        | inl e ↦
            let here : get (with_dart m slot row.name values).slots slot ≡ Some name = subst (λ x. get (with_dart m slot row.name values).slots x ≡ Some name) e at in
            let same : row.name ≡ name = same_some _ _ (sym (IsAt-with_dart_same m slot row.name values) ∙ here) in
            subst (IsLiveName (with_dart m slot row.name values)) same (ap is_some (get-with_dart_same m slot row.name values))
        | inr apart ↦ live_was m slot row.name values name (added.slots s name (sym (slots-with_dart_other m slot row.name values s apart) ∙ at))
      ];
      whole = λ d dart is. elim (cases_eq d row.name) [
        | inl e ↦
            let here : get (with_dart m slot row.name values).darts row.name ≡ Some dart = subst (λ x. get (with_dart m slot row.name values).darts x ≡ Some dart) e is in
            let free : free_dart m.schema.dim row.name values ≡ dart = same_some _ _ (sym (get-with_dart_same m slot row.name values) ∙ here) in
            ap (λ (x : Dart). length x.alphas) (sym free) ∙ (length-replicate (m.schema.dim + 1) row.name ∙ ap (λ k. k + 1) dim)
        | inr apart ↦ added.whole d dart (sym (get-with_dart_other m slot row.name values d apart) ∙ is)
      ];
      twice = twice_more (none new_name) found added.twice;
    }

-- ---- what a look-up by name answers

module _ {A : Type 0} (P : Type 0) (Q : A → Type 0) where
  pub answered_none : (o : Option A) → MatchOption o P Q → is_some o ≡ false → P
  answered_none None given none = given
  answered_none (Some x) given none = absurd cc

  pub answered_some : (o : Option A) → MatchOption o P Q → is_some o ≡ true → (x : A) × Q x
  answered_some None given some = absurd cc
  answered_some (Some x) given some = (x, given)

pub answered_on : {A : Type 0} (P : Type 0) (o : Option A) → OnSome o P → is_some o ≡ true → P
answered_on P None given some = absurd cc
answered_on P (Some x) given some = given
