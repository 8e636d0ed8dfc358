-- Rows by their names: which names there are, and how often.
use Rattle.std.proofs.Common.{◌≡◌, ◌≢◌, ℕ, ◌+◌, ◌≤◌, Bool, true, false, cond, eqb, List, [], ◌∷◌, ◌++◌, get_or, Option, Some, None, is_some, inl, inr, refl, sym, ap, ◌∙◌, arith}
use Rattle.std.specs.Option.{option_or, option_map_or}
use Rattle.std.proofs.lemmas.Bool.{cases_Bool, ne_eqb, eq-eqb}
use Rattle.std.proofs.lemmas.List.Folds.{find-append}
use Rattle.std.proofs.lemmas.List.Sums.{sum_by-cons, sum_by-append, sum_by_push}
use Rattle.gm_model.specs.GMap.{Row, row_of, IsLive, alpha}
use Rattle.gm_mapfile.specs.MapFaults.{rows_named, AreNamedOnce}

abbrev pub is_named : ℕ → Row → Bool
is_named d row = eqb row.name d

abbrev pub one_if : ℕ → Row → ℕ
one_if d row = cond (eqb row.name d) 1 0

-- ---- look-ups

found_in : (rows : List Row) (row : Row) (d : ℕ) (o : Option Row) (b : Bool) → row_of rows d ≡ o → eqb row.name d ≡ b → row_of (rows ++ row ∷ []) d ≡ option_or o (cond b (Some row) None)
found_in rows row d o b is test = find-append (is_named d) rows (row ∷ []) ∙ rw (is, test) refl

pub row_of_push_new : (rows : List Row) (row : Row) → row_of rows row.name ≡ None → row_of (rows ++ row ∷ []) row.name ≡ Some row
row_of_push_new rows row none = found_in rows row row.name None true none (eq-eqb row.name row.name refl)

pub row_of_push_other : (rows : List Row) (row : Row) (d : ℕ) → d ≢ row.name → row_of (rows ++ row ∷ []) d ≡ row_of rows d
row_of_push_other rows row d apart = go (row_of rows d) refl
  where
    test : eqb row.name d ≡ false
    test = ne_eqb row.name d (λ e. apart (sym e))

    go : (o : Option Row) → row_of rows d ≡ o → row_of (rows ++ row ∷ []) d ≡ row_of rows d
    go None is = found_in rows row d None false is test ∙ sym is
    go (Some r) is = found_in rows row d (Some r) false is test ∙ sym is

pub live_push : (rows : List Row) (row : Row) → IsLive (rows ++ row ∷ []) row.name
live_push rows row = go (row_of rows row.name) refl
  where
    go : (o : Option Row) → row_of rows row.name ≡ o → IsLive (rows ++ row ∷ []) row.name
    go None is = ap is_some (found_in rows row row.name None true is (eq-eqb row.name row.name refl))
    go (Some r) is = ap is_some (found_in rows row row.name (Some r) true is (eq-eqb row.name row.name refl))

pub none_of : {A : Type 0} (o : Option A) → is_some o ≡ false → o ≡ None
none_of None e = refl
none_of (Some x) e = absurd cc

-- ---- counts

pub named_cons : (row : Row) (rows : List Row) (d : ℕ) → rows_named (row ∷ rows) d ≡ one_if d row + rows_named rows d
named_cons row rows d = sum_by-cons (one_if d) row rows

pub named_append : (rows others : List Row) (d : ℕ) → rows_named (rows ++ others) d ≡ rows_named rows d + rows_named others d
named_append rows others d = sum_by-append (one_if d) rows others

pub named_push_same : (rows : List Row) (row : Row) → rows_named (rows ++ row ∷ []) row.name ≡ rows_named rows row.name + 1
named_push_same rows row = sum_by_push (one_if row.name) rows row ∙ rw (eq-eqb row.name row.name refl) refl

pub named_push_other : (rows : List Row) (row : Row) (d : ℕ) → d ≢ row.name → rows_named (rows ++ row ∷ []) d ≡ rows_named rows d
named_push_other rows row d apart = sum_by_push (one_if d) rows row ∙ rw (ne_eqb row.name d (λ e. apart (sym e))) (omega arith)

pub named_none : (rows : List Row) (d : ℕ) → row_of rows d ≡ None → rows_named rows d ≡ 0
named_none [] d none = refl
named_none (row ∷ rows) d none =
    elim (cases_Bool (eqb row.name d)) [
      | inl here ↦ let found : Some row ≡ None = rw here at none in absurd cc
      | inr other ↦ let rest : row_of rows d ≡ None = rw other at none in let one : one_if d row ≡ 0 = rw other refl in omega (arith, named_cons row rows d, one, named_none rows d rest)
    ]

pub named_some : (rows : List Row) (d : ℕ) → IsLive rows d → 1 ≤ rows_named rows d
named_some [] d live = absurd cc
named_some (row ∷ rows) d live =
    elim (cases_Bool (eqb row.name d)) [
      | inl here ↦ let one : one_if d row ≡ 1 = rw here refl in omega (arith, named_cons row rows d, one)
      | inr other ↦ let rest : IsLive rows d = rw other at live in omega (arith, named_cons row rows d, named_some rows d rest)
    ]

pub none_named : (rows : List Row) (d : ℕ) → rows_named rows d ≡ 0 → row_of rows d ≡ None
none_named rows d empty = go (row_of rows d) refl
  where
    go : (o : Option Row) → row_of rows d ≡ o → row_of rows d ≡ None
    go None is = is
    go (Some r) is = let live : IsLive rows d = rw is refl in absurd (omega (arith, named_some rows d live, empty))

-- in the middle of distinct rows no other has the name
pub none_beside : (front : List Row) (row : Row) (back : List Row) → AreNamedOnce (front ++ row ∷ back) → row_of front row.name ≡ None
none_beside front row back distinct =
    let here : one_if row.name row ≡ 1 = rw (eq-eqb row.name row.name refl) refl in
    none_named front row.name (omega (arith, distinct row.name, named_append front (row ∷ back) row.name, named_cons row back row.name, here))

-- ---- the neighbours of the last row

pub alpha_push_new : (rows : List Row) (row : Row) (i : ℕ) → row_of rows row.name ≡ None → alpha (rows ++ row ∷ []) i row.name ≡ get_or row.alphas i row.name
alpha_push_new rows row i none = ap (λ o. option_map_or (λ (r : Row). get_or r.alphas i row.name) o row.name) (row_of_push_new rows row none)

pub alpha_push_other : (rows : List Row) (row : Row) (i d : ℕ) → d ≢ row.name → alpha (rows ++ row ∷ []) i d ≡ alpha rows i d
alpha_push_other rows row i d apart = ap (λ o. option_map_or (λ (r : Row). get_or r.alphas i d) o d) (row_of_push_other rows row d apart)

-- a row among others is there
pub live_among : (front : List Row) (row : Row) (back : List Row) → IsLive (front ++ row ∷ back) row.name
live_among front row back = go (row_of (front ++ row ∷ back) row.name) refl
  where
    here : one_if row.name row ≡ 1
    here = rw (eq-eqb row.name row.name refl) refl

    go : (o : Option Row) → row_of (front ++ row ∷ back) row.name ≡ o → IsLive (front ++ row ∷ back) row.name
    go None is = absurd (omega (arith, named_none (front ++ row ∷ back) row.name is, named_append front (row ∷ back) row.name, named_cons row back row.name, here))
    go (Some r) is = ap is_some is
