-- What a table of rows has at a node and a label.
use Rattle.std.proofs.Common.{◌≡◌, ◌≢◌, ℕ, zero, suc, ◌+◌, ◌<◌, ◌≤◌, inl, inr, List, [], ◌∷◌, ◌++◌, length, Option, Some, None, get_or, set, refl, ap, sym, subst, ◌∙◌, arith}
use Rattle.std.proofs.Math.Nat.{le_antisymm}
use Rattle.std.proofs.lemmas.Bool.{cases_lt}
use Rattle.std.proofs.lemmas.List.{get_or-set_other, get_or-set_same, get_or_past, length-set, length_push}
use Rattle.std.proofs.lemmas.Option.{get_or_from_slice_get, same_Some, slice_get-get_or, slice_get_within}
use Rattle.std.specs.List.{slice_get}
use Rattle.std.specs.Option.{option_and_then}
use Rattle.gm_model.specs.declared.step.Step.{Step}
use Rattle.gm_model.specs.declared.step.Step.TheVariants.{Absent, Exp}
use Rattle.gm_plan.specs.inner.Plans.{AreRows}
use Rattle.gm_plan.specs.inner.Searches.{row_step}

cell : (rows : List (List Step)) (x i : ℕ) (row : Option (List Step)) (s : Step) → slice_get rows x ≡ row → option_and_then (λ row. slice_get row i) row ≡ Some s → row_step rows x i ≡ s
cell rows x i None s e f = absurd (cc)
cell rows x i (Some row) s e f = rw (get_or_from_slice_get rows x row [] e) (get_or_from_slice_get row i s Absent f)

pub row_step_is : (f : ℕ → ℕ → Step) (count : ℕ) (rows : List (List Step)) → AreRows f count rows → (x i : ℕ) → x < count → i < 8 → row_step rows x i ≡ f x i
row_step_is f count rows are x i h k = cell rows x i (slice_get rows x) (f x i) refl (are.here x i h k)

-- and what a row that was read has at a label
pub read_row : (f : ℕ → ℕ → Step) (count : ℕ) (rows : List (List Step)) → AreRows f count rows → (x i : ℕ) → x < count → i < 8 → (row : List Step) → row ≡ get_or rows x row → get_or row i Absent ≡ f x i
read_row f count rows are x i h k row read = get_or_from_slice_get row i (f x i) Absent (sym (ap (option_and_then (λ (r : List Step). slice_get r i)) at) ∙ are.here x i h k)
  where
    at : slice_get rows x ≡ Some row
    at = slice_get-get_or rows x row (subst (λ n. x < n) (sym are.long) h) ∙ ap Some (sym read)

-- and in whichever way the row was read
pub row_at : (f : ℕ → ℕ → Step) (count : ℕ) (rows : List (List Step)) → AreRows f count rows → (x i : ℕ) → x < count → i < 8 → (default : List Step) → get_or (get_or rows x default) i Absent ≡ f x i
row_at f count rows are x i h k default = read_row f count rows are x i h k (get_or rows x default)
    (sym (get_or_from_slice_get rows x (get_or rows x default) (get_or rows x default) (slice_get-get_or rows x default (subst (λ n. x < n) (sym are.long) h))))

absent_not : (y : ℕ) → Absent ≡ Exp y → ⊥
absent_not y e = cc

-- ---- one row more

pub no_rows : (f : ℕ → ℕ → Step) (rows : List (List Step)) → rows ≡ [] → AreRows f 0 rows
no_rows f rows none = subst (AreRows f 0) (sym none) (record {
  long = refl;
  row_long = λ x row e. absurd (omega (arith, slice_get_within [] x row e));
  here = λ x i h k. absurd (omega (arith, h));
})

-- so many rows as were counted
pub all_rows : (f : ℕ → ℕ → Step) (rows : List (List Step)) (done end count : ℕ) → AreRows f done rows → done ≤ end → end ≤ done → end ≡ count → AreRows f count rows
all_rows f rows done end count are most least e = subst (λ n. AreRows f n rows) (le_antisymm most least ∙ e) are

pub row_old : {X : Type 0} (rows : List X) (row : X) (x : ℕ) → x < length rows → slice_get (rows ++ row ∷ []) x ≡ slice_get rows x
row_old [] row x h = absurd (omega arith)
row_old (r ∷ rows) row zero h = refl
row_old (r ∷ rows) row (suc x) h = row_old rows row x (omega arith)

pub row_new : {X : Type 0} (rows : List X) (row : X) (x : ℕ) → x ≡ length rows → slice_get (rows ++ row ∷ []) x ≡ Some row
row_new [] row zero e = refl
row_new [] row (suc x) e = absurd (omega arith)
row_new (r ∷ rows) row zero e = absurd (omega arith)
row_new (r ∷ rows) row (suc x) e = row_new rows row x (omega arith)

pub row_more : (f : ℕ → ℕ → Step) (count : ℕ) (rows : List (List Step)) (row : List Step) → AreRows f count rows → length row ≡ 8 →
    ((i : ℕ) → i < 8 → slice_get row i ≡ Some (f count i)) → AreRows f (count + 1) (rows ++ row ∷ [])
row_more f count rows row are long here = record {
  long = omega (arith, length_push rows row, are.long);
  row_long = λ x r e. elim (cases_lt x (length rows)) [
    | inl b ↦ are.row_long x r (sym (row_old rows row x b) ∙ e)
    | inr b ↦
        let last : x ≡ length rows = omega (arith, slice_get_within (rows ++ row ∷ []) x r e, length_push rows row) in
        subst (λ l. length l ≡ 8) (same_Some row r (sym (row_new rows row x last) ∙ e)) long
  ];
  here = λ x i b k. elim (cases_lt x (length rows)) [
    | inl c ↦ rw (row_old rows row x c) (are.here x i (omega (arith, are.long)) k)
    | inr c ↦
        let last : x ≡ length rows = omega (arith, are.long) in
        let same : x ≡ count = omega (arith, are.long) in
        rw (row_new rows row x last, same) (here i k)
  ];
}

-- one cell of a row more
pub cell_more : (f : ℕ → Step) (row : List Step) (n : ℕ) (s : Step) → n < length row → s ≡ f n →
    ((i : ℕ) → i < n → slice_get row i ≡ Some (f i)) → (i : ℕ) → i < n + 1 → slice_get (set row n s) i ≡ Some (f i)
cell_more f row n s within is here i b = elim (cases_lt i n) [
  | inl c ↦
      let other : i ≢ n = omega (arith, c) in
      there (get_or-set_other row n i s Absent other ∙ get_or_from_slice_get row i (f i) Absent (here i c))
  | inr c ↦
      let last : i ≡ n = omega (arith, b, c) in
      there (rw last (get_or-set_same row n s Absent within ∙ is))
]
  where
    inside : i < length (set row n s)
    inside = rw length-set (omega (arith, b, within))

    there : get_or (set row n s) i Absent ≡ f i → slice_get (set row n s) i ≡ Some (f i)
    there e = slice_get-get_or (set row n s) i Absent inside ∙ ap Some e

-- ---- link steps

-- a link step stands in a row
pub row_below : (rows : List (List Step)) (x i y : ℕ) → row_step rows x i ≡ Exp y → x < length rows
row_below rows x i y e = elim (cases_lt x (length rows)) [
  | inl b ↦ b
  | inr b ↦ absurd (absent_not y (subst (λ row. get_or row i Absent ≡ Exp y) (get_or_past rows x [] b) e))
]

pub row_step_within : (f : ℕ → ℕ → Step) (count : ℕ) (rows : List (List Step)) → AreRows f count rows → (x i y : ℕ) → row_step rows x i ≡ Exp y → (x < count) × (i < 8)
row_step_within f count rows are x i y e = (subst (λ n. x < n) are.long within, label)
  where
    within : x < length rows
    within = row_below rows x i y e

    label : i < 8
    label = elim (cases_lt i (length (get_or rows x []))) [
      | inl b ↦ subst (λ n. i < n) (are.row_long x (get_or rows x []) (slice_get-get_or rows x [] within)) b
      | inr b ↦ absurd (absent_not y (sym (get_or_past (get_or rows x []) i Absent b) ∙ e))
    ]
