-- The rows of numbers, line by line, and the darts of numbers and values.
use Rattle.std.proofs.Common.{◌≡◌, ℕ, zero, suc, ◌+◌, ◌*◌, ◌/◌, ◌<◌, ◌≤◌, Fits, w64, eqb, inl, inr, List, [], ◌∷◌, ◌++◌, length, map, take, drop, get_or, slice_get, Some, All, refl, sym, ap, ap₂, subst, ◌∙◌, arith}
use Rattle.std.proofs.Math.Nat.{div-eq_of_lt, div-mul-le_self}
use Rattle.std.specs.List.{AllByRecursion}
use Rattle.std.proofs.lemmas.Bool.{cases_Bool, eqb-true}
use Rattle.std.proofs.lemmas.Nat.{mul-le}
use Rattle.std.proofs.lemmas.List.{length-map, length-append, take_at, drop_at, get_or-take, get_or-drop, append_assoc, append-nil}
use Rattle.std.proofs.lemmas.List.Elements.{All-get_or}
use Rattle.std.proofs.lemmas.Option.{slice_get-map}
use Rattle.std.specs.Option.{option_map}
use Rattle.gm_model.specs.declared.schema.Embed.{Embed}
use Rattle.gm_model.specs.declared.schema.Schema.{Schema}
use Rattle.gm_model.specs.declared.value.Value.{Value}
use Rattle.gm_model.specs.GMap.{Row, IsLive}
use Rattle.gm_model.specs.Values.{kind_of}
use Rattle.gm_arena.specs.inner.Parts.{part_of}
use Rattle.gm_arena.proofs.PartLemmas.{parts_more, drop_one_more}
use Rattle.gm_mapfile.specs.MapFaults.{AreBelow}
use Rattle.gm_mapfile.specs.MapText.{DartRow, bare, rows_of}
use Rattle.gm_mapfile.specs.MapReading.{AreOfKinds, IsWhole}
use Rattle.gm_mapfile.specs.inner.Draft.{line_in, numbers_of, values_of_darts}
use Rattle.gm_mapfile.specs.inner.Ordering.{counted_from}
use Rattle.gm_mapfile.specs.inner.Rows.{row_in, rows_from, rows_in, valued, darts_from, darts_in}
use Rattle.gm_mapfile.proofs.Named.{live_among}

-- each dart has so many neighbours
abbrev pub AreLong : ℕ → List DartRow → Type 0
AreLong n darts = AllByRecursion (λ (dart : DartRow). length dart.alphas ≡ n + 1) darts

-- how many whole lines there are
pub lines_cut : (n : ℕ) (all line rest : List ℕ) → all ≡ line ++ rest → length line ≡ n + 2 → length all / (n + 2) ≡ length rest / (n + 2) + 1
lines_cut n all line rest cut long = ap (λ xs. length xs / (n + 2)) cut ∙ (parts_more (n + 2) line rest (omega arith) long ∙ omega arith)

-- so there are fewer behind one
pub fewer_lines : (n size behind : ℕ) (all line rest : List ℕ) → behind ≡ size → size ≡ n + 2 → all ≡ line ++ rest → length line ≡ size → suc (length rest / behind) ≤ length all / size
fewer_lines n size behind all line rest same wide cut long = rw (same, wide) (omega (arith, lines_cut n all line rest cut (long ∙ wide)))

-- the width of a line, by a dimension that is read from a byte
pub byte_fits : (n : ℕ) → n < 256 → Fits w64 n
byte_fits n low = omega (arith, low)

pub width_fits : (n : ℕ) → n < 256 → Fits w64 (n + 2)
width_fits n low = omega (arith, low)

pub width_some : (n : ℕ) → 0 < n + 2
width_some n = omega arith

pub lines_none : (n : ℕ) (rest : List ℕ) → length rest < n + 2 → length rest / (n + 2) ≡ 0
lines_none n rest short = div-eq_of_lt {n = length rest} {m = n + 2} short

-- one line and the rows of the rest
pub rows_line : (n : ℕ) (line rest : List ℕ) → length line ≡ n + 2 → rows_in n (line ++ rest) ≡ row_in line ∷ rows_in n rest
rows_line n line rest long =
    ap (λ k. rows_from n k (line ++ rest)) (parts_more (n + 2) line rest (omega arith) long)
    ∙ ap₂ (λ l r. row_in l ∷ rows_from n (length rest / (n + 2)) r) (take_at line rest (n + 2) long) (drop_at line rest (n + 2) long)

pub rows_end : (n : ℕ) (rest : List ℕ) → length rest < n + 2 → rows_in n rest ≡ []
rows_end n rest short = ap (λ k. rows_from n k rest) (lines_none n rest short)

-- rows are those of their lines
pub rows_of_lines : (n : ℕ) (darts : List DartRow) → AreLong n darts → rows_in n (numbers_of darts) ≡ rows_of darts
rows_of_lines n [] long = rows_end n [] (omega arith)
rows_of_lines n (dart ∷ darts) long =
    let alphas : length dart.alphas ≡ n + 1 = long.0 in
    rows_line n (line_in dart) (numbers_of darts) (omega (arith, alphas)) ∙ ap (λ rows. bare dart ∷ rows) (rows_of_lines n darts long.1)

pub lines_of_rows : (n : ℕ) (darts : List DartRow) → AreLong n darts → length (numbers_of darts) / (n + 2) ≡ length darts
lines_of_rows n [] long = lines_none n [] (omega arith)
lines_of_rows n (dart ∷ darts) long =
    let alphas : length dart.alphas ≡ n + 1 = long.0 in
    parts_more (n + 2) (line_in dart) (numbers_of darts) (omega arith) (omega (arith, alphas)) ∙ ap suc (lines_of_rows n darts long.1)

-- ---- in front of the rest

pub next_among : {A : Type 0} (front whole all rest : List A) (x : A) → front ++ all ≡ whole → all ≡ x ∷ rest → (front ++ x ∷ []) ++ rest ≡ whole
next_among front whole all rest x so_far split = append_assoc front (x ∷ []) rest ∙ (ap (λ xs. front ++ xs) (sym split) ∙ so_far)

pub none_left : {A : Type 0} (front whole all : List A) → front ++ all ≡ whole → all ≡ [] → front ≡ whole
none_left front whole all so_far end = sym (append-nil front) ∙ (ap (λ xs. front ++ xs) (sym end) ∙ so_far)

-- one row more
pub one_more : (n : ℕ) (front whole : List Row) (all line rest : List ℕ) → front ++ rows_in n all ≡ whole → all ≡ line ++ rest → length line ≡ n + 2 → (front ++ row_in line ∷ []) ++ rows_in n rest ≡ whole
one_more n front whole all line rest so_far split long = next_among front whole (rows_in n all) (rows_in n rest) (row_in line) so_far (ap (rows_in n) split ∙ rows_line n line rest long)

pub no_more : (n : ℕ) (front whole : List Row) (rest : List ℕ) → front ++ rows_in n rest ≡ whole → length rest < n + 2 → front ≡ whole
no_more n front whole rest so_far short = none_left front whole (rows_in n rest) so_far (rows_end n rest short)

-- ---- one line

pub name_of_line : (line : List ℕ) → (row_in line).name ≡ get_or line 0 0
name_of_line [] = refl
name_of_line (name ∷ alphas) = refl

pub alphas_of_line : (line : List ℕ) → (row_in line).alphas ≡ drop 1 line
alphas_of_line [] = refl
alphas_of_line (name ∷ alphas) = refl

-- one row between the front and the rest
pub between : (n : ℕ) (front whole : List Row) (all line rest : List ℕ) → front ++ rows_in n all ≡ whole → all ≡ line ++ rest → length line ≡ n + 2 → front ++ row_in line ∷ rows_in n rest ≡ whole
between n front whole all line rest so_far split long = ap (λ rs. front ++ rs) (sym (rows_line n line rest long) ∙ ap (rows_in n) (sym split)) ∙ so_far

-- its name is one of the rows'
pub name_live : (n : ℕ) (front : List Row) (numbers all line rest : List ℕ) → front ++ rows_in n all ≡ rows_in n numbers → all ≡ line ++ rest → length line ≡ n + 2 → IsLive (rows_in n numbers) (get_or line 0 0)
name_live n front numbers all line rest split cut long =
    subst (λ rows. IsLive rows (get_or line 0 0)) (between n front (rows_in n numbers) all line rest split cut long)
    (subst (IsLive (front ++ row_in line ∷ rows_in n rest)) (name_of_line line) (live_among front (row_in line) (rows_in n rest)))

-- where the first number of each line is below a bound, each name is
pub names_below : (n bound : ℕ) (numbers : List ℕ) → ((at : ℕ) → at < length numbers / (n + 2) → get_or numbers (at * (n + 2)) 0 < bound) → AreBelow (rows_in n numbers) bound
names_below n bound numbers each = go (length numbers / (n + 2)) numbers each
  where
    go : (count : ℕ) (xs : List ℕ) → ((at : ℕ) → at < count → get_or xs (at * (n + 2)) 0 < bound) → AreBelow (rows_from n count xs) bound
    go zero xs first d live = absurd cc
    go (suc count) xs first d live =
        let line = take (n + 2) xs in
        elim (cases_Bool (eqb (row_in line).name d)) [
          | inl here ↦
              let start : 0 * (n + 2) ≡ 0 = omega arith in
              let name : get_or line 0 0 ≡ get_or xs (0 * (n + 2)) 0 = get_or-take (n + 2) xs 0 0 (omega arith) ∙ ap (λ k. get_or xs k 0) (sym start) in
              omega (arith, eqb-true (row_in line).name d here, name_of_line line, name, first 0 (omega arith))
          | inr other ↦
              let later : IsLive (rows_from n count (drop (n + 2) xs)) d = rw other at live in
              let behind : (at : ℕ) → get_or (drop (n + 2) xs) (at * (n + 2)) 0 ≡ get_or xs (suc at * (n + 2)) 0 = λ at. get_or-drop (n + 2) xs (at * (n + 2)) 0 ∙ ap (λ k. get_or xs k 0) (omega arith) in
              go count (drop (n + 2) xs) (λ at below. omega (arith, behind at, first (suc at) (omega (arith, below)))) d later
        ]

-- where each number is below a bound, each name is
pub rows_below : (n bound : ℕ) (numbers : List ℕ) → All (λ x. x < bound) numbers → AreBelow (rows_in n numbers) bound
rows_below n bound numbers each = names_below n bound numbers (λ at below. All-get_or (λ x. x < bound) numbers (at * (n + 2)) 0 (within at below) each)
  where
    within : (at : ℕ) → at < length numbers / (n + 2) → at * (n + 2) < length numbers
    within at below = omega (arith, mul-le (suc at) (n + 2) (length numbers / (n + 2)) (n + 2) below (omega arith), div-mul-le_self (length numbers) (n + 2))

pub alphas_long : (n : ℕ) (line : List ℕ) → length line ≡ n + 2 → length (row_in line).alphas ≡ n + 1
alphas_long n [] long = absurd (omega (arith, long))
alphas_long n (name ∷ alphas) long = omega (arith, long)

-- ---- darts with their values

pub rows_of_valued : (width : ℕ) (rows : List Row) (values : List Value) → rows_of (darts_from width rows values) ≡ rows
rows_of_valued width [] values = refl
rows_of_valued width (row ∷ rows) values = ap (λ (others : List Row). row ∷ others) (rows_of_valued width rows (drop width values))

pub rows_of_darts_in : (schema : Schema) (numbers : List ℕ) (values : List Value) → rows_of (darts_in schema numbers values) ≡ rows_in schema.dim numbers
rows_of_darts_in schema numbers values = rows_of_valued (length schema.embeds) (rows_in schema.dim numbers) values

pub length_darts_in : (schema : Schema) (numbers : List ℕ) (values : List Value) → length (darts_in schema numbers values) ≡ length (rows_in schema.dim numbers)
length_darts_in schema numbers values = sym (length-map (darts_in schema numbers values) bare) ∙ ap length (rows_of_darts_in schema numbers values)

-- one line and the darts of the rest
pub darts_line : (schema : Schema) (all line rest : List ℕ) (values : List Value) → all ≡ line ++ rest → length line ≡ schema.dim + 2
    → darts_in schema all values ≡ valued (row_in line) (take (length schema.embeds) values) ∷ darts_in schema rest (drop (length schema.embeds) values)
darts_line schema all line rest values split long = ap (λ rows. darts_from (length schema.embeds) rows values) (ap (rows_in schema.dim) split ∙ rows_line schema.dim line rest long)

pub darts_end : (schema : Schema) (rest : List ℕ) (values : List Value) → length rest < schema.dim + 2 → darts_in schema rest values ≡ []
darts_end schema rest values short = ap (λ rows. darts_from (length schema.embeds) rows values) (rows_end schema.dim rest short)

-- ---- the dart on each line

pub length_counted : (start count : ℕ) → length (counted_from start count) ≡ count
length_counted start zero = refl
length_counted start (suc count) = ap suc (length_counted (suc start) count)

counted_at : (start count k : ℕ) → k < count → slice_get (counted_from start count) k ≡ Some (start + k)
counted_at start zero k within = absurd (omega (arith, within))
counted_at start (suc count) zero within = ap Some (omega arith)
counted_at start (suc count) (suc k) within = counted_at (suc start) count k (omega (arith, within)) ∙ ap Some (omega arith)

-- the dart on the line behind so many
abbrev pub dart_on : Schema → List ℕ → List Value → ℕ → DartRow
dart_on schema numbers values line = valued (row_in (part_of (schema.dim + 2) numbers line)) (part_of (length schema.embeds) values line)

module _ (schema : Schema) (numbers : List ℕ) (values : List Value) where
  abbrev size : ℕ
  size = schema.dim + 2

  abbrev width : ℕ
  width = length schema.embeds

  darts_counted : (start many : ℕ) → darts_from width (rows_from schema.dim many (drop (start * size) numbers)) (drop (start * width) values) ≡ map (dart_on schema numbers values) (counted_from start many)
  darts_counted start zero = refl
  darts_counted start (suc many) =
      let rest = ap₂ (λ ns vs. darts_from width (rows_from schema.dim many ns) vs) (drop_one_more size start numbers) (drop_one_more width start values) in
      ap (λ (darts : List DartRow). dart_on schema numbers values start ∷ darts) (rest ∙ darts_counted (suc start) many)

  pub darts_all : darts_in schema numbers values ≡ map (dart_on schema numbers values) (counted_from 0 (length numbers / (schema.dim + 2)))
  darts_all =
      let first : 0 ≡ 0 * size = omega arith in
      let own : 0 ≡ 0 * width = omega arith in
      ap₂ (λ a b. darts_from width (rows_from schema.dim (length numbers / size) (drop a numbers)) (drop b values)) first own ∙ darts_counted 0 (length numbers / size)

  pub many_darts : length (darts_in schema numbers values) ≡ length numbers / (schema.dim + 2)
  many_darts = ap length darts_all ∙ (length-map (counted_from 0 (length numbers / size)) (dart_on schema numbers values) ∙ length_counted 0 (length numbers / size))

  pub dart_at_line : (k : ℕ) → k < length numbers / (schema.dim + 2) → slice_get (darts_in schema numbers values) k ≡ Some (dart_on schema numbers values k)
  dart_at_line k within =
      ap (λ darts. slice_get darts k) darts_all
      ∙ (slice_get-map (dart_on schema numbers values) (counted_from 0 (length numbers / size)) k
      ∙ ap (option_map (dart_on schema numbers values)) (counted_at 0 (length numbers / size) k within ∙ ap Some (omega arith)))

-- ---- the darts of a text

-- so many values as there are kinds
length_kinds : (embeds : List Embed) (values : List Value) → AreOfKinds embeds values → length values ≡ length embeds
length_kinds embeds values kinds = sym (length-map values kind_of) ∙ (ap length kinds ∙ length-map embeds (λ (embed : Embed). embed.kind))

module _ (schema : Schema) where
  -- whole darts are those of their rows and values
  darts_of_values : (darts : List DartRow) → AllByRecursion (IsWhole schema) darts → darts_from (length schema.embeds) (rows_of darts) (values_of_darts darts) ≡ darts
  darts_of_values [] whole = refl
  darts_of_values (dart ∷ darts) whole =
      let own = dart.values in
      let more = values_of_darts darts in
      let long : length own ≡ length schema.embeds = length_kinds schema.embeds own whole.0.1 in
      ap₂ (λ v vs. valued (bare dart) v ∷ darts_from (length schema.embeds) (rows_of darts) vs) (take_at own more (length schema.embeds) long) (drop_at own more (length schema.embeds) long)
      ∙ ap (λ others. dart ∷ others) (darts_of_values darts whole.1)

  length_values_of : (darts : List DartRow) → AllByRecursion (IsWhole schema) darts → length (values_of_darts darts) ≡ length darts * length schema.embeds
  length_values_of [] whole = omega arith
  length_values_of (dart ∷ darts) whole = omega (arith, length-append dart.values (values_of_darts darts), length_kinds schema.embeds dart.values whole.0.1, length_values_of darts whole.1)

  pub long_of_whole : (darts : List DartRow) → AllByRecursion (IsWhole schema) darts → AreLong schema.dim darts
  long_of_whole [] whole = tt
  long_of_whole (dart ∷ darts) whole = (whole.0.0, long_of_whole darts whole.1)

  -- whole darts are those of their numbers and values
  pub darts_of_lines : (darts : List DartRow) → AllByRecursion (IsWhole schema) darts → darts_in schema (numbers_of darts) (values_of_darts darts) ≡ darts
  darts_of_lines darts whole =
      ap (λ rows. darts_from (length schema.embeds) rows (values_of_darts darts)) (rows_of_lines schema.dim darts (long_of_whole darts whole))
      ∙ darts_of_values darts whole

  pub values_of_lines : (darts : List DartRow) → AllByRecursion (IsWhole schema) darts → length (values_of_darts darts) ≡ length (numbers_of darts) / (schema.dim + 2) * length schema.embeds
  values_of_lines darts whole =
      length_values_of darts whole
      ∙ ap (λ k. k * length schema.embeds) (sym (lines_of_rows schema.dim darts (long_of_whole darts whole)))
