-- Rows that are kept in lists of their own: what they are after one is put behind them, is marked, or some are forgotten.
use Rattle.std.proofs.Common.{◌≡◌, ℕ, ◌+◌, ◌*◌, ◌<◌, ◌≤◌, Bool, true, false, List, [], ◌∷◌, ◌++◌, map, length, take, set, get_or, suc, Some, refl, sym, ap, append_assoc, ◌∙◌, inl, inr, arith}
use Rattle.std.specs.List.{range_with_len}
use Rattle.std.proofs.lemmas.Bool.{cases_eq, cases_lt}
use Rattle.std.proofs.lemmas.List.{drop_at, get_or_append_left, get_or-append-add, get_or-set_other, get_or-set_same, length-map, length_push, length-set, length-take-le, map-append, take_all, take_at, get_or-take}
use Rattle.std.proofs.lemmas.List.FromFn.{fill_by_all, get_or-map-range_with_len, length-map-range_with_len}
use Rattle.std.proofs.lemmas.Nat.{mul-le}
use Rattle.std.proofs.Math.Seq.{take-suc}
use Rattle.gm_model.specs.declared.value.Value.{Value}
use Rattle.std.specs.FinMap.{get}
use Rattle.std.proofs.lemmas.Option.{same_Some}
use Rattle.gm_arena.specs.inner.ArenaMap.{ArenaMap, Dart, IsAt, name_at}
use Rattle.gm_arena.specs.declared.slot.Slot.{Slot}
use Rattle.gm_arena.specs.inner.Parts.{part_of}
use Rattle.gm_arena.specs.inner.Lawful.{IsLawful}
use Rattle.gm_arena.proofs.MapLemmas.{name_at-is}
use Rattle.gm_arena.proofs.ValueLemmas.{length-values, part_kept}
use Rattle.gm_undo.specs.inner.Flat.{flat_row, row_in, staying}
use Rattle.gm_undo.specs.inner.Kept.{KeptRow}

none : KeptRow
none = record { name = 0; stays = false; dart = record { alphas = []; values = [] } }

-- a row's part is there
pub stretch : (k count width long : ℕ) → k < count → long ≡ count * width → k * width + width ≤ long
stretch k count width long h is =
    let next : (k + 1) * width ≡ k * width + width = grind arith in
    omega (arith, is, next, mul-le (k + 1) width count width (omega arith) (omega arith))

part_before : {A : Type 0} (width : ℕ) (items more : List A) (k : ℕ) → k * width + width ≤ length items → part_of width (items ++ more) k ≡ part_of width items k
part_before width items more k h = part_kept width items (items ++ more) k (take_at items more (length items) refl) h

part_here : {A : Type 0} (width : ℕ) (items own : List A) (k : ℕ) → length items ≡ k * width → length own ≡ width → part_of width (items ++ own) k ≡ own
part_here width items own k long wide = ap (take width) (drop_at items own (k * width) long) ∙ take_all width own (omega (arith, wide))

part_taken : {A : Type 0} (width : ℕ) (items : List A) (count k : ℕ) → count ≤ length items → k * width + width ≤ count → part_of width (take count items) k ≡ part_of width items k
part_taken width items count k fits h =
    let long : length (take count items) ≡ count = length-take-le count items fits in
    sym (part_kept width (take count items) items k (ap (λ n. take n items) long) (omega (arith, h, long)))

module _ (labels width room : ℕ) (names : List ℕ) (stays : List Bool) (neighbours : List ℕ) (values : List Value) where
  abbrev row : ℕ → KeptRow
  row = flat_row labels width names stays neighbours values

  abbrev pub rows : List KeptRow
  rows = map row (range_with_len 0 (length names))

  pub rows_long : length rows ≡ length names
  rows_long = length-map-range_with_len row 0 (length names)

  pub row_is : (k : ℕ) (d : KeptRow) → k < length names → get_or rows k d ≡ row k
  row_is k d h = get_or-map-range_with_len row 0 (length names) k k d h (omega arith)

  module _ (stays_long : length stays ≡ length names) (neighbours_long : length neighbours ≡ length names * labels) (values_long : length values ≡ length names * width) where
    -- one row more
    module _ (name : ℕ) (stay : Bool) (own : List ℕ) (worth : List Value) (own_long : length own ≡ labels) (worth_long : length worth ≡ width) where
      abbrev new : KeptRow
      new = record { name = name; stays = stay; dart = record { alphas = own; values = worth } }

      abbrev after : ℕ → KeptRow
      after = flat_row labels width (names ++ name ∷ []) (stays ++ stay ∷ []) (neighbours ++ own) (values ++ worth)

      earlier : (k : ℕ) → k < length names → row k ≡ after k
      earlier k h =
          let n : get_or names k 0 ≡ get_or (names ++ name ∷ []) k 0 = sym (get_or_append_left names (name ∷ []) 0 k h) in
          let s : get_or stays k false ≡ get_or (stays ++ stay ∷ []) k false = sym (get_or_append_left stays (stay ∷ []) false k (omega (arith, h, stays_long))) in
          let a : part_of labels neighbours k ≡ part_of labels (neighbours ++ own) k = sym (part_before labels neighbours own k (stretch k (length names) labels (length neighbours) h neighbours_long)) in
          let v : part_of width values k ≡ part_of width (values ++ worth) k = sym (part_before width values worth k (stretch k (length names) width (length values) h values_long)) in
          λ i. record { name = n i; stays = s i; dart = record { alphas = a i; values = v i } }

      last : new ≡ after (length names)
      last =
          let n : name ≡ get_or (names ++ name ∷ []) (length names) 0 = sym (ap (λ k. get_or (names ++ name ∷ []) k 0) (omega arith) ∙ get_or-append-add names (name ∷ []) 0 0) in
          let s : stay ≡ get_or (stays ++ stay ∷ []) (length names) false = sym (ap (λ k. get_or (stays ++ stay ∷ []) k false) (omega (arith, stays_long)) ∙ get_or-append-add stays (stay ∷ []) 0 false) in
          let a : own ≡ part_of labels (neighbours ++ own) (length names) = sym (part_here labels neighbours own (length names) neighbours_long own_long) in
          let v : worth ≡ part_of width (values ++ worth) (length names) = sym (part_here width values worth (length names) values_long worth_long) in
          λ i. record { name = n i; stays = s i; dart = record { alphas = a i; values = v i } }

      pub pushed : map after (range_with_len 0 (length (names ++ name ∷ []))) ≡ rows ++ new ∷ []
      pushed = sym (fill_by_all after (rows ++ new ∷ []) (length (names ++ name ∷ [])) none (length_push rows new ∙ ap (λ n. n + 1) rows_long ∙ sym (length_push names name)) at)
        where
          at : (k : ℕ) → k < length (names ++ name ∷ []) → get_or (rows ++ new ∷ []) k none ≡ after k
          at k h = elim (cases_lt k (length names)) [
            | inl l ↦ get_or_append_left rows (new ∷ []) none k (omega (arith, l, rows_long)) ∙ row_is k none l ∙ earlier k l
            | inr l ↦
                let is : k ≡ length names = omega (arith, l, h, length_push names name) in
                ap (λ j. get_or (rows ++ new ∷ []) j none) (omega (arith, is, rows_long)) ∙ get_or-append-add rows (new ∷ []) 0 none ∙ last ∙ ap after (sym is)
          ]

    -- a row that is marked
    pub marked : (j : ℕ) → j < length names → map (flat_row labels width names (set stays j true) neighbours values) (range_with_len 0 (length names)) ≡ set rows j (staying (row_in rows j))
    marked j low = sym (fill_by_all (flat_row labels width names (set stays j true) neighbours values) (set rows j (staying (row_in rows j))) (length names) none (length-set rows j (staying (row_in rows j)) ∙ rows_long) at)
      where
        at : (k : ℕ) → k < length names → get_or (set rows j (staying (row_in rows j))) k none ≡ flat_row labels width names (set stays j true) neighbours values k
        at k h = elim (cases_eq k j) [
          | inl e ↦
              rw e (
              get_or-set_same rows j (staying (row_in rows j)) none (omega (arith, low, rows_long))
              ∙ ap staying (row_is j _ low)
              ∙ (let s : true ≡ get_or (set stays j true) j false = sym (get_or-set_same stays j true false (omega (arith, low, stays_long))) in λ i. record { name = get_or names j 0; stays = s i; dart = record { alphas = part_of labels neighbours j; values = part_of width values j } })
              )
          | inr apart ↦
              get_or-set_other rows j k (staying (row_in rows j)) none apart
              ∙ row_is k none h
              ∙ (let s : get_or stays k false ≡ get_or (set stays j true) k false = sym (get_or-set_other stays j k true false apart) in λ i. record { name = get_or names k 0; stays = s i; dart = record { alphas = part_of labels neighbours k; values = part_of width values k } })
        ]

    -- the first rows alone
    pub truncated : (count : ℕ) → count ≤ length names → map (flat_row labels width (take count names) (take count stays) (take (count * labels) neighbours) (take (count * width) values)) (range_with_len 0 (length (take count names))) ≡ take count rows
    truncated count low = sym (fill_by_all (flat_row labels width (take count names) (take count stays) (take (count * labels) neighbours) (take (count * width) values)) (take count rows) (length (take count names)) none (length-take-le count rows (omega (arith, low, rows_long)) ∙ sym names_left) at)
      where
        names_left : length (take count names) ≡ count
        names_left = length-take-le count names low

        at : (k : ℕ) → k < length (take count names) → get_or (take count rows) k none ≡ flat_row labels width (take count names) (take count stays) (take (count * labels) neighbours) (take (count * width) values) k
        at k h =
            let within : k < count = omega (arith, h, names_left) in
            let n : get_or names k 0 ≡ get_or (take count names) k 0 = sym (get_or-take count names k 0 within) in
            let s : get_or stays k false ≡ get_or (take count stays) k false = sym (get_or-take count stays k false within) in
            let all_labels : count * labels ≤ length names * labels = mul-le count labels (length names) labels low (omega arith) in
            let all_width : count * width ≤ length names * width = mul-le count width (length names) width low (omega arith) in
            let a : part_of labels neighbours k ≡ part_of labels (take (count * labels) neighbours) k = sym (part_taken labels neighbours (count * labels) k (omega (arith, neighbours_long, all_labels)) (stretch k count labels (count * labels) within refl)) in
            let v : part_of width values k ≡ part_of width (take (count * width) values) k = sym (part_taken width values (count * width) k (omega (arith, values_long, all_width)) (stretch k count width (count * width) within refl)) in
            get_or-take count rows k none within ∙ row_is k none (omega (arith, within, low)) ∙ (λ i. record { name = n i; stays = s i; dart = record { alphas = a i; values = v i } })

-- ---- one row more, of a dart in an arena

-- an arena's dart has a neighbour for each label and a value for each embedding
pub row_whole : (m : ArenaMap) (name : ℕ) (alphas : List Slot) (values : List Value) → IsLawful m → get m.darts name ≡ Some (record { alphas = map (λ (s : Slot). name_at m s.at) alphas; values = values })
    → (length alphas ≡ m.schema.dim + 1) × (length values ≡ length m.schema.embeds)
row_whole m name alphas values lawful is =
    let dart = lawful.dart name _ is in
    (sym (length-map alphas (λ (s : Slot). name_at m s.at)) ∙ dart.whole, length-values m.schema values dart.valued)

-- so much room is left for the next row
pub more_fits : (n room width capacity long own : ℕ) → n < room → room * width ≤ capacity → long ≡ n * width → own ≡ width → long + own ≤ capacity
more_fits n room width capacity long own h fits is own_is =
    let next : (n + 1) * width ≡ n * width + width = grind arith in
    omega (arith, next, mul-le (n + 1) width room width (omega arith) (omega arith), fits, is, own_is)

pub more_long : (n width long own after : ℕ) → long ≡ n * width → own ≡ width → after ≡ long + own → after ≡ (n + 1) * width
more_long n width long own after is own_is grown =
    let next : (n + 1) * width ≡ n * width + width = grind arith in
    omega (arith, next, is, own_is, grown)

abbrev pub kept_row : ℕ → Bool → Dart → KeptRow
kept_row name stays dart = record { name = name; stays = stays; dart = dart }

-- the row of the dart at a slot
pub dart_row : (m : ArenaMap) (slot name : ℕ) (alphas : List ℕ) (values : List Value) (dart : Dart) (stays : Bool) → IsAt m slot name → get m.darts name ≡ Some (record { alphas = alphas; values = values }) → get m.darts (name_at m slot) ≡ Some dart
    → kept_row name stays (record { alphas = alphas; values = values }) ≡ kept_row (name_at m slot) stays dart
dart_row m slot name alphas values dart stays at here there =
    let n : name ≡ name_at m slot = sym (name_at-is m slot name at) in
    let d = same_Some (record { alphas = alphas; values = values }) dart (sym here ∙ ap (get m.darts) n ∙ there) in
    λ i. record { name = n i; stays = stays; dart = d i }

-- ---- one item more of a list that is put behind another

module _ {A : Type 0} (xs : List A) (index : ℕ) (none : A) (within : index < length xs) where
  one_more_taken : take (index + 1) xs ≡ take index xs ++ get_or xs index none ∷ []
  one_more_taken = ap (λ n. take n xs) (let e : index + 1 ≡ suc index = omega arith in e) ∙ take-suc xs index none within

  pub one_put : (start before after : List A) → before ≡ start ++ take index xs → after ≡ before ++ get_or xs index none ∷ [] → after ≡ start ++ take (index + 1) xs
  one_put start before after so_far put =
      put ∙ ap (λ ys. ys ++ get_or xs index none ∷ []) so_far ∙ append_assoc start (take index xs) (get_or xs index none ∷ []) ∙ ap (λ ys. start ++ ys) (sym one_more_taken)

module _ {A : Type 0} (name : A → ℕ) (xs : List A) (index : ℕ) (none : A) (within : index < length xs) where
  pub one_named : (start before after : List ℕ) (one : ℕ) → before ≡ start ++ map name (take index xs) → one ≡ name (get_or xs index none) → after ≡ before ++ one ∷ [] → after ≡ start ++ map name (take (index + 1) xs)
  one_named start before after one so_far is put =
      put ∙ ap (λ n. before ++ n ∷ []) is ∙ ap (λ ys. ys ++ name (get_or xs index none) ∷ []) so_far ∙ append_assoc start (map name (take index xs)) (name (get_or xs index none) ∷ [])
      ∙ ap (λ ys. start ++ ys) (sym (map-append name (take index xs) (get_or xs index none ∷ [])) ∙ ap (map name) (sym (one_more_taken xs index none within)))
