-- A draft whose lines are taken in another order lists the same darts in another order, and an arena of the one is an arena of the other.
use Rattle.std.proofs.Common.{◌≡◌, ℕ, zero, suc, ◌+◌, ◌-◌, ◌*◌, ◌/◌, ◌<◌, ◌≤◌, List, [], ◌∷◌, ◌++◌, length, map, take, drop, get_or, slice_index_or, is_some, All, sym, ap, ap₂, subst, ◌∙◌, append_assoc, arith}
use Rattle.std.specs.Prelude.{IsPermutation}
use Rattle.std.specs.Option.{option_map, option_map_or}
use Rattle.std.proofs.Math.Nat.{div-mul-le_self, mul-div_left}
use Rattle.std.specs.List.{AllByRecursion}
use Rattle.std.proofs.lemmas.Nat.{mul-le}
use Rattle.std.proofs.lemmas.List.{append-nil, length-drop, length-take-le, length-append, map-append, take_at, take_all, take_more, drop_at}
use Rattle.std.proofs.lemmas.List.Concat.{flat_map-append}
use Rattle.std.proofs.lemmas.List.Elements.{All-take, All-drop, All-append, All-from_recursion}
use Rattle.std.proofs.lemmas.List.Sorted.{IsPermutation-map, length_permutation, sum_by-IsPermutation}
use Rattle.gm_model.specs.Breaches.{IsFirstWithoutTarget}
use Rattle.gm_model.specs.declared.schema.Schema.{Schema}
use Rattle.gm_model.specs.declared.value.Value.{Value}
use Rattle.gm_model.specs.GMap.{Row, IsLive, alpha, row_of}
use Rattle.gm_model.specs.Limits.{most_names}
use Rattle.gm_arena.specs.inner.ArenaMap.{ArenaMap}
use Rattle.gm_arena.specs.inner.Lawful.{AreGoodValues}
use Rattle.gm_arena.specs.inner.Parts.{part_of}
use Rattle.gm_mapfile.specs.inner.Building.{AreInRoom, IsHeld}
use Rattle.gm_mapfile.specs.inner.Faults.{IsNameFault}
use Rattle.gm_mapfile.specs.MapFaults.{rows_named, AreNamedOnce, IsLeastTwice, IsLeastNotBelow, AreBelowStated}
use Rattle.gm_mapfile.specs.MapText.{Version, First, Second, DartRow, bare, rows_of, dart_of}
use Rattle.gm_mapfile.specs.inner.Ordering.{counted_from, on_line, on_lines}
use Rattle.gm_mapfile.specs.inner.Rows.{row_in, rows_in, valued, darts_from, darts_in}
use Rattle.gm_mapfile.specs.declared.fault.MapFault.{MapFault}
use Rattle.gm_mapfile.specs.declared.ordering.Line.{Line}
use Rattle.gm_mapfile.specs.declared.fault.MapFault.TheVariants as faults
use Rattle.gm_mapfile.proofs.Again.{moved}
use Rattle.gm_mapfile.proofs.Chunks.{rows_line, rows_end, length_counted, dart_on, darts_all}
use Rattle.gm_mapfile.proofs.Darts.{live_dart, row_of_dart}
use Rattle.gm_mapfile.proofs.Moved.{distinct_moved, same_moved, of_look_ups}
use Rattle.gm_mapfile.proofs.Named.{one_if}
use Rattle.gm_mapfile.proofs.NamesOf.{next_moved}

-- ---- numbers from one up

pub counted_push : (start count : ℕ) → counted_from start (count + 1) ≡ counted_from start count ++ (start + count) ∷ []
counted_push start zero = ap (λ x. x ∷ []) (omega arith)
counted_push start (suc count) =
    let e : suc count + 1 ≡ suc (count + 1) = omega arith in
    rw e (ap (λ xs. start ∷ xs) (counted_push (suc start) count ∙ ap (λ x. counted_from (suc start) count ++ x ∷ []) (omega arith)))

counted_below : (start count bound : ℕ) → start + count ≤ bound → AllByRecursion (λ x. x < bound) (counted_from start count)
counted_below start zero bound within = tt
counted_below start (suc count) bound within = (omega (arith, within), counted_below (suc start) count bound (omega (arith, within)))

-- ---- what stands on a line

module _ {A : Type 0} (width : ℕ) (all : List A) where
  is_taken : (line : ℕ) → on_line width all line ≡ part_of width all line
  is_taken line = ap (λ k. take k (drop (line * width) all)) (omega arith)

  pub length_on_line : (line : ℕ) → line * width + width ≤ length all → length (on_line width all line) ≡ width
  length_on_line line within =
      ap length (is_taken line) ∙ length-take-le width (drop (line * width) all) (omega (arith, length-drop (line * width) all, within))

  abbrev pub AreWithin : List ℕ → Type 0
  AreWithin lines = AllByRecursion (λ line. line * width + width ≤ length all) lines

  length_on_lines : (lines : List ℕ) → AreWithin lines → length (on_lines width all lines) ≡ length lines * width
  length_on_lines [] within = omega arith
  length_on_lines (line ∷ lines) within =
      omega (arith, length-append (on_line width all line) (on_lines width all lines), length_on_line line within.0, length_on_lines lines within.1)

  all_on_lines : (P : A → Type 0) → All P all → (lines : List ℕ) → All P (on_lines width all lines)
  all_on_lines P each [] = All-from_recursion P [] tt
  all_on_lines P each (line ∷ lines) =
      All-append P (on_line width all line) (on_lines width all lines)
      (All-take P (line * width + width - line * width) (drop (line * width) all) (All-drop P (line * width) all each))
      (all_on_lines P each lines)

module _ {A : Type 0} (width : ℕ) (all : List A) (lines : List Line) (i : ℕ) (start taken : List A) where
  -- what was taken up to a line, and then what stands on it
  pub taken_more : i < length lines → taken ≡ start ++ on_lines width all (map (λ (line : Line). line.at) (take i lines))
      → taken ++ on_line width all (get_or lines i (record { name = 0; at = 0 })).at ≡ start ++ on_lines width all (map (λ (line : Line). line.at) (take (i + 1) lines))
  taken_more within is =
      let place : Line → ℕ = λ line. line.at in
      let line : Line = get_or lines i (record { name = 0; at = 0 }) in
      let seen = map place (take i lines) in
      let more : on_lines width all (map place (take (i + 1) lines)) ≡ on_lines width all seen ++ on_line width all line.at =
      ap (λ ls. on_lines width all (map place ls)) (take_more lines i (record { name = 0; at = 0 }) within)
      ∙ (ap (on_lines width all) (map-append place (take i lines) (line ∷ []))
      ∙ (flat_map-append (on_line width all) seen (line.at ∷ [])
      ∙ ap (λ xs. on_lines width all seen ++ xs) (append-nil (on_line width all line.at)))) in
      ap (λ xs. xs ++ on_line width all line.at) is ∙ (append_assoc start (on_lines width all seen) (on_line width all line.at) ∙ ap (λ xs. start ++ xs) (sym more))

  pub taken_all : length lines ≤ i → taken ≡ start ++ on_lines width all (map (λ (line : Line). line.at) (take i lines)) → taken ≡ start ++ on_lines width all (map (λ (line : Line). line.at) lines)
  taken_all all_seen is = is ∙ ap (λ ls. start ++ on_lines width all (map (λ (line : Line). line.at) ls)) (take_all i lines all_seen)

-- what holds of the places of lines holds of the lines
lines_within : {A : Type 0} (width : ℕ) (all : List A) (lines : List Line) → AreWithin width all (map (λ (line : Line). line.at) lines) → All (λ (line : Line). line.at * width + width ≤ length all) lines
lines_within width all lines within = All-from_recursion (λ (line : Line). line.at * width + width ≤ length all) lines (go lines within)
  where
    go : (some : List Line) → AreWithin width all (map (λ (line : Line). line.at) some) → AllByRecursion (λ (line : Line). line.at * width + width ≤ length all) some
    go [] each = tt
    go (line ∷ some) each = (each.0, go some each.1)

-- the order of the lines, as a reader of the numbers has it
pub order_of : (schema : Schema) (numbers seen : List ℕ) (lines : List Line) (width : ℕ) → seen ≡ numbers → width ≡ schema.dim + 2
    → IsPermutation (counted_from 0 (length seen / width)) (map (λ (line : Line). line.at) lines)
    → IsPermutation (counted_from 0 (length numbers / (schema.dim + 2))) (map (λ (line : Line). line.at) lines)
order_of schema numbers seen lines width same wide order =
    subst (λ w. IsPermutation (counted_from 0 (length numbers / w)) (map (λ (line : Line). line.at) lines)) wide
    (subst (λ (xs : List ℕ). IsPermutation (counted_from 0 (length xs / width)) (map (λ (line : Line). line.at) lines)) same order)

-- what was taken, where the lines and their width are read before
pub taken_of : {A : Type 0} (all : List A) (lines seen : List Line) (width wide : ℕ) (taken : List A) → seen ≡ lines → width ≡ wide → taken ≡ on_lines width all (map (λ (line : Line). line.at) seen) → on_lines wide all (map (λ (line : Line). line.at) lines) ≡ taken
taken_of all lines seen width wide taken same as_wide is =
    sym (is ∙ (ap (λ ls. on_lines width all (map (λ (line : Line). line.at) ls)) same ∙ ap (λ w. on_lines w all (map (λ (line : Line). line.at) lines)) as_wide))

pub within_of : {A : Type 0} (all : List A) (lines seen : List Line) (width wide : ℕ) → seen ≡ lines → width ≡ wide → AreWithin wide all (map (λ (line : Line). line.at) lines) → All (λ (line : Line). line.at * width + width ≤ length all) seen
within_of all lines seen width wide same as_wide within =
    subst (λ ls. All (λ (line : Line). line.at * width + width ≤ length all) ls) (sym same)
    (subst (λ w. All (λ (line : Line). line.at * w + w ≤ length all) lines) (sym as_wide) (lines_within wide all lines within))

-- ---- the darts of lines

module _ (schema : Schema) (numbers : List ℕ) (values : List Value) where
  abbrev width : ℕ
  width = length schema.embeds

  pub darts_on_lines : (lines : List ℕ) → AreWithin (schema.dim + 2) numbers lines → AreWithin (length schema.embeds) values lines
      → darts_in schema (on_lines (schema.dim + 2) numbers lines) (on_lines (length schema.embeds) values lines) ≡ map (dart_on schema numbers values) lines
  darts_on_lines [] within within' = ap (λ rows. darts_from width rows []) (rows_end schema.dim [] (omega arith))
  darts_on_lines (line ∷ lines) within within' =
      let own = on_line (schema.dim + 2) numbers line in
      let vs = on_line width values line in
      let others = on_lines (schema.dim + 2) numbers lines in
      let more = on_lines width values lines in
      let long : length own ≡ schema.dim + 2 = length_on_line (schema.dim + 2) numbers line within.0 in
      let long' : length vs ≡ width = length_on_line width values line within'.0 in
      ap (λ rows. darts_from width rows (vs ++ more)) (rows_line schema.dim own others long)
      ∙ (ap₂ (λ v rest. valued (row_in own) v ∷ darts_from width (rows_in schema.dim others) rest) (take_at vs more width long') (drop_at vs more width long')
      ∙ ap₂ (λ (dart : DartRow) darts. dart ∷ darts) (ap₂ (λ l v. valued (row_in l) v) (is_taken (schema.dim + 2) numbers line) (is_taken width values line)) (darts_on_lines lines within.1 within'.1))

  module _ (room : AreInRoom schema numbers values) (lines : List ℕ) (same : IsPermutation (counted_from 0 (length numbers / (schema.dim + 2))) lines) where
    each_below : AllByRecursion (λ line. line < length numbers / (schema.dim + 2)) lines
    each_below = moved (λ line. line < length numbers / (schema.dim + 2)) (counted_from 0 (length numbers / (schema.dim + 2))) lines same (counted_below 0 (length numbers / (schema.dim + 2)) (length numbers / (schema.dim + 2)) (omega arith))

    within_all : {A : Type 0} (width : ℕ) (all : List A) → length numbers / (schema.dim + 2) * width ≤ length all → (some : List ℕ) → AllByRecursion (λ line. line < length numbers / (schema.dim + 2)) some → AreWithin width all some
    within_all width all fits [] below = tt
    within_all width all fits (line ∷ some) below =
        let most = mul-le (suc line) width (length numbers / (schema.dim + 2)) width below.0 (omega arith) in
        (omega (arith, most, fits), within_all width all fits some below.1)

    pub numbers_within : AreWithin (schema.dim + 2) numbers lines
    numbers_within = within_all (schema.dim + 2) numbers (div-mul-le_self (length numbers) (schema.dim + 2)) lines each_below

    pub values_within : AreWithin (length schema.embeds) values lines
    values_within = within_all width values (omega (arith, room.long)) lines each_below

    abbrev new_numbers : List ℕ
    new_numbers = on_lines (schema.dim + 2) numbers lines

    abbrev new_values : List Value
    new_values = on_lines width values lines

    pub darts_moved : IsPermutation (darts_in schema numbers values) (darts_in schema (on_lines (schema.dim + 2) numbers lines) (on_lines (length schema.embeds) values lines))
    darts_moved =
        subst (λ darts. IsPermutation darts (darts_in schema new_numbers new_values)) (sym (darts_all schema numbers values))
        (subst (IsPermutation (map (dart_on schema numbers values) (counted_from 0 (length numbers / (schema.dim + 2))))) (sym (darts_on_lines lines numbers_within values_within)) (IsPermutation-map (dart_on schema numbers values) (counted_from 0 (length numbers / (schema.dim + 2))) lines same))

    lines_are : length new_numbers / (schema.dim + 2) ≡ length lines
    lines_are = ap (λ k. k / (schema.dim + 2)) (length_on_lines (schema.dim + 2) numbers lines numbers_within) ∙ mul-div_left (length lines) (omega arith)

    as_many : length lines ≡ length numbers / (schema.dim + 2)
    as_many = length_permutation (counted_from 0 (length numbers / (schema.dim + 2))) lines same ∙ length_counted 0 (length numbers / (schema.dim + 2))

    pub room_moved : AreInRoom schema (on_lines (schema.dim + 2) numbers lines) (on_lines (length schema.embeds) values lines)
    room_moved = record {
      few = omega (arith, lines_are, as_many, room.few);
      small = all_on_lines (schema.dim + 2) numbers (λ x. x < most_names) room.small lines;
      long = length_on_lines width values lines values_within ∙ ap (λ k. k * width) (sym lines_are);
      good = moved (λ (dart : DartRow). AreGoodValues schema dart.values) (darts_in schema numbers values) (darts_in schema new_numbers new_values) darts_moved room.good;
    }

-- the same of what was taken of the numbers and of the values
module _ (schema : Schema) (numbers : List ℕ) (values : List Value) (room : AreInRoom schema numbers values) (lines : List Line) (order : IsPermutation (counted_from 0 (length numbers / (schema.dim + 2))) (map (λ (line : Line). line.at) lines))
    (new_numbers : List ℕ) (new_values : List Value) (numbers_are : on_lines (schema.dim + 2) numbers (map (λ (line : Line). line.at) lines) ≡ new_numbers) (values_are : on_lines (length schema.embeds) values (map (λ (line : Line). line.at) lines) ≡ new_values) where
  abbrev places : List ℕ
  places = map (λ (line : Line). line.at) lines

  pub room_in : AreInRoom schema new_numbers new_values
  room_in =
      subst (AreInRoom schema new_numbers) values_are
      (subst (λ ns. AreInRoom schema ns (on_lines (length schema.embeds) values places)) numbers_are (room_moved schema numbers values room places order))

  pub darts_ordered : IsPermutation (darts_in schema numbers values) (darts_in schema new_numbers new_values)
  darts_ordered =
      subst (λ vs. IsPermutation (darts_in schema numbers values) (darts_in schema new_numbers vs)) values_are
      (subst (λ ns. IsPermutation (darts_in schema numbers values) (darts_in schema ns (on_lines (length schema.embeds) values places))) numbers_are (darts_moved schema numbers values room places order))

-- ---- what holds of the darts in the one order

named_moved : (darts others : List DartRow) → IsPermutation darts others → (d : ℕ) → rows_named (rows_of others) d ≡ rows_named (rows_of darts) d
named_moved darts others same d = sum_by-IsPermutation (one_if d) (rows_of darts) (rows_of others) (IsPermutation-map bare darts others same)

module _ (darts others : List DartRow) (same : IsPermutation darts others) where
  module _ (distinct : AreNamedOnce (rows_of others)) where
    found : (d : ℕ) → dart_of darts d ≡ dart_of others d
    found = same_moved darts others same distinct

    live_moved : (d : ℕ) → is_some (row_of (rows_of others) d) ≡ is_some (row_of (rows_of darts) d)
    live_moved d = live_dart others d ∙ (ap is_some (sym (found d)) ∙ sym (live_dart darts d))

    alpha_moved : (i d : ℕ) → alpha (rows_of others) i d ≡ alpha (rows_of darts) i d
    alpha_moved i d = ap (λ o. option_map_or (λ (row : Row). slice_index_or row.alphas i d) o d) (row_of_dart others d ∙ (ap (option_map bare) (sym (found d)) ∙ sym (row_of_dart darts d)))

    below_moved : (version : Version) → AreBelowStated version (rows_of others) → AreBelowStated version (rows_of darts)
    below_moved First below = tt
    below_moved (Second next) below = of_look_ups darts others found (λ live a v. (d : ℕ) → live d → d < next) below

    not_below_moved : (next d : ℕ) → IsLeastNotBelow (rows_of others) next d → IsLeastNotBelow (rows_of darts) next d
    not_below_moved next d least = record {
      live = sym (live_moved d) ∙ least.live;
      above = least.above;
      least = λ e lt there. least.least e lt (live_moved e ∙ there);
    }

    lack_moved : (n d i : ℕ) → IsFirstWithoutTarget n (IsLive (rows_of others)) (alpha (rows_of others)) d i → IsFirstWithoutTarget n (IsLive (rows_of darts)) (alpha (rows_of darts)) d i
    lack_moved n d i lack = of_look_ups darts others found (λ live a v. IsFirstWithoutTarget n live a d i) lack

  twice_moved : (d : ℕ) → IsLeastTwice (rows_of others) d → IsLeastTwice (rows_of darts) d
  twice_moved d least = record {
    twice = omega (arith, named_moved darts others same d, least.twice);
    least = λ e lt. omega (arith, named_moved darts others same e, least.least e lt);
  }

  pub held_moved : (version : Version) (schema : Schema) (m : ArenaMap) → IsHeld version schema others m → IsHeld version schema darts m
  held_moved version schema m held = record {
    schema_is = held.schema_is;
    count = held.count ∙ length_permutation darts others same;
    next = next_moved version others darts m.next (live_moved held.distinct) held.next;
    whole = held.whole;
    live = λ d. held.live d ∙ live_moved held.distinct d;
    alphas = λ d i small. held.alphas d i small ∙ alpha_moved held.distinct i d;
    values = λ d. held.values d ∙ ap (option_map (λ (dart : DartRow). dart.values)) (sym (found held.distinct d));
    distinct = distinct_moved darts others same held.distinct;
    targets = of_look_ups darts others (found held.distinct) (λ live a v. (d i : ℕ) → live d → i ≤ schema.dim → live (a i d)) held.targets;
  }

  pub fault_moved : (version : Version) (n : ℕ) (fault : MapFault) → IsNameFault version n others fault → IsNameFault version n darts fault
  fault_moved version n (faults.Text place) h = absurd h
  fault_moved version n (faults.Limit what place) h = absurd h
  fault_moved version n (faults.Twice place) h = absurd h
  fault_moved version n (faults.DartTwice dart) h = twice_moved dart h
  fault_moved First n (faults.Next dart) h = absurd h
  fault_moved (Second next) n (faults.Next dart) h = (distinct_moved darts others same h.0, not_below_moved h.0 next dart h.1)
  fault_moved version n (faults.NoTarget dart label) h = (distinct_moved darts others same h.0, below_moved h.0 version h.1, lack_moved h.0 n dart label h.2)
  fault_moved version n (faults.Breach breach) h = absurd h
  fault_moved version n faults.OutOfMemory h = tt

  -- steps for so many darts
  pub most_moved : (each before after : ℕ) → after ≤ before + each * length others → after ≤ before + each * length darts
  most_moved each before after = subst (λ k. after ≤ before + each * k) (length_permutation darts others same)

-- the numbers and values as they are lent
pub same_read : (darts : List DartRow) (schema : Schema) (numbers xs : List ℕ) (values vs : List Value) → xs ≡ numbers → vs ≡ values → IsPermutation darts (darts_in schema numbers values) → IsPermutation darts (darts_in schema xs vs)
same_read darts schema numbers xs values vs numbers_are values_are same =
    subst (λ ns. IsPermutation darts (darts_in schema ns vs)) (sym numbers_are) (subst (λ lent. IsPermutation darts (darts_in schema numbers lent)) (sym values_are) same)
