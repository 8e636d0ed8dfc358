-- The darts of an arena by place, as they are printed.
use Rattle.std.proofs.Common.{◌≡◌, ℕ, eqb, ◌+◌, ◌-◌, ◌*◌, ◌^◌, ◌<◌, ◌≤◌, List, [], ◌∷◌, ◌++◌, length, take, drop, get_or, map, Option, Some, None, is_some, codes, refl, sym, ap, ap₂, subst, ◌∙◌, arith}
use Rattle.std.specs.Prelude.{decimal}
use Rattle.std.specs.Option.{option_map, option_map_or}
use Rattle.std.specs.List.{find, flat_map}
use Rattle.std.specs.List.Sorted.{IsStrictlyIncreasing}
use Rattle.std.specs.FinMap.{get, keys, entries, len-entries}
use Rattle.std.proofs.lemmas.Fmt.{length-decimal-le}
use Rattle.std.proofs.lemmas.Grind.{flat_map-append}
use Rattle.std.proofs.lemmas.Bool.{ne_eqb, eq-eqb}
use Rattle.std.proofs.lemmas.Nat.{mul-le}
use Rattle.std.proofs.lemmas.List.{drop_more, get_or-map, length-map, take_more, append-nil, append_assoc, length-drop, nil_from_length, take-append-drop}
use Rattle.std.proofs.lemmas.List.Kept.{AllPairs-from_increasing}
use Rattle.std.proofs.lemmas.List.Recursion.{found_at}
use Rattle.gm_model.specs.declared.schema.Embed.{Embed}
use Rattle.gm_model.specs.declared.value.Value.{Value}
use Rattle.gm_model.specs.Values.{kind_of}
use Rattle.gm_text.specs.SchemaText as schema
use Rattle.gm_arena.specs.inner.ArenaMap.{ArenaMap, Dart, IsAt, IsLiveName, name_at}
use Rattle.gm_arena.specs.declared.slot.Slot.{Slot}
use Rattle.gm_arena.specs.inner.Lawful.{IsLawful}
use Rattle.gm_arena.proofs.MapLemmas.{name_at-is}
use Rattle.gm_mapfile.specs.MapText.{DartRow, names, dart_of, line_of, head_line, next_line, canonical}
use Rattle.gm_mapfile.specs.inner.Rows.{dart_of_entry, darts_of, listed_of}
use Rattle.gm_mapfile.specs.declared.version.MapVersion.{MapVersion}
use Rattle.gm_mapfile.proofs.ArenaDarts.{dart_with, dart_of_arena, darts_ascending, names_of_arena}

-- all of a list is taken
pub whole_taken : {A : Type 0} (xs : List A) (k : ℕ) → length xs ≤ k → take k xs ≡ xs
whole_taken xs k long = sym (append-nil (take k xs)) ∙ (ap (λ ys. take k xs ++ ys) (sym (nil_from_length (drop k xs) (omega (arith, length-drop k xs)))) ∙ take-append-drop k xs)

-- ---- a dart's line

-- the size of a whole number has nineteen digits at most
pub short_size : (n : ℕ) → n ≤ 2 ^ 63 → length (decimal n) ≤ 19
short_size n small = length-decimal-le 19 n (omega arith) (omega (arith, small)) (omega (arith, small))

-- one item more before those that are written
pub item_before : {A : Type 0} (each : A → List ℕ) (items : List A) (left : ℕ) (d : A) (rest : List ℕ) → 0 < left → left ≤ length items
    → each (get_or items (left - 1) d) ++ (flat_map each (drop left items) ++ rest) ≡ flat_map each (drop (left - 1) items) ++ rest
item_before each items left d rest some few =
    let again : left - 1 + 1 ≡ left = omega (arith, some) in
    let split : drop (left - 1) items ≡ get_or items (left - 1) d ∷ drop left items = drop_more items (left - 1) d (omega (arith, some, few)) ∙ ap (λ k. get_or items (left - 1) d ∷ drop k items) again in
    sym (ap (λ xs. flat_map each xs ++ rest) split ∙ append_assoc (each (get_or items (left - 1) d)) (flat_map each (drop left items)) rest)

-- one name more, with a blank before it
pub name_before : (m : ArenaMap) (slots : List Slot) (left name : ℕ) (d : Slot) (old put rest : List ℕ) → 0 < left → left ≤ length slots → IsAt m (get_or slots (left - 1) d).at name
    → put ≡ 32 ∷ (decimal name ++ old) → old ≡ flat_map (λ a. 32 ∷ decimal a) (drop left (map (λ (s : Slot). name_at m s.at) slots)) ++ rest
    → put ≡ flat_map (λ a. 32 ∷ decimal a) (drop (left - 1) (map (λ (s : Slot). name_at m s.at) slots)) ++ rest
name_before m slots left name d old put rest some few there written before =
    let f : Slot → ℕ = λ (s : Slot). name_at m s.at in
    let each : ℕ → List ℕ = λ a. 32 ∷ decimal a in
    let names = map f slots in
    let here : get_or names (left - 1) 0 ≡ name = get_or-map f slots (left - 1) d 0 (omega (arith, some, few)) ∙ name_at-is m (get_or slots (left - 1) d).at name there in
    written ∙ ap₂ (λ (x : ℕ) (xs : List ℕ). 32 ∷ (decimal x ++ xs)) (sym here) before ∙ item_before each names left 0 rest some (omega (arith, few, length-map slots f))

-- a dart has a neighbour for each label
pub slots_long : (m : ArenaMap) (name : ℕ) (slots : List Slot) (values : List Value) → IsLawful m → get m.darts name ≡ Some (record { alphas = map (λ (s : Slot). name_at m s.at) slots; values = values }) → length slots ≡ m.schema.dim + 1
slots_long m name slots values lawful there = sym (length-map slots (λ (s : Slot). name_at m s.at)) ∙ (lawful.dart name _ there).whole

-- and no more values than a schema has embeddings
pub values_few : (m : ArenaMap) (name : ℕ) (slots : List Slot) (values : List Value) → IsLawful m → get m.darts name ≡ Some (record { alphas = map (λ (s : Slot). name_at m s.at) slots; values = values }) → length values ≤ 8
values_few m name slots values lawful there =
    let kinds = (lawful.dart name _ there).valued.kinds in
    let same : length values ≡ length m.schema.embeds = sym (length-map values kind_of) ∙ (ap length kinds ∙ length-map m.schema.embeds (λ (e : Embed). e.kind)) in
    omega (arith, same, lawful.schema.count)

-- the dart of a name
abbrev pub dart_at : ArenaMap → ℕ → DartRow
dart_at m name = record {
  name = name;
  alphas = option_map_or (λ (dart : Dart). dart.alphas) (get m.darts name) [];
  values = option_map_or (λ (dart : Dart). dart.values) (get m.darts name) [];
}

pub dart_at-is : (m : ArenaMap) (name : ℕ) (dart : Dart) → get m.darts name ≡ Some dart → dart_at m name ≡ dart_of_entry (name, dart)
dart_at-is m name dart there =
    ap (λ o. let row : DartRow = record { name = name; alphas = option_map_or (λ (d : Dart). d.alphas) o []; values = option_map_or (λ (d : Dart). d.values) o [] } in row) there

-- ---- the darts by place

-- the names of an arena are as many as its darts
pub keys_counted : (m : ArenaMap) → IsLawful m → length (keys m.darts) ≡ m.count
keys_counted m lawful = length-map (entries m.darts) (λ e. e.0) ∙ (sym (len-entries m.darts) ∙ sym lawful.counted)

pub darts_counted : (m : ArenaMap) → IsLawful m → length (darts_of m) ≡ m.count
darts_counted m lawful = length-map (entries m.darts) dart_of_entry ∙ (sym (len-entries m.darts) ∙ sym lawful.counted)

abbrev pub nobody : DartRow
nobody = record { name = 0; alphas = []; values = [] }

-- the dart of a name in ascending order is the one at its place
dart_of_place : (darts : List DartRow) → IsStrictlyIncreasing (names darts) → (k : ℕ) → k < length darts → dart_of darts (get_or (names darts) k 0) ≡ Some (get_or darts k nobody)
dart_of_place darts up k within =
    let x = get_or (names darts) k 0 in
    let at : x ≡ (get_or darts k nobody).name = get_or-map (λ (dart : DartRow). dart.name) darts k nobody 0 within in
    let pairs = AllPairs-from_increasing (names darts) up in
    found_at (find (λ (dart : DartRow). eqb dart.name x)) (λ (dart : DartRow). eqb dart.name x) (λ dart. Some dart) None refl (λ _ _. refl) darts k nobody within
    (λ j below. ne_eqb _ _ (λ same.
    let at_j : get_or (names darts) j 0 ≡ (get_or darts j nobody).name = get_or-map (λ (dart : DartRow). dart.name) darts j nobody 0 (omega arith) in
    let lt : get_or (names darts) j 0 < x = pairs j k 0 below (omega (arith, length-map darts (λ (dart : DartRow). dart.name), within)) in
    omega (arith, at_j, same, lt)))
    (eq-eqb _ _ (sym at))

same_some : {A : Type 0} (x y : A) → Some x ≡ Some y → x ≡ y
same_some x y e = cc

from_found : (m : ArenaMap) (x : ℕ) (r : DartRow) → option_map (dart_with x) (get m.darts x) ≡ Some r → (dart_at m x ≡ r) × IsLiveName m x
from_found m x r found = go (get m.darts x) refl
  where
    go : (o : Option Dart) → get m.darts x ≡ o → (dart_at m x ≡ r) × IsLiveName m x
    go None is = let none : None ≡ Some r = rw is at found in absurd cc
    go (Some dart) is =
        let some : Some (dart_with x dart) ≡ Some r = rw is at found in
        (dart_at-is m x dart is ∙ same_some (dart_with x dart) r some, ap is_some is)

-- the dart of the name at a place
pub dart_at_place : (m : ArenaMap) (k : ℕ) → k < length (darts_of m) → (dart_at m (get_or (keys m.darts) k 0) ≡ get_or (darts_of m) k nobody) × IsLiveName m (get_or (keys m.darts) k 0)
dart_at_place m k within =
    let x = get_or (keys m.darts) k 0 in
    let same : get_or (names (darts_of m)) k 0 ≡ x = ap (λ ns. get_or ns k 0) (names_of_arena m) in
    let found : dart_of (darts_of m) x ≡ Some (get_or (darts_of m) k nobody) = subst (λ y. dart_of (darts_of m) y ≡ Some (get_or (darts_of m) k nobody)) same (dart_of_place (darts_of m) (darts_ascending m) k within) in
    from_found m x (get_or (darts_of m) k nobody) (sym (dart_of_arena m x) ∙ found)

-- one line more
pub lines_with : (m : ArenaMap) (k : ℕ) (front text after : List ℕ) → k < length (darts_of m) → text ≡ front ++ flat_map line_of (take k (darts_of m)) → after ≡ text ++ line_of (dart_at m (get_or (keys m.darts) k 0))
    → after ≡ front ++ flat_map line_of (take (k + 1) (darts_of m))
lines_with m k front text after within before last =
    let darts = darts_of m in
    let dart : line_of (dart_at m (get_or (keys m.darts) k 0)) ≡ flat_map line_of (get_or darts k nobody ∷ []) = ap line_of (dart_at_place m k within).0 ∙ sym (append-nil (line_of (get_or darts k nobody))) in
    let more : flat_map line_of (take (k + 1) darts) ≡ flat_map line_of (take k darts) ++ flat_map line_of (get_or darts k nobody ∷ []) =
    ap (flat_map line_of) (take_more darts k nobody within) ∙ flat_map-append line_of (take k darts) (get_or darts k nobody ∷ []) in
    last ∙ (ap (λ xs. xs ++ line_of (dart_at m (get_or (keys m.darts) k 0))) before
    ∙ (append_assoc front (flat_map line_of (take k darts)) (line_of (dart_at m (get_or (keys m.darts) k 0)))
    ∙ ap (λ xs. front ++ xs) (ap (λ xs. flat_map line_of (take k darts) ++ xs) dart ∙ sym more)))

-- the steps of so many darts
pub printed_within : (n count before after : ℕ) → after ≤ before + (n + 3) * count + 1 → after ≤ before + 8 * ((n + 1) * (n + 1)) * (count + 1)
printed_within n count before after h =
    let square : n + 1 ≤ (n + 1) * (n + 1) = omega (arith, mul-le 1 (n + 1) (n + 1) (n + 1) (omega arith) (omega arith)) in
    let each : n + 3 ≤ 8 * ((n + 1) * (n + 1)) = omega (arith, square) in
    let more : (n + 3) * (count + 1) ≡ (n + 3) * count + (n + 3) = omega arith in
    omega (arith, h, more, mul-le (n + 3) (count + 1) (8 * ((n + 1) * (n + 1))) (count + 1) each (omega arith))

-- ---- the whole text

abbrev pub header : MapVersion → ArenaMap → List ℕ
header version m = head_line version ++ (schema.canonical m.schema ++ (next_line version m.next ++ (codes "darts " ++ (decimal m.count ++ codes "\n"))))

pub whole_text : (version : MapVersion) (m : ArenaMap) → IsLawful m → header version m ++ flat_map line_of (darts_of m) ≡ canonical version (listed_of m)
whole_text version m lawful =
    let lines = flat_map line_of (darts_of m) in
    regroup (head_line version) (schema.canonical m.schema) (next_line version m.next) (codes "darts ") (decimal m.count) (codes "\n") lines
    ∙ ap (λ n. head_line version ++ (schema.canonical m.schema ++ (next_line version m.next ++ (codes "darts " ++ (decimal n ++ (codes "\n" ++ lines)))))) (sym (darts_counted m lawful))
  where
    regroup : (a b c d e f g : List ℕ) → (a ++ (b ++ (c ++ (d ++ (e ++ f))))) ++ g ≡ a ++ (b ++ (c ++ (d ++ (e ++ (f ++ g)))))
    regroup a b c d e f g = simp append_assoc

-- the header and the lines, behind what stood there before
pub text_with : (version : MapVersion) (m : ArenaMap) (old middle new : List ℕ) → IsLawful m → middle ≡ old ++ header version m → new ≡ middle ++ flat_map line_of (darts_of m) → new ≡ old ++ canonical version (listed_of m)
text_with version m old middle new lawful first last =
    last ∙ (ap (λ xs. xs ++ flat_map line_of (darts_of m)) first ∙ (append_assoc old (header version m) (flat_map line_of (darts_of m)) ∙ ap (λ xs. old ++ xs) (whole_text version m lawful)))
