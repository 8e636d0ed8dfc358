-- Reading the names of a line, its values and the lines of darts one after the other, as loops do.
use Rattle.std.proofs.Common.{◌≡◌, ℕ, zero, suc, ◌+◌, ◌-◌, ◌<◌, ℤ, pos, List, [], ◌∷◌, ◌++◌, length, map, replicate, take, drop, get_or, refl, sym, ap, ap₂, subst, ◌∙◌, append_assoc, length-append, take-suc, drop-cons, arith}
use Rattle.std.specs.List.{flat_map, AllByRecursion}
use Rattle.std.proofs.lemmas.Grind.{flat_map-append}
use Rattle.std.proofs.lemmas.List.{append-nil, map-append, replicate-append-replicate, take-append-drop}
use Rattle.gm_model.specs.declared.schema.Embed.{Embed}
use Rattle.gm_model.specs.declared.schema.Schema.{Schema}
use Rattle.gm_model.specs.declared.value.Kind.{Kind}
use Rattle.gm_model.specs.declared.value.Value.{Value}
use Rattle.gm_model.specs.Expressions.{components}
use Rattle.gm_model.specs.Values.{kind_of}
use Rattle.gm_text.specs.inner.Cursor.{Cursor}
use Rattle.gm_text.specs.declared.schema_fault.SchemaFault.{SchemaFault}
use Rattle.gm_mapfile.specs.inner.Draft.{line_in}
use Rattle.gm_mapfile.specs.MapText.{DartRow, DartName}
use Rattle.gm_mapfile.specs.MapReading.{Want, TheNumber, value_wants, values_wants, dart_wants, darts_wants, Takes, Misses, numbers_in, all_numbers, AreOfKinds, IsWhole, ReadsNames, ReadsValues, ReadsDarts}
use Rattle.gm_mapfile.proofs.Joined.{takes_nothing, takes_then, misses_first, misses_then}

-- in other words for what is wanted and taken
takes_as : (ws vs : List Want) (xs ys : List ℤ) (old new : Cursor) → ws ≡ vs → xs ≡ ys → Takes ws xs old new → Takes vs ys old new
takes_as ws vs xs ys old new e f takes = subst (λ (w : List Want). Takes w ys old new) e (subst (λ (x : List ℤ). Takes ws x old new) f takes)

misses_as : (ws vs : List Want) (old : Cursor) (fault : SchemaFault) → ws ≡ vs → Misses ws old fault → Misses vs old fault
misses_as ws vs old fault e misses = subst (λ (w : List Want). Misses w old fault) e misses

-- what is still behind the place in a count
left : (k count : ℕ) → k < count → k + suc (count - (k + 1)) ≡ count
left k count lt = omega (arith, lt)

-- ---- names

pub names_more : (count : ℕ) (old between new : Cursor) (before names : List ℕ) (name : ℕ) → ReadsNames count old between before names → Takes (TheNumber DartName ∷ []) (pos name ∷ []) between new → ReadsNames (count + 1) old new before (names ++ name ∷ [])
names_more count old between new before names name (more, is, long, takes) one = (
  more ++ name ∷ [],
  ap (λ (ns : List ℕ). ns ++ name ∷ []) is ∙ append_assoc before more (name ∷ []),
  length-append more (name ∷ []) ∙ ap (λ (k : ℕ). k + 1) long,
  takes_as (replicate count (TheNumber DartName) ++ TheNumber DartName ∷ []) (replicate (count + 1) (TheNumber DartName)) (map pos more ++ pos name ∷ []) (map pos (more ++ name ∷ [])) old new
      (replicate-append-replicate count 1 (TheNumber DartName)) (sym (map-append pos more (name ∷ [])))
      (takes_then (replicate count (TheNumber DartName)) (TheNumber DartName ∷ []) (map pos more) (pos name ∷ []) old between new takes one),
)

pub names_stop : (count k : ℕ) (old between : Cursor) (before names : List ℕ) (fault : SchemaFault) → k < count → ReadsNames k old between before names → Misses (TheNumber DartName ∷ []) between fault → Misses (replicate count (TheNumber DartName)) old fault
names_stop count k old between before names fault lt (more, is, long, takes) misses =
    let rest = replicate (count - (k + 1)) (TheNumber DartName) in
    let all : replicate k (TheNumber DartName) ++ TheNumber DartName ∷ rest ≡ replicate count (TheNumber DartName) = replicate-append-replicate k (suc (count - (k + 1))) (TheNumber DartName) ∙ ap (λ (n : ℕ). replicate n (TheNumber DartName)) (left k count lt) in
    misses_as (replicate k (TheNumber DartName) ++ TheNumber DartName ∷ rest) (replicate count (TheNumber DartName)) old fault all
    (misses_then (replicate k (TheNumber DartName)) (TheNumber DartName ∷ rest) (map pos more) old between fault takes (misses_first (TheNumber DartName ∷ []) rest between fault misses))

-- ---- values

abbrev wants_of : Embed → List Want
wants_of embed = value_wants embed.kind

pub values_none : (old : Cursor) (before : List Value) → ReadsValues [] old old before before
values_none old before = ([], sym (append-nil before), refl, takes_nothing old)

pub values_more : (embeds : List Embed) (embed : Embed) (old between new : Cursor) (before values : List Value) (value : Value) → ReadsValues embeds old between before values
    → Takes (value_wants embed.kind) (components value) between new → kind_of value ≡ embed.kind → ReadsValues (embeds ++ embed ∷ []) old new before (values ++ value ∷ [])
values_more embeds embed old between new before values value (more, is, kinds, takes) one kind = (
  more ++ value ∷ [],
  ap (λ (vs : List Value). vs ++ value ∷ []) is ∙ append_assoc before more (value ∷ []),
  map-append kind_of more (value ∷ []) ∙ ap₂ (λ (ks : List Kind) (k : Kind). ks ++ k ∷ []) kinds kind ∙ sym (map-append (λ (e : Embed). e.kind) embeds (embed ∷ [])),
  takes_as (values_wants embeds ++ value_wants embed.kind) (values_wants (embeds ++ embed ∷ [])) (flat_map components more ++ components value) (flat_map components (more ++ value ∷ [])) old new
      (ap (λ (ws : List Want). values_wants embeds ++ ws) (sym (append-nil (value_wants embed.kind))) ∙ sym (flat_map-append wants_of embeds (embed ∷ [])))
      (ap (λ (xs : List ℤ). flat_map components more ++ xs) (sym (append-nil (components value))) ∙ sym (flat_map-append components more (value ∷ [])))
      (takes_then (values_wants embeds) (value_wants embed.kind) (flat_map components more) (components value) old between new takes one),
)

pub values_stop : (embeds rest : List Embed) (embed : Embed) (old between : Cursor) (before values : List Value) (fault : SchemaFault) → ReadsValues embeds old between before values → Misses (value_wants embed.kind) between fault → Misses (values_wants (embeds ++ embed ∷ rest)) old fault
values_stop embeds rest embed old between before values fault (more, is, kinds, takes) misses =
    misses_as (values_wants embeds ++ (value_wants embed.kind ++ values_wants rest)) (values_wants (embeds ++ embed ∷ rest)) old fault (sym (flat_map-append wants_of embeds (embed ∷ rest)))
    (misses_then (values_wants embeds) (value_wants embed.kind ++ values_wants rest) (flat_map components more) old between fault takes (misses_first (value_wants embed.kind) (values_wants rest) between fault misses))

pub taken_to : (embeds : List Embed) (k : ℕ) (embed : Embed) → k < length embeds → embed ≡ get_or embeds k embed → take k embeds ++ embed ∷ [] ≡ take (k + 1) embeds
taken_to embeds k embed lt is =
    let one : suc k ≡ k + 1 = omega arith in
    ap (λ (e : Embed). take k embeds ++ e ∷ []) is ∙ sym (take-suc embeds k embed lt) ∙ ap (λ (n : ℕ). take n embeds) one

pub taken_at : (embeds : List Embed) (k : ℕ) (embed : Embed) → k < length embeds → embed ≡ get_or embeds k embed → take k embeds ++ embed ∷ drop (suc k) embeds ≡ embeds
taken_at embeds k embed lt is =
    ap (λ (e : Embed). take k embeds ++ e ∷ drop (suc k) embeds) is ∙ ap (λ (es : List Embed). take k embeds ++ es) (sym (drop-cons embeds k embed lt)) ∙ take-append-drop k embeds

-- ---- lines

wants_add : (schema : Schema) (j k : ℕ) → darts_wants schema (j + k) ≡ darts_wants schema j ++ darts_wants schema k
wants_add schema zero k = ap (darts_wants schema) (omega arith)
wants_add schema (suc j) k =
    let one : suc j + k ≡ suc (j + k) = omega arith in
    ap (darts_wants schema) one ∙ ap (λ (ws : List Want). dart_wants schema ++ ws) (wants_add schema j k) ∙ sym (append_assoc (dart_wants schema) (darts_wants schema j) (darts_wants schema k))

module _ (schema : Schema) where
  pub lines_none : (old : Cursor) → ReadsDarts schema 0 old old [] []
  lines_none old = record { darts = []; whole = tt; counted = refl; numbers_are = refl; values_are = refl; takes = takes_nothing old }

  whole_more : (darts : List DartRow) (dart : DartRow) → AllByRecursion (IsWhole schema) darts → IsWhole schema dart → AllByRecursion (IsWhole schema) (darts ++ dart ∷ [])
  whole_more [] dart all one = (one, tt)
  whole_more (first ∷ darts) dart all one = (all.0, whole_more darts dart all.1 one)

  module _ (k : ℕ) (old between : Cursor) (numbers : List ℕ) (values : List Value) (reads : ReadsDarts schema k old between numbers values) where
    line_more : (name : ℕ) (alphas numbers' : List ℕ) (values' : List Value) (more : List Value) (new : Cursor) → numbers' ≡ numbers ++ name ∷ alphas → length alphas ≡ schema.dim + 1 → values' ≡ values ++ more → AreOfKinds schema.embeds more
        → Takes (dart_wants schema) (map pos (name ∷ alphas) ++ flat_map components more) between new → ReadsDarts schema (k + 1) old new numbers' values'
    line_more name alphas numbers' values' more new numbers_are long values_are kinds takes =
        let dart : DartRow = record { name = name; alphas = alphas; values = more } in
        record {
          darts = reads.darts ++ dart ∷ [];
          whole = whole_more reads.darts dart reads.whole (long, kinds);
          counted = length-append reads.darts (dart ∷ []) ∙ ap (λ (n : ℕ). n + 1) reads.counted;
          numbers_are = numbers_are ∙ ap₂ (λ (ns ms : List ℕ). ns ++ ms) reads.numbers_are (sym (append-nil (name ∷ alphas))) ∙ sym (flat_map-append line_in reads.darts (dart ∷ []));
          values_are = values_are ∙ ap₂ (λ (vs ws : List Value). vs ++ ws) reads.values_are (sym (append-nil more)) ∙ sym (flat_map-append (λ (d : DartRow). d.values) reads.darts (dart ∷ []));
          takes = takes_as (darts_wants schema k ++ dart_wants schema) (darts_wants schema (k + 1)) (all_numbers reads.darts ++ numbers_in dart) (all_numbers (reads.darts ++ dart ∷ [])) old new
              (ap (λ (ws : List Want). darts_wants schema k ++ ws) (sym (append-nil (dart_wants schema))) ∙ sym (wants_add schema k 1))
              (ap (λ (xs : List ℤ). all_numbers reads.darts ++ xs) (sym (append-nil (numbers_in dart))) ∙ sym (flat_map-append numbers_in reads.darts (dart ∷ [])))
              (takes_then (darts_wants schema k) (dart_wants schema) (all_numbers reads.darts) (numbers_in dart) old between new reads.takes takes);
        }

    pub lines_more : (numbers' : List ℕ) (values' : List Value) (behind new : Cursor) → ReadsNames (schema.dim + 2) between behind numbers numbers' → ReadsValues schema.embeds behind new values values' → ReadsDarts schema (k + 1) old new numbers' values'
    lines_more numbers' values' behind new (names, numbers_are, long, names_take) (more, values_are, kinds, values_take) = go names numbers_are long (takes_then (replicate (schema.dim + 2) (TheNumber DartName)) (values_wants schema.embeds) (map pos names) (flat_map components more) between behind new names_take values_take)
      where
        go : (ns : List ℕ) → numbers' ≡ numbers ++ ns → length ns ≡ schema.dim + 2 → Takes (dart_wants schema) (map pos ns ++ flat_map components more) between new → ReadsDarts schema (k + 1) old new numbers' values'
        go [] is none takes = absurd (omega (arith, none))
        go (name ∷ alphas) is all takes = line_more name alphas numbers' values' more new is (omega (arith, all)) values_are kinds takes

    line_stop : (count : ℕ) (fault : SchemaFault) → k < count → Misses (dart_wants schema) between fault → Misses (darts_wants schema count) old fault
    line_stop count fault lt misses =
        let rest = darts_wants schema (count - (k + 1)) in
        let all : darts_wants schema k ++ (dart_wants schema ++ rest) ≡ darts_wants schema count = sym (wants_add schema k (suc (count - (k + 1)))) ∙ ap (darts_wants schema) (left k count lt) in
        misses_as (darts_wants schema k ++ (dart_wants schema ++ rest)) (darts_wants schema count) old fault all
        (misses_then (darts_wants schema k) (dart_wants schema ++ rest) (all_numbers reads.darts) old between fault reads.takes (misses_first (dart_wants schema) rest between fault misses))

    pub stop_at_names : (count : ℕ) (fault : SchemaFault) → k < count → Misses (replicate (schema.dim + 2) (TheNumber DartName)) between fault → Misses (darts_wants schema count) old fault
    stop_at_names count fault lt misses = line_stop count fault lt (misses_first (replicate (schema.dim + 2) (TheNumber DartName)) (values_wants schema.embeds) between fault misses)

    pub stop_at_values : (count : ℕ) (fault : SchemaFault) (numbers' : List ℕ) (behind : Cursor) → k < count → ReadsNames (schema.dim + 2) between behind numbers numbers' → Misses (values_wants schema.embeds) behind fault → Misses (darts_wants schema count) old fault
    stop_at_values count fault numbers' behind lt (names, is, long, takes) misses =
        line_stop count fault lt (misses_then (replicate (schema.dim + 2) (TheNumber DartName)) (values_wants schema.embeds) (map pos names) between behind fault takes misses)
