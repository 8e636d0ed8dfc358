-- One line more: its dart is added with its values, or its name is there already.
use Rattle.std.proofs.Common.{◌≡◌, ℕ, ◌+◌, ◌-◌, ◌*◌, ◌/◌, ◌<◌, ◌≤◌, min, true, List, [], ◌∷◌, ◌++◌, length, take, drop, get_or, Option, Some, None, is_some, inl, inr, refl, sym, ap, subst, ◌∙◌, arith}
use Rattle.std.specs.Prelude.{MatchOption}
use Rattle.std.specs.FinMap.{get}
use Rattle.std.specs.List.{AllByRecursion}
use Rattle.std.specs.Option.{option_map}
use Rattle.std.proofs.lemmas.Bool.{cases_eq}
use Rattle.std.proofs.lemmas.List.{length-drop}
use Rattle.gm_model.specs.declared.schema.Embed.{Embed}
use Rattle.gm_model.specs.declared.schema.Schema.{Schema}
use Rattle.gm_model.specs.declared.value.Value.{Value}
use Rattle.gm_arena.specs.inner.ArenaMap.{ArenaMap, Dart}
use Rattle.gm_arena.specs.inner.Edits.{with_dart}
use Rattle.gm_arena.specs.inner.Lawful.{AreGoodValues}
use Rattle.gm_arena.proofs.MapLemmas.{get-with_dart_same, get-with_dart_other}
use Rattle.gm_mapfile.specs.MapFaults.{AreBelow}
use Rattle.gm_mapfile.specs.MapText.{DartRow, bare, rows_of, dart_of}
use Rattle.gm_mapfile.specs.inner.Building.{IsFresh, IsNextLeast, AreAdded, AreValued}
use Rattle.gm_mapfile.proofs.Adding.{none_added, none_next, next_more, added_more, added_again}
use Rattle.gm_mapfile.specs.inner.Rows.{row_in, rows_in, valued, darts_in}
use Rattle.gm_mapfile.proofs.Chunks.{lines_cut, name_live, next_among, darts_line, rows_of_darts_in}
use Rattle.gm_mapfile.proofs.Darts.{rows_append, live_dart, dart_of_push_new, dart_of_push_other, dart_of_push_again}
use Rattle.gm_mapfile.proofs.Named.{none_of}

-- the arena has the darts, free for every label, with their values
pub record HasDarts (n : ℕ) (darts : List DartRow) (m : ArenaMap) (found : Option ℕ) : Type 0 where
  pub added : AreAdded n (rows_of darts) m found
  pub valued : AreValued darts m
  pub next : IsNextLeast m

-- before the first
pub has_none : (n : ℕ) (m : ArenaMap) → IsFresh m → HasDarts n [] m None
has_none n m fresh = record { added = none_added n m fresh; valued = λ d. rw (fresh.none d) refl; next = none_next m fresh }

abbrev pub values_in : Option Dart → Option (List Value)
values_in o = option_map (λ (dart : Dart). dart.values) o

abbrev pub written_values : Option DartRow → Option (List Value)
written_values o = option_map (λ (dart : DartRow). dart.values) o

module _ (n : ℕ) (darts : List DartRow) (dart : DartRow) (m : ArenaMap) (found : Option ℕ) (has : HasDarts n darts m found) where
  pushed : (m' : ArenaMap) (o : Option ℕ) → AreAdded n (rows_of darts ++ bare dart ∷ []) m' o → AreAdded n (rows_of (darts ++ dart ∷ [])) m' o
  pushed m' o added = subst (λ rows. AreAdded n rows m' o) (sym (rows_append darts (dart ∷ []))) added

  same_live : is_some (dart_of darts dart.name) ≡ is_some (get m.darts dart.name)
  same_live = sym (has.added.live dart.name ∙ live_dart darts dart.name)

  has_more : (slot : ℕ) → m.schema.dim ≡ n → get m.darts dart.name ≡ None → HasDarts n (darts ++ dart ∷ []) (with_dart m slot dart.name dart.values) found
  has_more slot dim new_name =
      let none : dart_of darts dart.name ≡ None = none_of _ (same_live ∙ ap is_some new_name) in
      record {
        added = pushed (with_dart m slot dart.name dart.values) found (added_more n (rows_of darts) (bare dart) m found has.added slot dart.values dim new_name);
        valued = λ d. elim (cases_eq d dart.name) [
          | inl e ↦ rw e (ap values_in (get-with_dart_same m slot dart.name dart.values) ∙ sym (ap written_values (dart_of_push_new darts dart none)))
          | inr apart ↦ ap values_in (get-with_dart_other m slot dart.name dart.values d apart) ∙ (has.valued d ∙ sym (ap written_values (dart_of_push_other darts dart d apart)))
        ];
        next = next_more m slot dart.name dart.values has.next;
      }

  has_again : (t : ℕ) → is_some (get m.darts dart.name) ≡ true → MatchOption found (t ≡ dart.name) (λ least. t ≡ min least dart.name) → HasDarts n (darts ++ dart ∷ []) m (Some t)
  has_again t there is = record {
    added = pushed m (Some t) (added_again n (rows_of darts) (bare dart) m found has.added t there is);
    valued = λ d. has.valued d ∙ sym (ap written_values (dart_of_push_again darts dart d (same_live ∙ there)));
    next = has.next;
  }

  -- the same by the name and the values that the code reads
  pub has_more_named : (slot name : ℕ) (values : List Value) → m.schema.dim ≡ n → dart.name ≡ name → dart.values ≡ values → get m.darts name ≡ None → HasDarts n (darts ++ dart ∷ []) (with_dart m slot name values) found
  has_more_named slot name values dim same own =
      subst (λ k. get m.darts k ≡ None → HasDarts n (darts ++ dart ∷ []) (with_dart m slot k values) found) same
      (subst (λ vs. get m.darts dart.name ≡ None → HasDarts n (darts ++ dart ∷ []) (with_dart m slot dart.name vs) found) own (has_more slot dim))

  pub has_again_named : (name t : ℕ) → dart.name ≡ name → is_some (get m.darts name) ≡ true → MatchOption found (t ≡ name) (λ least. t ≡ min least name) → HasDarts n (darts ++ dart ∷ []) m (Some t)
  has_again_named name t same = subst (λ k. is_some (get m.darts k) ≡ true → MatchOption found (t ≡ k) (λ least. t ≡ min least k) → HasDarts n (darts ++ dart ∷ []) m (Some t)) same (has_again t)

-- ---- one line, and what is left behind it

abbrev pub AreGood : Schema → List DartRow → Type 0
AreGood schema darts = AllByRecursion (λ (dart : DartRow). AreGoodValues schema dart.values) darts

module _ (schema : Schema) (all line rest : List ℕ) (values others : List Value) (cut : all ≡ line ++ rest) (wide : length line ≡ schema.dim + 2) (left : others ≡ drop (length schema.embeds) values) where
  abbrev pub own : DartRow
  own = valued (row_in line) (take (length schema.embeds) values)

  line_and_left : darts_in schema all values ≡ own ∷ darts_in schema rest others
  line_and_left = darts_line schema all line rest values cut wide ∙ ap (λ vs. own ∷ darts_in schema rest vs) (sym left)

  pub line_split : (front whole : List DartRow) → front ++ darts_in schema all values ≡ whole → (front ++ own ∷ []) ++ darts_in schema rest others ≡ whole
  line_split front whole so_far = next_among front whole (darts_in schema all values) (darts_in schema rest others) own so_far line_and_left

  pub line_good : AreGood schema (darts_in schema all values) → AreGoodValues schema own.values × AreGood schema (darts_in schema rest others)
  line_good good = subst (AreGood schema) line_and_left good

  lines : length all / (schema.dim + 2) ≡ length rest / (schema.dim + 2) + 1
  lines = lines_cut schema.dim all line rest cut wide

  pub line_spare : (spare : ℕ) → length all / (schema.dim + 2) ≤ spare → (0 < spare) × (length rest / (schema.dim + 2) ≤ spare - 1)
  line_spare spare room = (omega (arith, lines, room), omega (arith, lines, room))

  pub line_long : length values ≡ length all / (schema.dim + 2) * length schema.embeds → length others ≡ length rest / (schema.dim + 2) * length schema.embeds
  line_long long =
      let more : length values ≡ (length rest / (schema.dim + 2) + 1) * length schema.embeds = long ∙ ap (λ k. k * length schema.embeds) lines in
      ap length left ∙ omega (arith, more, length-drop (length schema.embeds) values)

-- a line's values are there
pub line_values : (schema : Schema) (all line rest : List ℕ) (values : List Value) → all ≡ line ++ rest → length line ≡ schema.dim + 2 → length values ≡ length all / (schema.dim + 2) * length schema.embeds → length schema.embeds ≤ length values
line_values schema all line rest values cut wide long =
    let more : length values ≡ (length rest / (schema.dim + 2) + 1) * length schema.embeds = long ∙ ap (λ k. k * length schema.embeds) (lines_cut schema.dim all line rest cut wide) in
    omega (arith, more)

-- a line's name is below what is above all names
pub line_below : (schema : Schema) (front : List DartRow) (numbers all line rest : List ℕ) (whole values : List Value) → front ++ darts_in schema all values ≡ darts_in schema numbers whole → all ≡ line ++ rest → length line ≡ schema.dim + 2
    → (bound : ℕ) → AreBelow (rows_in schema.dim numbers) bound → get_or line 0 0 < bound
line_below schema front numbers all line rest whole values split cut wide bound below =
    let rows : rows_of front ++ rows_in schema.dim all ≡ rows_in schema.dim numbers =
    ap (λ rs. rows_of front ++ rs) (sym (rows_of_darts_in schema all values)) ∙ (sym (rows_append front (darts_in schema all values)) ∙ (ap rows_of split ∙ rows_of_darts_in schema numbers whole)) in
    below (get_or line 0 0) (name_live schema.dim (rows_of front) numbers all line rest rows cut wide)

pub schema_kept : (m new : ArenaMap) (slot name : ℕ) (values : List Value) (schema : Schema) → new ≡ with_dart m slot name values → m.schema ≡ schema → new.schema ≡ schema
schema_kept m new slot name values schema is same = ap (λ (x : ArenaMap). x.schema) is ∙ same

-- how many values a line has, where a schema is read for that of an arena
pub width_read : (embeds : List Embed) (read schema : Schema) → embeds ≡ read.embeds → read ≡ schema → length embeds ≡ length schema.embeds
width_read embeds read schema embeds_are schema_is = ap length embeds_are ∙ ap (λ (s : Schema). length s.embeds) schema_is

-- the values of a line and those behind it, where they are cut by a number that is read before
module _ (schema : Schema) (width : ℕ) (values own others : List Value) (is : width ≡ length schema.embeds) where
  pub behind_read : others ≡ drop width values → others ≡ drop (length schema.embeds) values
  behind_read cut = cut ∙ ap (λ k. drop k values) is

  pub values_read : own ≡ take width values → take (length schema.embeds) values ≡ own
  values_read cut = sym (cut ∙ ap (λ k. take k values) is)

  pub good_read : (read : Schema) → read ≡ schema → own ≡ take width values → AreGoodValues schema (take (length schema.embeds) values) → AreGoodValues read own
  good_read read same cut good = subst (λ (s : Schema). AreGoodValues s own) (sym same) (subst (AreGoodValues schema) (values_read cut) good)
