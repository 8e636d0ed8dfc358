-- What one symbol comes to where a map's text is read, in each state that waits for it.
use Rattle.std.proofs.Common.{◌≡◌, ◌≢◌, ℕ, ◌-◌, ◌^◌, ◌<◌, ◌≤◌, min, Bool, true, false, ℤ, pos, List, [], ◌∷◌, ◌++◌, Some, None, refl, sym, ap, subst, ◌∙◌, codes, arith}
use Rattle.std.specs.Prelude.{nat_lt, nat_le, ◌==◌}
use Rattle.std.specs.Str.{bytes_eq}
use Rattle.std.proofs.lemmas.Bool.Decides.{nat_tests}
use Rattle.std.proofs.lemmas.Slice.Eq.{bytes_eq-Decides}
use Rattle.gm_model.specs.declared.schema.Schema.{Schema}
use Rattle.gm_model.specs.Limits.{most_darts, most_names}
use Rattle.gm_model.specs.Symbols.{Symbol, Word, Numeral, Sign, Gone, Stray, End, Mark}
use Rattle.gm_text.specs.inner.Cursor.{Cursor}
use Rattle.gm_text.specs.inner.Nested.{Outside}
use Rattle.gm_text.specs.inner.SchemaAnswers.{marks_left}
use Rattle.gm_text.specs.declared.schema_fault.SchemaFault.{SchemaFault}
use Rattle.gm_text.specs.declared.schema_fault.SchemaFault.TheVariants as faults
use Rattle.gm_mapfile.specs.MapText.{DartName, Second}
use Rattle.gm_mapfile.specs.MapReading.{Whole, State, AtVersion, AtNext, AtNextName, AtDarts, AtCount, Head, Want, TheNumber, start, into_schema, expect, move_version, darts_wants, run_from, Reads, EndsAt, Stops, among, Takes, Misses}
use Rattle.gm_mapfile.specs.inner.Words.{IsMarkNext, StandsNext, IsNumberNext, IsOtherNext, IsNoNumberNext}
use Rattle.gm_mapfile.proofs.Joined.{move_at, limit_at, went, ended}

-- ---- one mark

pub reads_mark : (state next : Whole) (symbol : Symbol) (place : ℕ) (old new : Cursor) → IsMarkNext symbol place old new → move_at state symbol ≡ Some next → limit_at state symbol place ≡ None → Reads state old new next
reads_mark state next symbol place old new is moves free = record {
  before = record { symbol = symbol; place = place } ∷ [];
  split = is;
  runs = went state next (record { symbol = symbol; place = place }) moves free [];
}

pub stops_mark : (state : Whole) (old : Cursor) (mark : Mark) (rest : List Mark) → marks_left old ≡ mark ∷ rest → move_at state mark.symbol ≡ None → EndsAt state old mark.place
stops_mark state old mark rest marks none = (state, mark, refl, ap (run_from state) marks ∙ ended state mark none rest)

-- where it isn't the one symbol that can stand there
pub stops_other : (state : Whole) (symbol : Symbol) (old : Cursor) (fault : SchemaFault) → ((other : Symbol) → other ≢ symbol → move_at state other ≡ None) → IsOtherNext symbol old fault → Stops state old fault
stops_other state symbol old fault none (mark, rest, marks, other, says) = rw says (stops_mark state old mark rest marks (none mark.symbol other))

pub stops_no_number : (state : Whole) (old : Cursor) (fault : SchemaFault) → ((other : Symbol) → ((n : ℕ) → other ≢ Numeral n) → move_at state other ≡ None) → IsNoNumberNext old fault → Stops state old fault
stops_no_number state old fault none (mark, rest, marks, other, says) = rw says (stops_mark state old mark rest marks (none mark.symbol other))

-- ---- words

pub met : (wanted : List ℕ) (to : State) → expect wanted wanted to ≡ Some (Outside to)
met wanted to = let is : bytes_eq wanted wanted ≡ true = (bytes_eq-Decides wanted wanted).1 refl in rw is refl

pub unmet : (wanted found : List ℕ) (to : State) → found ≢ wanted → expect wanted found to ≡ None
unmet wanted found to other = go (bytes_eq found wanted) refl
  where
    go : (b : Bool) → bytes_eq found wanted ≡ b → expect wanted found to ≡ None
    go true e = absurd (other ((bytes_eq-Decides found wanted).0 e))
    go false e = rw e refl

no_gmap : (other : Symbol) → other ≢ Word (codes "gmap") → move_at start other ≡ None
no_gmap (Word w) other = unmet (codes "gmap") w AtVersion (λ e. other (ap Word e))
no_gmap (Numeral n) other = refl
no_gmap (Sign s) other = refl
no_gmap Gone other = refl
no_gmap Stray other = refl
no_gmap End other = refl

no_next : (schema : Schema) (other : Symbol) → other ≢ Word (codes "next") → move_at (Outside (AtNext schema)) other ≡ None
no_next schema (Word w) other = unmet (codes "next") w (AtNextName schema) (λ e. other (ap Word e))
no_next schema (Numeral n) other = refl
no_next schema (Sign s) other = refl
no_next schema Gone other = refl
no_next schema Stray other = refl
no_next schema End other = refl

no_darts : (head : Head) (other : Symbol) → other ≢ Word (codes "darts") → move_at (Outside (AtDarts head)) other ≡ None
no_darts head (Word w) other = unmet (codes "darts") w (AtCount head) (λ e. other (ap Word e))
no_darts head (Numeral n) other = refl
no_darts head (Sign s) other = refl
no_darts head Gone other = refl
no_darts head Stray other = refl
no_darts head End other = refl

module _ (old new : Cursor) where
  pub format_reads : StandsNext (Word (codes "gmap")) old new → Reads start old new (Outside AtVersion)
  format_reads (place, is) = reads_mark start (Outside AtVersion) (Word (codes "gmap")) place old new is (met (codes "gmap") AtVersion) refl

  pub next_reads : (schema : Schema) → StandsNext (Word (codes "next")) old new → Reads (Outside (AtNext schema)) old new (Outside (AtNextName schema))
  next_reads schema (place, is) = reads_mark (Outside (AtNext schema)) (Outside (AtNextName schema)) (Word (codes "next")) place old new is (met (codes "next") (AtNextName schema)) refl

  pub darts_reads : (head : Head) → StandsNext (Word (codes "darts")) old new → Reads (Outside (AtDarts head)) old new (Outside (AtCount head))
  darts_reads head (place, is) = reads_mark (Outside (AtDarts head)) (Outside (AtCount head)) (Word (codes "darts")) place old new is (met (codes "darts") (AtCount head)) refl

module _ (old : Cursor) (fault : SchemaFault) where
  pub format_stops : IsOtherNext (Word (codes "gmap")) old fault → Stops start old fault
  format_stops is = stops_other start (Word (codes "gmap")) old fault no_gmap is

  pub next_stops : (schema : Schema) → IsOtherNext (Word (codes "next")) old fault → Stops (Outside (AtNext schema)) old fault
  next_stops schema is = stops_other (Outside (AtNext schema)) (Word (codes "next")) old fault (no_next schema) is

  pub darts_stops : (head : Head) → IsOtherNext (Word (codes "darts")) old fault → Stops (Outside (AtDarts head)) old fault
  darts_stops head is = stops_other (Outside (AtDarts head)) (Word (codes "darts")) old fault (no_darts head) is

-- ---- numbers

-- below the greatest `u64` a number is the one that was read
exact : (n value : ℕ) → value ≡ min n (2 ^ 64 - 1) → value < 2 ^ 64 - 1 → n ≡ value
exact n value is small = omega (arith, is, small)

pub not_above : (n least : ℕ) → n ≤ least → nat_lt least n ≡ false
not_above n least h = grind (arith, nat_tests, h)

not_at_least : (n least : ℕ) → n < least → nat_le least n ≡ false
not_at_least n least h = grind (arith, nat_tests, h)

no_version_symbol : (other : Symbol) → ((n : ℕ) → other ≢ Numeral n) → move_at (Outside AtVersion) other ≡ None
no_version_symbol (Numeral n) other = absurd (other n refl)
no_version_symbol (Word w) other = refl
no_version_symbol (Sign s) other = refl
no_version_symbol Gone other = refl
no_version_symbol Stray other = refl
no_version_symbol End other = refl

no_next_number : (schema : Schema) (other : Symbol) → ((n : ℕ) → other ≢ Numeral n) → move_at (Outside (AtNextName schema)) other ≡ None
no_next_number schema (Numeral n) other = absurd (other n refl)
no_next_number schema (Word w) other = refl
no_next_number schema (Sign s) other = refl
no_next_number schema Gone other = refl
no_next_number schema Stray other = refl
no_next_number schema End other = refl

no_count : (head : Head) (other : Symbol) → ((n : ℕ) → other ≢ Numeral n) → move_at (Outside (AtCount head)) other ≡ None
no_count head (Numeral n) other = absurd (other n refl)
no_count head (Word w) other = refl
no_count head (Sign s) other = refl
no_count head Gone other = refl
no_count head Stray other = refl
no_count head End other = refl

no_name : (head : Head) (taken : List ℤ) (wants : List Want) (other : Symbol) → ((n : ℕ) → other ≢ Numeral n) → move_at (among head taken (TheNumber DartName ∷ wants)) other ≡ None
no_name head taken wants (Numeral n) other = absurd (other n refl)
no_name head taken wants (Word w) other = refl
no_name head taken wants (Sign s) other = refl
no_name head taken wants Gone other = refl
no_name head taken wants Stray other = refl
no_name head taken wants End other = refl

module _ (old : Cursor) (value place : ℕ) (new : Cursor) (is : IsNumberNext old value place new) where
  pub first_reads : value ≡ 1 → Reads (Outside AtVersion) old new (into_schema false)
  first_reads e =
      let same : is.0 ≡ 1 = exact is.0 1 (sym e ∙ is.1) (omega arith) in
      reads_mark (Outside AtVersion) (into_schema false) (Numeral is.0) place old new is.2 (ap move_version same) refl

  pub second_reads : value ≡ 2 → Reads (Outside AtVersion) old new (into_schema true)
  second_reads e =
      let same : is.0 ≡ 2 = exact is.0 2 (sym e ∙ is.1) (omega arith) in
      reads_mark (Outside AtVersion) (into_schema true) (Numeral is.0) place old new is.2 (ap move_version same) refl

  pub version_stops : value ≢ 1 → value ≢ 2 → Stops (Outside AtVersion) old (faults.Text place)
  version_stops one two =
      let first : (is.0 == 1) ≡ false = grind (arith, nat_tests, is.1, one) in
      let second : (is.0 == 2) ≡ false = grind (arith, nat_tests, is.1, two) in
      stops_mark (Outside AtVersion) old (record { symbol = Numeral is.0; place = place }) (marks_left new) is.2 (rw (first, second) refl)

  pub next_name_reads : (schema : Schema) → value ≤ most_names → Reads (Outside (AtNextName schema)) old new (Outside (AtDarts (record { version = Second value; schema = schema })))
  next_name_reads schema small =
      let same = exact is.0 value is.1 (omega (arith, small)) in
      let limit : nat_lt most_names is.0 ≡ false = not_above is.0 most_names (omega (arith, same, small)) in
      let next = Outside (AtDarts (record { version = Second is.0; schema = schema })) in
      subst (λ (k : ℕ). Reads (Outside (AtNextName schema)) old new (Outside (AtDarts (record { version = Second k; schema = schema })))) same
      (reads_mark (Outside (AtNextName schema)) next (Numeral is.0) place old new is.2 refl (rw limit refl))

  pub count_reads : (head : Head) → value ≤ most_darts → Reads (Outside (AtCount head)) old new (among head [] (darts_wants head.schema value))
  count_reads head small =
      let same = exact is.0 value is.1 (omega (arith, small)) in
      let limit : nat_lt most_darts is.0 ≡ false = not_above is.0 most_darts (omega (arith, same, small)) in
      subst (λ (k : ℕ). Reads (Outside (AtCount head)) old new (among head [] (darts_wants head.schema k))) same
      (reads_mark (Outside (AtCount head)) (among head [] (darts_wants head.schema is.0)) (Numeral is.0) place old new is.2 refl (rw limit refl))

  pub name_takes : value < most_names → Takes (TheNumber DartName ∷ []) (pos value ∷ []) old new
  name_takes small head taken wants =
      let same = exact is.0 value is.1 (omega (arith, small)) in
      let limit : nat_le most_names is.0 ≡ false = not_at_least is.0 most_names (omega (arith, same, small)) in
      subst (λ (k : ℕ). Reads (among head taken (TheNumber DartName ∷ wants)) old new (among head (taken ++ pos k ∷ []) wants)) same
      (reads_mark (among head taken (TheNumber DartName ∷ wants)) (among head (taken ++ pos is.0 ∷ []) wants) (Numeral is.0) place old new is.2 refl (rw limit refl))

module _ (old : Cursor) (fault : SchemaFault) (none : IsNoNumberNext old fault) where
  pub version_lacks : Stops (Outside AtVersion) old fault
  version_lacks = stops_no_number (Outside AtVersion) old fault no_version_symbol none

  pub next_name_lacks : (schema : Schema) → Stops (Outside (AtNextName schema)) old fault
  next_name_lacks schema = stops_no_number (Outside (AtNextName schema)) old fault (no_next_number schema) none

  pub count_lacks : (head : Head) → Stops (Outside (AtCount head)) old fault
  count_lacks head = stops_no_number (Outside (AtCount head)) old fault (no_count head) none

  pub name_lacks : Misses (TheNumber DartName ∷ []) old fault
  name_lacks head taken wants = stops_no_number (among head taken (TheNumber DartName ∷ wants)) old fault (no_name head taken wants) none
