-- What the signs and numbers of a dart's values come to, where they are wanted, and the end behind all darts.
use Rattle.std.proofs.Common.{◌≡◌, ◌≢◌, ℕ, ◌-◌, ◌^◌, ◌<◌, ◌≤◌, min, Bool, true, false, ℤ, pos, List, [], ◌∷◌, ◌++◌, length, map, Some, None, Ok, Err, refl, sym, ap, ◌∙◌, codes, arith}
use Rattle.std.specs.Prelude.{nat_lt}
use Rattle.std.proofs.lemmas.List.{append-nil}
use Rattle.gm_model.specs.declared.token.Token.{Token}
use Rattle.gm_model.specs.declared.token.TokenKind.{TokenKind}
use Rattle.gm_model.specs.declared.token.TokenKind.TheVariants as tokens
use Rattle.gm_model.specs.Symbols.{Symbol, Word, Numeral, Sign, Gone, Stray, End, Mark, mark_of, symbol_of_kind}
use Rattle.gm_model.specs.Tokens.{bytes_of}
use Rattle.gm_text.specs.inner.Cursor.{Cursor}
use Rattle.gm_text.specs.inner.Lexing.{rest_of, items_read}
use Rattle.gm_text.specs.declared.fault.LexFault.{LexFault}
use Rattle.gm_text.specs.inner.SchemaAnswers.{marks_left}
use Rattle.gm_text.specs.ValueText.{greatest, is_channel, signed}
use Rattle.gm_text.specs.declared.schema_fault.SchemaFault.{SchemaFault}
use Rattle.gm_text.specs.declared.schema_fault.SchemaFault.TheVariants as faults
use Rattle.gm_mapfile.specs.MapText.{Role, size_role, passed_of}
use Rattle.gm_mapfile.specs.MapReading.{AtNumbers, Head, Want, TheNumber, Component, TheSign, run_from, Stops, among, Takes, Misses, number_in}
use Rattle.gm_mapfile.specs.inner.Words.{StandsNext, IsOtherNext, minus_sign, signed_marks, IsSignedNext, IsNoSignedNext, AtFirst, BehindMinus, IsEndNext, IsMoreNext}
use Rattle.gm_mapfile.proofs.Joined.{move_at, went, ended}
use Rattle.gm_mapfile.proofs.MapSteps.{met, unmet, reads_mark, stops_mark, stops_other, not_above}

-- ---- signs

no_sign : (head : Head) (taken : List ℤ) (wants : List Want) (wanted : List ℕ) (other : Symbol) → other ≢ Sign wanted → move_at (among head taken (TheSign wanted ∷ wants)) other ≡ None
no_sign head taken wants wanted (Sign s) other = unmet wanted s (AtNumbers head taken wants) (λ e. other (ap Sign e))
no_sign head taken wants wanted (Word w) other = refl
no_sign head taken wants wanted (Numeral n) other = refl
no_sign head taken wants wanted Gone other = refl
no_sign head taken wants wanted Stray other = refl
no_sign head taken wants wanted End other = refl

pub sign_takes : (wanted : List ℕ) (old new : Cursor) → StandsNext (Sign wanted) old new → Takes (TheSign wanted ∷ []) [] old new
sign_takes wanted old new (place, is) head taken wants =
    rw (append-nil taken) (reads_mark (among head taken (TheSign wanted ∷ wants)) (among head taken wants) (Sign wanted) place old new is (met wanted (AtNumbers head taken wants)) refl)

pub sign_misses : (wanted : List ℕ) (old : Cursor) (fault : SchemaFault) → IsOtherNext (Sign wanted) old fault → Misses (TheSign wanted ∷ []) old fault
sign_misses wanted old fault is head taken wants = stops_other (among head taken (TheSign wanted ∷ wants)) (Sign wanted) old fault (no_sign head taken wants wanted) is

-- ---- numbers of a value

size_in : (colour minus : Bool) (n : ℕ) → number_in (size_role colour minus) n ≡ signed minus n
size_in true minus n = refl
size_in false minus n = refl

size_free : (colour minus : Bool) (n : ℕ) → nat_lt (greatest minus) n ≡ false → (colour ≡ true → is_channel (signed minus n) ≡ true) → passed_of (size_role colour minus) (Numeral n) ≡ None
size_free true minus n small channel = rw (small, channel refl) refl
size_free false minus n small channel = rw small refl

greatest_small : (minus : Bool) → greatest minus < 2 ^ 64 - 1
greatest_small true = omega arith
greatest_small false = omega arith

exact_size : (minus : Bool) (n size : ℕ) → size ≡ min n (2 ^ 64 - 1) → size ≤ greatest minus → n ≡ size
exact_size minus n size is small = omega (arith, is, small, greatest_small minus)

minus_goes : (head : Head) (taken : List ℤ) (wants : List Want) (colour : Bool) → move_at (among head taken (Component colour ∷ wants)) minus_sign ≡ Some (among head taken (TheNumber (size_role colour true) ∷ wants))
minus_goes head taken wants colour = met (codes "-") (AtNumbers head taken (TheNumber (size_role colour true) ∷ wants))

module _ (colour : Bool) (head : Head) (taken : List ℤ) (wants : List Want) where
  over_minus : (at : ℕ) (rest : List Mark) → run_from (among head taken (Component colour ∷ wants)) (record { symbol = minus_sign; place = at } ∷ rest) ≡ run_from (among head taken (TheNumber (size_role colour true) ∷ wants)) rest
  over_minus at rest = went (among head taken (Component colour ∷ wants)) (among head taken (TheNumber (size_role colour true) ∷ wants)) (record { symbol = minus_sign; place = at }) (minus_goes head taken wants colour) refl rest

  over_size : (minus : Bool) (at n place : ℕ) (rest : List Mark) → passed_of (size_role colour minus) (Numeral n) ≡ None
      → run_from (among head taken (Component colour ∷ wants)) (signed_marks minus at n place rest) ≡ run_from (among head (taken ++ signed minus n ∷ []) wants) rest
  over_size true at n place rest free =
      let to = among head (taken ++ number_in (size_role colour true) n ∷ []) wants in
      over_minus at (record { symbol = Numeral n; place = place } ∷ rest)
      ∙ went (among head taken (TheNumber (size_role colour true) ∷ wants)) to (record { symbol = Numeral n; place = place }) refl free rest
      ∙ ap (λ (x : ℤ). run_from (among head (taken ++ x ∷ []) wants) rest) (size_in colour true n)
  over_size false at n place rest free = went (among head taken (Component colour ∷ wants)) (among head (taken ++ pos n ∷ []) wants) (record { symbol = Numeral n; place = place }) refl free rest

  no_component : (other : Symbol) → ((n : ℕ) → other ≢ Numeral n) → other ≢ minus_sign → move_at (among head taken (Component colour ∷ wants)) other ≡ None
  no_component (Numeral n) number sign = absurd (number n refl)
  no_component (Sign s) number sign = unmet (codes "-") s (AtNumbers head taken (TheNumber (size_role colour true) ∷ wants)) (λ e. sign (ap Sign e))
  no_component (Word w) number sign = refl
  no_component Gone number sign = refl
  no_component Stray number sign = refl
  no_component End number sign = refl

  no_size : (role : Role) (other : Symbol) → ((n : ℕ) → other ≢ Numeral n) → move_at (among head taken (TheNumber role ∷ wants)) other ≡ None
  no_size role (Numeral n) number = absurd (number n refl)
  no_size role (Word w) number = refl
  no_size role (Sign s) number = refl
  no_size role Gone number = refl
  no_size role Stray number = refl
  no_size role End number = refl

  lacks_size : (old : Cursor) (fault : SchemaFault) → IsNoSignedNext old fault → Stops (among head taken (Component colour ∷ wants)) old fault
  lacks_size old fault none = elim none [
    | AtFirst mark rest marks number sign says ↦ rw says (stops_mark (among head taken (Component colour ∷ wants)) old mark rest marks (no_component mark.symbol number sign))
    | BehindMinus at mark rest marks number says ↦
        let state = among head taken (TheNumber (size_role colour true) ∷ wants) in
        rw says (state, mark, refl, ap (run_from (among head taken (Component colour ∷ wants))) marks ∙ over_minus at (mark ∷ rest) ∙ ended state mark (no_size (size_role colour true) mark.symbol number) rest)
  ]

pub component_lacks : (colour : Bool) (old : Cursor) (fault : SchemaFault) → IsNoSignedNext old fault → Misses (Component colour ∷ []) old fault
component_lacks colour old fault none head taken wants = lacks_size colour head taken wants old fault none

marks_split : (minus : Bool) (at n place : ℕ) (rest : List Mark) → signed_marks minus at n place rest ≡ signed_marks minus at n place [] ++ rest
marks_split true at n place rest = refl
marks_split false at n place rest = refl

module _ (colour : Bool) (old : Cursor) (minus : Bool) (size place : ℕ) (new : Cursor) (is : IsSignedNext old minus size place new) where
  pub component_takes : (value : ℤ) → size ≤ greatest minus → value ≡ signed minus size → (colour ≡ true → is_channel value ≡ true) → Takes (Component colour ∷ []) (value ∷ []) old new
  component_takes value small same channel head taken wants =
      let (n, at, least, marks) = is in
      let exact : n ≡ size = exact_size minus n size least small in
      let known : value ≡ signed minus n = same ∙ ap (signed minus) (sym exact) in
      let free = size_free colour minus n (not_above n (greatest minus) (omega (arith, exact, small))) (λ e. ap is_channel (sym known) ∙ channel e) in
      record {
        before = signed_marks minus at n place [];
        split = marks ∙ marks_split minus at n place (marks_left new);
        runs = over_size colour head taken wants minus at n place [] free ∙ ap (λ (x : ℤ). Ok (among head (taken ++ x ∷ []) wants)) (sym known);
      }

-- ---- the end

no_more : (head : Head) (taken : List ℤ) (other : Symbol) → other ≢ End → move_at (among head taken []) other ≡ None
no_more head taken End other = absurd (other refl)
no_more head taken (Word w) other = refl
no_more head taken (Numeral n) other = refl
no_more head taken (Sign s) other = refl
no_more head taken Gone other = refl
no_more head taken Stray other = refl

pub more_stops : (head : Head) (taken : List ℤ) (old : Cursor) (fault : SchemaFault) → IsMoreNext old fault → Stops (among head taken []) old fault
more_stops head taken old fault is = stops_other (among head taken []) End old fault (no_more head taken) is

no_end : (kind : TokenKind) (found : List ℕ) → symbol_of_kind kind found ≢ End
no_end tokens.Name found e = absurd cc
no_end tokens.Number found e = absurd cc
no_end tokens.Gone found e = absurd cc
no_end tokens.Sign found e = absurd cc

pub token_more : (old new : Cursor) (token : Token) → rest_of old ≡ items_read old.text (Ok (Some token)) (rest_of new) → IsMoreNext old (faults.Text token.start)
token_more old new token answer =
    (record { symbol = symbol_of_kind token.kind (bytes_of old.text token); place = token.start }, map (mark_of old.text) (rest_of new), ap (map (mark_of old.text)) answer, no_end token.kind (bytes_of old.text token), refl)

pub stray_more : (old new : Cursor) (fault : LexFault) → rest_of old ≡ items_read old.text (Err fault) (rest_of new) → IsMoreNext old (faults.Text fault.place)
stray_more old new fault answer = (record { symbol = Stray; place = fault.place }, [], ap (map (mark_of old.text)) answer, λ e. absurd cc, refl)

pub ends_next : (old new : Cursor) → rest_of old ≡ items_read old.text (Ok None) (rest_of new) → IsEndNext old
ends_next old new answer = (length old.text, ap (map (mark_of old.text)) answer)
