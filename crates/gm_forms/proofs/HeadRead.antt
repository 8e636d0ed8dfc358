-- What the reader of the word `book` and of the version comes to at a token, and where none stands.
use Rattle.std.proofs.Common.{◌≡◌, ◌≢◌, ℕ, ◌-◌, ◌^◌, min, true, false, List, [], ◌∷◌, ◌⊎◌, inl, inr, ◌≤◌, Option, Some, None, Ok, Err, refl, sym, ap, subst, ◌∙◌, codes, Fits, w8, arith}
use Rattle.std.proofs.lemmas.Bool.Decides.{nat_tests}
use Rattle.std.proofs.lemmas.Slice.Eq.{bytes_eq-Decides}
use Rattle.std.specs.Str.{bytes_eq}
use Rattle.gm_model.specs.declared.token.Token.{Token}
use Rattle.gm_model.specs.declared.token.TokenKind.{TokenKind}
use Rattle.gm_model.specs.declared.token.TokenKind.TheVariants as kinds
use Rattle.gm_model.specs.Symbols.{Symbol, Word, Numeral, Stray, End, Mark, symbol_of_kind, value_of}
use Rattle.gm_model.specs.Tokens.{bytes_of}
use Rattle.gm_text.specs.inner.Cursor.{Cursor}
use Rattle.gm_text.specs.inner.Nested.{Outside}
use Rattle.gm_forms.specs.declared.form_fault.FormFault.{FormFault}
use Rattle.gm_forms.specs.declared.form_fault.FormFault.TheVariants as faults
use Rattle.gm_forms.specs.inner.Reading.{Outer, AtFormat, AtVersion, is_version, outer_move, run_whole}
use Rattle.gm_text.specs.inner.SchemaAnswers.{marks_left}
use Rattle.gm_forms.specs.inner.Standing.{IsNext, IsHeaded, BeginsBook, IsVersioned, EndsAt, IsHeadFault, mark_of}

-- ---- no text of a book goes on

refused : (outer : Outer) (marks rest : List Mark) (mark : Mark) → marks ≡ mark ∷ rest → outer_move outer mark.symbol ≡ None → EndsAt (Outside outer) marks mark.place
refused outer marks rest mark is stuck last = (Outside outer, mark, ap (run_whole (Outside outer) last) is ∙ rw stuck refl, refl)

module _ (outer : Outer) (cursor rest : Cursor) where
  pub at_stray : (fault : FormFault) → outer_move outer Stray ≡ None → IsNext cursor (Err fault) rest → IsHeadFault (Outside outer) (marks_left cursor) fault
  at_stray (faults.Text place) stuck is = refused outer (marks_left cursor) [] (record { symbol = Stray; place = place }) is stuck
  at_stray (faults.Limit what place) stuck is = absurd is
  at_stray faults.OutOfMemory stuck is = absurd is

  pub at_end : (found : Option Token) (place : ℕ) → outer_move outer End ≡ None → IsNext cursor (Ok found) rest → found ≡ None → place ≡ rest.place → EndsAt (Outside outer) (marks_left cursor) place
  at_end None place stuck is none here = subst (λ (p : ℕ). EndsAt (Outside outer) (marks_left cursor) p) (sym here) (refused outer (marks_left cursor) [] (record { symbol = End; place = rest.place }) is.0 stuck)
  at_end (Some token) place stuck is none here = absurd cc

  -- the mark of the token, whose text is the lexer's
  token_marks : (token : Token) → rest.text ≡ cursor.text → IsNext cursor (Ok (Some token)) rest → marks_left cursor ≡ mark_of rest.text token ∷ marks_left rest
  token_marks token same is = subst (λ (t : List ℕ). marks_left cursor ≡ mark_of t token ∷ marks_left rest) (sym same) is.1

  pub at_token : (token : Token) → rest.text ≡ cursor.text → IsNext cursor (Ok (Some token)) rest → outer_move outer (symbol_of_kind token.kind (bytes_of rest.text token)) ≡ None → EndsAt (Outside outer) (marks_left cursor) token.start
  at_token token same is stuck = refused outer (marks_left cursor) (marks_left rest) (mark_of rest.text token) (token_marks token same is) stuck

-- ---- the word `book`

pub no_word : (kind : TokenKind) (bytes : List ℕ) → kind ≢ kinds.Name → outer_move AtFormat (symbol_of_kind kind bytes) ≡ None
no_word kinds.Name bytes other = absurd (other refl)
no_word kinds.Number bytes other = refl
no_word kinds.Gone bytes other = refl
no_word kinds.Sign bytes other = refl

pub other_word : (kind : TokenKind) (bytes : List ℕ) → kind ≡ kinds.Name → bytes_eq bytes (codes "book") ≡ false → outer_move AtFormat (symbol_of_kind kind bytes) ≡ None
other_word kind bytes is differ = rw is (rw differ refl)

pub book_read : (cursor rest : Cursor) (token : Token) → rest.text ≡ cursor.text → IsNext cursor (Ok (Some token)) rest → token.kind ≡ kinds.Name → bytes_eq (bytes_of rest.text token) (codes "book") ≡ true → BeginsBook (marks_left cursor) (marks_left rest)
book_read cursor rest token same is kind word =
    let symbol : symbol_of_kind token.kind (bytes_of rest.text token) ≡ Word (codes "book") = ap (λ k. symbol_of_kind k (bytes_of rest.text token)) kind ∙ ap Word ((bytes_eq-Decides (bytes_of rest.text token) (codes "book")).0 word) in
    (token.start, token_marks AtFormat cursor rest token same is ∙ ap (λ (s : Symbol). let m : Mark = record { symbol = s; place = token.start } in m ∷ marks_left rest) symbol)

-- ---- the version

pub no_number : (kind : TokenKind) (bytes : List ℕ) → kind ≢ kinds.Number → outer_move AtVersion (symbol_of_kind kind bytes) ≡ None
no_number kinds.Number bytes other = absurd (other refl)
no_number kinds.Name bytes other = refl
no_number kinds.Gone bytes other = refl
no_number kinds.Sign bytes other = refl

unknown : (n : ℕ) → n ≢ 1 → n ≢ 2 → is_version n ≡ false
unknown n one two = grind (arith, nat_tests, one, two)

module _ (kind : TokenKind) (bytes : List ℕ) (number : kind ≡ kinds.Number) (value : ℕ) (is : value ≡ min (value_of bytes) (2 ^ 64 - 1)) where
  pub other_version : value ≢ 1 → value ≢ 2 → outer_move AtVersion (symbol_of_kind kind bytes) ≡ None
  other_version one two =
      let none : is_version (value_of bytes) ≡ false = unknown (value_of bytes) (λ e. one (omega (arith, is, e))) (λ e. two (omega (arith, is, e))) in
      rw number (rw none refl)

  value_is : (v : ℕ) → value ≡ v → v ≤ 2 → symbol_of_kind kind bytes ≡ Numeral v
  value_is v e small = let same : value_of bytes ≡ v = omega (arith, is, e, small) in rw number (ap Numeral same)

pub one_or_two : {version : ℕ} → ((version ≡ 1 → ⊥) × (version ≡ 2)) ⊎ (version ≡ 1) → (version ≡ 1) ⊎ (version ≡ 2)
one_or_two (inl (other, two)) = inr two
one_or_two (inr one) = inl one

pub one_byte : {version : ℕ} → (version ≡ 1) ⊎ (version ≡ 2) → Fits w8 version
one_byte (inl one) = rw one (omega arith)
one_byte (inr two) = rw two (omega arith)

pub version_read : (cursor rest : Cursor) (token : Token) → rest.text ≡ cursor.text → IsNext cursor (Ok (Some token)) rest → token.kind ≡ kinds.Number → (value : ℕ) → value ≡ min (value_of (bytes_of rest.text token)) (2 ^ 64 - 1) → (value ≡ 1) ⊎ (value ≡ 2)
    → IsVersioned (marks_left cursor) value (marks_left rest)
version_read cursor rest token same is kind value at known = go known
  where
    marks : marks_left cursor ≡ mark_of rest.text token ∷ marks_left rest
    marks = token_marks AtVersion cursor rest token same is

    made : (v : ℕ) → value ≡ v → v ≤ 2 → is_version v ≡ true → IsVersioned (marks_left cursor) value (marks_left rest)
    made v e small good = record {
      place = token.start;
      split = marks ∙ ap (λ (s : Symbol). let m : Mark = record { symbol = s; place = token.start } in m ∷ marks_left rest) (value_is token.kind (bytes_of rest.text token) kind value at v e small ∙ ap Numeral (sym e));
      known = ap is_version e ∙ good;
    }

    go : (value ≡ 1) ⊎ (value ≡ 2) → IsVersioned (marks_left cursor) value (marks_left rest)
    go (inl e) = made 1 e (omega arith) refl
    go (inr e) = made 2 e (omega arith) refl

-- ---- both

pub headed : (marks middle rest : List Mark) (version : ℕ) → BeginsBook marks middle → IsVersioned middle version rest → IsHeaded marks version rest
headed marks middle rest version (place, begins) number = record { first = place; second = number.place; split = begins ∙ ap (λ (ms : List Mark). let m : Mark = record { symbol = Word (codes "book"); place = place } in m ∷ ms) number.split; known = number.known }

-- a fault behind the word `book`
pub fault_behind : (marks middle : List Mark) (fault : FormFault) → BeginsBook marks middle → IsHeadFault (Outside AtVersion) middle fault → IsHeadFault (Outside AtFormat) marks fault
fault_behind marks middle (faults.Text place) (at, begins) fault = λ last.
    let (state, mark, runs, here) = fault at in
    (state, mark, ap (run_whole (Outside AtFormat) last) begins ∙ runs, here)
fault_behind marks middle (faults.Limit what place) begins fault = fault
fault_behind marks middle faults.OutOfMemory begins fault = fault
