-- What stands at the front of bytes is the longest token that stands there.
use Rattle.std.proofs.Common.{◌≡◌, ℕ, zero, suc, ◌+◌, ◌-◌, ◌<◌, ◌≤◌, Bool, true, cond, List, [], ◌∷◌, length, take, drop, refl, sym, ap, subst, arith, length-take-le, inl, inr}
use Rattle.std.specs.List.{take_while, prefix_len, list_all}
use Rattle.std.proofs.lemmas.Bool.{and_parts, and_from, cases_Bool}
use Rattle.std.proofs.lemmas.List.{drop_more}
use Rattle.std.proofs.lemmas.List.Folds.{length-prefix_len}
use Rattle.gm_model.specs.declared.token.Token.{Token}
use Rattle.gm_model.specs.declared.token.TokenKind.{TokenKind}
use Rattle.gm_model.specs.declared.token.TokenKind.TheVariants as kinds
use Rattle.gm_model.specs.Tokens.{is_digit, is_name_byte, begins_two_byte_sign, IsLexeme, IsLongest, HasNoLexeme, Front, Gap, Lexeme, Stray, front_of}
use Rattle.gm_text.specs.inner.Lexing.{front_at, IsTokenAt}
use Rattle.gm_text.proofs.Fronts.{IsSized, size_of-front_of, front_cases, front_of-letter, front_of-digit, front_of-underscore, front_of-two, front_of-sign}

-- ---- bytes of one test

all_in_prefix : (p : ℕ → Bool) (bytes : List ℕ) → list_all p (take (prefix_len p bytes) bytes) ≡ true
all_in_prefix p [] = refl
all_in_prefix p (b ∷ bytes) =
    elim (cases_Bool (p b)) [
      | inl passes ↦
          let e : cond (p b) (1 + prefix_len p bytes) 0 ≡ suc (prefix_len p bytes) = rw passes (omega arith) in
          rw e (and_from (p b) _ passes (all_in_prefix p bytes))
      | inr fails ↦
          let e : cond (p b) (1 + prefix_len p bytes) 0 ≡ 0 = rw fails refl in
          rw e refl
    ]

all_in_take_while : (p : ℕ → Bool) (bytes : List ℕ) → list_all p (take (length (take_while p bytes)) bytes) ≡ true
all_in_take_while p bytes = rw (length-prefix_len p bytes) (all_in_prefix p bytes)

all_fits : (p : ℕ → Bool) (size : ℕ) (bytes : List ℕ) → size ≤ length bytes → list_all p (take size bytes) ≡ true → size ≤ prefix_len p bytes
all_fits p zero bytes room all = omega arith
all_fits p (suc size) [] room all = absurd (omega arith)
all_fits p (suc size) (b ∷ bytes) room all =
    let tests = and_parts (p b) (list_all p (take size bytes)) all in
    let e : cond (p b) (1 + prefix_len p bytes) 0 ≡ 1 + prefix_len p bytes = rw tests.0 refl in
    rw e (omega (arith, all_fits p size bytes (omega arith) tests.1))

all_fits_take_while : (p : ℕ → Bool) (size : ℕ) (bytes : List ℕ) → size ≤ length bytes → list_all p (take size bytes) ≡ true → suc size ≤ suc (length (take_while p bytes))
all_fits_take_while p size bytes room all = omega (arith, all_fits p size bytes room all, length-prefix_len p bytes)

-- ---- the token that stands there

abbrev HasLexeme : List ℕ → Front → Type 0
HasLexeme bytes (Gap size) = Unit {0}
HasLexeme bytes (Lexeme kind size) = IsLexeme kind (take size bytes)
HasLexeme bytes Stray = Unit {0}

two_byte_lexeme : (b : ℕ) (bytes : List ℕ) → begins_two_byte_sign b bytes ≡ true → IsLexeme kinds.Sign (take 2 (b ∷ bytes))
two_byte_lexeme b [] h = absurd cc
two_byte_lexeme b (c ∷ bytes) h = h

HasLexeme-front_of : (b : ℕ) (bytes : List ℕ) → HasLexeme (b ∷ bytes) (front_of b bytes)
HasLexeme-front_of b bytes =
    front_cases (HasLexeme (b ∷ bytes)) b bytes
    (λ _. tt)
    (λ _. tt)
    (λ letter. (letter, all_in_take_while is_name_byte bytes))
    (λ digit. (digit, all_in_take_while is_digit bytes))
    (λ underscore. (underscore, refl))
    (two_byte_lexeme b bytes)
    (λ sign. sign)
    tt

-- ---- no longer one does

abbrev Fits : ℕ → Front → Type 0
Fits longer (Gap size) = ⊥
Fits longer (Lexeme kind size) = longer ≤ size
Fits longer Stray = ⊥

sign_fits : (size b : ℕ) (bytes : List ℕ) → size ≤ length bytes → IsLexeme kinds.Sign (b ∷ take size bytes) → Fits (suc size) (front_of b bytes)
sign_fits zero b bytes room sign =
    elim (cases_Bool (begins_two_byte_sign b bytes)) [
      | inl two ↦ let at_most : 1 ≤ 2 = omega arith in subst (Fits 1) (sym (front_of-two b bytes two)) at_most
      | inr none ↦ let at_most : 1 ≤ 1 = omega arith in subst (Fits 1) (sym (front_of-sign b bytes sign none)) at_most
    ]
sign_fits (suc size) b [] room sign = absurd (omega arith)
sign_fits (suc zero) b (c ∷ bytes) room sign =
    let at_most : 2 ≤ 2 = omega arith in subst (Fits 2) (sym (front_of-two b (c ∷ bytes) sign)) at_most
sign_fits (suc (suc size)) b (c ∷ []) room sign = absurd (omega arith)
sign_fits (suc (suc size)) b (c ∷ d ∷ bytes) room sign = absurd sign

lexeme_fits : (kind : TokenKind) (size b : ℕ) (bytes : List ℕ) → size ≤ length bytes → IsLexeme kind (b ∷ take size bytes) → Fits (suc size) (front_of b bytes)
lexeme_fits kinds.Name size b bytes room name =
    subst (Fits (suc size)) (sym (front_of-letter b bytes name.0)) (all_fits_take_while is_name_byte size bytes room name.1)
lexeme_fits kinds.Number size b bytes room number =
    subst (Fits (suc size)) (sym (front_of-digit b bytes number.0)) (all_fits_take_while is_digit size bytes room number.1)
lexeme_fits kinds.Gone size b bytes room gone =
    let none : size ≤ 0 = omega (arith, length-take-le size bytes room, ap length gone.1) in
    let at_most : suc size ≤ 1 = omega arith in
    subst (Fits (suc size)) (sym (front_of-underscore b bytes gone.0)) at_most
lexeme_fits kinds.Sign size b bytes room sign = sign_fits size b bytes room sign

any_fits : (kind : TokenKind) (size b : ℕ) (bytes : List ℕ) → size ≤ length (b ∷ bytes) → IsLexeme kind (take size (b ∷ bytes)) → Fits size (front_of b bytes)
any_fits kind zero b bytes room lexeme = absurd lexeme
any_fits kind (suc size) b bytes room lexeme = lexeme_fits kind size b bytes (omega arith) lexeme

-- ---- the rule of the longest token

pub IsLongest-front_of : (b : ℕ) (bytes : List ℕ) (kind : TokenKind) (size : ℕ) → front_of b bytes ≡ Lexeme kind size → IsLongest kind size (b ∷ bytes)
IsLongest-front_of b bytes kind size front =
    let sized = subst (λ (f : Front). IsSized f (suc (length bytes))) front (size_of-front_of b bytes) in
    record {
      within = sized.within;
      lexeme = subst (HasLexeme (b ∷ bytes)) front (HasLexeme-front_of b bytes);
      longest = λ other longer room lexeme. subst (Fits longer) front (any_fits other longer b bytes room lexeme);
    }

pub HasNoLexeme-front_of : (b : ℕ) (bytes : List ℕ) → front_of b bytes ≡ Stray → HasNoLexeme (b ∷ bytes)
HasNoLexeme-front_of b bytes front = λ kind size room lexeme. subst (Fits size) front (any_fits kind size b bytes room lexeme)

-- ---- at a place of a text

pub IsLongest-at : (text : List ℕ) (place : ℕ) (token : Token) → IsTokenAt text place token → IsLongest token.kind (token.end - token.start) (drop token.start text)
IsLongest-at text place token there =
    let inside : place < length text = omega (arith, there.not_empty, there.within) in
    let here : IsLongest token.kind (token.end - place) (drop place text) = subst (IsLongest token.kind (token.end - place)) (sym (drop_more text place 0 inside)) (IsLongest-front_of _ _ token.kind (token.end - place) there.front) in
    subst (λ (p : ℕ). IsLongest token.kind (token.end - p) (drop p text)) (sym there.start) here

pub HasNoLexeme-at : (text : List ℕ) (place : ℕ) → place < length text → front_at text place ≡ Stray → HasNoLexeme (drop place text)
HasNoLexeme-at text place inside front =
    subst HasNoLexeme (sym (drop_more text place 0 inside)) (HasNoLexeme-front_of _ _ front)
