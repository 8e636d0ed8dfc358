-- What stands at the front of bytes: by the tests of the first byte, its size, and that no longer token stands there.
use Rattle.std.proofs.Common.{◌≡◌, ℕ, suc, ◌≤◌, Bool, true, false, not, List, [], ◌∷◌, length, refl, arith}
use Rattle.std.specs.List.{take_while}
use Rattle.std.proofs.lemmas.Bool.{cond_both, eqb-true}
use Rattle.std.proofs.lemmas.Bool.Decides.{nat_tests}
use Rattle.std.proofs.lemmas.List.Folds.{length-prefix_len}
use Rattle.std.proofs.lemmas.List.Sums.{prefix_len-le-length}
use Rattle.gm_model.specs.declared.token.TokenKind.TheVariants as kinds
use Rattle.gm_model.specs.Tokens.{is_blank, is_digit, is_letter, is_underscore, is_name_byte, is_hash, is_line_feed, is_sign, is_two_byte_sign, begins_two_byte_sign, Front, Gap, Lexeme, Stray, front_of, size_of}

-- ---- the tests of a byte do not overlap

pub letter_byte : (b : ℕ) → is_letter b ≡ true → (is_blank b ≡ false) × (is_hash b ≡ false) × (is_digit b ≡ false)
letter_byte b h = grind (arith, nat_tests)

pub digit_byte : (b : ℕ) → is_digit b ≡ true → (is_blank b ≡ false) × (is_hash b ≡ false) × (is_letter b ≡ false)
digit_byte b h = grind (arith, nat_tests)

pub blank_byte : (b : ℕ) → is_blank b ≡ true → (is_digit b ≡ false) × (is_name_byte b ≡ false)
blank_byte b h = grind (arith, nat_tests)

pub two_byte : (b c : ℕ) → is_two_byte_sign b c ≡ true → (is_blank b ≡ false) × (is_hash b ≡ false) × (is_letter b ≡ false) × (is_digit b ≡ false) × (is_underscore b ≡ false)
two_byte b c h = grind (arith, nat_tests)

pub sign_byte : (b : ℕ) → is_sign b ≡ true → (is_blank b ≡ false) × (is_hash b ≡ false) × (is_letter b ≡ false) × (is_digit b ≡ false) × (is_underscore b ≡ false)
sign_byte b h = grind (arith, nat_tests)

-- ---- what stands at the front, by the tests

pub front_of-blank : (b : ℕ) (bytes : List ℕ) → is_blank b ≡ true → front_of b bytes ≡ Gap 1
front_of-blank b bytes h = rw h refl

pub front_of-hash : (b : ℕ) (bytes : List ℕ) → is_hash b ≡ true → front_of b bytes ≡ Gap (suc (length (take_while (λ c. not (is_line_feed c)) bytes)))
front_of-hash b bytes h =
    let e : b ≡ 35 = eqb-true b 35 h in
    rw e refl

pub front_of-letter : (b : ℕ) (bytes : List ℕ) → is_letter b ≡ true → front_of b bytes ≡ Lexeme kinds.Name (suc (length (take_while is_name_byte bytes)))
front_of-letter b bytes h = let t = letter_byte b h in rw (t.0, t.1, h) refl

pub front_of-digit : (b : ℕ) (bytes : List ℕ) → is_digit b ≡ true → front_of b bytes ≡ Lexeme kinds.Number (suc (length (take_while is_digit bytes)))
front_of-digit b bytes h = let t = digit_byte b h in rw (t.0, t.1, t.2, h) refl

pub front_of-underscore : (b : ℕ) (bytes : List ℕ) → is_underscore b ≡ true → front_of b bytes ≡ Lexeme kinds.Gone 1
front_of-underscore b bytes h =
    let e : b ≡ 95 = eqb-true b 95 h in
    rw e refl

pub front_of-two : (b : ℕ) (bytes : List ℕ) → begins_two_byte_sign b bytes ≡ true → front_of b bytes ≡ Lexeme kinds.Sign 2
front_of-two b [] h = absurd cc
front_of-two b (c ∷ bytes) h = let t = two_byte b c h in rw (t.0, t.1, t.2, t.3, t.4, h) refl

pub front_of-sign : (b : ℕ) (bytes : List ℕ) → is_sign b ≡ true → begins_two_byte_sign b bytes ≡ false → front_of b bytes ≡ Lexeme kinds.Sign 1
front_of-sign b bytes h none = let t = sign_byte b h in rw (t.0, t.1, t.2, t.3, t.4, none, h) refl

-- by cases
pub front_cases : (P : Front → Type 0) (b : ℕ) (bytes : List ℕ)
    → (is_blank b ≡ true → P (Gap 1))
    → (is_hash b ≡ true → P (Gap (suc (length (take_while (λ c. not (is_line_feed c)) bytes)))))
    → (is_letter b ≡ true → P (Lexeme kinds.Name (suc (length (take_while is_name_byte bytes)))))
    → (is_digit b ≡ true → P (Lexeme kinds.Number (suc (length (take_while is_digit bytes)))))
    → (is_underscore b ≡ true → P (Lexeme kinds.Gone 1))
    → (begins_two_byte_sign b bytes ≡ true → P (Lexeme kinds.Sign 2))
    → (is_sign b ≡ true → P (Lexeme kinds.Sign 1))
    → P Stray
    → P (front_of b bytes)
front_cases P b bytes blank hash letter digit underscore two sign stray =
    cond_both (is_blank b) _ _ P blank (λ _.
    cond_both (is_hash b) _ _ P hash (λ _.
    cond_both (is_letter b) _ _ P letter (λ _.
    cond_both (is_digit b) _ _ P digit (λ _.
    cond_both (is_underscore b) _ _ P underscore (λ _.
    cond_both (begins_two_byte_sign b bytes) _ _ P two (λ _.
    cond_both (is_sign b) _ _ P sign (λ _. stray)))))))

-- ---- its size

length_take_while : (p : ℕ → Bool) (bytes : List ℕ) → length (take_while p bytes) ≤ length bytes
length_take_while p bytes = omega (arith, length-prefix_len p bytes, prefix_len-le-length p bytes)

two_has_room : (b : ℕ) (bytes : List ℕ) → begins_two_byte_sign b bytes ≡ true → 1 ≤ length bytes
two_has_room b [] h = absurd cc
two_has_room b (c ∷ bytes) h = omega arith

pub record IsSized (front : Front) (most : ℕ) : Type 0 where
  pub some : 1 ≤ size_of front
  pub within : size_of front ≤ most

pub size_of-front_of : (b : ℕ) (bytes : List ℕ) → IsSized (front_of b bytes) (suc (length bytes))
size_of-front_of b bytes =
    front_cases (λ front. IsSized front (suc (length bytes))) b bytes
    (λ _. record { some = omega arith; within = omega arith })
    (λ _. record { some = omega arith; within = omega (arith, length_take_while (λ c. not (is_line_feed c)) bytes) })
    (λ _. record { some = omega arith; within = omega (arith, length_take_while is_name_byte bytes) })
    (λ _. record { some = omega arith; within = omega (arith, length_take_while is_digit bytes) })
    (λ _. record { some = omega arith; within = omega arith })
    (λ h. record { some = omega arith; within = omega (arith, two_has_room b bytes h) })
    (λ _. record { some = omega arith; within = omega arith })
    (record { some = omega arith; within = omega arith })
