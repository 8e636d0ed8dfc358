-- Looking a name up among the first ones of a list.
use Rattle.std.proofs.Common.{◌≡◌, ◌≤◌, ℕ, ◌+◌, Bool, true, false, not, cond, List, [], ◌∷◌, ◌++◌, length, map, take, min, Option, Some, None, refl, sym, ap, ◌∙◌, arith}
use Rattle.std.proofs.lemmas.List.{length-map, take-map}
use Rattle.std.proofs.lemmas.List.{take_all}
use Rattle.std.proofs.lemmas.Bool.Decides.{nat_tests}
use Rattle.std.specs.Prelude.{nat_lt, nat_le}
use Rattle.gm_model.specs.declared.token.TokenKind.{TokenKind}
use Rattle.gm_model.specs.declared.token.TokenKind.TheVariants as tokens
use Rattle.gm_model.specs.Symbols.{Word, Sign, symbol_of_kind, value_of}
use Rattle.gm_parse.specs.declared.key.Key.TheVariants as keys
use Rattle.gm_parse.specs.declared.key.Key.{Key}
use Rattle.gm_parse.specs.Meaning.{Names, NameFault}
use Rattle.gm_model.specs.declared.expr.DartTerm.{DartTerm}
use Rattle.gm_model.specs.declared.word.Mask.{Mask}
use Rattle.gm_tree.specs.declared.partial.Head.{Head}
use Rattle.gm_tree.specs.declared.partial.Lead.{Lead}
use Rattle.gm_tree.specs.inner.Building.{number_in, word_in, begin_part, named_at, Name, Frame, work, in_orbit, labelled, before_term, term_in, behind_term, field_in, BehindTerm}
use Rattle.gm_parse.specs.inner.Reading.{key_of}
use Rattle.gm_parse.proofs.Keys.{name_is, number_is}
use Rattle.std.specs.List.{position, position_or_len, prefix_len}

prefix-map : {A B : Type 0} (f : A → B) (test : B → Bool) (xs : List A) → prefix_len test (map f xs) ≡ prefix_len (λ x. test (f x)) xs
prefix-map f test [] = refl
prefix-map f test (x ∷ xs) = ap (λ (k : ℕ). cond (test (f x)) (1 + k) 0) (prefix-map f test xs)

-- by what is made of the elements
pub position-map : {A B : Type 0} (f : A → B) (test : B → Bool) (xs : List A) → position test (map f xs) ≡ position (λ x. test (f x)) xs
position-map f test xs =
    let first : position_or_len test (map f xs) ≡ position_or_len (λ x. test (f x)) xs = prefix-map f (λ y. not (test y)) xs in
    ap (λ (k : ℕ). cond (nat_lt k (length (map f xs))) (Some k) None) first ∙ ap (λ (n : ℕ). cond (nat_lt (position_or_len (λ x. test (f x)) xs) n) (Some (position_or_len (λ x. test (f x)) xs)) None) (length-map xs f)

pub position-first : {A B : Type 0} (f : A → B) (test : B → Bool) (xs : List A) → position (λ x. test (f x)) (take 256 xs) ≡ position test (take 256 (map f xs))
position-first f test xs = sym (position-map f test (take 256 xs)) ∙ ap (position test) (sym (take-map f 256 xs))

pub first-take : {A : Type 0} (m : ℕ) (xs : List A) → m ≡ min (length xs) 256 → take m xs ≡ take 256 xs
first-take m xs is = go (nat_le (length xs) 256) refl
  where
    go : (b : Bool) → nat_le (length xs) 256 ≡ b → take m xs ≡ take 256 xs
    go true e =
        let few : length xs ≤ 256 = grind (arith, nat_tests, e) in
        let enough : length xs ≤ m = omega (arith, is, few) in
        take_all m xs enough ∙ sym (take_all 256 xs few)
    go false e = let all : m ≡ 256 = grind (arith, nat_tests, e, is) in ap (λ (k : ℕ). take k xs) all

-- the word of a name is its bytes
pub word_of_name : (kind : TokenKind) (bytes : List ℕ) → keys.Name ≡ key_of (symbol_of_kind kind bytes) → word_in (symbol_of_kind kind bytes) ≡ bytes
word_of_name tokens.Name bytes is = refl
word_of_name tokens.Number bytes is = absurd cc
word_of_name tokens.Gone bytes is = absurd cc
word_of_name tokens.Sign bytes is = absurd (sign_is_no_name bytes is)
  where
    sign_is_no_name : (bytes : List ℕ) → keys.Name ≡ key_of (Sign bytes) → ⊥
    sign_is_no_name bytes is = let (w, free, symbol) = name_is (Sign bytes) (sym is) in absurd cc

pub number_of_token : (kind : TokenKind) (bytes : List ℕ) → keys.Number ≡ key_of (symbol_of_kind kind bytes) → number_in (symbol_of_kind kind bytes) ≡ value_of bytes
number_of_token tokens.Number bytes is = refl
number_of_token tokens.Name bytes is = let (n, symbol) = number_is (Word bytes) (sym is) in absurd cc
number_of_token tokens.Gone bytes is = absurd cc
number_of_token tokens.Sign bytes is = let (n, symbol) = number_is (Sign bytes) (sym is) in absurd cc

pub word_at : (key : Key) (kind : TokenKind) (bytes : List ℕ) → key ≡ keys.Name → key ≡ key_of (symbol_of_kind kind bytes) → word_in (symbol_of_kind kind bytes) ≡ bytes
word_at key kind bytes name is = word_of_name kind bytes (sym name ∙ is)

pub begin_name : (names : Names) (key : Key) (kind : TokenKind) (bytes : List ℕ) (place : ℕ) → key ≡ keys.Name → key ≡ key_of (symbol_of_kind kind bytes)
    → begin_part names key (record { symbol = symbol_of_kind kind bytes; place = place }) ≡ Name (named_at names bytes place)
begin_name names key kind bytes place name is = rw name (ap (λ (w : List ℕ). Name (named_at names w place)) (word_at key kind bytes name is))

-- ---- what a token comes to, by its bytes

module _ (frames : List Frame) (least : Option NameFault) (key : Key) (kind : TokenKind) (bytes : List ℕ) (place : ℕ) (is : key ≡ key_of (symbol_of_kind kind bytes)) where
  number_at : key ≡ keys.Number → number_in (symbol_of_kind kind bytes) ≡ value_of bytes
  number_at number = number_of_token kind bytes (sym number ∙ is)

  pub orbit_number : (head : Head) (mask : Mask) → key ≡ keys.Number → in_orbit frames least head mask key (record { symbol = symbol_of_kind kind bytes; place = place }) ≡ labelled frames least head mask (min (value_of bytes) 7) place
  orbit_number head mask number = rw number (ap (λ (k : ℕ). labelled frames least head mask (min k 7) place) (number_at number))

  pub before_name : (names : Names) (lead : Lead) → key ≡ keys.Name → before_term names frames least lead key (record { symbol = symbol_of_kind kind bytes; place = place }) ≡ term_in names frames least lead bytes place
  before_name names lead name = rw name (ap (λ (w : List ℕ). term_in names frames least lead w place) (word_at key kind bytes name is))

  pub behind_number : (names : Names) (lead : Lead) (term : DartTerm) → key ≡ keys.Number
      → behind_term names frames least lead term key (record { symbol = symbol_of_kind kind bytes; place = place }) ≡ work frames least (BehindTerm lead (record term { path = term.path ++ min (value_of bytes) 7 ∷ [] }))
  behind_number names lead term number = rw number (ap (λ (k : ℕ). work frames least (BehindTerm lead (record term { path = term.path ++ min k 7 ∷ [] }))) (number_at number))

  pub behind_embed : (names : Names) (lead : Lead) (term : DartTerm) → key ≡ keys.Name → behind_term names frames least lead term key (record { symbol = symbol_of_kind kind bytes; place = place }) ≡ field_in names frames least lead term bytes place
  behind_embed names lead term name = rw name (ap (λ (w : List ℕ). field_in names frames least lead term w place) (word_at key kind bytes name is))
