-- Texts that are printed are read again: the symbols of a word, a number, a sign or a blank with any bytes behind it.
use Rattle.std.proofs.Common.{◌≡◌, ℕ, zero, suc, ◌+◌, ◌-◌, ◌^◌, ◌<◌, ◌≤◌, Bool, true, false, cond, List, [], ◌∷◌, ◌++◌, length, take, drop, map, ℤ, pos, negsuc, refl, sym, ap, ◌∙◌, arith, add-one}
use Rattle.std.specs.Prelude.{IsTrue, decimal}
use Rattle.std.specs.Fmt.{signed_decimal}
use Rattle.std.specs.List.{take_while, prefix_len, list_all}
use Rattle.std.proofs.lemmas.Bool.{and_parts, and_from, leb-true, le-leb}
use Rattle.std.proofs.lemmas.List.{drop-drop, take_at, drop_at}
use Rattle.std.proofs.lemmas.List.Folds.{length-prefix_len}
use Rattle.std.proofs.lemmas.Fmt.{digits_decimal, digits_value-decimal, decimal_nonempty}
use Rattle.std.proofs.lemmas.Str.Parse.{IsDigitsTest, IsNumeralModel, numerals_by_fold}
use lib.Signed.{mag}
use Rattle.gm_model.specs.declared.token.TokenKind.{TokenKind}
use Rattle.gm_model.specs.declared.token.TokenKind.TheVariants as kinds
use Rattle.gm_model.specs.Tokens.{is_blank, is_digit, is_name_byte, is_sign, is_two_byte_sign, begins_two_byte_sign, IsLexeme, Item, Front, Gap, Lexeme, Stray, front_of, size_of, item_before, items_from}
use Rattle.gm_model.specs.Symbols.{Symbol, Word, Numeral, Sign, Gone, End, value_after, value_of, symbol_of_kind, mark_of, marks_at, symbols, symbols_of}
use Rattle.gm_model.specs.Symbols as symbol
use Rattle.gm_text.proofs.Fronts.{blank_byte, size_of-front_of, front_of-blank, front_of-letter, front_of-digit, front_of-underscore, front_of-two, front_of-sign}

-- ---- the symbols of bytes, wherever the bytes stand

abbrev symbol_before : List ℕ → Front → List Symbol → List Symbol
symbol_before bytes (Gap size) behind = behind
symbol_before bytes (Lexeme kind size) behind = symbol_of_kind kind (take size bytes) ∷ behind
symbol_before bytes Stray behind = symbol.Stray ∷ []

-- where so many of the bytes belong to what stood before
symbols_after : ℕ → List ℕ → List Symbol
symbols_after taken [] = End ∷ []
symbols_after (suc taken) (b ∷ bytes) = symbols_after taken bytes
symbols_after zero (b ∷ bytes) =
    symbol_before (b ∷ bytes) (front_of b bytes) (symbols_after (size_of (front_of b bytes) - 1) bytes)

pub symbols_from : List ℕ → List Symbol
symbols_from bytes = symbols_after 0 bytes

symbols_before : (text bytes : List ℕ) (place : ℕ) (front : Front) (items : List Item) (behind : List Symbol)
    → drop place text ≡ bytes → symbols (map (mark_of text) items) ≡ behind
    → symbols (map (mark_of text) (item_before place front items)) ≡ symbol_before bytes front behind
symbols_before text bytes place (Gap size) items behind there same = same
symbols_before text bytes place (Lexeme kind size) items behind there same =
    let e : place + size - place ≡ size = omega arith in
    let first : symbol_of_kind kind (take (place + size - place) (drop place text)) ≡ symbol_of_kind kind (take size bytes) = rw (e, there) refl in
    cc
symbols_before text bytes place Stray items behind there same = refl

symbols_items_from : (text bytes : List ℕ) (place taken : ℕ) → drop place text ≡ bytes
    → symbols (map (mark_of text) (items_from place taken bytes)) ≡ symbols_after taken bytes
unfolding symbols_after
symbols_items_from text [] place taken there = refl
symbols_items_from text (b ∷ bytes) place (suc taken) there =
    let next : drop (suc place) text ≡ bytes = ap (λ (p : ℕ). drop p text) (sym (add-one place)) ∙ sym (drop-drop 1 place text) ∙ ap (drop 1) there in
    symbols_items_from text bytes (suc place) taken next
symbols_items_from text (b ∷ bytes) place zero there =
    let next : drop (suc place) text ≡ bytes = ap (λ (p : ℕ). drop p text) (sym (add-one place)) ∙ sym (drop-drop 1 place text) ∙ ap (drop 1) there in
    symbols_before text (b ∷ bytes) place (front_of b bytes) _ _ there (symbols_items_from text bytes (suc place) (size_of (front_of b bytes) - 1) next)

-- a text's symbols from a place on are those of the bytes there
pub symbols-marks_at : (text : List ℕ) (place : ℕ) → symbols (marks_at text place) ≡ symbols_from (drop place text)
unfolding symbols_from
symbols-marks_at text place = symbols_items_from text (drop place text) place 0 refl

pub symbols_of-from : (text : List ℕ) → symbols_of text ≡ symbols_from text
symbols_of-from text = symbols-marks_at text 0

-- ---- what stands at the front

symbols_after-taken : (taken : ℕ) (bytes : List ℕ) → taken ≤ length bytes → symbols_after taken bytes ≡ symbols_after 0 (drop taken bytes)
unfolding symbols_after
symbols_after-taken zero bytes room = refl
symbols_after-taken (suc taken) [] room = refl
symbols_after-taken (suc taken) (b ∷ bytes) room = symbols_after-taken taken bytes (omega arith)

symbols_from-front : (b : ℕ) (w rest : List ℕ) (front : Front) → front_of b (w ++ rest) ≡ front → size_of front ≡ suc (length w)
    → symbols_from (b ∷ (w ++ rest)) ≡ symbol_before (b ∷ (w ++ rest)) front (symbols_from rest)
unfolding symbols_from symbols_after
symbols_from-front b w rest front is size-is =
    let sized = size_of-front_of b (w ++ rest) in
    let size : size_of (front_of b (w ++ rest)) - 1 ≡ length w = omega (arith, ap size_of is) in
    let room : length w ≤ length (w ++ rest) = omega (arith, sized.within) in
    let behind : symbols_after (size_of (front_of b (w ++ rest)) - 1) (w ++ rest) ≡ symbols_after 0 rest = ap (λ (n : ℕ). symbols_after n (w ++ rest)) size ∙ symbols_after-taken (length w) (w ++ rest) room ∙ ap (symbols_after 0) (drop_at w rest (length w) refl) in
    ap (λ (f : Front). symbol_before (b ∷ (w ++ rest)) f (symbols_after (size_of (front_of b (w ++ rest)) - 1) (w ++ rest))) is ∙ ap (symbol_before (b ∷ (w ++ rest)) front) behind

symbols_from-lexeme : (kind : TokenKind) (b : ℕ) (w rest : List ℕ) → front_of b (w ++ rest) ≡ Lexeme kind (suc (length w))
    → symbols_from (b ∷ (w ++ rest)) ≡ symbol_of_kind kind (b ∷ w) ∷ symbols_from rest
symbols_from-lexeme kind b w rest front =
    symbols_from-front b w rest (Lexeme kind (suc (length w))) front refl
    ∙ ap (λ (bytes : List ℕ). symbol_of_kind kind (b ∷ bytes) ∷ symbols_from rest) (take_at w rest (length w) refl)

-- the bytes do not go on with one that passes
abbrev pub Stops : (ℕ → Bool) → List ℕ → Type 0
Stops passes [] = Unit {0}
Stops passes (b ∷ bytes) = passes b ≡ false

prefix_stops : (p : ℕ → Bool) (w rest : List ℕ) → list_all p w ≡ true → Stops p rest → prefix_len p (w ++ rest) ≡ length w
prefix_stops p [] [] all stops = refl
prefix_stops p [] (b ∷ rest) all stops = rw stops refl
prefix_stops p (b ∷ w) rest all stops =
    let tests = and_parts (p b) (list_all p w) all in
    let e : cond (p b) (1 + prefix_len p (w ++ rest)) 0 ≡ 1 + prefix_len p (w ++ rest) = rw tests.0 refl in
    rw e (omega (arith, prefix_stops p w rest tests.1 stops))

run_stops : (p : ℕ → Bool) (w rest : List ℕ) → list_all p w ≡ true → Stops p rest → length (take_while p (w ++ rest)) ≡ length w
run_stops p w rest all stops = length-prefix_len p (w ++ rest) ∙ prefix_stops p w rest all stops

pub symbols_from-end : symbols_from [] ≡ End ∷ []
unfolding symbols_from symbols_after
symbols_from-end = refl

pub symbols_from-blank : (b : ℕ) (rest : List ℕ) → IsTrue (is_blank b) → symbols_from (b ∷ rest) ≡ symbols_from rest
symbols_from-blank b rest blank = symbols_from-front b [] rest (Gap 1) (front_of-blank b rest blank) refl

pub symbols_from-word : (w rest : List ℕ) → IsLexeme kinds.Name w → Stops is_name_byte rest → symbols_from (w ++ rest) ≡ Word w ∷ symbols_from rest
symbols_from-word [] rest name stops = absurd name
symbols_from-word (b ∷ w) rest name stops =
    symbols_from-lexeme kinds.Name b w rest (front_of-letter b (w ++ rest) name.0 ∙ ap (λ (n : ℕ). Lexeme kinds.Name (suc n)) (run_stops is_name_byte w rest name.1 stops))

pub symbols_from-digits : (digits rest : List ℕ) → IsLexeme kinds.Number digits → Stops is_digit rest → symbols_from (digits ++ rest) ≡ Numeral (value_of digits) ∷ symbols_from rest
symbols_from-digits [] rest number stops = absurd number
symbols_from-digits (b ∷ digits) rest number stops =
    symbols_from-lexeme kinds.Number b digits rest (front_of-digit b (digits ++ rest) number.0 ∙ ap (λ (n : ℕ). Lexeme kinds.Number (suc n)) (run_stops is_digit digits rest number.1 stops))

pub symbols_from-gone : (rest : List ℕ) → symbols_from (95 ∷ rest) ≡ Gone ∷ symbols_from rest
symbols_from-gone rest = symbols_from-lexeme kinds.Gone 95 [] rest (front_of-underscore 95 rest refl)

-- a sign of one byte, where no sign of two bytes begins
pub symbols_from-sign : (b : ℕ) (rest : List ℕ) → IsTrue (is_sign b) → begins_two_byte_sign b rest ≡ false → symbols_from (b ∷ rest) ≡ Sign (b ∷ []) ∷ symbols_from rest
symbols_from-sign b rest sign single = symbols_from-lexeme kinds.Sign b [] rest (front_of-sign b rest sign single)

pub symbols_from-two : (b c : ℕ) (rest : List ℕ) → IsTrue (is_two_byte_sign b c) → symbols_from (b ∷ c ∷ rest) ≡ Sign (b ∷ c ∷ []) ∷ symbols_from rest
symbols_from-two b c rest two = symbols_from-lexeme kinds.Sign b (c ∷ []) rest (front_of-two b (c ∷ rest) two)

-- ---- printed numbers

digits_test : IsDigitsTest (λ digits. list_all is_digit digits ≡ true)
digits_test = record {
  empty = refl;
  parts = λ c cs all.
      let tests = and_parts (is_digit c) (list_all is_digit cs) all in
      let bounds = and_parts _ _ tests.0 in
      ((leb-true 48 c bounds.0, leb-true c 57 bounds.1), tests.1);
  more = λ c cs range all. and_from (is_digit c) (list_all is_digit cs) (and_from _ _ (le-leb 48 c range.0) (le-leb c 57 range.1)) all;
}

-- the value of digits is that of std's numerals
pub numerals : IsNumeralModel (λ digits. list_all is_digit digits ≡ true) value_of
numerals = numerals_by_fold (λ digits. list_all is_digit digits ≡ true) digits_test value_after (record { empty = λ n. refl; more = λ n c cs range. refl })

number_lexeme : (digits : List ℕ) → 0 < length digits → list_all is_digit digits ≡ true → IsLexeme kinds.Number digits
number_lexeme [] some all = absurd (omega arith)
number_lexeme (b ∷ digits) some all = and_parts (is_digit b) (list_all is_digit digits) all

pub IsLexeme-decimal : (n : ℕ) → n < 2 ^ 64 → IsLexeme kinds.Number (decimal n)
IsLexeme-decimal n small = number_lexeme (decimal n) (decimal_nonempty n small) (digits_decimal numerals n small)

pub value_of-decimal : (n : ℕ) → n < 2 ^ 64 → value_of (decimal n) ≡ n
value_of-decimal n small = digits_value-decimal numerals n small

pub symbols_from-decimal : (n : ℕ) (rest : List ℕ) → n < 2 ^ 64 → Stops is_digit rest → symbols_from (decimal n ++ rest) ≡ Numeral n ∷ symbols_from rest
symbols_from-decimal n rest small stops =
    symbols_from-digits (decimal n) rest (IsLexeme-decimal n small) stops ∙ ap (λ (m : ℕ). Numeral m ∷ symbols_from rest) (value_of-decimal n small)

minus_alone : (rest : List ℕ) → begins_two_byte_sign 45 rest ≡ false
minus_alone [] = refl
minus_alone (b ∷ rest) = refl

-- a number with its sign, by its symbols
abbrev pub signed_symbols : ℤ → List Symbol
signed_symbols (pos n) = Numeral n ∷ []
signed_symbols (negsuc n) = Sign (45 ∷ []) ∷ Numeral (suc n) ∷ []

pub symbols_from-signed : (z : ℤ) (rest : List ℕ) → mag z < 2 ^ 63 → Stops is_digit rest → symbols_from (signed_decimal z ++ rest) ≡ signed_symbols z ++ symbols_from rest
symbols_from-signed (pos n) rest small stops = symbols_from-decimal n rest (omega arith) stops
symbols_from-signed (negsuc n) rest small stops =
    symbols_from-sign 45 (decimal (suc n) ++ rest) refl (minus_alone (decimal (suc n) ++ rest))
    ∙ ap (λ (behind : List Symbol). Sign (45 ∷ []) ∷ behind) (symbols_from-decimal (suc n) rest (omega arith) stops)

-- ---- with a blank behind

pub symbols_from-word_blank : (w : List ℕ) (b : ℕ) (rest : List ℕ) → IsLexeme kinds.Name w → IsTrue (is_blank b) → symbols_from (w ++ b ∷ rest) ≡ Word w ∷ symbols_from rest
symbols_from-word_blank w b rest name blank =
    symbols_from-word w (b ∷ rest) name (blank_byte b blank).1 ∙ ap (λ (behind : List Symbol). Word w ∷ behind) (symbols_from-blank b rest blank)

pub symbols_from-decimal_blank : (n b : ℕ) (rest : List ℕ) → n < 2 ^ 64 → IsTrue (is_blank b) → symbols_from (decimal n ++ b ∷ rest) ≡ Numeral n ∷ symbols_from rest
symbols_from-decimal_blank n b rest small blank =
    symbols_from-decimal n (b ∷ rest) small (blank_byte b blank).0 ∙ ap (λ (behind : List Symbol). Numeral n ∷ behind) (symbols_from-blank b rest blank)
