-- Which symbols are what they are to expressions.
use Rattle.std.proofs.Common.{◌≡◌, ℕ, Bool, true, false, cond, List, refl, sym, ap, ◌∙◌, codes}
use Rattle.std.proofs.lemmas.Slice.Eq.{bytes_eq-Decides}
use Rattle.std.specs.Str.{bytes_eq}
use Rattle.gm_model.specs.declared.expr.BinOp.{BinOp}
use Rattle.gm_model.specs.declared.expr.BinOp.TheVariants as ops
use Rattle.gm_model.specs.declared.token.TokenKind.{TokenKind}
use Rattle.gm_model.specs.declared.token.TokenKind.TheVariants as tokens
use Rattle.gm_model.specs.Names.{reserved, is_among}
use Rattle.gm_model.specs.Symbols.{Symbol, Word, Numeral, Sign, Gone, Stray, End, symbol_of_kind}
use Rattle.gm_text.specs.ValueText.{truth_text}
use Rattle.gm_parse.specs.declared.key.Collector.TheVariants as collectors
use Rattle.gm_parse.specs.declared.key.Key.{Key}
use Rattle.gm_parse.specs.declared.key.Key.TheVariants as keys
use Rattle.gm_parse.specs.Spelling.{operator, collector_word}
use Rattle.gm_parse.specs.inner.Reading.{keyword, sign_key, key_of}

-- the symbol of a key that has one alone
abbrev pub symbol_of : Key → Symbol
symbol_of (keys.Truth b) = Word (truth_text b)
symbol_of (keys.Operator op) = (operator op).symbol
symbol_of keys.If = Word (codes "if")
symbol_of keys.Then = Word (codes "then")
symbol_of keys.Else = Word (codes "else")
symbol_of keys.Not = Word (codes "not")
symbol_of keys.Same = Word (codes "same")
symbol_of keys.Count = Word (codes "count")
symbol_of (keys.Collect collector) = Word (collector_word collector)
symbol_of keys.Open = Sign (codes "(")
symbol_of keys.Close = Sign (codes ")")
symbol_of keys.Comma = Sign (codes ",")
symbol_of keys.Dot = Sign (codes ".")
symbol_of keys.At = Sign (codes "@")
symbol_of _ = End

pub key_operator : (op : BinOp) → key_of (operator op).symbol ≡ keys.Operator op
key_operator ops.Or = refl
key_operator ops.And = refl
key_operator ops.Eq = refl
key_operator ops.Ne = refl
key_operator ops.Lt = refl
key_operator ops.Le = refl
key_operator ops.Gt = refl
key_operator ops.Ge = refl
key_operator ops.Add = refl
key_operator ops.Sub = refl
key_operator ops.Mul = refl
key_operator ops.Div = refl
key_operator ops.Rem = refl

pub key_name : (w : List ℕ) → is_among reserved w ≡ false → key_of (Word w) ≡ keys.Name
key_name w free = rw free refl

-- whether one symbol alone has the key
abbrev pub is_fixed : Key → Bool
is_fixed keys.Number = false
is_fixed keys.Name = false
is_fixed keys.Other = false
is_fixed _ = true

-- what a symbol is, by what it is to expressions
pub data Keyed (symbol : Symbol) : Key → Type 0 where
  Numbered : (n : ℕ) → symbol ≡ Numeral n → Keyed symbol keys.Number
  Named : (w : List ℕ) → is_among reserved w ≡ false → symbol ≡ Word w → Keyed symbol keys.Name
  Spelled : (key : Key) → is_fixed key ≡ true → symbol ≡ symbol_of key → Keyed symbol key
  Otherwise : Keyed symbol keys.Other

-- one more test of a chain
either : (symbol : Symbol) (b : Bool) (one rest : Key) → (b ≡ true → Keyed symbol one) → Keyed symbol rest → Keyed symbol (cond b one rest)
either symbol true one rest first behind = first refl
either symbol false one rest first behind = behind

keyword_keyed : (w : List ℕ) → Keyed (Word w) (keyword w)
keyword_keyed w =
    test (codes "true") (keys.Truth true) _ refl refl (
    test (codes "false") (keys.Truth false) _ refl refl (
    test (codes "if") keys.If _ refl refl (
    test (codes "then") keys.Then _ refl refl (
    test (codes "else") keys.Else _ refl refl (
    test (codes "not") keys.Not _ refl refl (
    test (codes "and") (keys.Operator ops.And) _ refl refl (
    test (codes "or") (keys.Operator ops.Or) _ refl refl (
    test (codes "same") keys.Same _ refl refl (
    test (codes "count") keys.Count _ refl refl (
    test (codes "sum") (keys.Collect collectors.Sum) _ refl refl (
    test (codes "min") (keys.Collect collectors.Least) _ refl refl (
    test (codes "max") (keys.Collect collectors.Greatest) _ refl refl (
    Otherwise)))))))))))))
  where
    test : (other : List ℕ) (key rest : Key) → is_fixed key ≡ true → Word other ≡ symbol_of key → Keyed (Word w) rest → Keyed (Word w) (cond (bytes_eq w other) key rest)
    test other key rest fixed is behind = either (Word w) (bytes_eq w other) key rest (λ e. Spelled key fixed (ap Word ((bytes_eq-Decides w other).0 e) ∙ is)) behind

sign_key_keyed : (s : List ℕ) → Keyed (Sign s) (sign_key s)
sign_key_keyed s =
    test (codes "(") keys.Open _ refl refl (
    test (codes ")") keys.Close _ refl refl (
    test (codes ",") keys.Comma _ refl refl (
    test (codes ".") keys.Dot _ refl refl (
    test (codes "@") keys.At _ refl refl (
    test (codes "+") (keys.Operator ops.Add) _ refl refl (
    test (codes "-") (keys.Operator ops.Sub) _ refl refl (
    test (codes "*") (keys.Operator ops.Mul) _ refl refl (
    test (codes "/") (keys.Operator ops.Div) _ refl refl (
    test (codes "%") (keys.Operator ops.Rem) _ refl refl (
    test (codes "==") (keys.Operator ops.Eq) _ refl refl (
    test (codes "!=") (keys.Operator ops.Ne) _ refl refl (
    test (codes "<") (keys.Operator ops.Lt) _ refl refl (
    test (codes "<=") (keys.Operator ops.Le) _ refl refl (
    test (codes ">") (keys.Operator ops.Gt) _ refl refl (
    test (codes ">=") (keys.Operator ops.Ge) _ refl refl (
    Otherwise))))))))))))))))
  where
    test : (other : List ℕ) (key rest : Key) → is_fixed key ≡ true → Sign other ≡ symbol_of key → Keyed (Sign s) rest → Keyed (Sign s) (cond (bytes_eq s other) key rest)
    test other key rest fixed is behind = either (Sign s) (bytes_eq s other) key rest (λ e. Spelled key fixed (ap Sign ((bytes_eq-Decides s other).0 e) ∙ is)) behind

pub keyed : (symbol : Symbol) → Keyed symbol (key_of symbol)
keyed (Word w) = go (is_among reserved w) refl
  where
    go : (b : Bool) → is_among reserved w ≡ b → Keyed (Word w) (key_of (Word w))
    go true e = rw e (keyword_keyed w)
    go false e = rw e (Named w e refl)
keyed (Numeral n) = Numbered n refl
keyed (Sign s) = sign_key_keyed s
keyed Gone = Otherwise
keyed Stray = Otherwise
keyed End = Otherwise

-- ---- by the key

pub fixed_is : (symbol : Symbol) (key : Key) → key_of symbol ≡ key → is_fixed key ≡ true → symbol ≡ symbol_of key
fixed_is symbol key e fixed = go (key_of symbol) (keyed symbol) e
  where
    go : (k : Key) → Keyed symbol k → k ≡ key → symbol ≡ symbol_of key
    go k (Numbered n is) e = let no_way : false ≡ true = ap is_fixed e ∙ fixed in absurd cc
    go k (Named w free is) e = let no_way : false ≡ true = ap is_fixed e ∙ fixed in absurd cc
    go k (Spelled one own is) e = is ∙ ap symbol_of e
    go k Otherwise e = let no_way : false ≡ true = ap is_fixed e ∙ fixed in absurd cc

pub number_is : (symbol : Symbol) → key_of symbol ≡ keys.Number → (n : ℕ) × (symbol ≡ Numeral n)
number_is symbol e = go (key_of symbol) (keyed symbol) e
  where
    go : (k : Key) → Keyed symbol k → k ≡ keys.Number → (n : ℕ) × (symbol ≡ Numeral n)
    go k (Numbered n is) e = (n, is)
    go k (Named w free is) e = absurd cc
    go k (Spelled one own is) e = let no_way : true ≡ false = sym own ∙ ap is_fixed e in absurd cc
    go k Otherwise e = absurd cc

pub name_is : (symbol : Symbol) → key_of symbol ≡ keys.Name → (w : List ℕ) × (is_among reserved w ≡ false) × (symbol ≡ Word w)
name_is symbol e = go (key_of symbol) (keyed symbol) e
  where
    go : (k : Key) → Keyed symbol k → k ≡ keys.Name → (w : List ℕ) × (is_among reserved w ≡ false) × (symbol ≡ Word w)
    go k (Numbered n is) e = absurd cc
    go k (Named w free is) e = (w, free, is)
    go k (Spelled one own is) e = let no_way : true ≡ false = sym own ∙ ap is_fixed e in absurd cc
    go k Otherwise e = absurd cc

-- the kind of a token that is a number to expressions
pub kind_of_number : (kind : TokenKind) (bytes : List ℕ) → key_of (symbol_of_kind kind bytes) ≡ keys.Number → kind ≡ tokens.Number
kind_of_number tokens.Number bytes is = refl
kind_of_number tokens.Name bytes is = let (n, symbol) = number_is (Word bytes) is in absurd cc
kind_of_number tokens.Gone bytes is = absurd cc
kind_of_number tokens.Sign bytes is = let (n, symbol) = number_is (Sign bytes) is in absurd cc
