-- What each reader of a part of a schema comes to, by what it saw of the next token.
use Rattle.std.proofs.Common.{◌≡◌, ℕ, zero, suc, ◌+◌, ◌-◌, ◌^◌, ◌<◌, ◌≤◌, min, Bool, true, false, cond, List, [], ◌∷◌, length, Some, None, refl, ap, subst, ◌∙◌, codes, arith}
use Rattle.std.specs.Prelude.{nat_lt, ◌==◌, ◌||◌}
use Rattle.std.specs.List.{list_any}
use Rattle.std.specs.Str.{bytes_eq}
use Rattle.std.proofs.lemmas.Bool.Decides.{nat_tests}
use Rattle.gm_model.specs.declared.limit.LimitKind.TheVariants as limits
use Rattle.gm_model.specs.declared.schema.Embed.{Embed}
use Rattle.gm_model.specs.declared.token.Token.{Token}
use Rattle.gm_model.specs.declared.token.TokenKind.TheVariants as tokens
use Rattle.gm_model.specs.declared.word.Mask.{Mask}
use Rattle.gm_model.specs.Labels.{has}
use Rattle.gm_model.specs.Names.{IsName, is_among, reserved}
use Rattle.gm_model.specs.Symbols.{Symbol, Word, Numeral, Sign, Mark, symbol_of_kind, value_of}
use Rattle.gm_model.specs.Tokens.{IsLexeme, bytes_of}
use Rattle.gm_text.specs.inner.Cursor.{Cursor}
use Rattle.gm_text.specs.SchemaText.{Role, Fixed, Dimension, EmbedWord, NameAt, LabelAt, LimitOf, limit_of, is_again, names_in, with_label}
use Rattle.gm_text.specs.inner.SchemaReading.{AtTop, AtEmbeds, AtName, AtOrbit, AtLabel, AtKind, label_role, move}
use Rattle.gm_text.specs.inner.SchemaAnswers.{marks_left, judged, IsKnown, run_in, Reads, EndsIn, Stops, IsNext, symbol_at}
use Rattle.gm_text.specs.declared.schema_fault.SchemaFault.TheVariants as faults
use Rattle.gm_text.proofs.SchemaMoves.{passes_limit, passes_again, passes_nothing, fixed_free}
use Rattle.gm_text.proofs.SchemaSteps.{passes_at, reads_token, stops_token, limit_token, twice_token}

-- ---- names

name_in : (name : List ℕ) (embeds : List Embed) → is_among (names_in embeds) name ≡ list_any (λ (embed : Embed). bytes_eq name embed.name) embeds
name_in name [] = refl
name_in name (embed ∷ embeds) = ap (λ (b : Bool). bytes_eq name embed.name || b) (name_in name embeds)

abbrev pub has_name : List Embed → List ℕ → Bool
has_name embeds name = list_any (λ (embed : Embed). bytes_eq name embed.name) embeds

known_in : (strict : Bool) (known declared : List Embed) (name : List ℕ) (b : Bool) → IsKnown strict known declared → strict ≡ true → has_name known name ≡ b → is_among (names_in declared) name ≡ b
known_in true known declared name b is e has = ap (λ (es : List Embed). is_among (names_in es) name) is ∙ name_in name known ∙ has
known_in false known declared name b is e has = absurd cc

short_is : (n m : ℕ) → m ≤ n → nat_lt n m ≡ false
short_is n m h = grind arith

module _ (strict : Bool) (known declared : List Embed) (is_known : IsKnown strict known declared) (n : ℕ) (old new : Cursor) (token : Token) (next : IsNext old token new) (kind : token.kind ≡ tokens.Name) where
  name : List ℕ
  name = bytes_of new.text token

  word_is : symbol_at new.text token ≡ Word (bytes_of new.text token)
  word_is = ap (λ k. symbol_of_kind k (bytes_of new.text token)) kind

  moves : is_among reserved (bytes_of new.text token) ≡ false → move (AtName n declared) (symbol_at new.text token) ≡ Some (AtOrbit n declared (bytes_of new.text token))
  moves free = ap (move (AtName n declared)) word_is ∙ (rw free refl)

  pub name_reserved : is_among reserved (bytes_of new.text token) ≡ true → EndsIn strict (AtName n declared) old token.start
  name_reserved taken =
      let none : move (AtName n declared) (Word (bytes_of new.text token)) ≡ None = rw taken refl in
      stops_token strict (AtName n declared) old new token refl next (ap (move (AtName n declared)) word_is ∙ none)

  limit_is : (b : Bool) → nat_lt 32 (length (bytes_of new.text token)) ≡ b → limit_of (NameAt (names_in declared) token.start) (symbol_at new.text token) ≡ cond b (Some limits.Name) None
  limit_is b e = ap (limit_of (NameAt (names_in declared) token.start)) word_is ∙ ap (λ (c : Bool). cond c (Some limits.Name) None) e

  pub name_long : is_among reserved (bytes_of new.text token) ≡ false → (IsName (bytes_of new.text token) → ⊥) → Stops strict (AtName n declared) old (faults.Limit limits.Name token.start)
  name_long free bad =
      let lexeme : IsLexeme tokens.Name (bytes_of new.text token) = subst (λ k. IsLexeme k (bytes_of new.text token)) kind next.sound.lexeme in
      let long = go lexeme (nat_lt 32 (length (bytes_of new.text token))) refl in
      limit_token strict (AtName n declared) (AtOrbit n declared (bytes_of new.text token)) old new token limits.Name next (moves free)
      (passes_limit strict (NameAt (names_in declared) token.start) (symbol_at new.text token) limits.Name (limit_is true long))
    where
      go : IsLexeme tokens.Name (bytes_of new.text token) → (b : Bool) → nat_lt 32 (length (bytes_of new.text token)) ≡ b → nat_lt 32 (length (bytes_of new.text token)) ≡ true
      go lexeme true e = e
      go lexeme false e = let short : length (bytes_of new.text token) ≤ 32 = grind (arith, e) in absurd (bad (short, lexeme))

  pub name_again : is_among reserved (bytes_of new.text token) ≡ false → IsName (bytes_of new.text token) → strict ≡ true → has_name known (bytes_of new.text token) ≡ true → Stops strict (AtName n declared) old (faults.Twice token.start)
  name_again free good judges again =
      let role = NameAt (names_in declared) token.start in
      let symbol = symbol_at new.text token in
      let said : is_again role symbol ≡ true = ap (is_again role) word_is ∙ known_in strict known declared (bytes_of new.text token) true is_known judges again in
      let passes : judged strict role symbol ≡ _ = ap (λ (b : Bool). judged b role symbol) judges ∙ passes_again role symbol (limit_is false (short_is 32 (length (bytes_of new.text token)) good.0)) said in
      twice_token strict (AtName n declared) (AtOrbit n declared (bytes_of new.text token)) old new token next (moves free) passes

  pub name_read : is_among reserved (bytes_of new.text token) ≡ false → IsName (bytes_of new.text token) → (strict ≡ true → has_name known (bytes_of new.text token) ≡ false) → Reads strict (AtName n declared) old new (AtOrbit n declared (bytes_of new.text token))
  name_read free good once =
      let role = NameAt (names_in declared) token.start in
      let symbol = symbol_at new.text token in
      let said : strict ≡ true → is_again role symbol ≡ false = λ judges. ap (is_again role) word_is ∙ known_in strict known declared (bytes_of new.text token) false is_known judges (once judges) in
      reads_token strict (AtName n declared) (AtOrbit n declared (bytes_of new.text token)) old new token next (moves free)
      (passes_nothing strict role symbol (limit_is false (short_is 32 (length (bytes_of new.text token)) good.0)) said)

-- ---- numbers

module _ (strict : Bool) (old new : Cursor) (token : Token) (next : IsNext old token new) (kind : token.kind ≡ tokens.Number) (value : ℕ) (is : value ≡ min (value_of (bytes_of new.text token)) (2 ^ 64 - 1)) where
  numeral_is : symbol_at new.text token ≡ Numeral (value_of (bytes_of new.text token))
  numeral_is = ap (λ k. symbol_of_kind k (bytes_of new.text token)) kind

  small : value ≤ 7 → symbol_at new.text token ≡ Numeral value
  small low = let same : value_of (bytes_of new.text token) ≡ value = omega (arith, is, low) in numeral_is ∙ ap Numeral same

  dim_free : (n : ℕ) → 0 < n → n ≤ 7 → ((n == 0) || nat_lt 7 n) ≡ false
  dim_free n some low = let zero : (n == 0) ≡ false = grind (arith, nat_tests, some) in rw zero (short_is 7 n low)

  pub top_read : 0 < value → value ≤ 7 → Reads strict AtTop old new (AtEmbeds value [])
  top_read some low =
      let symbol = small low in
      let limit : limit_of Dimension (symbol_at new.text token) ≡ None = ap (limit_of Dimension) symbol ∙ (rw (dim_free value some low) refl) in
      reads_token strict AtTop (AtEmbeds value []) old new token next (ap (move AtTop) symbol) (passes_nothing strict Dimension (symbol_at new.text token) limit (λ judges. ap (is_again Dimension) symbol))

  -- what no dimension is
  top_limit : (n : ℕ) → symbol_at new.text token ≡ Numeral n → ((n == 0) || nat_lt 7 n) ≡ true → Stops strict AtTop old (faults.Limit limits.Dimension token.start)
  top_limit n symbol bad =
      let limit : limit_of Dimension (symbol_at new.text token) ≡ Some limits.Dimension = ap (limit_of Dimension) symbol ∙ (rw bad refl) in
      limit_token strict AtTop (AtEmbeds n []) old new token limits.Dimension next (ap (move AtTop) symbol) (passes_limit strict Dimension (symbol_at new.text token) limits.Dimension limit)

  past : (n : ℕ) → n < value → nat_lt n (value_of (bytes_of new.text token)) ≡ true
  past n h = let over : n < value_of (bytes_of new.text token) = omega (arith, is, h) in grind (arith, nat_tests, over)

  or_true : (a b : Bool) → b ≡ true → (a || b) ≡ true
  or_true true b e = refl
  or_true false b e = e

  pub top_past : 7 < value → Stops strict AtTop old (faults.Limit limits.Dimension token.start)
  top_past over = top_limit (value_of (bytes_of new.text token)) numeral_is (or_true _ _ (past 7 over))

  pub top_none : (0 < value × value ≤ 7 → ⊥) → value ≤ 7 → Stops strict AtTop old (faults.Limit limits.Dimension token.start)
  top_none none low =
      let zero : value ≡ 0 = go value none low in
      top_limit 0 (small low ∙ ap Numeral zero) refl
    where
      go : (v : ℕ) → (0 < v × v ≤ 7 → ⊥) → v ≤ 7 → v ≡ 0
      go zero none low = refl
      go (suc v) none low = absurd (none (omega arith, low))

  module _ (n : ℕ) (declared : List Embed) (name : List ℕ) (mask : Mask) (top : n ≤ 7) where
    label_at : (m : ℕ) → symbol_at new.text token ≡ Numeral m → label_role n mask (symbol_at new.text token) token.start ≡ LabelAt n mask token.start
    label_at m symbol = ap (λ (s : Symbol). label_role n mask s token.start) symbol

    pub label_past : n < value → Stops strict (AtLabel n declared name mask) old (faults.Limit limits.Label token.start)
    label_past over =
        let role = LabelAt n mask token.start in
        let label = value_of (bytes_of new.text token) in
        let limit : limit_of role (symbol_at new.text token) ≡ Some limits.Label = ap (limit_of role) numeral_is ∙ (rw (past n over) refl) in
        limit_token strict (AtLabel n declared name mask) (AtLabel n declared name (with_label mask label)) old new token limits.Label next (ap (move (AtLabel n declared name mask)) numeral_is)
        (ap (λ (r : Role). judged strict r (symbol_at new.text token)) (label_at label numeral_is) ∙ passes_limit strict role (symbol_at new.text token) limits.Label limit)

    within : value ≤ n → limit_of (LabelAt n mask token.start) (symbol_at new.text token) ≡ None
    within low = ap (limit_of (LabelAt n mask token.start)) (small (omega (arith, low, top))) ∙ (rw (short_is n value low) refl)

    pub label_again : value ≤ n → strict ≡ true → has mask value ≡ true → Stops strict (AtLabel n declared name mask) old (faults.Twice token.start)
    label_again low judges again =
        let role = LabelAt n mask token.start in
        let symbol = small (omega (arith, low, top)) in
        let said : is_again role (symbol_at new.text token) ≡ true = ap (is_again role) symbol ∙ again in
        let passes : judged strict role (symbol_at new.text token) ≡ _ = ap (λ (b : Bool). judged b role (symbol_at new.text token)) judges ∙ passes_again role (symbol_at new.text token) (within low) said in
        twice_token strict (AtLabel n declared name mask) (AtLabel n declared name (with_label mask value)) old new token next (ap (move (AtLabel n declared name mask)) symbol)
        (ap (λ (r : Role). judged strict r (symbol_at new.text token)) (label_at value symbol) ∙ passes)

    pub label_read : value ≤ n → (strict ≡ true → has mask value ≡ false) → Reads strict (AtLabel n declared name mask) old new (AtLabel n declared name (with_label mask value))
    label_read low once =
        let symbol = small (omega (arith, low, top)) in
        let said : strict ≡ true → is_again (LabelAt n mask token.start) (symbol_at new.text token) ≡ false = λ judges. ap (is_again (LabelAt n mask token.start)) symbol ∙ once judges in
        reads_token strict (AtLabel n declared name mask) (AtLabel n declared name (with_label mask value)) old new token next (ap (move (AtLabel n declared name mask)) symbol)
        (ap (λ (r : Role). judged strict r (symbol_at new.text token)) (label_at value symbol) ∙ passes_nothing strict (LabelAt n mask token.start) (symbol_at new.text token) (within low) said)

pub label_ends : (strict : Bool) (n : ℕ) (declared : List Embed) (name : List ℕ) (mask : Mask) (old new : Cursor) (token : Token) → IsNext old token new → symbol_at new.text token ≡ Sign (codes ">") → Reads strict (AtLabel n declared name mask) old new (AtKind n declared name mask)
label_ends strict n declared name mask old new token next symbol =
    let role : label_role n mask (symbol_at new.text token) token.start ≡ Fixed = ap (λ (s : Symbol). label_role n mask s token.start) symbol in
    reads_token strict (AtLabel n declared name mask) (AtKind n declared name mask) old new token next (ap (move (AtLabel n declared name mask)) symbol)
    (ap (λ (r : Role). judged strict r (symbol_at new.text token)) role ∙ fixed_free strict (symbol_at new.text token))

-- ---- the word `embed`

pub embed_free : (strict : Bool) (declared : List Embed) → length declared < 8 → judged strict (EmbedWord (length declared + 1)) (Word (codes "embed")) ≡ None
embed_free strict declared few =
    let limit : limit_of (EmbedWord (length declared + 1)) (Word (codes "embed")) ≡ None = rw (short_is 8 (length declared + 1) (omega (arith, few))) refl in
    passes_nothing strict (EmbedWord (length declared + 1)) (Word (codes "embed")) limit (λ judges. refl)

pub embed_past : (strict : Bool) (n : ℕ) (declared : List Embed) (old between : Cursor) (place : ℕ) → marks_left old ≡ record { symbol = Word (codes "embed"); place = place } ∷ marks_left between → 8 ≤ length declared
    → Stops strict (AtEmbeds n declared) old (faults.Limit limits.Embeddings place)
embed_past strict n declared old between place marks many last =
    let word = Word (codes "embed") in
    let mark : Mark = record { symbol = word; place = place } in
    let over : nat_lt 8 (length declared + 1) ≡ true = grind (arith, nat_tests, many) in
    let limit : limit_of (EmbedWord (length declared + 1)) word ≡ Some limits.Embeddings = rw over refl in
    ap (run_in strict (AtEmbeds n declared) last) marks ∙ passes_at strict (AtEmbeds n declared) (AtName n declared) mark (marks_left between) (LimitOf limits.Embeddings) refl (passes_limit strict (EmbedWord (length declared + 1)) word limits.Embeddings limit) last
