-- Where a token leads that is what a state of a schema waits for, or isn't, and what it passes there.
use Rattle.std.proofs.Common.{rules, ◌≡◌, ◌≢◌, ℕ, Bool, true, false, not, List, Some, None, refl, sym, ap, ◌∙◌, codes}
use Rattle.std.proofs.lemmas.Bool.{false≢true}
use denote.Enum.Bare.{sameb, same_true}
use Rattle.std.specs.Str.{bytes_eq}
use Rattle.std.proofs.lemmas.Slice.Eq.{bytes_eq-Decides}
use Rattle.gm_model.specs.declared.limit.LimitKind.{LimitKind}
use Rattle.gm_model.specs.declared.schema.Embed.{Embed}
use Rattle.gm_model.specs.contracts.token.TokenKind.{the_type}
use Rattle.gm_model.specs.declared.token.TokenKind.{TokenKind}
use Rattle.gm_model.specs.declared.token.TokenKind.TheVariants as tokens
use Rattle.gm_model.specs.declared.word.Mask.{Mask}
use Rattle.gm_model.specs.Symbols.{Symbol, Word, Numeral, Sign, Gone, Stray, End, symbol_of_kind}
use Rattle.gm_text.specs.SchemaText.{Role, Fixed, LimitOf, Again, limit_of, is_again, no_labels}
use Rattle.gm_text.specs.inner.SchemaReading.{State, AtDim, AtTop, AtName, AtOrbit, AtLabel, AtKind, expect, move}
use Rattle.gm_text.specs.inner.SchemaAnswers.{judged}

-- ---- of which kind it is

holds : (b : Bool) → not b ≡ false → b ≡ true
holds true e = refl
holds false e = sym e

pub kind_is : (a b : TokenKind) (r : Bool) → r ≡ not (sameb the_type a b) → r ≡ false → a ≡ b
kind_is a b r is e = same_true the_type (search rules) a b (holds _ (sym is ∙ e))

other : (b : TokenKind) → not (sameb the_type b b) ≡ true → ⊥
other tokens.Name e = absurd (false≢true e)
other tokens.Number e = absurd (false≢true e)
other tokens.Gone e = absurd (false≢true e)
other tokens.Sign e = absurd (false≢true e)

pub kind_other : (a b : TokenKind) (r : Bool) → r ≡ not (sameb the_type a b) → r ≡ true → a ≢ b
kind_other a b r is e same = let no : not (sameb the_type b b) ≡ true = sym (ap (λ k. not (sameb the_type k b)) same) ∙ sym is ∙ e in other b no

-- ---- where it leads

unmet : (wanted found : List ℕ) (to : State) → (found ≡ wanted → ⊥) → expect wanted found to ≡ None
unmet wanted found to other = go (bytes_eq found wanted) refl
  where
    go : (b : Bool) → bytes_eq found wanted ≡ b → expect wanted found to ≡ None
    go true e = absurd (other ((bytes_eq-Decides found wanted).0 e))
    go false e = rw e refl

pub no_dim : (symbol : Symbol) → symbol ≢ Word (codes "dim") → move AtDim symbol ≡ None
no_dim (Word w) other = unmet (codes "dim") w AtTop (λ e. other (ap Word e))
no_dim (Numeral n) other = refl
no_dim (Sign s) other = refl
no_dim Gone other = refl
no_dim Stray other = refl
no_dim End other = refl

pub no_open : (n : ℕ) (declared : List Embed) (name : List ℕ) (symbol : Symbol) → symbol ≢ Sign (codes "<") → move (AtOrbit n declared name) symbol ≡ None
no_open n declared name (Sign s) other = unmet (codes "<") s (AtLabel n declared name no_labels) (λ e. other (ap Sign e))
no_open n declared name (Word w) other = refl
no_open n declared name (Numeral m) other = refl
no_open n declared name Gone other = refl
no_open n declared name Stray other = refl
no_open n declared name End other = refl

pub no_top : (kind : TokenKind) (bytes : List ℕ) → kind ≢ tokens.Number → move AtTop (symbol_of_kind kind bytes) ≡ None
no_top tokens.Name bytes other = refl
no_top tokens.Number bytes other = absurd (other refl)
no_top tokens.Gone bytes other = refl
no_top tokens.Sign bytes other = refl

pub no_name : (n : ℕ) (declared : List Embed) (kind : TokenKind) (bytes : List ℕ) → kind ≢ tokens.Name → move (AtName n declared) (symbol_of_kind kind bytes) ≡ None
no_name n declared tokens.Name bytes other = absurd (other refl)
no_name n declared tokens.Number bytes other = refl
no_name n declared tokens.Gone bytes other = refl
no_name n declared tokens.Sign bytes other = refl

pub no_label : (n : ℕ) (declared : List Embed) (name : List ℕ) (mask : Mask) (kind : TokenKind) (bytes : List ℕ) → kind ≢ tokens.Number → symbol_of_kind kind bytes ≢ Sign (codes ">") → move (AtLabel n declared name mask) (symbol_of_kind kind bytes) ≡ None
no_label n declared name mask tokens.Name bytes number other = refl
no_label n declared name mask tokens.Number bytes number other = absurd (number refl)
no_label n declared name mask tokens.Gone bytes number other = refl
no_label n declared name mask tokens.Sign bytes number other = unmet (codes ">") bytes (AtKind n declared name mask) (λ e. other (ap Sign e))

-- ---- what it passes

pub fixed_free : (strict : Bool) (symbol : Symbol) → judged strict Fixed symbol ≡ None
fixed_free true symbol = refl
fixed_free false symbol = refl

pub passes_limit : (strict : Bool) (role : Role) (symbol : Symbol) (what : LimitKind) → limit_of role symbol ≡ Some what → judged strict role symbol ≡ Some (LimitOf what)
passes_limit true role symbol what limit = rw limit refl
passes_limit false role symbol what limit = rw limit refl

pub passes_again : (role : Role) (symbol : Symbol) → limit_of role symbol ≡ None → is_again role symbol ≡ true → judged true role symbol ≡ Some Again
passes_again role symbol limit again = rw (limit, again) refl

-- where it is said again, nothing is judged
pub passes_nothing : (strict : Bool) (role : Role) (symbol : Symbol) → limit_of role symbol ≡ None → (strict ≡ true → is_again role symbol ≡ false) → judged strict role symbol ≡ None
passes_nothing true role symbol limit again = rw (limit, again refl) refl
passes_nothing false role symbol limit again = rw limit refl
