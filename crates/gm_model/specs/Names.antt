-- What bytes can be a name, which names are reserved, and a name at its place in a text.
use Rattle.std.specs.Prelude.{ℕ, ◌≤◌, ◌≡◌, Bool, false, List, [], ◌∷◌, length, codes}
use Rattle.std.specs.List.{Contains, list_any}
use Rattle.std.specs.Str.{bytes_eq}
use Rattle.gm_model.specs.declared.limit.TheConstants.{MOST_NAME_BYTES}
use Rattle.gm_model.specs.declared.token.TokenKind.TheVariants as kinds
use Rattle.gm_model.specs.Tokens.{IsLexeme}

-- one name token, which has a byte at least
abbrev pub IsNameToken : List ℕ → Type 0
IsNameToken bytes = IsLexeme kinds.Name bytes

-- a byte at least, not too many, that are one
abbrev pub IsName : List ℕ → Type 0
IsName bytes = (length bytes ≤ MOST_NAME_BYTES) × IsNameToken bytes

-- the words of the formats that can't be names of embeddings, rules, parameters and nodes
abbrev pub reserved : List (List ℕ)
reserved =
    codes "rule" ∷ codes "left" ∷ codes "right" ∷ codes "hook" ∷ codes "with" ∷ codes "pre" ∷ codes "and" ∷ codes "or" ∷ codes "not"
    ∷ codes "if" ∷ codes "then" ∷ codes "else" ∷ codes "true" ∷ codes "false" ∷ codes "sum" ∷ codes "count" ∷ codes "min" ∷ codes "max"
    ∷ codes "same" ∷ []

abbrev pub IsReserved : List ℕ → Type 0
IsReserved bytes = Contains reserved bytes

-- ---- names in a text

-- a name, and the place where it stands
pub record Mention : Type 0 where
  pub name : List ℕ
  pub place : ℕ

abbrev pub is_among : List (List ℕ) → List ℕ → Bool
is_among names name = list_any (bytes_eq name) names

-- a reserved word is no name
abbrev pub IsFree : Mention → Type 0
IsFree mention = is_among reserved mention.name ≡ false
