-- What the tokens of a text are and where they stand, with what can stand in a token's place: a stray byte, or the end of the text.
use Rattle.std.specs.Prelude.{◌≡◌, ℕ, zero, suc, ◌+◌, ◌-◌, ◌≤◌, Bool, false, not, ◌&&◌, ◌||◌, ◌==◌, nat_le, if◌then◌else◌, List, [], ◌∷◌, length, take, drop, IsTrue}
use Rattle.std.specs.List.{take_while, list_all}
use Rattle.gm_model.specs.declared.token.Token.{Token}
use Rattle.gm_model.specs.declared.token.TokenKind.{TokenKind}
use Rattle.gm_model.specs.declared.token.TokenKind.TheVariants as kinds

-- ---- bytes

-- low to high, both included
abbrev pub is_between : ℕ → ℕ → ℕ → Bool
is_between low high b = nat_le low b && nat_le b high

-- space, tab, line feed, carriage return
abbrev pub is_blank : ℕ → Bool
is_blank b = (b == 32) || (b == 9) || (b == 10) || (b == 13)

abbrev pub is_digit : ℕ → Bool
is_digit b = is_between 48 57 b

abbrev pub is_letter : ℕ → Bool
is_letter b = is_between 65 90 b || is_between 97 122 b

abbrev pub is_underscore : ℕ → Bool
is_underscore b = b == 95

-- what a name goes on with
abbrev pub is_name_byte : ℕ → Bool
is_name_byte b = is_letter b || is_digit b || is_underscore b

abbrev pub is_hash : ℕ → Bool
is_hash b = b == 35

abbrev pub is_line_feed : ℕ → Bool
is_line_feed b = b == 10

-- < > ( ) - + * / % = . , : @
abbrev pub is_sign : ℕ → Bool
is_sign b =
    (b == 60) || (b == 62) || (b == 40) || (b == 41) || (b == 45) || (b == 43) || (b == 42)
    || (b == 47) || (b == 37) || (b == 61) || (b == 46) || (b == 44) || (b == 58) || (b == 64)

-- == != <= >=
abbrev pub is_two_byte_sign : ℕ → ℕ → Bool
is_two_byte_sign b c = ((b == 61) || (b == 33) || (b == 60) || (b == 62)) && (c == 61)

-- ---- one token by itself

-- these bytes, all of them, are one token of the kind
abbrev pub IsLexeme : TokenKind → List ℕ → Type 0
IsLexeme kind [] = ⊥
IsLexeme kinds.Name (b ∷ bytes) = IsTrue (is_letter b) × IsTrue (list_all is_name_byte bytes)
IsLexeme kinds.Number (b ∷ bytes) = IsTrue (is_digit b) × IsTrue (list_all is_digit bytes)
IsLexeme kinds.Gone (b ∷ bytes) = IsTrue (is_underscore b) × (bytes ≡ [])
IsLexeme kinds.Sign (b ∷ []) = IsTrue (is_sign b)
IsLexeme kinds.Sign (b ∷ c ∷ []) = IsTrue (is_two_byte_sign b c)
IsLexeme kinds.Sign (b ∷ c ∷ d ∷ bytes) = ⊥

-- a token of the kind and of this many bytes stands at the front, and no longer token does
pub record IsLongest (kind : TokenKind) (size : ℕ) (bytes : List ℕ) : Type 0 where
  pub within : size ≤ length bytes
  pub lexeme : IsLexeme kind (take size bytes)
  pub longest : (other : TokenKind) (longer : ℕ) → longer ≤ length bytes → IsLexeme other (take longer bytes) → longer ≤ size

-- no token stands at the front
abbrev pub HasNoLexeme : List ℕ → Type 0
HasNoLexeme bytes = (kind : TokenKind) (size : ℕ) → size ≤ length bytes → IsLexeme kind (take size bytes) → ⊥

-- ---- what stands at the front of bytes

pub data Front : Type 0 where
  -- this many bytes of no meaning: a blank, or a comment up to its line's end
  Gap : ℕ → Front
  -- a token of this many bytes
  Lexeme : TokenKind → ℕ → Front
  -- a byte that no token begins with
  Stray : Front

abbrev pub begins_two_byte_sign : ℕ → List ℕ → Bool
begins_two_byte_sign b [] = false
begins_two_byte_sign b (c ∷ bytes) = is_two_byte_sign b c

-- at the byte b with these bytes after it
abbrev pub front_of : ℕ → List ℕ → Front
front_of b bytes =
    if is_blank b then Gap 1
    else (if is_hash b then Gap (suc (length (take_while (λ c. not (is_line_feed c)) bytes)))
    else (if is_letter b then Lexeme kinds.Name (suc (length (take_while is_name_byte bytes)))
    else (if is_digit b then Lexeme kinds.Number (suc (length (take_while is_digit bytes)))
    else (if is_underscore b then Lexeme kinds.Gone 1
    else (if begins_two_byte_sign b bytes then Lexeme kinds.Sign 2
    else (if is_sign b then Lexeme kinds.Sign 1
    else Stray))))))

-- how many bytes it takes
abbrev pub size_of : Front → ℕ
size_of (Gap size) = size
size_of (Lexeme kind size) = size
size_of Stray = 1

-- ---- the list of a text

-- what a reader meets: a token; or, as the last of the list, a stray byte or the end, at its place
pub data Item : Type 0 where
  Lexed : Token → Item
  StrayAt : ℕ → Item
  EndAt : ℕ → Item

-- what stands at a place, and then the items after it
abbrev pub item_before : ℕ → Front → List Item → List Item
item_before place (Gap size) items = items
item_before place (Lexeme kind size) items = Lexed (record { kind = kind; start = place; end = place + size }) ∷ items
item_before place Stray items = StrayAt place ∷ []

-- the items from a place on, where this many of the bytes there belong to what stood before
abbrev pub items_from : ℕ → ℕ → List ℕ → List Item
items_from place taken [] = EndAt place ∷ []
items_from place (suc taken) (b ∷ bytes) = items_from (suc place) taken bytes
items_from place zero (b ∷ bytes) =
    item_before place (front_of b bytes) (items_from (suc place) (size_of (front_of b bytes) - 1) bytes)

-- the items of a text from an offset on
abbrev pub items_at : List ℕ → ℕ → List Item
items_at text place = items_from place zero (drop place text)

-- all of them
abbrev pub items_of : List ℕ → List Item
items_of text = items_at text 0

-- the bytes of a token
abbrev pub bytes_of : List ℕ → Token → List ℕ
bytes_of text token = take (token.end - token.start) (drop token.start text)
