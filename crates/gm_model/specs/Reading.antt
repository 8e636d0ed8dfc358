-- What it is for a text to be read by a grammar with limits, and which fault is the first from left to right where it can't be.
use Rattle.std.specs.Prelude.{◌≡◌, ℕ, Bool, if◌then◌else◌, List, [], ◌∷◌, ◌++◌, map, Option, Some, None}
use Rattle.std.specs.List.{AllByRecursion}
use Rattle.gm_model.specs.Symbols.{Symbol, Word, Numeral, Sign, End, Mark, symbols}

-- A grammar is its set of sentences. A sentence is a list of parts, the end of the text included: a part is a symbol
-- in the role that it has there, and the role decides which limit the symbol can pass.
pub record Part (Role : Type 0) : Type 0 where
  pub symbol : Symbol
  pub role : Role

abbrev pub symbols_in : {Role : Type 0} → List (Part Role) → List Symbol
symbols_in parts = map (λ part. part.symbol) parts

-- ---- what the grammars are written with

abbrev pub word : {Role : Type 0} → Role → List ℕ → Part Role
word role bytes = record { symbol = Word bytes; role = role }

abbrev pub number : {Role : Type 0} → Role → ℕ → Part Role
number role n = record { symbol = Numeral n; role = role }

abbrev pub sign : {Role : Type 0} → Role → List ℕ → Part Role
sign role bytes = record { symbol = Sign bytes; role = role }

abbrev pub the_end : {Role : Type 0} → Role → Part Role
the_end role = record { symbol = End; role = role }

-- a part of a grammar within another one as a part of the whole
abbrev pub in_role : {Inner Role : Type 0} → (Inner → Role) → Part Inner → Part Role
in_role wrap part = record { symbol = part.symbol; role = wrap part.role }

-- each place that a role names is that of the part's mark
abbrev pub ArePlaced : {Role : Type 0} → (ℕ → Role → Type 0) → List Mark → List (Part Role) → Type 0
ArePlaced IsPlacedAt [] parts = Unit {0}
ArePlaced IsPlacedAt (mark ∷ marks) [] = Unit {0}
ArePlaced IsPlacedAt (mark ∷ marks) (part ∷ parts) = IsPlacedAt mark.place part.role × ArePlaced IsPlacedAt marks parts

-- ---- sentences and faults

-- the place of the last mark
abbrev pub last_place : List Mark → ℕ
last_place [] = 0
last_place (mark ∷ []) = mark.place
last_place (mark ∷ next ∷ marks) = last_place (next ∷ marks)

module _ {Role What : Type 0} (IsSentence : List (Part Role) → Type 0) (limit_of : Role → Symbol → Option What) where
  -- some sentence begins with these parts
  abbrev pub Begins : List (Part Role) → Type 0
  Begins parts = (rest : List (Part Role)) × IsSentence (parts ++ rest)

  -- no part passes a limit
  abbrev pub IsWithin : List (Part Role) → Type 0
  IsWithin parts = AllByRecursion (λ part. limit_of part.role part.symbol ≡ None) parts

  -- the whole text is this sentence, and passes no limit
  pub record IsReadAs (marks : List Mark) (parts : List (Part Role)) : Type 0 where
    pub spelled : symbols marks ≡ symbols_in parts
    pub sentence : IsSentence parts
    pub within : IsWithin parts

  -- Up to this place the text goes on as some sentence does, and passes no limit. With what stands there, no sentence begins so.
  pub record TextEndsAt (marks : List Mark) (place : ℕ) : Type 0 where
    pub before : List Mark
    pub mark : Mark
    pub after : List Mark
    pub split : marks ≡ before ++ mark ∷ after
    pub here : mark.place ≡ place
    pub parts : List (Part Role)
    pub spelled : symbols before ≡ symbols_in parts
    pub begins : Begins parts
    pub within : IsWithin parts
    pub ends : (more : List (Part Role)) → symbols (before ++ mark ∷ []) ≡ symbols_in more → Begins more → ⊥

  -- Up to and with some mark the text goes on as some sentence does. There it passes the limit, and none before. In a
  -- grammar where some part tells what the mark before it is, the limit that such a part passes stands at that mark.
  pub record LimitStandsAt (stands_before : Role → Bool) (marks : List Mark) (what : What) (place : ℕ) : Type 0 where
    pub before : List Mark
    pub mark : Mark
    pub after : List Mark
    pub split : marks ≡ before ++ mark ∷ after
    pub parts : List (Part Role)
    pub part : Part Role
    pub spelled : symbols before ≡ symbols_in parts
    pub read : mark.symbol ≡ part.symbol
    pub begins : Begins (parts ++ part ∷ [])
    pub within : IsWithin parts
    pub passes : limit_of part.role part.symbol ≡ Some what
    pub here : (if stands_before part.role then last_place before else mark.place) ≡ place
