-- What taking the innermost bracket away leaves, and what moving on by a key does.
use Rattle.std.specs.Prelude.{◌≡◌, Bool, true, false, List, [], ◌∷◌, Option, Some, None}
use Rattle.gm_parse.specs.declared.place.Bracket.{Bracket}
use Rattle.gm_parse.specs.inner.Reading.{State}

-- the first of the list, and the others
abbrev pub Takes : {A : Type 0} → List A → Option A → List A → Type 0
Takes old (Some first) new = old ≡ first ∷ new
Takes old None new = (old ≡ []) × (new ≡ [])

-- it becomes what it is to be, or stays where there is none
abbrev pub Becomes : {A : Type 0} → Option A → A → Bool → A → Type 0
Becomes (Some next) old moved new = (moved ≡ true) × (new ≡ next)
Becomes None old moved new = (moved ≡ false) × (new ≡ old)

-- the state with a further bracket, where there is one
abbrev pub with_bracket : State → Option Bracket → State
with_bracket state (Some bracket) = record state { open_brackets = bracket ∷ state.open_brackets }
with_bracket state None = state
