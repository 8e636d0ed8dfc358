-- A grammar that is read by states, one symbol after another: to which state parts of a sentence lead, and what reading a text's marks answers.
use Rattle.std.specs.Prelude.{◌≡◌, ℕ, Bool, if◌then◌else◌, List, [], ◌∷◌, Option, Some, None, Result, Ok, Err}
use Rattle.gm_model.specs.Symbols.{Symbol, Mark}
use Rattle.gm_model.specs.Reading.{Part}

-- why reading stops
pub data Stop (State What : Type 0) : Type 0 where
  -- in this state no text goes on with this mark
  Ends : State → Mark → Stop State What
  -- a limit is passed at this place
  Passes : What → ℕ → Stop State What

infixl 10 ◌>>=◌
abbrev pub ◌>>=◌ : {A B E : Type 0} → Result A E → (A → Result B E) → Result B E
(Ok x) >>= f = f x
(Err stop) >>= f = Err stop

-- A grammar by its states: the role that a symbol has in a state where it stands at a place, and the state after it,
-- or none where it can't follow.
module _ {Role State What : Type 0} (limit_of : Role → Symbol → Option What) (stands_before : Role → Bool) (role : State → Symbol → ℕ → Role) (move : State → Symbol → Option State) where
  -- the parts lead from the one state to the other
  abbrev pub Leads : State → List (Part Role) → State → Type 0
  Leads state [] last = state ≡ last
  Leads state (part ∷ parts) last = (place : ℕ) × (next : State) × (part.role ≡ role state part.symbol place) × (move state part.symbol ≡ Some next) × Leads next parts last

  -- The sentences are the parts that lead from the first state to the last, and each state leads to the last. Where a
  -- symbol stands has no part in which limit it passes.
  pub record IsGrammar (IsSentence : List (Part Role) → Type 0) (first last : State) : Type 0 where
    pub leads : (parts : List (Part Role)) → IsSentence parts → Leads first parts last
    pub sentence : (parts : List (Part Role)) → Leads first parts last → IsSentence parts
    pub goes_on : (state : State) → (rest : List (Part Role)) × Leads state rest last
    pub limit : (state : State) (symbol : Symbol) (place other : ℕ) → limit_of (role state symbol place) symbol ≡ limit_of (role state symbol other) symbol
    pub before : (state : State) (symbol : Symbol) (place other : ℕ) → stands_before (role state symbol place) ≡ stands_before (role state symbol other)

  -- ---- reading

  -- what one mark comes to, by the state after it and the limit that it passes
  abbrev pub taken : State → Mark → ℕ → Option State → Option What → Result State (Stop State What)
  taken state mark place None limit = Err (Ends state mark)
  taken state mark place (Some next) (Some what) = Err (Passes what place)
  taken state mark place (Some next) None = Ok next

  -- where the limit that the mark passes stands; the mark before it has the place `last`
  abbrev pub limit_place : State → ℕ → Mark → ℕ
  limit_place state last mark = if stands_before (role state mark.symbol mark.place) then last else mark.place

  abbrev pub step : State → ℕ → Mark → Result State (Stop State What)
  step state last mark = taken state mark (limit_place state last mark) (move state mark.symbol) (limit_of (role state mark.symbol mark.place) mark.symbol)

  -- all marks, after one at the place `last`
  abbrev pub run : State → ℕ → List Mark → Result State (Stop State What)
  run state last [] = Ok state
  run state last (mark ∷ marks) = step state last mark >>= λ next. run next mark.place marks
