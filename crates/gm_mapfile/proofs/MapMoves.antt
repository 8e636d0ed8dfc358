-- What a symbol of a map's text leads to, state by state.
use Rattle.std.proofs.Common.{◌≡◌, ℕ, Bool, true, false, cond, eqb, ℤ, pos, List, [], ◌∷◌, ◌++◌, Some, None, refl, sym, ap, codes}
use Rattle.std.specs.Str.{bytes_eq}
use Rattle.std.proofs.lemmas.Bool.{eqb-true}
use Rattle.std.proofs.lemmas.Slice.Eq.{bytes_eq-Decides}
use Rattle.gm_model.specs.declared.schema.Schema.{Schema}
use Rattle.gm_model.specs.Symbols.{Symbol, Word, Numeral, Sign, Gone, Stray, End}
use Rattle.gm_text.specs.inner.Nested.{Outside}
use Rattle.gm_mapfile.specs.MapText.{First, Second, Role, size_role}
use Rattle.gm_mapfile.specs.MapReading.{Want, TheNumber, Component, TheSign, Head, State, AtFormat, AtVersion, AtNext, AtNextName, AtDarts, AtCount, AtNumbers, Done, Whole, darts_wants, behind_schema, expect, into_schema, number_in, move_wants, outer_move, among}

expected : (wanted found : List ℕ) (to : State) (next : Whole) → expect wanted found to ≡ Some next → (found ≡ wanted) × (next ≡ Outside to)
expected wanted found to next moves = go (bytes_eq found wanted) refl moves
  where
    go : (b : Bool) → bytes_eq found wanted ≡ b → cond b (Some (Outside to)) None ≡ Some next → (found ≡ wanted) × (next ≡ Outside to)
    go true e is = ((bytes_eq-Decides found wanted).0 e, sym (cc is))
    go false e is = absurd cc

-- ---- before the darts

pub format_moved : (symbol : Symbol) (next : Whole) → outer_move AtFormat symbol ≡ Some next → (symbol ≡ Word (codes "gmap")) × (next ≡ Outside AtVersion)
format_moved (Word w) next moves = let is = expected (codes "gmap") w AtVersion next moves in (ap Word is.0, is.1)
format_moved (Numeral n) next moves = absurd cc
format_moved (Sign s) next moves = absurd cc
format_moved Gone next moves = absurd cc
format_moved Stray next moves = absurd cc
format_moved End next moves = absurd cc

-- the number of the version
abbrev pub version_number : Bool → ℕ
version_number true = 2
version_number false = 1

pub version_moved : (symbol : Symbol) (next : Whole) → outer_move AtVersion symbol ≡ Some next → (second : Bool) × (symbol ≡ Numeral (version_number second)) × (next ≡ into_schema second)
version_moved (Word w) next moves = absurd cc
version_moved (Numeral n) next moves = go (eqb n 1) (eqb n 2) refl refl moves
  where
    go : (one two : Bool) → eqb n 1 ≡ one → eqb n 2 ≡ two → cond one (Some (into_schema false)) (cond two (Some (into_schema true)) None) ≡ Some next
        → (second : Bool) × (Numeral n ≡ Numeral (version_number second)) × (next ≡ into_schema second)
    go true two e f is = (false, ap Numeral (eqb-true n 1 e), sym (cc is))
    go false true e f is = (true, ap Numeral (eqb-true n 2 f), sym (cc is))
    go false false e f is = absurd cc
version_moved (Sign s) next moves = absurd cc
version_moved Gone next moves = absurd cc
version_moved Stray next moves = absurd cc
version_moved End next moves = absurd cc

-- the word behind a schema, and the state behind it
abbrev pub word_behind : Bool → List ℕ
word_behind true = codes "next"
word_behind false = codes "darts"

abbrev pub state_behind : Bool → Schema → State
state_behind true schema = AtNextName schema
state_behind false schema = AtCount (record { version = First; schema = schema })

pub next_moved : (schema : Schema) (symbol : Symbol) (next : Whole) → outer_move (AtNext schema) symbol ≡ Some next → (symbol ≡ Word (codes "next")) × (next ≡ Outside (AtNextName schema))
next_moved schema (Word w) next moves = let is = expected (codes "next") w (AtNextName schema) next moves in (ap Word is.0, is.1)
next_moved schema (Numeral n) next moves = absurd cc
next_moved schema (Sign s) next moves = absurd cc
next_moved schema Gone next moves = absurd cc
next_moved schema Stray next moves = absurd cc
next_moved schema End next moves = absurd cc

pub darts_moved : (head : Head) (symbol : Symbol) (next : Whole) → outer_move (AtDarts head) symbol ≡ Some next → (symbol ≡ Word (codes "darts")) × (next ≡ Outside (AtCount head))
darts_moved head (Word w) next moves = let is = expected (codes "darts") w (AtCount head) next moves in (ap Word is.0, is.1)
darts_moved head (Numeral n) next moves = absurd cc
darts_moved head (Sign s) next moves = absurd cc
darts_moved head Gone next moves = absurd cc
darts_moved head Stray next moves = absurd cc
darts_moved head End next moves = absurd cc

pub behind_moved : (second : Bool) (schema : Schema) (symbol : Symbol) (next : Whole) → outer_move (behind_schema second schema) symbol ≡ Some next → (symbol ≡ Word (word_behind second)) × (next ≡ Outside (state_behind second schema))
behind_moved true schema symbol next moves = next_moved schema symbol next moves
behind_moved false schema symbol next moves = darts_moved (record { version = First; schema = schema }) symbol next moves

pub name_moved : (schema : Schema) (symbol : Symbol) (next : Whole) → outer_move (AtNextName schema) symbol ≡ Some next → (n : ℕ) × (symbol ≡ Numeral n) × (next ≡ Outside (AtDarts (record { version = Second n; schema = schema })))
name_moved schema (Word w) next moves = absurd cc
name_moved schema (Numeral n) next moves = (n, refl, sym (cc moves))
name_moved schema (Sign s) next moves = absurd cc
name_moved schema Gone next moves = absurd cc
name_moved schema Stray next moves = absurd cc
name_moved schema End next moves = absurd cc

pub count_moved : (head : Head) (symbol : Symbol) (next : Whole) → outer_move (AtCount head) symbol ≡ Some next → (n : ℕ) × (symbol ≡ Numeral n) × (next ≡ among head [] (darts_wants head.schema n))
count_moved head (Word w) next moves = absurd cc
count_moved head (Numeral n) next moves = (n, refl, sym (cc moves))
count_moved head (Sign s) next moves = absurd cc
count_moved head Gone next moves = absurd cc
count_moved head Stray next moves = absurd cc
count_moved head End next moves = absurd cc

-- ---- among the darts

module _ (head : Head) (taken : List ℤ) where
  pub end_moved : (symbol : Symbol) (next : Whole) → move_wants head taken [] symbol ≡ Some next → (symbol ≡ End) × (next ≡ Outside Done)
  end_moved (Word w) next moves = absurd cc
  end_moved (Numeral n) next moves = absurd cc
  end_moved (Sign s) next moves = absurd cc
  end_moved Gone next moves = absurd cc
  end_moved Stray next moves = absurd cc
  end_moved End next moves = (refl, sym (cc moves))

  pub number_moved : (role : Role) (wants : List Want) (symbol : Symbol) (next : Whole) → move_wants head taken (TheNumber role ∷ wants) symbol ≡ Some next → (n : ℕ) × (symbol ≡ Numeral n) × (next ≡ among head (taken ++ number_in role n ∷ []) wants)
  number_moved role wants (Word w) next moves = absurd cc
  number_moved role wants (Numeral n) next moves = (n, refl, sym (cc moves))
  number_moved role wants (Sign s) next moves = absurd cc
  number_moved role wants Gone next moves = absurd cc
  number_moved role wants Stray next moves = absurd cc
  number_moved role wants End next moves = absurd cc

  pub data ComponentMoved (colour : Bool) (wants : List Want) (symbol : Symbol) (next : Whole) : Type 0 where
    AtNumber : (n : ℕ) → symbol ≡ Numeral n → next ≡ among head (taken ++ pos n ∷ []) wants → ComponentMoved colour wants symbol next
    AtMinus : symbol ≡ Sign (codes "-") → next ≡ among head taken (TheNumber (size_role colour true) ∷ wants) → ComponentMoved colour wants symbol next

  pub component_moved : (colour : Bool) (wants : List Want) (symbol : Symbol) (next : Whole) → move_wants head taken (Component colour ∷ wants) symbol ≡ Some next → ComponentMoved colour wants symbol next
  component_moved colour wants (Word w) next moves = absurd cc
  component_moved colour wants (Numeral n) next moves = AtNumber n refl (sym (cc moves))
  component_moved colour wants (Sign s) next moves = let is = expected (codes "-") s (AtNumbers head taken (TheNumber (size_role colour true) ∷ wants)) next moves in AtMinus (ap Sign is.0) is.1
  component_moved colour wants Gone next moves = absurd cc
  component_moved colour wants Stray next moves = absurd cc
  component_moved colour wants End next moves = absurd cc

  pub sign_moved : (wanted : List ℕ) (wants : List Want) (symbol : Symbol) (next : Whole) → move_wants head taken (TheSign wanted ∷ wants) symbol ≡ Some next → (symbol ≡ Sign wanted) × (next ≡ among head taken wants)
  sign_moved wanted wants (Word w) next moves = absurd cc
  sign_moved wanted wants (Numeral n) next moves = absurd cc
  sign_moved wanted wants (Sign s) next moves = let is = expected wanted s (AtNumbers head taken wants) next moves in (ap Sign is.0, is.1)
  sign_moved wanted wants Gone next moves = absurd cc
  sign_moved wanted wants Stray next moves = absurd cc
  sign_moved wanted wants End next moves = absurd cc

  pub sign_moves : (wanted : List ℕ) (wants : List Want) → move_wants head taken (TheSign wanted ∷ wants) (Sign wanted) ≡ Some (among head taken wants)
  sign_moves wanted wants = rw ((bytes_eq-Decides wanted wanted).1 refl) refl
