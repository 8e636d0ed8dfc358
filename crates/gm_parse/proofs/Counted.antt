-- Paths through the states, symbols counted, and what they come to by their symbols alone.
use Rattle.std.proofs.Common.{◌≡◌, ℕ, ◌+◌, Bool, false, List, [], ◌∷◌, ◌++◌, length, Option, Some, None, refl, sym, ap, subst, ◌∙◌, arith}
use Rattle.std.specs.Option.{option_map, option_and_then}
use Rattle.std.specs.Prelude.{IsTrue}
use Rattle.gm_model.specs.Reading.{Part, symbols_in}
use Rattle.gm_model.specs.Symbols.{Symbol}
use Rattle.gm_text.specs.inner.Machine.{Leads}
use Rattle.gm_parse.specs.Forms.{Form, IsGood}
use Rattle.gm_parse.specs.Spelling.{Role, Counted, limit_in, counted_from, spell, symbols_of, parts_of, GoesOn}
use Rattle.gm_parse.specs.inner.Reading.{State, state_at, start, move, role_at, is_whole, Spot, spot_at, first_spot, spot_move, spot_role, is_whole_spot, never}
use Rattle.gm_parse.specs.declared.place.Need.TheVariants as needs
use Rattle.gm_parse.specs.declared.place.Place.{Place}
use Rattle.gm_parse.proofs.Leading.{Led, led_form, goes_on, compared_behind, place_behind, is_behind, IsBehind, Plainly, AtName}
use Rattle.gm_parse.proofs.Sound.{form_is}

-- ---- counted

pub counted-append : (k : ℕ) (parts rest : List (Part Role)) → counted_from k (parts ++ rest) ≡ counted_from k parts ++ counted_from (k + length parts) rest
counted-append k [] rest = let none : k ≡ k + length {A = Part Role} [] = omega arith in ap (λ (j : ℕ). counted_from j rest) none
counted-append k (part ∷ parts) rest =
    let more : k + 1 + length parts ≡ k + length (part ∷ parts) = omega arith in
    ap (λ (ps : List (Part Counted)). record { symbol = part.symbol; role = record { ordinal = k + 1; role = part.role } } ∷ ps) (counted-append (k + 1) parts rest ∙ ap (λ (j : ℕ). counted_from (k + 1) parts ++ counted_from j rest) more)

module _ (n : ℕ) where
  abbrev pub LedSpot : Spot → List (Part Counted) → Spot → Type 0
  LedSpot spot parts last = Leads limit_in never (spot_role n) spot_move spot parts last

  count_led : (parts : List (Part Role)) (k : ℕ) (state last : State) → Led n state parts last → LedSpot (spot_at k state) (counted_from k parts) (spot_at (k + length parts) last)
  count_led [] k state last e = let none : k ≡ k + length {A = Part Role} [] = omega arith in ap (spot_at k) e ∙ ap (λ (j : ℕ). spot_at j last) none
  count_led (part ∷ parts) k state last (place, next, role, moves, led) =
      let more : k + 1 + length parts ≡ k + length (part ∷ parts) = omega arith in (
        place,
        spot_at (k + 1) next,
        ap (λ (r : Role). let c : Counted = record { ordinal = k + 1; role = r } in c) role,
        ap (option_map (spot_at (k + 1))) moves,
        subst (λ (j : ℕ). LedSpot (spot_at (k + 1) next) (counted_from (k + 1) parts) (spot_at j last)) more (count_led parts (k + 1) next last led),
      )

  -- what a counted path is without the counts
  record IsUncounted (k : ℕ) (state : State) (parts : List (Part Counted)) (last : Spot) : Type 0 where
    plain : List (Part Role)
    leads : Led n state plain last.state
    is : parts ≡ counted_from k plain

  spot_moved : (k : ℕ) (state : State) (symbol : Symbol) (next : Spot) → spot_move (spot_at k state) symbol ≡ Some next → (to : State) × (move state symbol ≡ Some to) × (next ≡ spot_at (k + 1) to)
  spot_moved k state symbol next moves = go (move state symbol) refl moves
    where
      go : (to : Option State) → move state symbol ≡ to → option_map (spot_at (k + 1)) to ≡ Some next → (to : State) × (move state symbol ≡ Some to) × (next ≡ spot_at (k + 1) to)
      go None e is = absurd cc
      go (Some to) e is = (to, e, sym (cc is))

  uncount : (parts : List (Part Counted)) (k : ℕ) (state : State) (last : Spot) → LedSpot (spot_at k state) parts last → IsUncounted k state parts last
  uncount [] k state last e = record { plain = []; leads = ap (λ (s : Spot). s.state) e; is = refl }
  uncount (part ∷ parts) k state last (place, next, role, moves, led) =
      let (to, goes, at) = spot_moved k state part.symbol next moves in
      let rest = uncount parts (k + 1) to last (subst (λ (s : Spot). LedSpot s parts last) at led) in
      let first : Part Role = record { symbol = part.symbol; role = role_at n state part.symbol place } in
      record {
        plain = first ∷ rest.plain;
        leads = (place, to, refl, goes, rest.leads);
        is = ap (λ (r : Counted). let p : Part Counted = record { symbol = part.symbol; role = r } in p ∷ parts) role ∙ ap (λ (ps : List (Part Counted)). record { symbol = part.symbol; role = record { ordinal = k + 1; role = first.role } } ∷ ps) rest.is;
      }

  -- ---- whole expressions

  -- behind a whole form
  abbrev pub state_behind : Form → State
  state_behind form = state_at [] (compared_behind false form) (place_behind form)

  abbrev pub spot_behind : Form → Spot
  spot_behind form = spot_at (length (spell n form [])) (state_behind form)

  whole_behind : (c : Bool) (place : Place) → IsBehind place → IsTrue (is_whole (state_at [] c place))
  whole_behind c place behind = elim behind as (λ (p : Place) (is : IsBehind p). IsTrue (is_whole (state_at [] c p))) [
    | Plainly ↦ refl
    | AtName ↦ refl
  ]

  pub form_whole : (form : Form) → IsTrue (is_whole_spot (spot_behind form))
  form_whole form = whole_behind (compared_behind false form) (place_behind form) (is_behind form)

  form_led : (form : Form) → IsGood form → Led n start (spell n form []) (state_behind form)
  form_led form good = led_form n form [] false needs.Any [] (state_behind form) good (omega arith) refl

  -- each good form leads to where an expression can end
  pub form_leads : (form : Form) → IsGood form → LedSpot first_spot (parts_of n form) (spot_behind form)
  form_leads form good =
      let size : 0 + length (spell n form []) ≡ length (spell n form []) = omega arith in
      subst (λ (k : ℕ). LedSpot first_spot (parts_of n form) (spot_at k (state_behind form))) size (count_led (spell n form []) 0 start (state_behind form) (form_led form good))

  -- the form of a path to where an expression can end
  pub record IsFormOf (parts : List (Part Counted)) : Type 0 where
    pub form : Form
    pub good : IsGood form
    pub spelled : parts ≡ parts_of n form

  pub path_form : (parts : List (Part Counted)) (last : Spot) → LedSpot first_spot parts last → IsTrue (is_whole_spot last) → IsFormOf parts
  path_form parts last led whole =
      let plain = uncount parts 0 start last led in
      let is = form_is n plain.plain last.state plain.leads whole in
      record { form = is.form; good = is.good; spelled = plain.is ∙ ap (counted_from 0) is.spelled }

  -- each spot can be gone on from
  pub spot_goes_on : (spot : Spot) → (rest : List (Part Counted)) × (last : Spot) × LedSpot spot rest last × IsTrue (is_whole_spot last)
  spot_goes_on spot =
      let (rest, last, led, whole) = goes_on n spot.state.open_brackets spot.state.compared spot.state.place in
      (counted_from spot.count rest, spot_at (spot.count + length rest) last, count_led rest spot.count spot.state last led, whole)

  -- ---- by the symbols alone

  abbrev after : State → List Symbol → Option State
  after state [] = Some state
  after state (symbol ∷ symbols) = option_and_then (λ next. after next symbols) (move state symbol)

  after_led : (parts : List (Part Role)) (state last : State) → Led n state parts last → after state (symbols_in parts) ≡ Some last
  after_led [] state last e = ap Some e
  after_led (part ∷ parts) state last (place, next, role, moves, led) = ap (option_and_then (λ next. after next (symbols_in parts))) moves ∙ after_led parts next last led

  after-append : (symbols more : List Symbol) (state : State) → after state (symbols ++ more) ≡ option_and_then (λ next. after next more) (after state symbols)
  after-append [] more state = refl
  after-append (symbol ∷ symbols) more state = go (λ next. after-append symbols more next) (move state symbol)
    where
      go : ((next : State) → after next (symbols ++ more) ≡ option_and_then (λ to. after to more) (after next symbols)) → (to : Option State)
          → option_and_then (λ next. after next (symbols ++ more)) to ≡ option_and_then (λ last. after last more) (option_and_then (λ next. after next symbols) to)
      go behind None = refl
      go behind (Some next) = behind next

  -- with what the last state can't go on, no form goes on
  pub no_longer : (form : Form) → IsGood form → (symbol : Symbol) → spot_move (spot_behind form) symbol ≡ None → GoesOn n form symbol → ⊥
  no_longer form good symbol none (longer, good_longer, more, same) =
      let there = after_led (spell n longer []) start (state_behind longer) (form_led longer good_longer) in
      let here = after_led (spell n form []) start (state_behind form) (form_led form good) in
      let parted : after start (symbols_of n longer) ≡ option_and_then (λ next. after next (symbol ∷ more)) (Some (state_behind form)) =
      ap (after start) same ∙ after-append (symbols_of n form) (symbol ∷ more) start ∙ ap (option_and_then (λ next. after next (symbol ∷ more))) here in
      let stuck : move (state_behind form) symbol ≡ None = none_moves (move (state_behind form) symbol) none in
      let nothing : option_and_then (λ next. after next more) (move (state_behind form) symbol) ≡ None = rw stuck refl in
      let both : Some (state_behind longer) ≡ None = sym there ∙ parted ∙ nothing in
      absurd cc
    where
      none_moves : (to : Option State) → option_map (spot_at (length (spell n form []) + 1)) to ≡ None → to ≡ None
      none_moves None e = refl
      none_moves (Some to) e = absurd cc

  led-append : (parts rest : List (Part Counted)) (spot middle last : Spot) → LedSpot spot parts middle → LedSpot middle rest last → LedSpot spot (parts ++ rest) last
  led-append [] rest spot middle last e led = subst (λ (s : Spot). LedSpot s rest last) (sym e) led
  led-append (part ∷ parts) rest spot middle last (place, next, role, moves, led) behind = (place, next, role, moves, led-append parts rest next middle last led behind)

  counted_symbols : (k : ℕ) (parts : List (Part Role)) → symbols_in (counted_from k parts) ≡ symbols_in parts
  counted_symbols k [] = refl
  counted_symbols k (part ∷ parts) = ap (λ (ss : List Symbol). part.symbol ∷ ss) (counted_symbols (k + 1) parts)

  pub parts_symbols : (form : Form) → symbols_in (parts_of n form) ≡ symbols_of n form
  parts_symbols form = counted_symbols 0 (spell n form [])

  symbols-append : (parts rest : List (Part Counted)) → symbols_in (parts ++ rest) ≡ symbols_in parts ++ symbols_in rest
  symbols-append [] rest = refl
  symbols-append (part ∷ parts) rest = ap (λ (ss : List Symbol). part.symbol ∷ ss) (symbols-append parts rest)

  -- with what it can go on, some form does
  pub longer : (form : Form) → IsGood form → (symbol : Symbol) (next : Spot) → spot_move (spot_behind form) symbol ≡ Some next → GoesOn n form symbol
  longer form good symbol next moves =
      let (rest, last, led, whole) = spot_goes_on next in
      let part : Part Counted = record { symbol = symbol; role = spot_role n (spot_behind form) symbol 0 } in
      let path = led-append (parts_of n form) (part ∷ rest) first_spot (spot_behind form) last (form_leads form good) (0, next, refl, moves, led) in
      let is = path_form (parts_of n form ++ part ∷ rest) last path whole in
      let spelled : symbols_of n is.form ≡ symbols_of n form ++ symbol ∷ symbols_in rest =
      sym (parts_symbols is.form) ∙ ap (λ (ps : List (Part Counted)). symbols_in ps) (sym is.spelled) ∙ symbols-append (parts_of n form) (part ∷ rest) ∙ ap (λ (ss : List Symbol). ss ++ symbol ∷ symbols_in rest) (parts_symbols form) in
      (is.form, is.good, symbols_in rest, spelled)

  pub stays_ended : (form : Form) → IsGood form → (symbol : Symbol) → (GoesOn n form symbol → ⊥) → spot_move (spot_behind form) symbol ≡ None
  stays_ended form good symbol ends = go (spot_move (spot_behind form) symbol) refl
    where
      go : (to : Option Spot) → spot_move (spot_behind form) symbol ≡ to → spot_move (spot_behind form) symbol ≡ None
      go None e = e
      go (Some next) e = absurd (ends (longer form good symbol next e))

  -- the last spot of a form's path is the one behind the form
  last_is : (parts : List (Part Counted)) (spot one other : Spot) → LedSpot spot parts one → LedSpot spot parts other → one ≡ other
  last_is [] spot one other e f = sym e ∙ f
  last_is (part ∷ parts) spot one other (place, next, role, moves, led) (place', next', role', moves', led') =
      let same : Some next ≡ Some next' = sym moves ∙ moves' in
      let is : next ≡ next' = cc same in
      last_is parts next' one other (subst (λ (s : Spot). LedSpot s parts one) is led) led'

  pub path_end : (form : Form) (last : Spot) → IsGood form → LedSpot first_spot (parts_of n form) last → last ≡ spot_behind form
  path_end form last good led = last_is (parts_of n form) first_spot last (spot_behind form) led (form_leads form good)
