-- What can follow an expression in a book doesn't go on with it, and a symbol's role in it depends on its place as a name's does.
use Rattle.std.proofs.Common.{◌≡◌, ℕ, ◌+◌, Bool, true, false, cond, List, [], Option, Some, None, refl, sym, ap, ◌∙◌, codes}
use Rattle.std.proofs.lemmas.Bool.{false≢true}
use Rattle.std.proofs.lemmas.Option.{none-some}
use Rattle.std.specs.Option.{option_map}
use Rattle.std.specs.Prelude.{IsTrue}
use Rattle.std.specs.Str.{bytes_eq}
use Rattle.std.proofs.lemmas.Slice.Eq.{bytes_eq-Decides}
use Rattle.gm_model.specs.declared.rule.Side.TheVariants.{Right}
use Rattle.gm_model.specs.Names.{reserved, is_among}
use Rattle.gm_model.specs.Symbols.{Symbol, Word, Numeral, Sign, Gone, Stray, End}
use Rattle.gm_parse.specs.declared.key.Key.{Key}
use Rattle.gm_parse.specs.declared.key.Key.TheVariants as keys
use Rattle.gm_parse.specs.declared.place.Bracket.{Bracket}
use Rattle.gm_parse.specs.declared.place.Ending.TheVariants as endings
use Rattle.gm_parse.specs.declared.place.Place.{Place}
use Rattle.gm_parse.specs.declared.place.Place.TheVariants as places
use Rattle.gm_parse.specs.inner.Reading as exprs
use Rattle.gm_parse.specs.inner.Reading.{first_spot, state_at, spot_at, spot_move, spot_role, is_whole_spot, key_of, key_role, number_role, move_by}
use Rattle.gm_parse.specs.Spelling.{Counted, limit_in}
use Rattle.gm_parse.specs.Spelling as spelling
use Rattle.gm_parse.proofs.Keys.{key_name}
use Rattle.gm_forms.specs.inner.Reading.{Spot, State, AtName, AtSign, AtSet, AtExpr, closed, Slot, SetSlot, PreSlot, behind_slot, on_right, expect, unless_reserved, item_move, behind_move, plain_move}

-- ---- what no expression goes on with

stuck_at : (place : Place) (state : exprs.State) → move_by state place keys.Other ≡ None
stuck_at (places.Operand need) state = refl
stuck_at places.Behind state = refl
stuck_at places.BehindName state = refl
stuck_at places.Same state = refl
stuck_at (places.Orbit ending) state = refl
stuck_at (places.Label ending) state = refl
stuck_at (places.Open ending) state = refl
stuck_at (places.Node ending) state = refl
stuck_at (places.BehindNode endings.Comma) state = refl
stuck_at (places.BehindNode endings.Close) state = refl
stuck_at (places.BehindNode endings.Field) state = refl
stuck_at (places.BehindNode endings.FieldClose) state = refl
stuck_at (places.Step ending) state = refl
stuck_at (places.Field ending) state = refl
stuck_at places.Close state = refl

-- what is nothing to expressions
pub other_stuck : (spot : exprs.Spot) (symbol : Symbol) → key_of symbol ≡ keys.Other → spot_move spot symbol ≡ None
other_stuck spot symbol other = ap (option_map (spot_at (spot.count + 1))) (ap (move_by spot.state spot.state.place) other ∙ stuck_at spot.state.place spot.state)

-- a name behind a whole expression
name_stuck : (count : ℕ) (brackets : List Bracket) (compared : Bool) (place : Place) → IsTrue (exprs.is_whole_at brackets place) → move_by (state_at brackets compared place) place keys.Name ≡ None
name_stuck count [] compared places.Behind whole = refl
name_stuck count [] compared places.BehindName whole = refl
name_stuck count brackets compared place whole = absurd (false≢true whole)

free_stuck : (spot : exprs.Spot) (w : List ℕ) → IsTrue (is_whole_spot spot) → is_among reserved w ≡ false → spot_move spot (Word w) ≡ None
free_stuck spot w whole free = ap (option_map (spot_at (spot.count + 1)))
    (ap (move_by spot.state spot.state.place) (key_name w free) ∙ name_stuck spot.count spot.state.open_brackets spot.state.compared spot.state.place whole)

-- ---- apart

free_of : (w : List ℕ) (state next : State) → unless_reserved w state ≡ Some next → is_among reserved w ≡ false
free_of w state next e = go (is_among reserved w) refl
  where
    go : (b : Bool) → is_among reserved w ≡ b → is_among reserved w ≡ false
    go true is = absurd (none-some next (rw is at e))
    go false is = is

wanted : (word found : List ℕ) (state next : State) → expect word found state ≡ Some next → found ≡ word
wanted word found state next e = go (bytes_eq found word) refl
  where
    go : (b : Bool) → bytes_eq found word ≡ b → found ≡ word
    go true is = (bytes_eq-Decides found word).0 is
    go false is = absurd (none-some next (rw is at e))

module _ (expr : exprs.Spot) (whole : IsTrue (is_whole_spot expr)) where
  word_stuck : (w known : List ℕ) → w ≡ known → key_of (Word known) ≡ keys.Other → spot_move expr (Word w) ≡ None
  word_stuck w known e other = ap (λ (v : List ℕ). spot_move expr (Word v)) e ∙ other_stuck expr (Word known) other

  item_free : (w : List ℕ) (one two state next : State) (b c : Bool) → b ≡ false → c ≡ false → cond b (Some one) (cond c (Some two) (unless_reserved w state)) ≡ Some next → is_among reserved w ≡ false
  item_free w one two state next true c e f moves = absurd (false≢true (sym e))
  item_free w one two state next false true e f moves = absurd (false≢true (sym f))
  item_free w one two state next false false e f moves = free_of w state next moves

  item_apart : (spot : Spot) (w : List ℕ) (next : State) → item_move (on_right spot) w ≡ Some next → spot_move expr (Word w) ≡ None
  item_apart spot w next moves = go (bytes_eq w (codes "rule")) refl (bytes_eq w (codes "pre")) refl
    where
      go : (b : Bool) → bytes_eq w (codes "rule") ≡ b → (c : Bool) → bytes_eq w (codes "pre") ≡ c → spot_move expr (Word w) ≡ None
      go true e c f = word_stuck w (codes "rule") ((bytes_eq-Decides w (codes "rule")).0 e) refl
      go false e true f = word_stuck w (codes "pre") ((bytes_eq-Decides w (codes "pre")).0 f) refl
      go false e false f = free_stuck expr w whole (item_free w (closed (on_right spot) Right) (AtExpr (PreSlot spot.heading spot.rules) first_spot) (AtSign (on_right spot) w) next (bytes_eq w (codes "rule")) (bytes_eq w (codes "pre")) e f moves)

  set_free : (one next : State) (rest : Option State) (b : Bool) → b ≡ false → cond b (Some one) rest ≡ Some next → rest ≡ Some next
  set_free one next rest true e moves = absurd (false≢true (sym e))
  set_free one next rest false e moves = moves

  behind_apart : (spot : Spot) (w : List ℕ) (next : State) → behind_move (on_right spot) w ≡ Some next → spot_move expr (Word w) ≡ None
  behind_apart spot w next moves = go (bytes_eq w (codes "with")) refl
    where
      go : (b : Bool) → bytes_eq w (codes "with") ≡ b → spot_move expr (Word w) ≡ None
      go true e = word_stuck w (codes "with") ((bytes_eq-Decides w (codes "with")).0 e) refl
      go false e = item_apart spot w next (set_free (AtSet (on_right spot)) next (item_move (on_right spot) w) (bytes_eq w (codes "with")) e moves)

  -- what can follow a whole expression doesn't go on with it
  pub apart : (slot : Slot) (symbol : Symbol) (next : State) → plain_move (behind_slot slot) symbol ≡ Some next → spot_move expr symbol ≡ None
  apart (SetSlot spot) (Word w) next moves = behind_apart spot w next moves
  apart (SetSlot spot) End next moves = other_stuck expr End refl
  apart (SetSlot spot) (Numeral n) next moves = absurd (none-some next moves)
  apart (SetSlot spot) (Sign s) next moves = absurd (none-some next moves)
  apart (SetSlot spot) Gone next moves = absurd (none-some next moves)
  apart (SetSlot spot) Stray next moves = absurd (none-some next moves)
  apart (PreSlot heading k) (Word w) next moves = word_stuck w (codes "rule") (wanted (codes "rule") w (AtName heading (k + 1)) next moves) refl
  apart (PreSlot heading k) End next moves = other_stuck expr End refl
  apart (PreSlot heading k) (Numeral n) next moves = absurd (none-some next moves)
  apart (PreSlot heading k) (Sign s) next moves = absurd (none-some next moves)
  apart (PreSlot heading k) Gone next moves = absurd (none-some next moves)
  apart (PreSlot heading k) Stray next moves = absurd (none-some next moves)

-- ---- roles

module _ (n : ℕ) (where_it_is : Place) where
  number_limit : (symbol : Symbol) (place other : ℕ) → spelling.limit_of (number_role n where_it_is place) symbol ≡ spelling.limit_of (number_role n where_it_is other) symbol
  number_limit symbol place other = go where_it_is symbol
    where
      go : (at : Place) (symbol : Symbol) → spelling.limit_of (number_role n at place) symbol ≡ spelling.limit_of (number_role n at other) symbol
      go (places.Label ending) (Numeral label) = refl
      go (places.Label ending) (Word w) = refl
      go (places.Label ending) (Sign s) = refl
      go (places.Label ending) Gone = refl
      go (places.Label ending) Stray = refl
      go (places.Label ending) End = refl
      go (places.Step ending) symbol = refl
      go (places.Operand need) symbol = refl
      go places.Behind symbol = refl
      go places.BehindName symbol = refl
      go places.Same symbol = refl
      go (places.Orbit ending) symbol = refl
      go (places.Open ending) symbol = refl
      go (places.Node ending) symbol = refl
      go (places.BehindNode ending) symbol = refl
      go (places.Field ending) symbol = refl
      go places.Close symbol = refl

  name_limit : (symbol : Symbol) (place other : ℕ) → spelling.limit_of (spelling.NameAt place) symbol ≡ spelling.limit_of (spelling.NameAt other) symbol
  name_limit (Word w) place other = refl
  name_limit (Numeral m) place other = refl
  name_limit (Sign s) place other = refl
  name_limit Gone place other = refl
  name_limit Stray place other = refl
  name_limit End place other = refl

  key_limit : (key : Key) (symbol : Symbol) (place other : ℕ) → spelling.limit_of (key_role n where_it_is key place) symbol ≡ spelling.limit_of (key_role n where_it_is key other) symbol
  key_limit keys.Number symbol place other = number_limit symbol place other
  key_limit keys.Name symbol place other = name_limit symbol place other
  key_limit (keys.Truth b) symbol place other = refl
  key_limit (keys.Operator op) symbol place other = refl
  key_limit keys.If symbol place other = refl
  key_limit keys.Then symbol place other = refl
  key_limit keys.Else symbol place other = refl
  key_limit keys.Not symbol place other = refl
  key_limit keys.Same symbol place other = refl
  key_limit keys.Count symbol place other = refl
  key_limit (keys.Collect collector) symbol place other = refl
  key_limit keys.Open symbol place other = refl
  key_limit keys.Close symbol place other = refl
  key_limit keys.Comma symbol place other = refl
  key_limit keys.Dot symbol place other = refl
  key_limit keys.At symbol place other = refl
  key_limit keys.Other symbol place other = refl

  number_placed : (place : ℕ) → spelling.IsPlacedAt place (number_role n where_it_is place)
  number_placed place = go where_it_is
    where
      go : (at : Place) → spelling.IsPlacedAt place (number_role n at place)
      go (places.Label ending) = refl
      go (places.Step ending) = tt
      go (places.Operand need) = tt
      go places.Behind = tt
      go places.BehindName = tt
      go places.Same = tt
      go (places.Orbit ending) = tt
      go (places.Open ending) = tt
      go (places.Node ending) = tt
      go (places.BehindNode ending) = tt
      go (places.Field ending) = tt
      go places.Close = tt

  key_placed : (key : Key) (place : ℕ) → spelling.IsPlacedAt place (key_role n where_it_is key place)
  key_placed keys.Number place = number_placed place
  key_placed keys.Name place = refl
  key_placed (keys.Truth b) place = tt
  key_placed (keys.Operator op) place = tt
  key_placed keys.If place = tt
  key_placed keys.Then place = tt
  key_placed keys.Else place = tt
  key_placed keys.Not place = tt
  key_placed keys.Same place = tt
  key_placed keys.Count place = tt
  key_placed (keys.Collect collector) place = tt
  key_placed keys.Open place = tt
  key_placed keys.Close place = tt
  key_placed keys.Comma place = tt
  key_placed keys.Dot place = tt
  key_placed keys.At place = tt
  key_placed keys.Other place = tt

  number_moved : (place other : ℕ) → spelling.IsPlacedAt other (number_role n where_it_is place) → number_role n where_it_is place ≡ number_role n where_it_is other
  number_moved place other here = go where_it_is here
    where
      go : (at : Place) → spelling.IsPlacedAt other (number_role n at place) → number_role n at place ≡ number_role n at other
      go (places.Label ending) here = ap (spelling.LabelAt n) here
      go (places.Step ending) here = refl
      go (places.Operand need) here = refl
      go places.Behind here = refl
      go places.BehindName here = refl
      go places.Same here = refl
      go (places.Orbit ending) here = refl
      go (places.Open ending) here = refl
      go (places.Node ending) here = refl
      go (places.BehindNode ending) here = refl
      go (places.Field ending) here = refl
      go places.Close here = refl

  key_moved : (key : Key) (place other : ℕ) → spelling.IsPlacedAt other (key_role n where_it_is key place) → key_role n where_it_is key place ≡ key_role n where_it_is key other
  key_moved keys.Number place other here = number_moved place other here
  key_moved keys.Name place other here = ap spelling.NameAt here
  key_moved (keys.Truth b) place other here = refl
  key_moved (keys.Operator op) place other here = refl
  key_moved keys.If place other here = refl
  key_moved keys.Then place other here = refl
  key_moved keys.Else place other here = refl
  key_moved keys.Not place other here = refl
  key_moved keys.Same place other here = refl
  key_moved keys.Count place other here = refl
  key_moved (keys.Collect collector) place other here = refl
  key_moved keys.Open place other here = refl
  key_moved keys.Close place other here = refl
  key_moved keys.Comma place other here = refl
  key_moved keys.Dot place other here = refl
  key_moved keys.At place other here = refl
  key_moved keys.Other place other here = refl

-- where a symbol stands has no part in what it passes
pub expr_limit : (n : ℕ) (spot : exprs.Spot) (symbol : Symbol) (place other : ℕ) → limit_in (spot_role n spot symbol place) symbol ≡ limit_in (spot_role n spot symbol other) symbol
expr_limit n spot symbol place other = rw (key_limit n spot.state.place (key_of symbol) symbol place other) refl

pub expr_placed : (n : ℕ) (spot : exprs.Spot) (symbol : Symbol) (place : ℕ) → spelling.IsPlacedAt place (spot_role n spot symbol place).role
expr_placed n spot symbol place = key_placed n spot.state.place (key_of symbol) place

pub expr_moved : (n : ℕ) (spot : exprs.Spot) (symbol : Symbol) (place other : ℕ) → spelling.IsPlacedAt other (spot_role n spot symbol place).role → spot_role n spot symbol place ≡ spot_role n spot symbol other
expr_moved n spot symbol place other here = ap (λ (r : spelling.Role). let c : Counted = record { ordinal = spot.count + 1; role = r } in c) (key_moved n spot.state.place (key_of symbol) place other here)
