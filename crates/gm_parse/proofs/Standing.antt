-- An expression before anything else: the states read it as its grammar says, and what reading answers is its form, or the first fault.
use Rattle.std.proofs.Common.{◌≡◌, ℕ, ◌+◌, Bool, false, cond, List, [], ◌∷◌, ◌++◌, map, Option, Some, None, Ok, Err, refl, sym, ap, subst, ◌∙◌}
use Rattle.std.specs.Option.{option_map}
use Rattle.gm_parse.specs.declared.place.Bracket.{Bracket}
use Rattle.std.specs.Prelude.{IsTrue, is_some, nat_lt}
use Rattle.gm_model.specs.declared.limit.LimitKind.{LimitKind}
use Rattle.gm_model.specs.Reading.{Part, in_role, IsWithin, TextEndsAt, LimitStandsAt, ArePlaced}
use Rattle.gm_model.specs.Symbols.{Symbol, Word, Numeral, Sign, Gone, Stray, End, Mark}
use Rattle.gm_text.specs.inner.Machine.{Ends, Passes, IsGrammar}
use Rattle.gm_text.specs.inner.Nested.{Nested, Outside, Inside, IsApart, HasPieces, IsNestedSentence, LeadsNested}
use Rattle.gm_text.specs.inner.Nested as nested
use Rattle.gm_text.proofs.Machine.{Along, run_reads, run_ends, run_passes, along_leads, along_spelled, ended_is, passing_is}
use Rattle.gm_text.proofs.Nested.{nested_grammar, run_inside_ends, run_inside_passes}
use Rattle.gm_parse.specs.declared.key.Key.{Key}
use Rattle.gm_parse.specs.declared.key.Key.TheVariants as keys
use Rattle.gm_parse.specs.declared.place.Place.{Place}
use Rattle.gm_parse.specs.declared.place.Place.TheVariants as places
use Rattle.gm_parse.specs.Forms.{Form, IsGood}
use Rattle.gm_parse.specs.Spelling.{Role, Fixed, NameAt, Counted, limit_of, limit_in, passed_by, counted_from, spell, parts_of, beyond, IsSentence, IsPlacedAt, Stands}
use Rattle.gm_parse.specs.inner.Reading.{State, state_at, move_by, is_whole_at, key_of, number_role, key_role, role_at, Spot, spot_at, first_spot, spot_move, spot_role, is_whole_spot, never, Around, AtNext, AtRest, around_move, standing}
use Rattle.gm_parse.specs.inner.Answers.{run_in}
use Rattle.gm_parse.proofs.Counted.{LedSpot, spot_behind, form_whole, form_leads, path_form, path_end, spot_goes_on, no_longer, stays_ended, parts_symbols}

-- ---- nothing goes on with what stands in no expression

pub other_moves : (state : State) (place : Place) → move_by state place keys.Other ≡ None
other_moves state (places.Operand need) = refl
other_moves state places.Behind = refl
other_moves state places.BehindName = refl
other_moves state places.Same = refl
other_moves state (places.Orbit ending) = refl
other_moves state (places.Label ending) = refl
other_moves state (places.Open ending) = refl
other_moves state (places.Node ending) = refl
other_moves state (places.BehindNode ending) = refl
other_moves state (places.Step ending) = refl
other_moves state (places.Field ending) = refl
other_moves state places.Close = refl

pub other_spot : (spot : Spot) (symbol : Symbol) → key_of symbol ≡ keys.Other → spot_move spot symbol ≡ None
other_spot spot symbol is = ap (λ (k : Key). option_map (spot_at (spot.count + 1)) (move_by spot.state spot.state.place k)) is ∙ ap (option_map (spot_at (spot.count + 1))) (other_moves spot.state spot.state.place)

-- an expression doesn't go on with a name, nor with what stands in none
pub whole_ends : (o : List Bracket) (c : Bool) (place : Place) → IsTrue (is_whole_at o place) → move_by (state_at o c place) place keys.Name ≡ None
whole_ends [] c places.Behind whole = refl
whole_ends [] c places.BehindName whole = refl
whole_ends _ c place whole = absurd cc

pub named_spot : (spot : Spot) (symbol : Symbol) → IsTrue (is_whole_spot spot) → key_of symbol ≡ keys.Name → spot_move spot symbol ≡ None
named_spot spot symbol whole is = ap (λ (k : Key). option_map (spot_at (spot.count + 1)) (move_by spot.state spot.state.place k)) is ∙ ap (option_map (spot_at (spot.count + 1))) (whole_ends spot.state.open_brackets spot.state.compared spot.state.place whole)

-- ---- where a symbol stands has no part in what it passes

number_limit : (n : ℕ) (where_it_is : Place) (symbol : Symbol) (place other : ℕ) → limit_of (number_role n where_it_is place) symbol ≡ limit_of (number_role n where_it_is other) symbol
number_limit n (places.Label ending) (Numeral m) place other = refl
number_limit n (places.Label ending) (Word w) place other = refl
number_limit n (places.Label ending) (Sign s) place other = refl
number_limit n (places.Label ending) Gone place other = refl
number_limit n (places.Label ending) Stray place other = refl
number_limit n (places.Label ending) End place other = refl
number_limit n _ symbol place other = refl

name_limit : (symbol : Symbol) (place other : ℕ) → limit_of (NameAt place) symbol ≡ limit_of (NameAt other) symbol
name_limit (Numeral m) place other = refl
name_limit (Word w) place other = refl
name_limit (Sign s) place other = refl
name_limit Gone place other = refl
name_limit Stray place other = refl
name_limit End place other = refl

key_limit : (n : ℕ) (where_it_is : Place) (key : Key) (symbol : Symbol) (place other : ℕ) → limit_of (key_role n where_it_is key place) symbol ≡ limit_of (key_role n where_it_is key other) symbol
key_limit n where_it_is keys.Number symbol place other = number_limit n where_it_is symbol place other
key_limit n where_it_is keys.Name symbol place other = name_limit symbol place other
key_limit n where_it_is _ symbol place other = refl

pub spot_limit : (n : ℕ) (spot : Spot) (symbol : Symbol) (place other : ℕ) → limit_in (spot_role n spot symbol place) symbol ≡ limit_in (spot_role n spot symbol other) symbol
spot_limit n spot symbol place other = ap (λ (what : Option LimitKind). passed_by what (nat_lt 256 (spot.count + 1))) (key_limit n spot.state.place (key_of symbol) symbol place other)

-- ---- what stands behind

module _ (n : ℕ) where
  abbrev IsFront : List (Part Counted) → Spot → Type 0
  IsFront parts inner = (parts ≡ []) × (inner ≡ first_spot)

  abbrev IsInner : Spot → List (Part Counted) → Spot → Type 0
  IsInner inner parts last = (inner ≡ first_spot) × (form : Form) × IsGood form × (parts ≡ parts_of n form) × (last ≡ spot_behind n form)

  abbrev IsBack : Around → List (Part Counted) → Type 0
  IsBack (AtNext spot) parts = (next : Symbol) × (others : List Symbol) × (spot_move spot next ≡ None) × (parts ≡ map beyond (next ∷ others))
  IsBack AtRest parts = (others : List Symbol) × (parts ≡ map beyond others)

  next_moves : (spot : Spot) (symbol : Symbol) → spot_move spot symbol ≡ None → around_move (AtNext spot) symbol ≡ Some (Outside AtRest)
  next_moves spot symbol none = rw none refl

  next_moved : (spot : Spot) (symbol : Symbol) (next : Nested Around Spot) → around_move (AtNext spot) symbol ≡ Some next → (spot_move spot symbol ≡ None) × (next ≡ Outside AtRest)
  next_moved spot symbol next moves = go (spot_move spot symbol) refl moves
    where
      go : (to : Option Spot) → spot_move spot symbol ≡ to → cond (is_some to) None (Some (Outside AtRest)) ≡ Some next → (spot_move spot symbol ≡ None) × (next ≡ Outside AtRest)
      go None e is = (e, sym (cc is))
      go (Some to) e is = absurd cc

  is_apart : IsApart (standing n)
  is_apart spot symbol next whole moves = (next_moved spot symbol next moves).0

  all_wrapped : (parts : List (Part Counted)) → map (in_role (standing n).wrap) parts ≡ parts
  all_wrapped [] = refl
  all_wrapped (part ∷ parts) = ap (λ (ps : List (Part Counted)). part ∷ ps) (all_wrapped parts)

  -- ---- the grammar

  abbrev LedNested : Nested Around Spot → List (Part Counted) → Nested Around Spot → Type 0
  LedNested state parts last = LeadsNested (standing n) limit_in never state parts last

  rest_leads : (others : List Symbol) → LedNested (Outside AtRest) (map beyond others) (Outside AtRest)
  rest_leads [] = refl
  rest_leads (symbol ∷ others) = (0, Outside AtRest, refl, refl, rest_leads others)

  back_leads : (around : Around) (parts : List (Part Counted)) → IsBack around parts → LedNested (Outside around) parts (Outside AtRest)
  back_leads (AtNext spot) parts (next, others, none, spelled) = rw spelled (0, Outside AtRest, refl, next_moves spot next none, rest_leads others)
  back_leads AtRest parts (others, spelled) = rw spelled (rest_leads others)

  beyond_is : (part : Part Counted) → part.role ≡ record { ordinal = 0; role = Fixed } → part ≡ beyond part.symbol
  beyond_is part is = ap (λ (r : Counted). let p : Part Counted = record { symbol = part.symbol; role = r } in p) is

  led_rest : (parts : List (Part Counted)) → LedNested (Outside AtRest) parts (Outside AtRest) → (others : List Symbol) × (parts ≡ map beyond others)
  led_rest [] led = ([], refl)
  led_rest (part ∷ parts) (place, next, is, moves, led) =
      let at : Outside AtRest ≡ next = cc moves in
      let (others, spelled) = led_rest parts (subst (λ (s : Nested Around Spot). LedNested s parts (Outside AtRest)) (sym at) led) in
      (part.symbol ∷ others, ap (λ (p : Part Counted). p ∷ parts) (beyond_is part is) ∙ ap (λ (ps : List (Part Counted)). beyond part.symbol ∷ ps) spelled)

  back : (around : Around) (parts : List (Part Counted)) → LedNested (Outside around) parts (Outside AtRest) → IsBack around parts
  back (AtNext spot) [] led = let e : Outside (AtNext spot) ≡ Outside AtRest = led in absurd cc
  back (AtNext spot) (part ∷ parts) (place, next, is, moves, led) =
      let at = next_moved spot part.symbol next moves in
      let (others, spelled) = led_rest parts (subst (λ (s : Nested Around Spot). LedNested s parts (Outside AtRest)) at.1 led) in
      (part.symbol, others, at.0, ap (λ (p : Part Counted). p ∷ parts) (beyond_is part is) ∙ ap (λ (ps : List (Part Counted)). beyond part.symbol ∷ ps) spelled)
  back AtRest parts led = led_rest parts led

  outer_goes_on : (around : Around) → (rest : List (Part Counted)) × LedNested (Outside around) rest (Outside AtRest)
  outer_goes_on (AtNext spot) = (beyond End ∷ [], (0, Outside AtRest, refl, next_moves spot End (other_spot spot End refl), refl))
  outer_goes_on AtRest = ([], refl)

  inner_is : (inner last : Spot) (parts : List (Part Counted)) → IsInner inner parts last → LedSpot n inner parts last × IsTrue (is_whole_spot last)
  inner_is inner last parts (at, form, good, spelled, end) =
      (rw (at, spelled, end) (form_leads n form good), rw end (form_whole n form))

  path_is : (inner last : Spot) (parts : List (Part Counted)) → inner ≡ first_spot → LedSpot n inner parts last → IsTrue (is_whole_spot last) → IsInner inner parts last
  path_is inner last parts at led whole =
      let led_first = subst (λ (s : Spot). LedSpot n s parts last) at led in
      let is = path_form n parts last led_first whole in
      (at, is.form, is.good, is.spelled, path_end n is.form last is.good (subst (λ (ps : List (Part Counted)). LedSpot n first_spot ps last) is.spelled led_first))

  pieces : HasPieces (standing n) limit_in never IsFront IsInner IsBack (Inside first_spot) AtRest
  pieces = record {
    front_leads = λ parts inner front. rw front.0 (ap Inside (sym front.1));
    front = λ parts led. ([], parts, first_spot, (refl, refl), refl, led);
    inner_leads = inner_is;
    inner = λ front inner last parts at led whole. path_is inner last parts at.1 led whole;
    back_leads = back_leads;
    back = back;
    more = λ inner e. absurd cc;
    inner_goes_on = spot_goes_on n;
    outer_goes_on = outer_goes_on;
    outer_limit = λ around symbol place other. refl;
    inner_limit = spot_limit n;
    outer_before = λ around symbol place other. refl;
    inner_before = λ state symbol place other. refl;
  }

  abbrev AreNested : List (Part Counted) → Type 0
  AreNested parts = IsNestedSentence (standing n) limit_in never IsFront IsInner IsBack parts

  to_nested : (parts : List (Part Counted)) → IsSentence n parts → AreNested parts
  to_nested parts sentence = record {
    front = [];
    entry = first_spot;
    inner = parts_of n sentence.form;
    last = spot_behind n sentence.form;
    back = map beyond (sentence.next ∷ sentence.others);
    is_front = (refl, refl);
    is_inner = (refl, sentence.form, sentence.good, refl, refl);
    is_back = (sentence.next, sentence.others, stays_ended n sentence.form sentence.good sentence.next sentence.ends, refl);
    spelled = sentence.spelled ∙ ap (λ (ps : List (Part Counted)). ps ++ map beyond (sentence.next ∷ sentence.others)) (sym (all_wrapped (parts_of n sentence.form)));
  }

  of_nested : (parts : List (Part Counted)) → AreNested parts → IsSentence n parts
  of_nested parts sentence =
      let (entry, form, good, inner, last) = sentence.is_inner in
      let (next, others, none, spelled) = subst (λ (s : Spot). IsBack (AtNext s) sentence.back) last sentence.is_back in
      record {
        form = form;
        good = good;
        next = next;
        others = others;
        ends = no_longer n form good next none;
        spelled = sentence.spelled ∙ ap (λ (ps : List (Part Counted)). ps ++ (map (in_role (standing n).wrap) sentence.inner ++ sentence.back)) sentence.is_front.0
            ∙ ap (λ (ps : List (Part Counted)). ps ++ sentence.back) (all_wrapped sentence.inner ∙ inner)
            ∙ ap (λ (ps : List (Part Counted)). parts_of n form ++ ps) spelled;
      }

  pub standing_grammar : IsGrammar limit_in never (nested.role_at (standing n)) (nested.move (standing n)) (IsSentence n) (Inside first_spot) (Outside AtRest)
  standing_grammar =
      let grammar = nested_grammar (standing n) limit_in never IsFront IsInner IsBack (Inside first_spot) AtRest is_apart pieces in
      record {
        leads = λ parts sentence. grammar.leads parts (to_nested parts sentence);
        sentence = λ parts led. of_nested parts (grammar.sentence parts led);
        goes_on = grammar.goes_on;
        limit = grammar.limit;
        before = grammar.before;
      }

  -- ---- what reading answers

  pub ends_stand : (marks : List Mark) (stop : Spot) (mark : Mark) → run_in n first_spot 0 marks ≡ Err (Ends stop mark) → is_whole_spot stop ≡ false → TextEndsAt (IsSentence n) limit_in marks mark.place
  ends_stand marks stop mark e part =
      ended_is limit_in never (nested.role_at (standing n)) (nested.move (standing n)) (IsSentence n) (Inside first_spot) (Outside AtRest) standing_grammar (Inside stop) marks mark
      (run_ends limit_in never (nested.role_at (standing n)) (nested.move (standing n)) (Inside first_spot) (Inside stop) 0 marks mark (run_inside_ends (standing n) limit_in never first_spot stop 0 marks mark e part))

  pub passes_stand : (marks : List Mark) (what : LimitKind) (place : ℕ) → run_in n first_spot 0 marks ≡ Err (Passes what place) → LimitStandsAt (IsSentence n) limit_in never marks what place
  passes_stand marks what place e =
      passing_is limit_in never (nested.role_at (standing n)) (nested.move (standing n)) (IsSentence n) (Inside first_spot) (Outside AtRest) standing_grammar marks what place
      (run_passes limit_in never (nested.role_at (standing n)) (nested.move (standing n)) (Inside first_spot) 0 marks what place (run_inside_passes (standing n) limit_in never first_spot 0 marks what place e))

  placed_number : (where_it_is : Place) (place : ℕ) → IsPlacedAt place (number_role n where_it_is place)
  placed_number (places.Label ending) place = refl
  placed_number (places.Step ending) place = tt
  placed_number _ place = tt

  placed_key : (where_it_is : Place) (key : Key) (place : ℕ) → IsPlacedAt place (key_role n where_it_is key place)
  placed_key where_it_is keys.Number place = placed_number where_it_is place
  placed_key where_it_is keys.Name place = refl
  placed_key where_it_is _ place = tt

  placed_along : (k : ℕ) (spot last : Spot) (marks : List Mark) (parts : List (Part Role)) → Along limit_in never (spot_role n) spot_move spot marks (counted_from k parts) last → ArePlaced IsPlacedAt marks parts
  placed_along k spot last [] parts along = tt
  placed_along k spot last (mark ∷ marks) [] along = tt
  placed_along k spot last (mark ∷ marks) (part ∷ parts) (next, is, moves, along) =
      let role : part.role ≡ role_at n spot.state mark.symbol mark.place = ap (λ (p : Part Counted). p.role.role) is in
      (subst (IsPlacedAt mark.place) (sym role) (placed_key spot.state.place (key_of mark.symbol) mark.place), placed_along (k + 1) next last marks parts along)

  -- the form that was read before other marks
  pub form_stands : (marks before rest : List Mark) (next : Mark) (others : List Mark) (last : Spot) → run_in n first_spot 0 before ≡ Ok last → IsTrue (is_whole_spot last) → marks ≡ before ++ rest
      → rest ≡ next ∷ others → spot_move last next.symbol ≡ None → (form : Form) × (stands : Stands n form marks rest) × (stands.before ≡ before)
  form_stands marks before rest next others last e whole split behind none =
      let read = run_reads limit_in never (spot_role n) spot_move first_spot last 0 before e in
      let led = along_leads limit_in never (spot_role n) spot_move first_spot last before read.parts read.along in
      let is = path_form n read.parts last led whole in
      let along = subst (λ (ps : List (Part Counted)). Along limit_in never (spot_role n) spot_move first_spot before ps last) is.spelled read.along in
      let end = path_end n is.form last is.good (subst (λ (ps : List (Part Counted)). LedSpot n first_spot ps last) is.spelled led) in (
        is.form,
        record {
          before = before;
          split = split;
          good = is.good;
          spelled = along_spelled limit_in never (spot_role n) spot_move first_spot last before (parts_of n is.form) along ∙ parts_symbols n is.form;
          within = subst (λ (ps : List (Part Counted)). IsWithin (IsSentence n) limit_in ps) is.spelled read.within;
          placed = placed_along 0 first_spot last before (spell n is.form []) along;
          next = next;
          others = others;
          behind = behind;
          ends = no_longer n is.form is.good next.symbol (ap (λ (s : Spot). spot_move s next.symbol) (sym end) ∙ none);
        },
        refl,
      )
