-- The tokens of a span spell an expression, and so does what stands at its beginning.
use Rattle.std.proofs.Common.{◌≡◌, ℕ, suc, ◌+◌, Bool, true, false, ltb, List, [], ◌∷◌, map, take_while, Some, None, refl, sym, ap, subst, ◌∙◌, arith}
use Rattle.std.specs.List.{AllByRecursion, prefix_len}
use Rattle.gm_model.specs.Reading.{Part, IsWithin, symbols_in, ArePlaced}
use Rattle.gm_model.specs.Symbols.{Mark, marks_at}
use Rattle.gm_model.specs.Trees.{Tree}
use Rattle.gm_text.specs.inner.Cursor.{Cursor}
use Rattle.gm_text.specs.inner.SchemaAnswers.{marks_left}
use Rattle.gm_parse.specs.Forms.{Form, IsGood}
use Rattle.gm_parse.specs.Spelling.{Role, Counted, limit_in, counted_from, spell, parts_of, symbols_of, IsSentence, Stands, IsPlacedAt}
use Rattle.gm_parse.specs.inner.Reading.{Spot, first_spot, spot_move, is_whole_spot}
use Rattle.gm_parse.specs.inner.Answers.{HasExpr, IsExprRead, HasFirstFault, IsExprFault}
use Rattle.gm_parse.specs.declared.fault.ExprFault.{ExprFault}
use Rattle.gm_parse.specs.declared.fault.ExprFault.TheVariants as faults
use Rattle.gm_parse.specs.Meaning.{Names, NameFault, UnknownAt, TwiceAt}
use Rattle.gm_parse.proofs.Counted.{LedSpot, spot_behind, form_leads, form_whole, no_longer, stays_ended, parts_symbols}
use Rattle.gm_parse.proofs.OneReading.{one_stands}
use Rattle.gm_forms.specs.BookText.{ExprToken, IsValue, IsExpr, part_of, first_place}
use Rattle.gm_forms.specs.declared.form.Span.{Span}
use Rattle.gm_forms.specs.inner.Forms.{IsSpanIn, tokens_from, value_of}
use Rattle.gm_forms.proofs.ValuesRead.{tokens_stand}
use Rattle.gm_book.specs.inner.Values as values
use Rattle.gm_book.specs.inner.Values.{IsValueRead, IsReadFault}
use Rattle.gm_book.proofs.OneValue.{AreWithin}

-- ---- parts without their counts

abbrev counted_as : ℕ → Part Role → Part Counted
counted_as k part = record { symbol = part.symbol; role = record { ordinal = k + 1; role = part.role } }

parts_uncounted : (k : ℕ) (parts others : List (Part Role)) → counted_from k parts ≡ counted_from k others → parts ≡ others
parts_uncounted k [] [] same = refl
parts_uncounted k [] (other ∷ others) same = absurd cc
parts_uncounted k (part ∷ parts) [] same = absurd cc
parts_uncounted k (part ∷ parts) (other ∷ others) same =
    let head : counted_as k part ≡ counted_as k other = cc in
    let tail : counted_from (k + 1) parts ≡ counted_from (k + 1) others = cc in
    ap (λ (p : Part Counted). let q : Part Role = record { symbol = p.symbol; role = p.role.role } in q ∷ parts) head ∙ ap (λ (ps : List (Part Role)). other ∷ ps) (parts_uncounted (k + 1) parts others tail)

-- a path of parts ends at one spot, whatever number the labels go up to
one_end : (n m : ℕ) (parts : List (Part Counted)) (spot one other : Spot) → LedSpot n spot parts one → LedSpot m spot parts other → one ≡ other
one_end n m [] spot one other e f = sym e ∙ f
one_end n m (part ∷ parts) spot one other (place, next, role, moves, led) (place', next', role', moves', led') =
    let same : Some next ≡ Some next' = sym moves ∙ moves' in
    let is : next ≡ next' = cc same in
    one_end n m parts next' one other (subst (λ (s : Spot). LedSpot n s parts one) is led) led'

-- ---- what is read of the span

module _ (bytes : List ℕ) (span : Span) (n : ℕ) (within : IsSpanIn bytes span) (expr : IsExpr n (value_of bytes span)) where
  abbrev marks_there : List Mark
  marks_there = marks_at bytes span.start

  abbrev m : ℕ
  m = span.dim

  same_parts : parts_of m within.form ≡ parts_of n expr.0
  same_parts = sym within.value.spelled ∙ expr.1.spelled

  same_symbols : symbols_of m within.form ≡ symbols_of n expr.0
  same_symbols = sym (parts_symbols m within.form) ∙ ap (λ (ps : List (Part Counted)). symbols_in ps) same_parts ∙ parts_symbols n expr.0

  same_end : spot_behind n expr.0 ≡ spot_behind m within.form
  same_end =
      one_end n m (parts_of n expr.0) first_spot (spot_behind n expr.0) (spot_behind m within.form) (form_leads n expr.0 expr.1.good)
      (subst (λ (ps : List (Part Counted)). LedSpot m first_spot ps (spot_behind m within.form)) same_parts (form_leads m within.form within.stands.good))

  -- the expression stands there
  pub expr_stands : Stands n expr.0 marks_there within.rest
  expr_stands =
      let stands = within.stands in
      let ended : spot_move (spot_behind n expr.0) stands.next.symbol ≡ None = ap (λ (s : Spot). spot_move s stands.next.symbol) same_end ∙ stays_ended m within.form stands.good stands.next.symbol stands.ends in
      record {
        before = stands.before;
        split = stands.split;
        good = expr.1.good;
        spelled = stands.spelled ∙ same_symbols;
        within = subst (λ (ps : List (Part Counted)). IsWithin (IsSentence n) limit_in ps) same_parts stands.within;
        placed = subst (ArePlaced IsPlacedAt stands.before) (parts_uncounted 0 (spell m within.form []) (spell n expr.0 []) same_parts) stands.placed;
        next = stands.next;
        others = stands.others;
        behind = stands.behind;
        ends = no_longer n expr.0 expr.1.good stands.next.symbol ended;
      }

  pub has_expr : HasExpr n (record { text = bytes; place = span.start })
  has_expr = (expr.0, within.rest, expr_stands)

  -- the tokens spell whatever form stands there
  pub value_read : (form : Form) (rest : List Mark) → Stands n form marks_there rest → IsValue n (value_of bytes span) form
  value_read form rest stands =
      let same = (one_stands n expr.0 form marks_there within.rest rest expr_stands stands).0 in
      let parts : parts_of n expr.0 ≡ parts_of n form =
      sym (tokens_stand n expr.0 marks_there within.rest expr_stands).0 ∙ ap (λ (ms : List Mark). map part_of (tokens_from n first_spot ms)) same ∙ (tokens_stand n form marks_there rest stands).0 in
      record { good = stands.good; spelled = expr.1.spelled ∙ parts; placed = expr.1.placed }

-- ---- limits

within_tokens : (tokens : List ExprToken) → AllByRecursion (λ (part : Part Counted). limit_in part.role part.symbol ≡ None) (map part_of tokens) → AreWithin tokens
within_tokens [] within = tt
within_tokens (token ∷ tokens) within = (within.0, within_tokens tokens within.1)

pub are_within : (bytes : List ℕ) (span : Span) → IsSpanIn bytes span → AreWithin (value_of bytes span)
are_within bytes span within = within_tokens (value_of bytes span) (subst (AllByRecursion (λ (part : Part Counted). limit_in part.role part.symbol ≡ None)) (sym within.value.spelled) within.stands.within)

-- ---- the first token

nothing_spelled : (n : ℕ) (form : Form) → IsGood form → parts_of n form ≡ [] → ⊥
nothing_spelled n form good none =
    let led : first_spot ≡ spot_behind n form = subst (λ (ps : List (Part Counted)). LedSpot n first_spot ps (spot_behind n form)) none (form_leads n form good) in
    let no_way : false ≡ true = ap is_whole_spot led ∙ form_whole n form in
    absurd cc

module _ (bytes : List ℕ) (span : Span) (within : IsSpanIn bytes span) where
  abbrev tokens_of : List Mark → List ExprToken
  tokens_of marks = tokens_from span.dim first_spot (take_while (λ (mark : Mark). ltb mark.place span.end) marks)

  some_token : (marks : List Mark) → marks_at bytes span.start ≡ marks → tokens_of marks ≡ [] → ⊥
  some_token marks is none =
      let tokens : value_of bytes span ≡ [] = ap tokens_of is ∙ none in
      nothing_spelled span.dim within.form within.value.good (sym within.value.spelled ∙ ap (λ (ts : List ExprToken). map part_of ts) tokens)

  -- the first token is what stands next
  pub first_token : (place : ℕ) → ((mark : Mark) (others : List Mark) → marks_at bytes span.start ≡ mark ∷ others → place ≡ mark.place) → place ≡ first_place (value_of bytes span)
  first_token place next = go (marks_at bytes span.start) refl
    where
      starts : (mark : Mark) (others : List Mark) → marks_at bytes span.start ≡ mark ∷ others → (b : Bool) → ltb mark.place span.end ≡ b → mark.place ≡ first_place (tokens_of (mark ∷ others))
      starts mark others is true e =
          let count = prefix_len (λ (mark : Mark). ltb mark.place span.end) others in
          let more : 1 + count ≡ suc count = omega arith in
          rw (e, more) refl
      starts mark others is false e = absurd (some_token (mark ∷ others) is (rw e refl))

      go : (marks : List Mark) → marks_at bytes span.start ≡ marks → place ≡ first_place (value_of bytes span)
      go [] is = absurd (some_token [] is refl)
      go (mark ∷ others) is = next mark others is ∙ starts mark others is (ltb mark.place span.end) refl ∙ ap (λ (ms : List Mark). first_place (tokens_of ms)) (sym is)

-- ---- what reading answers

module _ (bytes : List ℕ) (span : Span) (n : ℕ) (names : Names) (within : IsSpanIn bytes span) (expr : IsExpr n (value_of bytes span)) (cursor : Cursor) (at : cursor ≡ record { text = bytes; place = span.start }) where
  there : (form : Form) (rest : List Mark) → Stands n form (marks_left cursor) rest → IsValue n (value_of bytes span) form
  there form rest stands = value_read bytes span n within expr form rest (subst (λ (c : Cursor). Stands n form (marks_left c) rest) at stands)

  pub read_is : (new : Cursor) (tree : Tree) → IsExprRead n names cursor new tree → IsValueRead n names (value_of bytes span) tree
  read_is new tree read = record { form = read.form; value = there read.form (marks_left new) read.stands; known = read.known; means = read.means }

  first_is : (fault : NameFault) → HasFirstFault n names (marks_left cursor) fault → values.HasFirstFault n names (value_of bytes span) fault
  first_is fault first = record { form = first.form; value = there first.form first.rest first.stands; first = first.first }

  pub fault_is : (fault : ExprFault) → IsExprFault n names (marks_left cursor) fault → IsReadFault n names (value_of bytes span) fault
  fault_is (faults.Unknown place) first = first_is (UnknownAt place) first
  fault_is (faults.Twice place) first = first_is (TwiceAt place) first
  fault_is faults.OutOfMemory first = tt
