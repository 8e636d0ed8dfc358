-- The marks over which a lexer goes past an expression begin before what stands next, and their tokens spell it.
use Rattle.std.proofs.Common.{◌≡◌, ℕ, suc, ◌+◌, ◌≤◌, true, false, ltb, List, [], ◌∷◌, ◌++◌, map, take_while, drop, length, Some, refl, sym, ap, subst, ◌∙◌, arith}
use Rattle.std.proofs.lemmas.Bool.{lt-ltb, le-ltb}
use Rattle.std.specs.List.{AllByRecursion, prefix_len}
use Rattle.gm_model.specs.declared.token.Token.{Token}
use Rattle.gm_model.specs.Symbols.{Symbol, Mark, symbols, marks_at}
use Rattle.gm_model.specs.Reading.{Part, symbols_in, ArePlaced}
use Rattle.gm_text.specs.inner.Cursor.{Cursor}
use Rattle.gm_text.specs.inner.SchemaAnswers.{marks_left, mark_at, IsNext, IsNoneNext}
use Rattle.gm_parse.specs.inner.Answers.{IsExprSkipped, SkipsExpr, run_in}
use Rattle.gm_parse.specs.inner.Reading as exprs
use Rattle.gm_parse.specs.inner.Reading.{first_spot, spot_role, spot_move}
use Rattle.gm_parse.specs.Spelling as spelling
use Rattle.gm_parse.specs.Spelling.{Role, Counted, counted_from, parts_of, spell}
use Rattle.gm_parse.specs.Forms.{Form}
use Rattle.gm_parse.proofs.Counted.{LedSpot, spot_behind, form_leads, parts_symbols}
use Rattle.gm_forms.specs.BookText.{IsValue, IsTokenPlaced, part_of}
use Rattle.gm_forms.specs.declared.form.Span.{Span}
use Rattle.gm_forms.specs.inner.Forms.{tokens_from, marks_in, IsSpanIn}
use Rattle.gm_forms.specs.inner.Values.{IsGoneOver}
use Rattle.gm_forms.proofs.Apart.{expr_moved}
use Rattle.gm_forms.proofs.NamePlaces.{MarksRise, items_rise}

-- ---- the marks before what stands next

rises_below : (low : ℕ) (before : List Mark) (next : Mark) (others : List Mark) → MarksRise low (before ++ next ∷ others) → low ≤ next.place
rises_below low [] next others rise = rise.0
rises_below low (mark ∷ before) next others rise = let later = rises_below (suc mark.place) before next others rise.1 in omega (arith, rise.0, later)

take_front : (low : ℕ) (before : List Mark) (next : Mark) (others : List Mark) → MarksRise low (before ++ next ∷ others) → take_while (λ (mark : Mark). ltb mark.place next.place) (before ++ next ∷ others) ≡ before
take_front low [] next others rise = let none : ltb next.place next.place ≡ false = le-ltb next.place next.place (omega arith) in rw none refl
take_front low (mark ∷ before) next others rise =
    let less : ltb mark.place next.place ≡ true = lt-ltb mark.place next.place (let later = rises_below (suc mark.place) before next others rise.1 in omega (arith, later)) in
    let count = prefix_len (λ (mark : Mark). ltb mark.place next.place) (before ++ next ∷ others) in
    let more : 1 + count ≡ suc count = omega arith in
    rw (less, more) (ap (λ (marks : List Mark). mark ∷ marks) (take_front (suc mark.place) before next others rise.1))

module _ (old new : Cursor) (span : Span) (start : span.start ≡ old.place) (next : Mark) (others : List Mark) (behind : marks_left new ≡ next ∷ others) (end : span.end ≡ next.place) where
  in_span : (before : List Mark) → marks_left old ≡ before ++ marks_left new → marks_in old.text span ≡ before
  in_span before split =
      let all : marks_left old ≡ before ++ next ∷ others = split ∙ ap (λ (ms : List Mark). before ++ ms) behind in
      let rise : MarksRise old.place (before ++ next ∷ others) = subst (MarksRise old.place) all (items_rise old.text old.place 0 (drop old.place old.text)) in
      ap (λ (s : ℕ). take_while (λ (mark : Mark). ltb mark.place span.end) (marks_at old.text s)) start
      ∙ ap (λ (e : ℕ). take_while (λ (mark : Mark). ltb mark.place e) (marks_left old)) end
      ∙ ap (take_while (λ (mark : Mark). ltb mark.place next.place)) all ∙ take_front old.place before next others rise

-- ---- what stands next

pub token_here : (cursor rest : Cursor) (token : Token) (mark : Mark) (others : List Mark) → IsNext cursor token rest → marks_left cursor ≡ mark ∷ others → token.start ≡ mark.place
token_here cursor rest token mark others next is =
    let all : mark_at rest.text token ∷ marks_left rest ≡ mark ∷ others = sym next.marks ∙ is in
    let same : mark_at rest.text token ≡ mark = cc all in
    ap (λ (m : Mark). m.place) same

pub none_here : (cursor : Cursor) (place : ℕ) (mark : Mark) (others : List Mark) → IsNoneNext cursor place → marks_left cursor ≡ mark ∷ others → place ≡ mark.place
none_here cursor place mark others none is =
    let all : none.mark ∷ [] ≡ mark ∷ others = sym none.marks ∙ is in
    let same : none.mark ≡ mark = cc all in
    sym none.here ∙ ap (λ (m : Mark). m.place) same

-- ---- the tokens

-- each mark stands where the part's role says
abbrev AreAt : List Mark → List (Part Counted) → Type 0
AreAt [] parts = Unit {0}
AreAt (mark ∷ marks) [] = Unit {0}
AreAt (mark ∷ marks) (part ∷ parts) = spelling.IsPlacedAt mark.place part.role.role × AreAt marks parts

counted_at : (k : ℕ) (marks : List Mark) (parts : List (Part Role)) → ArePlaced spelling.IsPlacedAt marks parts → AreAt marks (counted_from k parts)
counted_at k [] parts placed = tt
counted_at k (mark ∷ marks) [] placed = tt
counted_at k (mark ∷ marks) (part ∷ parts) placed = (placed.0, counted_at (k + 1) marks parts placed.1)

module _ (n : ℕ) where
  tokens_are : (spot last : exprs.Spot) (marks : List Mark) (parts : List (Part Counted)) → LedSpot n spot parts last → symbols marks ≡ symbols_in parts → AreAt marks parts
      → (map part_of (tokens_from n spot marks) ≡ parts) × AllByRecursion IsTokenPlaced (tokens_from n spot marks)
  tokens_are spot last [] [] led same placed = (refl, tt)
  tokens_are spot last [] (part ∷ parts) led same placed = absurd cc
  tokens_are spot last (mark ∷ marks) [] led same placed = absurd cc
  tokens_are spot last (mark ∷ marks) (part ∷ parts) (place, next, role, moves, led) same (here, others) =
      let head : mark.symbol ≡ part.symbol = cc same in
      let tail : symbols marks ≡ symbols_in parts = cc same in
      let later = tokens_are next last marks parts led tail others in
      let at : spelling.IsPlacedAt mark.place (spot_role n spot part.symbol place).role = subst (λ (c : Counted). spelling.IsPlacedAt mark.place c.role) role here in
      let is : spot_role n spot mark.symbol mark.place ≡ part.role = ap (λ (s : Symbol). spot_role n spot s mark.place) head ∙ sym (role ∙ expr_moved n spot part.symbol place mark.place at) in
      let goes : spot_move spot mark.symbol ≡ Some next = ap (spot_move spot) head ∙ moves in
      let placed : spelling.IsPlacedAt mark.place (spot_role n spot mark.symbol mark.place).role = subst (λ (c : Counted). spelling.IsPlacedAt mark.place c.role) (sym is) here in
      rw goes (
        ap (λ (s : Symbol). let p : Part Counted = record { symbol = s; role = spot_role n spot mark.symbol mark.place } in p ∷ map part_of (tokens_from n next marks)) head
            ∙ ap (λ (r : Counted). let p : Part Counted = record { symbol = part.symbol; role = r } in p ∷ map part_of (tokens_from n next marks)) is
            ∙ ap (λ (ps : List (Part Counted)). part ∷ ps) later.0,
        (placed, later.1),
      )

  -- the tokens of what stands there spell it
  pub tokens_stand : (form : Form) (marks rest : List Mark) (stands : spelling.Stands n form marks rest)
      → (map part_of (tokens_from n first_spot stands.before) ≡ parts_of n form) × AllByRecursion IsTokenPlaced (tokens_from n first_spot stands.before)
  tokens_stand form marks rest stands =
      tokens_are first_spot (spot_behind n form) stands.before (parts_of n form) (form_leads n form stands.good) (stands.spelled ∙ sym (parts_symbols n form)) (counted_at 0 stands.before (spell n form []) stands.placed)

-- ---- what skipping answers

module _ (old new : Cursor) (span : Span) (start : span.start ≡ old.place) (end : (mark : Mark) (others : List Mark) → marks_left new ≡ mark ∷ others → span.end ≡ mark.place) where
  pub gone_over : SkipsExpr span.dim old new → IsGoneOver old span new
  gone_over skips =
      let inside = in_span old new span start skips.ends.next skips.ends.others skips.ends.split (end skips.ends.next skips.ends.others skips.ends.split) skips.reads.before skips.reads.split in
      record {
        last = skips.last;
        split = skips.reads.split ∙ ap (λ (ms : List Mark). ms ++ marks_left new) (sym inside);
        runs = λ place. ap (run_in span.dim first_spot place) inside ∙ skips.reads.runs place;
        whole = skips.whole;
        ends = skips.ends;
      }

  pub span_in : IsExprSkipped span.dim old new → old.place ≤ length old.text → IsSpanIn old.text span
  span_in skipped low =
      let n = span.dim in
      let form = skipped.form in
      let stands = skipped.stands in
      let inside = in_span old new span start stands.next stands.others stands.behind (end stands.next stands.others stands.behind) stands.before stands.split in
      let tokens = tokens_stand n form (marks_left old) (marks_left new) stands in
      record {
        inside = subst (λ (s : ℕ). s ≤ length old.text) (sym start) low;
        form = form;
        rest = marks_left new;
        stands = subst (λ (s : ℕ). spelling.Stands n form (marks_at old.text s) (marks_left new)) (sym start) stands;
        value = subst (λ (ms : List Mark). IsValue n (tokens_from n first_spot ms) form) (sym inside) (record { good = stands.good; spelled = tokens.0; placed = tokens.1 });
      }
