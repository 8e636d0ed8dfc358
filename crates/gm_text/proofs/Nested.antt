-- A run through a grammar with another one within it comes apart at the end of the inner part, and is put together there.
use Rattle.std.proofs.Common.{◌≡◌, ℕ, Bool, true, false, cond, List, [], ◌∷◌, ◌++◌, map, Option, Some, None, Result, Ok, Err, refl, sym, ap, subst, ◌∙◌}
use Rattle.std.specs.Prelude.{IsTrue, is_some}
use Rattle.gm_model.specs.Symbols.{Symbol, Mark}
use Rattle.gm_model.specs.Reading.{Part, in_role}
use Rattle.gm_text.specs.inner.Machine.{Stop, Ends, Passes, IsGrammar, limit_place, step, run}
use Rattle.gm_text.proofs.Machine.{last_of, stepped, Refused, Limited, Moved}
use Rattle.gm_text.specs.inner.Nested.{Nested, Outside, Inside, Nesting, role_at, move_inside, move, IsApart, LeadsInside, LeadsNested, IsNestedSentence, HasPieces}

module _ {Outer Inner Role InnerRole What : Type 0} (nesting : Nesting Outer Inner Role InnerRole) (limit_of : Role → Symbol → Option What) (stands_before : Role → Bool) where
  abbrev Led : Nested Outer Inner → List (Part Role) → Nested Outer Inner → Type 0
  Led state parts last = LeadsNested nesting limit_of stands_before state parts last

  abbrev LedInside : Inner → List (Part InnerRole) → Inner → Type 0
  LedInside inner parts last = LeadsInside nesting limit_of stands_before inner parts last

  abbrev wraps : List (Part InnerRole) → List (Part Role)
  wraps parts = map (in_role nesting.wrap) parts

  -- ---- one symbol in an inner state

  goes_inside : (inner next : Inner) (symbol : Symbol) → nesting.inner_move inner symbol ≡ Some next → move nesting (Inside inner) symbol ≡ Some (Inside next)
  goes_inside inner next symbol moves = rw moves refl

  inside_role : (inner next : Inner) (symbol : Symbol) (place : ℕ) → nesting.inner_move inner symbol ≡ Some next → role_at nesting (Inside inner) symbol place ≡ nesting.wrap (nesting.inner_role inner symbol place)
  inside_role inner next symbol place moves = rw moves refl

  goes_behind : (inner : Inner) (next : Nested Outer Inner) (symbol : Symbol) → nesting.inner_move inner symbol ≡ None → IsTrue (nesting.is_whole inner) → nesting.outer_move (nesting.behind inner) symbol ≡ Some next → move nesting (Inside inner) symbol ≡ Some next
  goes_behind inner next symbol none whole moves = let is : nesting.is_whole inner ≡ true = whole in rw (none, is) moves

  behind_role : (inner : Inner) (symbol : Symbol) (place : ℕ) → nesting.inner_move inner symbol ≡ None → role_at nesting (Inside inner) symbol place ≡ nesting.outer_role (nesting.behind inner) symbol place
  behind_role inner symbol place none = rw none refl

  data MovedInside (inner : Inner) (symbol : Symbol) (next : Nested Outer Inner) : Type 0 where
    Within : (to : Inner) → nesting.inner_move inner symbol ≡ Some to → next ≡ Inside to → MovedInside inner symbol next
    Behind : nesting.inner_move inner symbol ≡ None → IsTrue (nesting.is_whole inner) → nesting.outer_move (nesting.behind inner) symbol ≡ Some next → MovedInside inner symbol next

  moved_inside : (inner : Inner) (symbol : Symbol) (next : Nested Outer Inner) → move nesting (Inside inner) symbol ≡ Some next → MovedInside inner symbol next
  moved_inside inner symbol next moves = go (nesting.inner_move inner symbol) refl moves
    where
      whole : (b : Bool) → nesting.is_whole inner ≡ b → nesting.inner_move inner symbol ≡ None → cond b (nesting.outer_move (nesting.behind inner) symbol) None ≡ Some next → MovedInside inner symbol next
      whole true e none is = Behind none e is
      whole false e none is = absurd cc

      go : (to : Option Inner) → nesting.inner_move inner symbol ≡ to → move_inside nesting inner symbol to ≡ Some next → MovedInside inner symbol next
      go (Some to) e is = let same : Some (Inside to) ≡ Some next = is in Within to e (sym (cc same))
      go None e is = whole (nesting.is_whole inner) refl e is

  -- ---- apart

  -- where the inner part ends, and what stands behind it
  pub record IsSplit (inner : Inner) (parts : List (Part Role)) (last : Outer) : Type 0 where
    pub inside : List (Part InnerRole)
    pub whole : Inner
    pub back : List (Part Role)
    pub spelled : parts ≡ wraps inside ++ back
    pub leads : LedInside inner inside whole
    pub is_whole : IsTrue (nesting.is_whole whole)
    pub behind : Led (Outside (nesting.behind whole)) back (Outside last)

  pub split : (inner : Inner) (parts : List (Part Role)) (last : Outer) → Led (Inside inner) parts (Outside last) → IsSplit inner parts last
  split inner [] last led = absurd cc
  split inner (part ∷ parts) last (place, next, is, moves, led) =
      elim (moved_inside inner part.symbol next moves) [
        | Within to goes at ↦
            let rest = split to parts last (subst (λ (s : Nested Outer Inner). Led s parts (Outside last)) at led) in
            let first : Part InnerRole = record { symbol = part.symbol; role = nesting.inner_role inner part.symbol place } in
            let same : part ≡ in_role nesting.wrap first = ap (λ (r : Role). let p : Part Role = record { symbol = part.symbol; role = r } in p) (is ∙ inside_role inner to part.symbol place goes) in
            record {
              inside = first ∷ rest.inside;
              whole = rest.whole;
              back = rest.back;
              spelled = ap (λ (p : Part Role). p ∷ parts) same ∙ ap (λ (ps : List (Part Role)). in_role nesting.wrap first ∷ ps) rest.spelled;
              leads = (place, to, refl, goes, rest.leads);
              is_whole = rest.is_whole;
              behind = rest.behind;
            }
        | Behind none whole goes ↦ record {
          inside = [];
          whole = inner;
          back = part ∷ parts;
          spelled = refl;
          leads = refl;
          is_whole = whole;
          behind = (place, next, is ∙ behind_role inner part.symbol place none, goes, led);
        }
      ]

  -- ---- together

  pub join : IsApart nesting → (inner whole : Inner) (inside : List (Part InnerRole)) (part : Part Role) (back : List (Part Role)) (last : Nested Outer Inner) → LedInside inner inside whole → IsTrue (nesting.is_whole whole)
      → Led (Outside (nesting.behind whole)) (part ∷ back) last → Led (Inside inner) (wraps inside ++ part ∷ back) last
  join apart inner whole [] part back last e is_whole (place, next, is, moves, led) =
      let at : IsTrue (nesting.is_whole inner) = subst (λ (i : Inner). IsTrue (nesting.is_whole i)) (sym e) is_whole in
      let goes : nesting.outer_move (nesting.behind inner) part.symbol ≡ Some next = ap (λ (i : Inner). nesting.outer_move (nesting.behind i) part.symbol) e ∙ moves in
      let role : part.role ≡ nesting.outer_role (nesting.behind inner) part.symbol place = is ∙ ap (λ (i : Inner). nesting.outer_role (nesting.behind i) part.symbol place) (sym e) in
      let none = apart inner part.symbol next at goes in
      (place, next, role ∙ sym (behind_role inner part.symbol place none), goes_behind inner next part.symbol none at goes, led)
  join apart inner whole (first ∷ inside) part back last (place, next, is, moves, led) is_whole behind =
      (place, Inside next, ap nesting.wrap is ∙ sym (inside_role inner next first.symbol place moves), goes_inside inner next first.symbol moves, join apart next whole inside part back last led is_whole behind)

  joined : IsApart nesting → (inner whole : Inner) (inside : List (Part InnerRole)) (back : List (Part Role)) (last : Outer) → (nesting.behind whole ≡ last → ⊥) → LedInside inner inside whole → IsTrue (nesting.is_whole whole)
      → Led (Outside (nesting.behind whole)) back (Outside last) → Led (Inside inner) (wraps inside ++ back) (Outside last)
  joined apart inner whole inside [] last more led is_whole behind = absurd (more (let same : Outside (nesting.behind whole) ≡ Outside last = behind in cc same))
  joined apart inner whole inside (part ∷ back) last more led is_whole behind = join apart inner whole inside part back (Outside last) led is_whole behind

  led-append : (state middle last : Nested Outer Inner) (parts rest : List (Part Role)) → Led state parts middle → Led middle rest last → Led state (parts ++ rest) last
  led-append state middle last [] rest e led = subst (λ (s : Nested Outer Inner). Led s rest last) (sym e) led
  led-append state middle last (part ∷ parts) rest (place, next, is, moves, led) behind = (place, next, is, moves, led-append next middle last parts rest led behind)

  -- ---- readings

  abbrev Run : Nested Outer Inner → ℕ → List Mark → Result (Nested Outer Inner) (Stop (Nested Outer Inner) What)
  Run state last marks = run limit_of stands_before (role_at nesting) (move nesting) state last marks

  abbrev Step : Nested Outer Inner → ℕ → Mark → Result (Nested Outer Inner) (Stop (Nested Outer Inner) What)
  Step state last mark = step limit_of stands_before (role_at nesting) (move nesting) state last mark

  -- by the inner grammar alone
  abbrev RunInside : Inner → ℕ → List Mark → Result Inner (Stop Inner What)
  RunInside inner last marks = run (λ role. limit_of (nesting.wrap role)) (λ role. stands_before (nesting.wrap role)) nesting.inner_role nesting.inner_move inner last marks

  abbrev place_inside : Inner → ℕ → Mark → ℕ
  place_inside inner last mark = limit_place (λ role. limit_of (nesting.wrap role)) (λ role. stands_before (nesting.wrap role)) nesting.inner_role nesting.inner_move inner last mark

  steps_inside : (inner next : Inner) (last : ℕ) (mark : Mark) → nesting.inner_move inner mark.symbol ≡ Some next → limit_of (nesting.wrap (nesting.inner_role inner mark.symbol mark.place)) mark.symbol ≡ None → Step (Inside inner) last mark ≡ Ok (Inside next)
  steps_inside inner next last mark moves free = rw (moves, free) refl

  passes_inside : (inner next : Inner) (what : What) (last : ℕ) (mark : Mark) → nesting.inner_move inner mark.symbol ≡ Some next → limit_of (nesting.wrap (nesting.inner_role inner mark.symbol mark.place)) mark.symbol ≡ Some what
      → Step (Inside inner) last mark ≡ Err (Passes what (place_inside inner last mark))
  passes_inside inner next what last mark moves limit = rw (moves, limit) refl

  ends_inside : (inner : Inner) (last : ℕ) (mark : Mark) → nesting.inner_move inner mark.symbol ≡ None → nesting.is_whole inner ≡ false → Step (Inside inner) last mark ≡ Err (Ends (Inside inner) mark)
  ends_inside inner last mark none part = rw (none, part) refl

  -- over an inner part, before anything
  pub run_inside : (inner to : Inner) (last : ℕ) (marks rest : List Mark) → RunInside inner last marks ≡ Ok to → Run (Inside inner) last (marks ++ rest) ≡ Run (Inside to) (last_of last marks) rest
  run_inside inner to last [] rest e = let same : inner ≡ to = cc e in ap (λ (i : Inner). Run (Inside i) last rest) same
  run_inside inner to last (mark ∷ marks) rest e =
      elim (stepped (λ role. limit_of (nesting.wrap role)) (λ role. stands_before (nesting.wrap role)) nesting.inner_role nesting.inner_move inner last mark) [
        | Refused moves is ↦ let no_way : Err (Ends inner mark) ≡ Ok to = rw is at e in absurd cc
        | Limited next what moves limit is ↦ let no_way : Err (Passes what (place_inside inner last mark)) ≡ Ok to = rw is at e in absurd cc
        | Moved next moves limit is ↦ rw (steps_inside inner next last mark moves limit) (run_inside next to mark.place marks rest (rw is at e))
      ]

  -- up to a mark with which an inner part that isn't whole can't go on
  pub run_inside_ends : (inner stop : Inner) (last : ℕ) (marks : List Mark) (mark : Mark) → RunInside inner last marks ≡ Err (Ends stop mark) → nesting.is_whole stop ≡ false → Run (Inside inner) last marks ≡ Err (Ends (Inside stop) mark)
  run_inside_ends inner stop last [] mark e part = absurd cc
  run_inside_ends inner stop last (first ∷ marks) mark e part =
      elim (stepped (λ role. limit_of (nesting.wrap role)) (λ role. stands_before (nesting.wrap role)) nesting.inner_role nesting.inner_move inner last first) [
        | Refused moves is ↦
            let same : Err (Ends inner first) ≡ Err (Ends stop mark) = rw is at e in
            let at : inner ≡ stop = cc same in
            let there : first ≡ mark = cc same in
            rw (ends_inside inner last first moves (ap nesting.is_whole at ∙ part)) (ap (λ (i : Inner). Err (Ends (Inside i) first)) at ∙ ap (λ (m : Mark). Err (Ends (Inside stop) m)) there)
        | Limited next what moves limit is ↦ let no_way : Err (Passes what (place_inside inner last first)) ≡ Err (Ends stop mark) = rw is at e in absurd cc
        | Moved next moves limit is ↦ rw (steps_inside inner next last first moves limit) (run_inside_ends next stop first.place marks mark (rw is at e) part)
      ]

  pub run_inside_passes : (inner : Inner) (last : ℕ) (marks : List Mark) (what : What) (place : ℕ) → RunInside inner last marks ≡ Err (Passes what place) → Run (Inside inner) last marks ≡ Err (Passes what place)
  run_inside_passes inner last [] what place e = absurd cc
  run_inside_passes inner last (first ∷ marks) what place e =
      elim (stepped (λ role. limit_of (nesting.wrap role)) (λ role. stands_before (nesting.wrap role)) nesting.inner_role nesting.inner_move inner last first) [
        | Refused moves is ↦ let no_way : Err (Ends inner first) ≡ Err (Passes what place) = rw is at e in absurd cc
        | Limited next some moves limit is ↦
            let same : Err (Passes some (place_inside inner last first)) ≡ Err (Passes what place) = rw is at e in
            rw (passes_inside inner next some last first moves limit) (let s : some ≡ what = cc same in let p : place_inside inner last first ≡ place = cc same in ap (λ (w : What). Err (Passes w (place_inside inner last first))) s ∙ ap (λ (k : ℕ). Err (Passes what k)) p)
        | Moved next moves limit is ↦ rw (steps_inside inner next last first moves limit) (run_inside_passes next first.place marks what place (rw is at e))
      ]

  -- ---- the grammar

  module _ (IsFront : List (Part Role) → Inner → Type 0) (IsInner : Inner → List (Part InnerRole) → Inner → Type 0) (IsBack : Outer → List (Part Role) → Type 0) (first : Nested Outer Inner) (last : Outer) (apart : IsApart nesting) (pieces : HasPieces nesting limit_of stands_before IsFront IsInner IsBack first last) where
    abbrev IsSentence : List (Part Role) → Type 0
    IsSentence parts = IsNestedSentence nesting limit_of stands_before IsFront IsInner IsBack parts

    sentence_leads : (parts : List (Part Role)) → IsSentence parts → Led first parts (Outside last)
    sentence_leads parts sentence =
        let inner = pieces.inner_leads sentence.entry sentence.last sentence.inner sentence.is_inner in
        let behind = joined apart sentence.entry sentence.last sentence.inner sentence.back last (pieces.more sentence.last) inner.0 inner.1 (pieces.back_leads (nesting.behind sentence.last) sentence.back sentence.is_back) in
        subst (λ (ps : List (Part Role)). Led first ps (Outside last)) (sym sentence.spelled)
        (led-append first (Inside sentence.entry) (Outside last) sentence.front (wraps sentence.inner ++ sentence.back) (pieces.front_leads sentence.front sentence.entry sentence.is_front) behind)

    led_sentence : (parts : List (Part Role)) → Led first parts (Outside last) → IsSentence parts
    led_sentence parts led =
        let (front, rest, entry, is_front, same, behind) = pieces.front parts led in
        let at = split entry rest last behind in
        record {
          front = front;
          entry = entry;
          inner = at.inside;
          last = at.whole;
          back = at.back;
          is_front = is_front;
          is_inner = pieces.inner front entry at.whole at.inside is_front at.leads at.is_whole;
          is_back = pieces.back (nesting.behind at.whole) at.back at.behind;
          spelled = same ∙ ap (λ (ps : List (Part Role)). front ++ ps) at.spelled;
        }

    goes_on : (state : Nested Outer Inner) → (rest : List (Part Role)) × Led state rest (Outside last)
    goes_on (Outside outer) = pieces.outer_goes_on outer
    goes_on (Inside inner) =
        let (inside, whole, led, is_whole) = pieces.inner_goes_on inner in
        let (back, behind) = pieces.outer_goes_on (nesting.behind whole) in
        (wraps inside ++ back, joined apart inner whole inside back last (pieces.more whole) led is_whole behind)

    limit : (state : Nested Outer Inner) (symbol : Symbol) (place other : ℕ) → limit_of (role_at nesting state symbol place) symbol ≡ limit_of (role_at nesting state symbol other) symbol
    limit (Outside outer) symbol place other = pieces.outer_limit outer symbol place other
    limit (Inside inner) symbol place other = go (is_some (nesting.inner_move inner symbol)) refl
      where
        go : (b : Bool) → is_some (nesting.inner_move inner symbol) ≡ b → limit_of (role_at nesting (Inside inner) symbol place) symbol ≡ limit_of (role_at nesting (Inside inner) symbol other) symbol
        go true e = rw e (pieces.inner_limit inner symbol place other)
        go false e = rw e (pieces.outer_limit (nesting.behind inner) symbol place other)

    before : (state : Nested Outer Inner) (symbol : Symbol) (place other : ℕ) → stands_before (role_at nesting state symbol place) ≡ stands_before (role_at nesting state symbol other)
    before (Outside outer) symbol place other = pieces.outer_before outer symbol place other
    before (Inside inner) symbol place other = go (is_some (nesting.inner_move inner symbol)) refl
      where
        go : (b : Bool) → is_some (nesting.inner_move inner symbol) ≡ b → stands_before (role_at nesting (Inside inner) symbol place) ≡ stands_before (role_at nesting (Inside inner) symbol other)
        go true e = rw e (pieces.inner_before inner symbol place other)
        go false e = rw e (pieces.outer_before (nesting.behind inner) symbol place other)

    pub nested_grammar : IsGrammar limit_of stands_before (role_at nesting) (move nesting) IsSentence first (Outside last)
    nested_grammar = record { leads = sentence_leads; sentence = led_sentence; goes_on = goes_on; limit = limit; before = before }
