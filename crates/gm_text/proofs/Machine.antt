-- Reading by states answers the one reading of the marks, or their one first fault.
use Rattle.std.proofs.Common.{◌≡◌, ℕ, Bool, cond, List, [], ◌∷◌, ◌++◌, Option, Some, None, Result, Ok, Err, refl, sym, ap, subst, ◌∙◌, append_assoc}
use Rattle.std.proofs.lemmas.List.{append-nil}
use Rattle.std.specs.Option.{option_map}
use Rattle.gm_model.specs.Symbols.{Symbol, Mark, symbols}
use Rattle.gm_model.specs.Reading.{Part, symbols_in, last_place, Begins, IsWithin, IsReadAs, TextEndsAt, LimitStandsAt}
use Rattle.gm_text.specs.inner.Machine.{Stop, Ends, Passes, Leads, IsGrammar, limit_place, step, run}

-- the place of the last mark, behind one at the place `last`
abbrev pub last_of : ℕ → List Mark → ℕ
last_of last [] = last
last_of last (mark ∷ marks) = last_of mark.place marks

last_of-place : (mark : Mark) (marks : List Mark) → last_of mark.place marks ≡ last_place (mark ∷ marks)
last_of-place mark [] = refl
last_of-place mark (next ∷ marks) = last_of-place next marks

pub last_of-start : (marks : List Mark) → last_of 0 marks ≡ last_place marks
last_of-start [] = refl
last_of-start (mark ∷ marks) = last_of-place mark marks

module _ {Role State What : Type 0} (limit_of : Role → Symbol → Option What) (stands_before : Role → Bool) (role : State → Symbol → ℕ → Role) (move : State → Symbol → Option State) where
  abbrev Led : State → List (Part Role) → State → Type 0
  Led state parts last = Leads limit_of stands_before role move state parts last

  abbrev Run : State → ℕ → List Mark → Result State (Stop State What)
  Run state last marks = run limit_of stands_before role move state last marks

  abbrev Step : State → ℕ → Mark → Result State (Stop State What)
  Step state last mark = step limit_of stands_before role move state last mark

  abbrev limit_at : State → Mark → Option What
  limit_at state mark = limit_of (role state mark.symbol mark.place) mark.symbol

  -- the part that a mark is in a state
  abbrev pub part_at : State → Mark → Part Role
  part_at state mark = record { symbol = mark.symbol; role = role state mark.symbol mark.place }

  -- the marks are these parts, each at its place, and lead from the one state to the other
  abbrev pub Along : State → List Mark → List (Part Role) → State → Type 0
  Along state [] [] last = state ≡ last
  Along state [] (part ∷ parts) last = ⊥
  Along state (mark ∷ marks) [] last = ⊥
  Along state (mark ∷ marks) (part ∷ parts) last = (next : State) × (part ≡ part_at state mark) × (move state mark.symbol ≡ Some next) × Along next marks parts last

  abbrev AreWithin : List (Part Role) → Type 0
  AreWithin parts = IsWithin (λ parts. Unit {0}) limit_of parts

  -- ---- one step

  pub data Stepped (state : State) (last : ℕ) (mark : Mark) : Type 0 where
    Refused : move state mark.symbol ≡ None → Step state last mark ≡ Err (Ends state mark) → Stepped state last mark
    Limited : (next : State) (what : What) → move state mark.symbol ≡ Some next → limit_at state mark ≡ Some what
        → Step state last mark ≡ Err (Passes what (limit_place limit_of stands_before role move state last mark)) → Stepped state last mark
    Moved : (next : State) → move state mark.symbol ≡ Some next → limit_at state mark ≡ None → Step state last mark ≡ Ok next → Stepped state last mark

  pub stepped : (state : State) (last : ℕ) (mark : Mark) → Stepped state last mark
  stepped state last mark = go (move state mark.symbol) (limit_at state mark) refl refl
    where
      go : (moves : Option State) (limit : Option What) → move state mark.symbol ≡ moves → limit_at state mark ≡ limit → Stepped state last mark
      go None limit e f = Refused e (rw e refl)
      go (Some next) (Some what) e f = Limited next what e f (rw (e, f) refl)
      go (Some next) None e f = Moved next e f (rw (e, f) refl)

  -- ---- along states

  leads-append : (state middle last : State) (parts rest : List (Part Role)) → Led state parts middle → Led middle rest last → Led state (parts ++ rest) last
  leads-append state middle last [] rest e led = subst (λ s. Led s rest last) (sym e) led
  leads-append state middle last (part ∷ parts) rest (place, next, is, moves, led) behind = (place, next, is, moves, leads-append next middle last parts rest led behind)

  -- where the front of parts leads, and where the rest leads from there
  record IsPassed (state last : State) (parts rest : List (Part Role)) : Type 0 where
    middle : State
    front : Led state parts middle
    back : Led middle rest last

  passed : (state last : State) (parts rest : List (Part Role)) → Led state (parts ++ rest) last → IsPassed state last parts rest
  passed state last [] rest led = record { middle = state; front = refl; back = led }
  passed state last (part ∷ parts) rest (place, next, is, moves, led) =
      let behind = passed next last parts rest led in
      record { middle = behind.middle; front = (place, next, is, moves, behind.front); back = behind.back }

  pub along_leads : (state last : State) (marks : List Mark) (parts : List (Part Role)) → Along state marks parts last → Led state parts last
  along_leads state last [] [] e = e
  along_leads state last [] (part ∷ parts) e = absurd e
  along_leads state last (mark ∷ marks) [] e = absurd e
  along_leads state last (mark ∷ marks) (part ∷ parts) (next, is, moves, along) =
      rw is (mark.place, next, refl, moves, along_leads next last marks parts along)

  pub along_spelled : (state last : State) (marks : List Mark) (parts : List (Part Role)) → Along state marks parts last → symbols marks ≡ symbols_in parts
  along_spelled state last [] [] e = refl
  along_spelled state last [] (part ∷ parts) e = absurd e
  along_spelled state last (mark ∷ marks) [] e = absurd e
  along_spelled state last (mark ∷ marks) (part ∷ parts) (next, is, moves, along) =
      rw is (ap (λ (rest : List Symbol). mark.symbol ∷ rest) (along_spelled next last marks parts along))

  -- ---- what an answer says of the marks

  pub record IsRead (state last : State) (marks : List Mark) : Type 0 where
    pub parts : List (Part Role)
    pub along : Along state marks parts last
    pub within : AreWithin parts

  pub record IsEnded (state last : State) (marks : List Mark) (mark : Mark) : Type 0 where
    pub before : List Mark
    pub after : List Mark
    pub split : marks ≡ before ++ mark ∷ after
    pub front : IsRead state last before
    pub refused : move last mark.symbol ≡ None

  pub record IsPassing (state : State) (start : ℕ) (marks : List Mark) (what : What) (place : ℕ) : Type 0 where
    pub before : List Mark
    pub mark : Mark
    pub after : List Mark
    pub split : marks ≡ before ++ mark ∷ after
    pub last : State
    pub front : IsRead state last before
    pub next : State
    pub moves : move last mark.symbol ≡ Some next
    pub passes : limit_at last mark ≡ Some what
    pub here : limit_place limit_of stands_before role move last (last_of start before) mark ≡ place

  more_read : (state next last : State) (mark : Mark) (marks : List Mark) → move state mark.symbol ≡ Some next → limit_at state mark ≡ None → IsRead next last marks → IsRead state last (mark ∷ marks)
  more_read state next last mark marks moves limit rest = record { parts = part_at state mark ∷ rest.parts; along = (next, refl, moves, rest.along); within = (limit, rest.within) }

  pub run_reads : (state last : State) (start : ℕ) (marks : List Mark) → Run state start marks ≡ Ok last → IsRead state last marks
  run_reads state last start [] e = record { parts = []; along = cc; within = tt }
  run_reads state last start (mark ∷ marks) e =
      elim (stepped state start mark) [
        | Refused moves step ↦ let is : Err (Ends state mark) ≡ Ok last = rw step at e in absurd cc
        | Limited next what moves limit step ↦ let is : Err (Passes what (limit_place limit_of stands_before role move state start mark)) ≡ Ok last = rw step at e in absurd cc
        | Moved next moves limit step ↦ more_read state next last mark marks moves limit (run_reads next last mark.place marks (rw step at e))
      ]

  pub run_ends : (state last : State) (start : ℕ) (marks : List Mark) (mark : Mark) → Run state start marks ≡ Err (Ends last mark) → IsEnded state last marks mark
  run_ends state last start [] mark e = absurd cc
  run_ends state last start (first ∷ marks) mark e =
      elim (stepped state start first) [
        | Refused moves step ↦
            let is : Err (Ends state first) ≡ Err (Ends last mark) = rw step at e in
            let at : state ≡ last = cc is in
            let there : first ≡ mark = cc is in
            rw (← at, ← there) (record { before = []; after = marks; split = refl; front = record { parts = []; along = refl; within = tt }; refused = moves })
        | Limited next what moves limit step ↦ let is : Err (Passes what (limit_place limit_of stands_before role move state start first)) ≡ Err (Ends last mark) = rw step at e in absurd cc
        | Moved next moves limit step ↦
            let rest = run_ends next last first.place marks mark (rw step at e) in
            record { before = first ∷ rest.before; after = rest.after; split = ap (λ (ms : List Mark). first ∷ ms) rest.split; front = more_read state next last first rest.before moves limit rest.front; refused = rest.refused }
      ]

  pub run_passes : (state : State) (start : ℕ) (marks : List Mark) (what : What) (place : ℕ) → Run state start marks ≡ Err (Passes what place) → IsPassing state start marks what place
  run_passes state start [] what place e = absurd cc
  run_passes state start (first ∷ marks) what place e =
      elim (stepped state start first) [
        | Refused moves step ↦ let is : Err (Ends state first) ≡ Err (Passes what place) = rw step at e in absurd cc
        | Limited next some moves limit step ↦
            let is : Err (Passes some (limit_place limit_of stands_before role move state start first)) ≡ Err (Passes what place) = rw step at e in
            let one : some ≡ what = cc is in
            let at : limit_place limit_of stands_before role move state start first ≡ place = cc is in
            record { before = []; mark = first; after = marks; split = refl; last = state; front = record { parts = []; along = refl; within = tt }; next = next; moves = moves; passes = limit ∙ ap Some one; here = at }
        | Moved next moves limit step ↦
            let rest = run_passes next first.place marks what place (rw step at e) in
            record { before = first ∷ rest.before; mark = rest.mark; after = rest.after; split = ap (λ (ms : List Mark). first ∷ ms) rest.split; last = rest.last; front = more_read state next rest.last first rest.before moves limit rest.front; next = rest.next; moves = rest.moves; passes = rest.passes; here = rest.here }
      ]

  -- ---- what the sentences are

  module _ (IsSentence : List (Part Role) → Type 0) (first last : State) (grammar : IsGrammar limit_of stands_before role move IsSentence first last) where
    pub read_is : (marks : List Mark) (read : IsRead first last marks) → IsReadAs IsSentence limit_of marks read.parts
    read_is marks read = record {
      spelled = along_spelled first last marks read.parts read.along;
      sentence = grammar.sentence read.parts (along_leads first last marks read.parts read.along);
      within = read.within;
    }

    -- what leads to a state is the beginning of a sentence
    pub led_begins : (state : State) (parts : List (Part Role)) → Led first parts state → Begins IsSentence limit_of parts
    led_begins state parts led =
        let rest = grammar.goes_on state in
        (rest.0, grammar.sentence (parts ++ rest.0) (leads-append first state last parts rest.0 led rest.1))

    same_next : (one other : Option State) (next next' : State) → one ≡ other → one ≡ Some next → other ≡ Some next' → next ≡ next'
    same_next one other next next' e f g = let is : Some next ≡ Some next' = sym f ∙ e ∙ g in cc is

    refused_ends : (state stop : State) (before : List Mark) (mark : Mark) (parts : List (Part Role)) → Along state before parts stop → move stop mark.symbol ≡ None
        → (more rest : List (Part Role)) → symbols (before ++ mark ∷ []) ≡ symbols_in more → Led state (more ++ rest) last → ⊥
    refused_ends state stop [] mark [] e refused [] rest same led = absurd cc
    refused_ends state stop [] mark [] e refused (part ∷ more) rest same (place, next, is, moves, led) =
        let head : mark.symbol ≡ part.symbol = cc same in
        let none : move state mark.symbol ≡ None = rw e refused in
        let some : move state mark.symbol ≡ Some next = rw head moves in
        let both : None ≡ Some next = sym none ∙ some in
        absurd cc
    refused_ends state stop [] mark (part ∷ parts) e refused more rest same led = absurd e
    refused_ends state stop (m ∷ before) mark [] e refused more rest same led = absurd e
    refused_ends state stop (m ∷ before) mark (p ∷ parts) e refused [] rest same led = absurd cc
    refused_ends state stop (m ∷ before) mark (p ∷ parts) (next, is, moves, along) refused (part ∷ more) rest same (place, next', is', moves', led) =
        let head : m.symbol ≡ part.symbol = cc same in
        let tail : symbols (before ++ mark ∷ []) ≡ symbols_in more = cc same in
        let one : next' ≡ next = same_next (move state part.symbol) (move state m.symbol) next' next (ap (move state) (sym head)) moves' moves in
        refused_ends next stop before mark parts along refused more rest tail (subst (λ s. Led s (more ++ rest) last) one led)

    pub ended_is : (stop : State) (marks : List Mark) (mark : Mark) → IsEnded first stop marks mark → TextEndsAt IsSentence limit_of marks mark.place
    ended_is stop marks mark ended = record {
      before = ended.before;
      mark = mark;
      after = ended.after;
      split = ended.split;
      here = refl;
      parts = ended.front.parts;
      spelled = along_spelled first stop ended.before ended.front.parts ended.front.along;
      begins = led_begins stop ended.front.parts (along_leads first stop ended.before ended.front.parts ended.front.along);
      within = ended.front.within;
      ends = λ more same begins. refused_ends first stop ended.before mark ended.front.parts ended.front.along ended.refused more begins.0 same (grammar.leads (more ++ begins.0) begins.1);
    }

    pub passing_is : (marks : List Mark) (what : What) (place : ℕ) → IsPassing first 0 marks what place → LimitStandsAt IsSentence limit_of stands_before marks what place
    passing_is marks what place passing = record {
      before = passing.before;
      mark = passing.mark;
      after = passing.after;
      split = passing.split;
      parts = passing.front.parts;
      part = part_at passing.last passing.mark;
      spelled = along_spelled first passing.last passing.before passing.front.parts passing.front.along;
      read = refl;
      begins = led_begins passing.next (passing.front.parts ++ part_at passing.last passing.mark ∷ [])
          (leads-append first passing.last passing.next passing.front.parts (part_at passing.last passing.mark ∷ []) (along_leads first passing.last passing.before passing.front.parts passing.front.along) (passing.mark.place, passing.next, refl, passing.moves, refl));
      within = passing.front.within;
      passes = passing.passes;
      here = subst (λ k. limit_place limit_of stands_before role move passing.last k passing.mark ≡ place) (last_of-start passing.before) passing.here;
    }

    -- ---- and nothing else is

    -- parts that pass no limit are taken, wherever their symbols stand
    goes_along : (state stop : State) (start : ℕ) (marks rest : List Mark) (parts : List (Part Role)) → Led state parts stop → symbols marks ≡ symbols_in parts → AreWithin parts
        → Run state start (marks ++ rest) ≡ Run stop (last_of start marks) rest
    goes_along state stop start [] rest [] e same within = rw e refl
    goes_along state stop start [] rest (part ∷ parts) led same within = absurd cc
    goes_along state stop start (mark ∷ marks) rest [] e same within = absurd cc
    goes_along state stop start (mark ∷ marks) rest (part ∷ parts) (place, next, is, moves, led) same within =
        let head : mark.symbol ≡ part.symbol = cc same in
        let tail : symbols marks ≡ symbols_in parts = cc same in
        let moved : move state mark.symbol ≡ Some next = ap (move state) head ∙ moves in
        let free : limit_of (role state part.symbol place) part.symbol ≡ None = rw (← is) within.0 in
        let limit : limit_at state mark ≡ None = ap (λ (s : Symbol). limit_of (role state s mark.place) s) head ∙ grammar.limit state part.symbol mark.place place ∙ free in
        let one : Step state start mark ≡ Ok next = rw (moved, limit) refl in
        rw one (goes_along next stop mark.place marks rest parts led tail within.1)

    pub reading_runs : (marks : List Mark) (parts : List (Part Role)) → IsReadAs IsSentence limit_of marks parts → Run first 0 marks ≡ Ok last
    reading_runs marks parts read =
        ap (Run first 0) (sym (append-nil marks)) ∙ goes_along first last 0 marks [] parts (grammar.leads parts read.sentence) read.spelled read.within

    symbols-append : (marks : List Mark) (mark : Mark) (parts : List (Part Role)) (part : Part Role) → symbols marks ≡ symbols_in parts → mark.symbol ≡ part.symbol → symbols (marks ++ mark ∷ []) ≡ symbols_in (parts ++ part ∷ [])
    symbols-append [] mark [] part same here = ap (λ (s : Symbol). s ∷ []) here
    symbols-append [] mark (p ∷ parts) part same here = absurd cc
    symbols-append (m ∷ marks) mark [] part same here = absurd cc
    symbols-append (m ∷ marks) mark (p ∷ parts) part same here =
        let head : m.symbol ≡ p.symbol = cc same in
        let tail : symbols marks ≡ symbols_in parts = cc same in
        rw head (ap (λ (ss : List Symbol). p.symbol ∷ ss) (symbols-append marks mark parts part tail here))

    pub ends_run : (marks : List Mark) (place : ℕ) → TextEndsAt IsSentence limit_of marks place → (stop : State) × (mark : Mark) × (mark.place ≡ place) × (Run first 0 marks ≡ Err (Ends stop mark))
    ends_run marks place ends =
        let front = passed first last ends.parts ends.begins.0 (grammar.leads (ends.parts ++ ends.begins.0) ends.begins.1) in
        let to : Run first 0 marks ≡ Run front.middle (last_of 0 ends.before) (ends.mark ∷ ends.after) =
        ap (Run first 0) ends.split ∙ goes_along first front.middle 0 ends.before (ends.mark ∷ ends.after) ends.parts front.front ends.spelled ends.within in
        let goes : (next : State) → move front.middle ends.mark.symbol ≡ Some next → ⊥ =
        λ next moves. ends.ends (ends.parts ++ part_at front.middle ends.mark ∷ []) (symbols-append ends.before ends.mark ends.parts (part_at front.middle ends.mark) ends.spelled refl)
        (led_begins next (ends.parts ++ part_at front.middle ends.mark ∷ []) (leads-append first front.middle next ends.parts (part_at front.middle ends.mark ∷ []) front.front (ends.mark.place, next, refl, moves, refl))) in
        elim (stepped front.middle (last_of 0 ends.before) ends.mark) [
          | Refused moves step ↦ (front.middle, ends.mark, ends.here, to ∙ (rw step refl))
          | Limited next what moves limit step ↦ absurd (goes next moves)
          | Moved next moves limit step ↦ absurd (goes next moves)
        ]

    pub passes_run : (marks : List Mark) (what : What) (place : ℕ) → LimitStandsAt IsSentence limit_of stands_before marks what place → Run first 0 marks ≡ Err (Passes what place)
    passes_run marks what place limit =
        let begins : Led first (limit.parts ++ (limit.part ∷ limit.begins.0)) last =
        subst (λ ps. Led first ps last) (append_assoc limit.parts (limit.part ∷ []) limit.begins.0) (grammar.leads ((limit.parts ++ limit.part ∷ []) ++ limit.begins.0) limit.begins.1) in
        let front = passed first last limit.parts (limit.part ∷ limit.begins.0) begins in
        let to : Run first 0 marks ≡ Run front.middle (last_of 0 limit.before) (limit.mark ∷ limit.after) =
        ap (Run first 0) limit.split ∙ goes_along first front.middle 0 limit.before (limit.mark ∷ limit.after) limit.parts front.front limit.spelled limit.within in
        let behind = front.back in
        let there = behind.0 in
        let next = behind.1 in
        let moved : move front.middle limit.mark.symbol ≡ Some next = ap (move front.middle) limit.read ∙ behind.3 in
        let passes : limit_of (role front.middle limit.part.symbol there) limit.part.symbol ≡ Some what = rw (← behind.2) limit.passes in
        let passed : limit_at front.middle limit.mark ≡ Some what =
        ap (λ (s : Symbol). limit_of (role front.middle s limit.mark.place) s) limit.read ∙ grammar.limit front.middle limit.part.symbol limit.mark.place there ∙ passes in
        let before : stands_before (role front.middle limit.mark.symbol limit.mark.place) ≡ stands_before limit.part.role =
        ap (λ (s : Symbol). stands_before (role front.middle s limit.mark.place)) limit.read ∙ grammar.before front.middle limit.part.symbol limit.mark.place there ∙ ap stands_before (sym behind.2) in
        let at : limit_place limit_of stands_before role move front.middle (last_of 0 limit.before) limit.mark ≡ place =
        ap (λ (b : Bool). cond b (last_of 0 limit.before) limit.mark.place) before ∙ ap (λ (k : ℕ). cond (stands_before limit.part.role) k limit.mark.place) (last_of-start limit.before) ∙ limit.here in
        to ∙ rw (moved, passed, at) refl

    -- where a beginning leads, marks of its symbols lead too
    pub record IsBegun (marks : List Mark) (parts : List (Part Role)) : Type 0 where
      pub middle : State
      pub leads : Led first parts middle
      pub runs : (rest : List Mark) → Run first 0 (marks ++ rest) ≡ Run middle (last_of 0 marks) rest

    pub begun : (marks : List Mark) (parts : List (Part Role)) → symbols marks ≡ symbols_in parts → Begins IsSentence limit_of parts → AreWithin parts → IsBegun marks parts
    begun marks parts same begins within =
        let front = passed first last parts begins.0 (grammar.leads (parts ++ begins.0) begins.1) in
        record { middle = front.middle; leads = front.front; runs = λ rest. goes_along first front.middle 0 marks rest parts front.front same within }

-- ---- in other words for what is passed

abbrev pub stop_as : {State What Other : Type 0} → (What → Other) → Result State (Stop State What) → Result State (Stop State Other)
stop_as f (Ok state) = Ok state
stop_as f (Err (Ends state mark)) = Err (Ends state mark)
stop_as f (Err (Passes what place)) = Err (Passes (f what) place)

module _ {Role State What Other : Type 0} (f : What → Other) (limit_of : Role → Symbol → Option What) (other_of : Role → Symbol → Option Other) (is : (role : Role) (symbol : Symbol) → other_of role symbol ≡ option_map f (limit_of role symbol)) (stands_before : Role → Bool) (role : State → Symbol → ℕ → Role) (move : State → Symbol → Option State) where
  pub run_as : (state : State) (last : ℕ) (marks : List Mark) → run other_of stands_before role move state last marks ≡ stop_as f (run limit_of stands_before role move state last marks)
  run_as state last [] = refl
  run_as state last (mark ∷ marks) = go (λ next. run_as next mark.place marks) (move state mark.symbol) (limit_of (role state mark.symbol mark.place) mark.symbol) refl refl
    where
      other : (what : Option What) → limit_of (role state mark.symbol mark.place) mark.symbol ≡ what → other_of (role state mark.symbol mark.place) mark.symbol ≡ option_map f what
      other what e = is (role state mark.symbol mark.place) mark.symbol ∙ ap (option_map f) e

      go : ((next : State) → run other_of stands_before role move next mark.place marks ≡ stop_as f (run limit_of stands_before role move next mark.place marks)) → (to : Option State) (what : Option What)
          → move state mark.symbol ≡ to → limit_of (role state mark.symbol mark.place) mark.symbol ≡ what
          → run other_of stands_before role move state last (mark ∷ marks) ≡ stop_as f (run limit_of stands_before role move state last (mark ∷ marks))
      go behind None what e g = rw e refl
      go behind (Some next) None e g = rw (e, g, other None g) (behind next)
      go behind (Some next) (Some what) e g = rw (e, g, other (Some what) g) refl
