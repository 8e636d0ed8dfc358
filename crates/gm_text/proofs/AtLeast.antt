-- Marks that end as a text's do are read by a grammar of states, or have a first fault.
use Rattle.std.proofs.Common.{◌≡◌, ℕ, Bool, List, [], ◌∷◌, ◌++◌, Option, Some, None, Result, Ok, Err, refl, ap, ◌∙◌}
use Rattle.gm_model.specs.Symbols.{Symbol, Mark}
use Rattle.gm_model.specs.Reading.{Part, IsReadAs, TextEndsAt, LimitStandsAt}
use Rattle.gm_text.specs.inner.Machine.{Stop, Ends, Passes, IsGrammar, limit_place, run}
use Rattle.gm_text.specs.inner.SchemaAnswers.{IsNoToken}
use Rattle.gm_text.proofs.Machine.{stepped, Refused, Limited, Moved, IsRead, run_reads, run_ends, run_passes, read_is, ended_is, passing_is}

-- no token stands at the last mark, and there is one
abbrev pub EndAsTexts : List Mark → Type 0
EndAsTexts [] = ⊥
EndAsTexts (mark ∷ []) = IsNoToken mark.symbol
EndAsTexts (mark ∷ next ∷ marks) = EndAsTexts (next ∷ marks)

module _ {Role State What : Type 0} (limit_of : Role → Symbol → Option What) (stands_before : Role → Bool) (role : State → Symbol → ℕ → Role) (move : State → Symbol → Option State) where
  abbrev Run : State → ℕ → List Mark → Result State (Stop State What)
  Run state last marks = run limit_of stands_before role move state last marks

  abbrev place_at : State → ℕ → Mark → ℕ
  place_at state last mark = limit_place limit_of stands_before role move state last mark

  -- where reading stops at a mark, those before it lead there
  pub record IsCut (state stop : State) (start : ℕ) (marks : List Mark) (mark : Mark) : Type 0 where
    pub before : List Mark
    pub after : List Mark
    pub split : marks ≡ before ++ mark ∷ after
    pub runs : Run state start before ≡ Ok stop
    pub refused : move stop mark.symbol ≡ None

  pub cut : (state stop : State) (start : ℕ) (marks : List Mark) (mark : Mark) → Run state start marks ≡ Err (Ends stop mark) → IsCut state stop start marks mark
  cut state stop start [] mark e = absurd cc
  cut state stop start (first ∷ marks) mark e =
      elim (stepped limit_of stands_before role move state start first) [
        | Refused moves step ↦
            let is : Err (Ends state first) ≡ Err (Ends stop mark) = rw step at e in
            let at : state ≡ stop = cc is in
            let there : first ≡ mark = cc is in
            rw (← at, ← there) (record { before = []; after = marks; split = refl; runs = refl; refused = moves })
        | Limited next what moves limit step ↦ let is : Err (Passes what (place_at state start first)) ≡ Err (Ends stop mark) = rw step at e in absurd cc
        | Moved next moves limit step ↦
            let rest = cut next stop first.place marks mark (rw step at e) in
            record { before = first ∷ rest.before; after = rest.after; split = ap (λ (ms : List Mark). first ∷ ms) rest.split; runs = rw step rest.runs; refused = rest.refused }
      ]

  -- ---- behind the last mark

  -- what holds of each state that is behind a mark of no token holds behind all marks
  pub behind_all : (P : State → Type 0) → ((state next : State) (symbol : Symbol) → IsNoToken symbol → move state symbol ≡ Some next → P next)
      → (state to : State) (start : ℕ) (marks : List Mark) → EndAsTexts marks → Run state start marks ≡ Ok to → P to
  behind_all P closed state to start [] end e = absurd end
  behind_all P closed state to start (mark ∷ []) end e =
      elim (stepped limit_of stands_before role move state start mark) [
        | Refused moves step ↦ let is : Err (Ends state mark) ≡ Ok to = rw step at e in absurd cc
        | Limited next what moves limit step ↦ let is : Err (Passes what (place_at state start mark)) ≡ Ok to = rw step at e in absurd cc
        | Moved next moves limit step ↦ let is : Ok next ≡ Ok to = rw step at e in let at : next ≡ to = cc is in rw (← at) (closed state next mark.symbol end moves)
      ]
  behind_all P closed state to start (mark ∷ second ∷ marks) end e =
      elim (stepped limit_of stands_before role move state start mark) [
        | Refused moves step ↦ let is : Err (Ends state mark) ≡ Ok to = rw step at e in absurd cc
        | Limited next what moves limit step ↦ let is : Err (Passes what (place_at state start mark)) ≡ Ok to = rw step at e in absurd cc
        | Moved next moves limit step ↦ behind_all P closed next to mark.place (second ∷ marks) end (rw step at e)
      ]

  -- ---- read, or at fault

  module _ (IsSentence : List (Part Role) → Type 0) (first last : State) (grammar : IsGrammar limit_of stands_before role move IsSentence first last) where
    pub data IsAnswered (marks : List Mark) : Type 0 where
      Read : (read : IsRead limit_of stands_before role move first last marks) → IsReadAs IsSentence limit_of marks read.parts → IsAnswered marks
      Ended : (place : ℕ) → TextEndsAt IsSentence limit_of marks place → IsAnswered marks
      Passed : (what : What) (place : ℕ) → LimitStandsAt IsSentence limit_of stands_before marks what place → IsAnswered marks

    -- behind a mark of no token the grammar is at its last state
    pub answered : ((state next : State) (symbol : Symbol) → IsNoToken symbol → move state symbol ≡ Some next → next ≡ last) → (marks : List Mark) → EndAsTexts marks → IsAnswered marks
    answered closed marks end = go (Run first 0 marks) refl
      where
        go : (answer : Result State (Stop State What)) → Run first 0 marks ≡ answer → IsAnswered marks
        go (Ok to) e =
            let at : to ≡ last = behind_all (λ s. s ≡ last) closed first to 0 marks end e in
            let read = run_reads limit_of stands_before role move first last 0 marks (e ∙ ap Ok at) in
            Read read (read_is limit_of stands_before role move IsSentence first last grammar marks read)
        go (Err (Ends stop mark)) e =
            Ended mark.place (ended_is limit_of stands_before role move IsSentence first last grammar stop marks mark (run_ends limit_of stands_before role move first stop 0 marks mark e))
        go (Err (Passes what place)) e =
            Passed what place (passing_is limit_of stands_before role move IsSentence first last grammar marks what place (run_passes limit_of stands_before role move first 0 marks what place e))
