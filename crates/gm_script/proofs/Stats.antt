-- What the reader answers: the statements that are written in the text, or its first fault.
use Rattle.std.proofs.Common.{◌≡◌, ℕ, ◌-◌, ◌≤◌, Bool, true, false, List, [], ◌∷◌, ◌++◌, length, map, Option, Some, None, Result, Ok, Err, refl, sym, ap, subst, ◌∙◌, arith}
use Rattle.std.proofs.lemmas.Bool.{false≢true}
use Rattle.std.proofs.lemmas.List.{length-take, length-drop, append-nil, append_assoc}
use Rattle.std.specs.Option.{option_map}
use Rattle.gm_model.specs.declared.token.Token.{Token}
use Rattle.gm_model.specs.declared.token.TokenKind.{TokenKind}
use Rattle.gm_model.specs.declared.token.TokenKind.TheVariants as kinds
use Rattle.gm_model.specs.Tokens.{Item, Lexed, StrayAt, EndAt, items_of, bytes_of}
use Rattle.gm_model.specs.Symbols.{Symbol, Word, Stray, End, Mark, symbols, mark_of, symbol_of_kind, marks_of}
use Rattle.gm_model.specs.Reading.{Part, symbols_in, IsWithin, TextEndsAt, LimitStandsAt, the_end, ArePlaced}
use Rattle.gm_model.specs.Rules.{Rule}
use Rattle.gm_text.specs.SchemaText.{Passed, LimitOf, Again}
use Rattle.gm_script.specs.ScriptText.{StatForm, Role, Fixed, passed_of, spelling, IsForm, IsSentence, IsPlacedAt}
use Rattle.gm_text.specs.inner.Machine as machine
use Rattle.gm_text.specs.inner.Machine.{run}
use Rattle.gm_text.proofs.Machine.{run_ends, run_passes, ended_is, passing_is}
use Rattle.gm_script.specs.inner.Reading.{HeldStat, Held, Been, been_of, been_behind, first_state, State, At, Ended, Stop, Ends, Passes, Lost, can_end, move, role_at, role_in, never, sight_of, next_spot, passed_in, hold, symbol_at, taken_at, finished, read_from, whole_stat, ended_by, put_first, nothing, stats_of, Fails, ◌>>=◌, IsInText}
use Rattle.gm_script.proofs.HeldStats.{AreHeld, AreOfText}
use Rattle.gm_script.specs.inner.Faults.{of_text, IsFaultOf}
use Rattle.gm_script.specs.declared.reader.TextFault.{TextFault}
use Rattle.gm_script.specs.declared.reader.TextFault.TheVariants as faults
use Rattle.gm_script.specs.declared.sight.Sight.{Sight}
use Rattle.gm_script.specs.declared.sight.Sight.TheVariants as sights
use Rattle.gm_script.specs.declared.spot.Spot.{Spot}
use Rattle.gm_script.specs.declared.spot.Spot.TheVariants as spots
use Rattle.gm_script.proofs.Drafts.{Draft, so_far, IsDraft}
use Rattle.gm_script.proofs.Steps.{part_in, add, add_next, whole_stats, whole, none_other}
use Rattle.gm_script.proofs.Held.{IsHeld, been_next, held_next, held_whole, held_ended}
use Rattle.gm_script.proofs.Tokens.{AreInText, all_in_text}
use Rattle.gm_script.proofs.Grammar.{no_stats, nothing_written, grammar}
use Rattle.gm_script.proofs.Limits.{same_limit}

-- ---- the symbol of a token

word_at : (kind : TokenKind) (bytes other : List ℕ) → symbol_of_kind kind bytes ≡ Word other → bytes ≡ other
word_at kinds.Name bytes other e = cc
word_at kinds.Number bytes other e = absurd cc
word_at kinds.Gone bytes other e = absurd cc
word_at kinds.Sign bytes other e = absurd cc

moves_on : (spot : Spot) (been : Been) (kind : TokenKind) (bytes : List ℕ)
    → move (At spot been) (symbol_of_kind kind bytes) ≡ option_map (λ next. At next (been_behind spot (sight_of (symbol_of_kind kind bytes)) (symbol_of_kind kind bytes) been)) (next_spot been.within spot (sight_of (symbol_of_kind kind bytes)))
moves_on spot been kinds.Name bytes = refl
moves_on spot been kinds.Number bytes = refl
moves_on spot been kinds.Gone bytes = refl
moves_on spot been kinds.Sign bytes = refl

pub front_moves : (before : List HeldStat) (stat : Option HeldStat) (others : List HeldStat) → (before ++ put_first stat []) ++ others ≡ before ++ put_first stat others
front_moves before None others = ap (λ (stats : List HeldStat). stats ++ others) (append-nil before)
front_moves before (Some stat) others = append_assoc before (stat ∷ []) others

-- labels go up to a number that is not great
module _ (n : ℕ) (low : n ≤ 7) (text : List ℕ) where
  sized : (token : Token) → IsInText text token → (bytes : List ℕ) → symbol_at text token ≡ Word bytes → length bytes ≡ token.end - token.start
  sized token inside bytes e =
      ap length (sym (word_at token.kind (bytes_of text token) bytes e)) ∙ omega (arith, length-take {A = ℕ}, length-drop {A = ℕ}, inside.order, inside.within)

  -- ---- a token

  abbrev seen_in : Token → Sight
  seen_in token = sight_of (symbol_at text token)

  abbrev passed_at : Held → Token → Option Passed
  passed_at held token = passed_in n held.spot (been_of held) (seen_in token) (token.end - token.start)

  abbrev next_held : Held → Token → Spot → Held
  next_held held token to = record (hold held.spot (seen_in token) token held) { spot = to }

  data TokenRead (held : Held) (token : Token) : Type 0 where
    Refused : next_spot held.within held.spot (seen_in token) ≡ None → taken_at n (seen_in token) token held ≡ Err (Ends token.start) → TokenRead held token
    Limited : (to : Spot) (what : Passed) → next_spot held.within held.spot (seen_in token) ≡ Some to → passed_at held token ≡ Some what → taken_at n (seen_in token) token held ≡ Err (Passes what token.start) → TokenRead held token
    Taken : (to : Spot) → next_spot held.within held.spot (seen_in token) ≡ Some to → passed_at held token ≡ None → taken_at n (seen_in token) token held ≡ Ok (next_held held token to) → TokenRead held token

  token_read : (held : Held) (token : Token) → TokenRead held token
  token_read held token =
      by (next_spot held.within held.spot (seen_in token)) (passed_at held token) refl refl
    where
      by : (next : Option Spot) (passed : Option Passed) → next_spot held.within held.spot (seen_in token) ≡ next → passed_at held token ≡ passed → TokenRead held token
      by None passed e f = Refused e (rw e refl)
      by (Some to) (Some what) e f = Limited to what e f (rw (e, f) refl)
      by (Some to) None e f = Taken to e f (rw (e, f) refl)

  limit_is : (held : Held) (token : Token) (to : Spot) → IsInText text token → next_spot held.within held.spot (seen_in token) ≡ Some to
      → passed_of (role_at n (At held.spot (been_of held)) (symbol_at text token) token.start) (symbol_at text token) ≡ passed_at held token
  limit_is held token to inside e = same_limit n low held.spot to (been_of held) token.start (token.end - token.start) (symbol_at text token) (sized token inside) e

  been_is : (held : Held) (token : Token) (to : Spot) → next_spot held.within held.spot (seen_in token) ≡ Some to → passed_at held token ≡ None
      → been_of (next_held held token to) ≡ been_behind held.spot (seen_in token) (symbol_at text token) (been_of held)
  been_is held token to e free = been_next n low token held held.spot to (symbol_at text token) (token.end - token.start) e free

  -- ---- as states do

  abbrev Run : State → ℕ → List Item → Result State (machine.Stop State Passed)
  Run state start items = run passed_of never (role_at n) move state start (map (mark_of text) items)

  abbrev pub Agrees : Result (List HeldStat) Stop → Result State (machine.Stop State Passed) → Type 0
  Agrees (Ok stats) answer = answer ≡ Ok Ended
  Agrees (Err (Ends place)) answer = (state : State) × (mark : Mark) × (mark.place ≡ place) × (answer ≡ Err (machine.Ends state mark))
  Agrees (Err (Passes what place)) answer = answer ≡ Err (machine.Passes what place)
  Agrees (Err Lost) answer = Unit {0}

  at_end : (place start : ℕ) (held : Held) → Agrees (finished place held >>= λ stat. Ok (put_first stat [])) (Run (At held.spot (been_of held)) start (EndAt place ∷ []))
  at_end place start held = by (can_end held.within held.spot) refl
    where
      fixed : (within : Bool) (spot : Spot) → can_end within spot ≡ true → passed_of (role_in n spot (been_of held) sights.Other place) End ≡ None
      fixed true spot can = absurd (false≢true can)
      fixed false spots.Start can = refl
      fixed false spots.Bare can = refl
      fixed false spots.Rule can = refl
      fixed false spots.Named can = refl
      fixed false spots.Value can = refl
      fixed false _ can = absurd (false≢true can)

      by : (can : Bool) → can_end held.within held.spot ≡ can → Agrees (finished place held >>= λ stat. Ok (put_first stat [])) (Run (At held.spot (been_of held)) start (EndAt place ∷ []))
      by true e = rw (e, fixed held.within held.spot e) refl
      by false e = rw e (At held.spot (been_of held), record { symbol = End; place = place }, refl, refl)

  agrees_more : (stat : Option HeldStat) (read : Result (List HeldStat) Stop) (answer : Result State (machine.Stop State Passed)) → Agrees read answer → Agrees (read >>= λ stats. Ok (put_first stat stats)) answer
  agrees_more stat (Ok stats) answer agreed = agreed
  agrees_more stat (Err (Ends place)) answer agreed = agreed
  agrees_more stat (Err (Passes what place)) answer agreed = agreed
  agrees_more stat (Err Lost) answer agreed = agreed

  pub agrees : (items : List Item) (held : Held) (start : ℕ) → AreInText text items → Agrees (read_from n text held items) (Run (At held.spot (been_of held)) start items)
  agrees [] held start inside = tt
  agrees (StrayAt place ∷ items) held start inside = (At held.spot (been_of held), record { symbol = Stray; place = place }, refl, rw (none_other n held.within held.spot) refl)
  agrees (EndAt place ∷ []) held start inside = at_end place start held
  agrees (EndAt place ∷ item ∷ items) held start inside = tt
  agrees (Lexed token ∷ items) held start inside =
      let moves = moves_on held.spot (been_of held) token.kind (bytes_of text token) in
      elim (token_read held token) [
        | Refused e f ↦ rw f (At held.spot (been_of held), record { symbol = symbol_at text token; place = token.start }, refl, rw (moves, e) refl)
        | Limited to what e l f ↦ let limit = limit_is held token to inside.0 e in rw f (rw (moves, e, limit, l) refl)
        | Taken to e l f ↦
            let limit = limit_is held token to inside.0 e in
            let been = been_is held token to e l in
            let next = next_held held token to in
            let rest = agrees_more (ended_by held.spot (seen_in token) held.stat) (read_from n text next items) (Run (At to (been_of next)) token.start items) (agrees items next token.start inside.1) in
            rw f (rw (moves, e, limit, l, ← been) rest)
      ]

  -- ---- the statements that are written

  record Read (items : List Item) (held : Held) (draft : Draft) (stats : List HeldStat) : Type 0 where
    forms : List StatForm
    form : IsForm forms
    are_held : AreHeld text stats forms
    parts : List (Part Role)
    spelled : symbols (map (mark_of text) items) ≡ symbols_in parts
    within : IsWithin (IsSentence n) passed_of parts
    placed : ArePlaced IsPlacedAt (map (mark_of text) items) parts
    written : so_far n held.spot held.begun draft parts ≡ spelling n forms

  placed_at : (spot : Spot) (been : Been) (sight : Sight) (place : ℕ) → IsPlacedAt place (role_in n spot been sight place)
  placed_at spots.Apply been sight place = refl
  placed_at spots.Over been sight place = refl
  placed_at spots.Rule been (sights.Number m) place = tt
  placed_at spots.Orbit been (sights.Number m) place = tt
  placed_at _ been (sights.Begins head) place = refl
  placed_at _ been _ place = tt

  whole_read : (place : ℕ) (held : Held) (draft : Draft) (stats : List HeldStat) → IsDraft held.spot (been_of held) draft → can_end held.within held.spot ≡ true → AreHeld text stats (whole_stats held.spot draft) → Read (EndAt place ∷ []) held draft stats
  whole_read place held draft stats good can are =
      let all = whole n held.spot (been_of held) draft good can in
      record { forms = whole_stats held.spot draft; form = all.form; are_held = are; parts = the_end Fixed ∷ []; spelled = refl; within = (refl, tt); placed = (tt, tt); written = all.written }

  end_read : (place : ℕ) (held : Held) (draft : Draft) (before stats : List HeldStat) → AreHeld text before draft.stats → IsHeld text held draft → IsDraft held.spot (been_of held) draft
      → (finished place held >>= λ stat. Ok (put_first stat [])) ≡ Ok stats → Read (EndAt place ∷ []) held draft (before ++ stats)
  end_read place held draft before stats are is good e =
      by (can_end held.within held.spot) refl
    where
      by : (b : Bool) → can_end held.within held.spot ≡ b → Read (EndAt place ∷ []) held draft (before ++ stats)
      by true can =
          let same : put_first (whole_stat held.spot held.stat) [] ≡ stats = cc (rw can at e) in
          whole_read place held draft (before ++ stats) good can (rw (← same) (held_whole text before held draft are is held.spot))
      by false can = let never : Err (Ends place) ≡ Ok stats = rw can at e in absurd cc

  more_read : (token : Token) (items : List Item) (held : Held) (draft : Draft) (stats : List HeldStat) (to : Spot) → IsInText text token → IsDraft held.spot (been_of held) draft
      → next_spot held.within held.spot (seen_in token) ≡ Some to → passed_at held token ≡ None
      → Read items (next_held held token to) (add n held.spot (seen_in token) (symbol_at text token) token.start draft) stats → Read (Lexed token ∷ items) held draft stats
  more_read token items held draft stats to inside good e l rest =
      let symbol = symbol_at text token in
      let sight = sight_of symbol in
      let been = been_is held token to e l in
      let more = add_next n held.spot (been_of held) token.start symbol draft to good e in
      record {
        forms = rest.forms;
        form = rest.form;
        are_held = rest.are_held;
        parts = part_in n held.spot (been_of held) sight token.start symbol ∷ rest.parts;
        spelled = ap (λ (ss : List Symbol). symbol ∷ ss) rest.spelled;
        within = (limit_is held token to inside e ∙ l, rest.within);
        placed = (placed_at held.spot (been_of held) sight token.start, rest.placed);
        written = sym (more.written rest.parts) ∙ ap (λ (b : Been). so_far n to b.begun (add n held.spot sight symbol token.start draft) rest.parts) (sym been) ∙ rest.written;
      }

  -- the statements behind one that has ended, if it has
  data Behind (stat : Option HeldStat) (read : Result (List HeldStat) Stop) (stats : List HeldStat) : Type 0 where
    AreBehind : (others : List HeldStat) → read ≡ Ok others → put_first stat others ≡ stats → Behind stat read stats

  behind : (stat : Option HeldStat) (read : Result (List HeldStat) Stop) (stats : List HeldStat) → (read >>= λ others. Ok (put_first stat others)) ≡ Ok stats → Behind stat read stats
  behind stat (Ok others) stats e = AreBehind others refl (cc e)
  behind stat (Err stop) stats e = absurd cc

  reads : (items : List Item) (held : Held) (draft : Draft) (before : List HeldStat) → AreInText text items → AreHeld text before draft.stats → IsHeld text held draft → IsDraft held.spot (been_of held) draft
      → (stats : List HeldStat) → read_from n text held items ≡ Ok stats → Read items held draft (before ++ stats)
  reads [] held draft before inside are is good stats e = absurd cc
  reads (StrayAt place ∷ items) held draft before inside are is good stats e = absurd cc
  reads (EndAt place ∷ []) held draft before inside are is good stats e = end_read place held draft before stats are is good e
  reads (EndAt place ∷ item ∷ items) held draft before inside are is good stats e = absurd cc
  reads (Lexed token ∷ items) held draft before inside are is good stats e =
      elim (token_read held token) [
        | Refused f step ↦ let same : Err (Ends token.start) ≡ Ok stats = rw step at e in absurd cc
        | Limited to what f l step ↦ let same : Err (Passes what token.start) ≡ Ok stats = rw step at e in absurd cc
        | Taken to f l step ↦
            let symbol = symbol_at text token in
            let sight = sight_of symbol in
            let next = next_held held token to in
            let draft' = add n held.spot sight symbol token.start draft in
            let is' : IsHeld text next draft' = held_next text token inside.0 n low held.spot to (been_of held) symbol held draft (token.end - token.start) is (word_at token.kind (bytes_of text token)) l in
            let been = been_is held token to f l in
            let more = add_next n held.spot (been_of held) token.start symbol draft to good f in
            let good' : IsDraft to (been_of next) draft' = subst (λ (b : Been). IsDraft to b draft') (sym been) more.good in
            let ended = ended_by held.spot sight held.stat in
            let are' : AreHeld text (before ++ put_first ended []) draft'.stats = held_ended text before held draft are is n held.spot sight symbol token.start in
            let same : (read_from n text next items >>= λ others. Ok (put_first ended others)) ≡ Ok stats = rw step at e in
            elim (behind ended (read_from n text next items) stats same) [
              | AreBehind others read put ↦
                  let rest = reads items next draft' (before ++ put_first ended []) inside.1 are' is' good' others read in
                  rw (← put, ← front_moves before ended others) (more_read token items held draft ((before ++ put_first ended []) ++ others) to inside.0 good f l rest)
            ]
      ]

  nothing_held : IsHeld text nothing no_stats
  nothing_held = record {
    stat = record { place = refl; head = refl; name = refl; name_place = refl; in_text = record { order = omega arith; within = omega arith }; hooks = refl; labels = refl; values = refl };
    x = refl;
    y = refl;
    z = refl;
  }

  -- ---- what a reader answers

  pub stats_are : (stats : List HeldStat) → stats_of n text ≡ Ok stats → AreOfText n text stats
  stats_are stats e =
      let read = reads (items_of text) nothing no_stats [] (all_in_text text) tt nothing_held (nothing_written n) stats e in
      let spelled : symbols (marks_of text) ≡ symbols_in (spelling n read.forms) = read.spelled ∙ ap symbols_in read.written in (
        read.forms,
        record {
          form = read.form;
          read = record { spelled = spelled; sentence = (read.forms, read.form, refl); within = subst (IsWithin (IsSentence n) passed_of) read.written read.within };
          placed = subst (ArePlaced IsPlacedAt (marks_of text)) read.written read.placed;
        },
        read.are_held,
      )

  pub answer_agrees : Agrees (stats_of n text) (run passed_of never (role_at n) move first_state 0 (marks_of text))
  answer_agrees = agrees (items_of text) nothing 0 (all_in_text text)

  passed_is : (what : Passed) (place : ℕ) → stats_of n text ≡ Err (Passes what place) → LimitStandsAt (IsSentence n) passed_of never (marks_of text) what place
  passed_is what place e =
      let agreed = subst (λ r. Agrees r (run passed_of never (role_at n) move first_state 0 (marks_of text))) e answer_agrees in
      let passing = run_passes passed_of never (role_at n) move first_state 0 (marks_of text) what place agreed in
      passing_is passed_of never (role_at n) move (IsSentence n) first_state Ended (grammar n) (marks_of text) what place passing

  pub fault_is : (rules : List Rule) (fault : TextFault) → Fails fault (stats_of n text) → IsFaultOf text n rules (of_text fault)
  fault_is rules faults.OutOfMemory e = tt
  fault_is rules (faults.Text place) e =
      let agreed = subst (λ r. Agrees r (run passed_of never (role_at n) move first_state 0 (marks_of text))) e answer_agrees in
      let ended = run_ends passed_of never (role_at n) move first_state agreed.0 0 (marks_of text) agreed.1 agreed.3 in
      subst (TextEndsAt (IsSentence n) passed_of (marks_of text)) agreed.2 (ended_is passed_of never (role_at n) move (IsSentence n) first_state Ended (grammar n) agreed.0 (marks_of text) agreed.1 ended)
  fault_is rules (faults.Limit what place) e = passed_is (LimitOf what) place e
  fault_is rules (faults.Twice place) e = passed_is Again place e
