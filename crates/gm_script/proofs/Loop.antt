-- Statements that are compared as they are read: what was read and compared so far, and what that says at each end.
use Rattle.std.proofs.Common.{◌≡◌, ℕ, ◌-◌, ◌≤◌, List, [], ◌∷◌, ◌++◌, true, false, Option, Some, None, is_some, Result, Ok, Err, IfOk, IfErr, OnOk, refl, sym, ap, subst, ◌∙◌, arith}
use Rattle.std.proofs.lemmas.Option.{none-some}
use Rattle.std.proofs.lemmas.List.{append-nil}
use Rattle.gm_model.specs.declared.script.Script.{Script}
use Rattle.gm_model.specs.Statements.{Stat}
use Rattle.gm_model.specs.declared.token.Token.{Token}
use Rattle.gm_model.specs.Tokens.{Item, Lexed, EndAt, items_of}
use Rattle.gm_model.specs.Rules.{Rule}
use Rattle.gm_text.specs.SchemaText.{Passed}
use Rattle.gm_script.specs.ScriptText.{ScriptText, Disagreement}
use Rattle.gm_script.specs.inner.Comparing.{stat_for, stats_for}
use Rattle.gm_script.specs.inner.Comparing as comparing
use Rattle.gm_script.specs.inner.Faults.{of_text, IsFaultOf, Says, unless}
use Rattle.gm_script.specs.inner.Reading.{HeldStat, Held, Stop, before_head, been_of, sight_of, symbol_at, next_spot, passed_in, hold, hold_head, hold_number, hold_vector, taken, taken_at, finished, read_from, ended_by, put_first, nothing, stats_of, Fails, IsStray, ◌>>=◌, IsInText}
use Rattle.gm_text.specs.inner.Cursor.{Cursor}
use Rattle.gm_text.specs.inner.Lexing.{rest_of}
use Rattle.gm_script.specs.inner.SoFar.{behind, Holds, Adds, IsSoFar, IsCompared}
use Rattle.gm_script.specs.declared.fault.ScriptFault.{ScriptFault}
use Rattle.gm_script.specs.declared.fault.ScriptFault.TheVariants as faults
use Rattle.gm_script.specs.declared.reader.TextFault.{TextFault}
use Rattle.gm_script.specs.declared.reader.TextFault.TheVariants as texts
use Rattle.gm_script.specs.declared.sight.Head.{Head}
use Rattle.gm_script.specs.declared.sight.Sight.{Sight}
use Rattle.gm_script.specs.declared.sight.Sight.TheVariants as sights
use Rattle.gm_script.specs.declared.spot.Spot.{Spot}
use Rattle.gm_script.specs.declared.spot.Spot.TheVariants as spots
use Rattle.gm_script.proofs.Stats as stats
use Rattle.gm_script.proofs.Stats.{front_moves}
use Rattle.gm_script.proofs.Script.{script_is, fault_is}

-- ---- a further statement

says_on : {X Y : Type 0} (fault : ScriptFault) (answer : Result X Disagreement) (more : X → Result Y Disagreement) → Says fault answer → Says fault (comparing.◌>>=◌ answer more)
says_on (faults.Text place) answer more says = says
says_on (faults.Limit what place) answer more says = says
says_on (faults.Twice place) answer more says = says
says_on (faults.UnknownRule place) answer more says = rw says refl
says_on (faults.HookCount place) answer more says = rw says refl
says_on (faults.Params place) answer more says = rw says refl
says_on faults.OutOfMemory answer more says = tt

-- ---- a token that is held

abbrev NameIn : List ℕ → Held → Type 0
NameIn text held = IsInText text held.stat.name

module _ (text : List ℕ) (token : Token) (inside : IsInText text token) (held : Held) (named : NameIn text held) where
  number_named : (spot : Spot) (m : ℕ) → NameIn text (hold_number spot m held)
  number_named spots.Rule m = named
  number_named spots.Orbit m = named
  number_named spots.Open m = named
  number_named spots.OpenMinus m = named
  number_named spots.First m = named
  number_named spots.FirstMinus m = named
  number_named spots.Second m = named
  number_named spots.SecondMinus m = named
  number_named _ m = named

  head_named : (spot : Spot) (head : Head) → NameIn text (hold_head spot head token held)
  head_named spots.Apply head = inside
  head_named spots.Over head = inside
  head_named _ head = inside

  vector_named : (spot : Spot) → NameIn text (hold_vector spot held)
  vector_named spots.Second = named
  vector_named _ = named

  held_named : (spot : Spot) (sight : Sight) → NameIn text (hold spot sight token held)
  held_named spot sights.Name = inside
  held_named spot (sights.Begins head) = head_named spot head
  held_named spot (sights.Number m) = number_named spot m
  held_named spot (sights.Truth b) = named
  held_named spot sights.Close = vector_named spot
  held_named spot _ = named

  taken_named : (to : Option Spot) (passed : Option Passed) (sight : Sight) (next : Held) → taken to passed sight token held ≡ Ok next → NameIn text next
  taken_named None passed sight next e = absurd cc
  taken_named (Some spot) (Some what) sight next e = absurd cc
  taken_named (Some spot) None sight next e =
      let same : record (hold held.spot sight token held) { spot = spot } ≡ next = cc e in
      subst (NameIn text) same (held_named held.spot sight)

-- ---- a statement that ends holds nothing of what is read next

taken_same : (to : Option Spot) (passed : Option Passed) (sight : Sight) (token : Token) (one other : Held) → hold one.spot sight token one ≡ hold other.spot sight token other
    → taken to passed sight token one ≡ taken to passed sight token other
taken_same None passed sight token one other e = refl
taken_same (Some spot) (Some what) sight token one other e = refl
taken_same (Some spot) None sight token one other e = ap (λ (held : Held). let next : Result Held Stop = Ok (record held { spot = spot }) in next) e

begun_same : (n : ℕ) (spot : Spot) (head : Head) (token : Token) (held : Held) (stat : HeldStat) → before_head spot stat ≡ Some stat
    → taken_at n (sights.Begins head) token (record held { spot = spot; stat = stat }) ≡ taken_at n (sights.Begins head) token (record held { spot = spot })
begun_same n spots.Start head token held stat e = absurd cc
begun_same n spots.Apply head token held stat e = absurd cc
begun_same n spots.Over head token held stat e = absurd cc
begun_same n spot head token held stat e =
    taken_same (next_spot held.within spot (sights.Begins head)) (passed_in n spot (been_of held) (sights.Begins head) (token.end - token.start)) (sights.Begins head) token
    (record held { spot = spot; stat = stat }) (record held { spot = spot }) refl

pub ended_same : (n : ℕ) (sight : Sight) (token : Token) (held : Held) (stat : HeldStat) → ended_by held.spot sight stat ≡ Some stat
    → taken_at n sight token (record held { stat = stat }) ≡ taken_at n sight token held
ended_same n (sights.Begins head) token held stat e = begun_same n held.spot head token held stat e
ended_same n sight token held stat e = absurd (none-some stat e)

-- ---- what was read so far

behind_none : (read : Result (List HeldStat) Stop) → behind [] read ≡ read
behind_none (Ok others) = refl
behind_none (Err stop) = refl

behind_more : (before : List HeldStat) (stat : Option HeldStat) (read : Result (List HeldStat) Stop) → behind (before ++ put_first stat []) read ≡ behind before (read >>= λ others. Ok (put_first stat others))
behind_more before stat (Ok others) = ap Ok (front_moves before stat others)
behind_more before stat (Err stop) = refl

behind_fails : (before : List HeldStat) (fault : TextFault) (read : Result (List HeldStat) Stop) → Fails fault read → Fails fault (behind before read)
behind_fails before texts.OutOfMemory read e = tt
behind_fails before (texts.Text place) read e = rw e refl
behind_fails before (texts.Limit what place) read e = rw e refl
behind_fails before (texts.Twice place) read e = rw e refl

pub fails_on : {X Y : Type 0} (fault : TextFault) (read : Result X Stop) (more : X → Result Y Stop) → Fails fault read → Fails fault (read >>= more)
fails_on texts.OutOfMemory read more e = tt
fails_on (texts.Text place) read more e = rw e refl
fails_on (texts.Limit what place) read more e = rw e refl
fails_on (texts.Twice place) read more e = rw e refl

module _ (text : List ℕ) (rules : List Rule) where
  -- behind some, one more
  abbrev one_more : Result (List Stat) Disagreement → Result Stat Disagreement → Result (List Stat) Disagreement
  one_more some last = comparing.◌>>=◌ some (λ stats. comparing.◌>>=◌ last (λ stat. Ok (stats ++ stat ∷ [])))

  stats_more : (helds : List HeldStat) (held : HeldStat) → stats_for text rules (helds ++ held ∷ []) ≡ one_more (stats_for text rules helds) (stat_for text rules held)
  stats_more [] held =
      by (stat_for text rules held)
    where
      by : (one : Result Stat Disagreement) → comparing.◌>>=◌ one (λ stat. Ok (stat ∷ [])) ≡ comparing.◌>>=◌ one (λ stat. Ok (stat ∷ []))
      by one = refl
  stats_more (first ∷ helds) held =
      by (stat_for text rules first) (stats_for text rules helds) (stat_for text rules held) (stats_for text rules (helds ++ held ∷ [])) (stats_more helds held)
    where
      by : (one : Result Stat Disagreement) (some : Result (List Stat) Disagreement) (last : Result Stat Disagreement) (all : Result (List Stat) Disagreement) → all ≡ one_more some last
          → comparing.◌>>=◌ one (λ stat. comparing.◌>>=◌ all (λ stats. Ok (stat ∷ stats))) ≡ one_more (comparing.◌>>=◌ one (λ stat. comparing.◌>>=◌ some (λ stats. Ok (stat ∷ stats)))) last
      by (Err fault) some last all e = refl
      by (Ok stat) (Err fault) last all e = rw e refl
      by (Ok stat) (Ok stats) (Err fault) all e = rw e refl
      by (Ok stat) (Ok stats) (Ok other) all e = rw e refl

  module _ (helds : List HeldStat) (held : HeldStat) where
    fault_stays : (fault : ScriptFault) → Holds text rules (Err fault) helds → Holds text rules (Err fault) (helds ++ held ∷ [])
    fault_stays fault says = rw (stats_more helds held) (says_on fault (stats_for text rules helds) (λ stats. comparing.◌>>=◌ (stat_for text rules held) (λ stat. Ok (stats ++ stat ∷ []))) says)

    pub stays : (old : Option ScriptFault) (stats : List Stat) → is_some old ≡ true → Holds text rules (unless old stats) helds → Holds text rules (unless old stats) (helds ++ held ∷ [])
    stays None stats there holds = absurd cc
    stays (Some fault) stats there holds = fault_stays fault holds

    pub stat_added : (old : Option ScriptFault) (stats : List Stat) (stat : Stat) → is_some old ≡ false → Holds text rules (unless old stats) helds → stat_for text rules held ≡ Ok stat → Holds text rules (unless old (stats ++ stat ∷ [])) (helds ++ held ∷ [])
    stat_added None stats stat there e f = stats_more helds held ∙ rw (e, f) refl
    stat_added (Some fault) stats stat there e f = absurd cc

    pub fault_added : (old : Option ScriptFault) (stats : List Stat) (fault : ScriptFault) → is_some old ≡ false → Holds text rules (unless old stats) helds → Says fault (stat_for text rules held) → Holds text rules (Err fault) (helds ++ held ∷ [])
    fault_added None stats fault there e says = rw (stats_more helds held, e) (says_on fault (stat_for text rules held) (λ stat. Ok (stats ++ stat ∷ [])) says)
    fault_added (Some other) stats fault there e says = absurd cc

  pub adds_same : (stat : Option HeldStat) (compared : Result (List Stat) ScriptFault) → stat ≡ None → Adds text rules stat compared compared
  adds_same stat compared none = rw none (λ helds holds. rw (append-nil helds) holds)

  pub adds_one : {A : Type 0} (result : Result A ScriptFault) (stat : Option HeldStat) (one : HeldStat) (old new : Result (List Stat) ScriptFault) → stat ≡ Some one
      → ((helds : List HeldStat) → Holds text rules old helds → OnOk result (Holds text rules new (helds ++ one ∷ []))) → OnOk result (Adds text rules stat old new)
  adds_one (Ok x) stat one old new e adds = rw e (λ helds holds. adds helds holds)
  adds_one (Err fault) stat one old new e adds = tt

  module _ (n : ℕ) where
    pub starts : n ≤ 7 → IsSoFar n text rules nothing (items_of text) (Ok [])
    starts low = record { low = low; before = []; read = behind_none (stats_of n text); holds = refl; named = record { order = omega arith; within = omega arith } }

    -- ---- a fault of the text

    module _ (held : Held) (items : List Item) (compared : Result (List Stat) ScriptFault) (so_far : IsSoFar n text rules held items compared) (fault : TextFault) where
      pub fails : Fails fault (read_from n text held items) → IsFaultOf text n rules (of_text fault)
      fails e = stats.fault_is n so_far.low text rules fault (subst (Fails fault) so_far.read (behind_fails so_far.before fault (read_from n text held items) e))

    pub stray_fails : (held : Held) (cursor : Cursor) (compared : Result (List Stat) ScriptFault) → IsSoFar n text rules held (rest_of cursor) compared → (fault : TextFault) → IsStray cursor fault → IsFaultOf text n rules (of_text fault)
    stray_fails held cursor compared so_far (texts.Text place) stray = fails held (rest_of cursor) compared so_far (texts.Text place) (rw stray refl)
    stray_fails held cursor compared so_far (texts.Limit what place) stray = absurd stray
    stray_fails held cursor compared so_far (texts.Twice place) stray = absurd stray
    stray_fails held cursor compared so_far texts.OutOfMemory stray = absurd stray

    pub token_fails : (held : Held) (token : Token) (items : List Item) (compared : Result (List Stat) ScriptFault) → IsSoFar n text rules held (Lexed token ∷ items) compared
        → (fault : TextFault) → Fails fault (taken_at n (sight_of (symbol_at text token)) token held) → IsFaultOf text n rules (of_text fault)
    token_fails held token items compared so_far fault e =
        fails held (Lexed token ∷ items) compared so_far fault
        (fails_on fault (taken_at n (sight_of (symbol_at text token)) token held) (λ next. read_from n text next items >>= λ others. Ok (put_first (ended_by held.spot (sight_of (symbol_at text token)) held.stat) others)) e)

    pub end_fails : (held : Held) (place : ℕ) (compared : Result (List Stat) ScriptFault) → IsSoFar n text rules held (EndAt place ∷ []) compared
        → (fault : TextFault) → Fails fault (finished place held) → IsFaultOf text n rules (of_text fault)
    end_fails held place compared so_far fault e = fails held (EndAt place ∷ []) compared so_far fault (fails_on fault (finished place held) (λ stat. Ok (put_first stat [])) e)

    -- ---- a token, and the end

    pub adds_none : (compared : Result (List Stat) ScriptFault) → Adds text rules None compared compared
    adds_none compared helds holds = rw (append-nil helds) holds

    pub goes_on : (held next : Held) (token : Token) (items : List Item) (old new : Result (List Stat) ScriptFault) → IsInText text token → IsSoFar n text rules held (Lexed token ∷ items) old
        → taken_at n (sight_of (symbol_at text token)) token held ≡ Ok next → Adds text rules (ended_by held.spot (sight_of (symbol_at text token)) held.stat) old new → IsSoFar n text rules next items new
    goes_on held next token items old new inside so_far e adds =
        let stat = ended_by held.spot (sight_of (symbol_at text token)) held.stat in
        let step : read_from n text held (Lexed token ∷ items) ≡ (read_from n text next items >>= λ others. Ok (put_first stat others)) = rw e refl in
        record {
          low = so_far.low;
          before = so_far.before ++ put_first stat [];
          read = behind_more so_far.before stat (read_from n text next items) ∙ ap (behind so_far.before) (sym step) ∙ so_far.read;
          holds = adds so_far.before so_far.holds;
          named = taken_named text token inside held so_far.named (next_spot held.within held.spot (sight_of (symbol_at text token))) (passed_in n held.spot (been_of held) (sight_of (symbol_at text token)) (token.end - token.start)) (sight_of (symbol_at text token)) next e;
        }

    pub ends : (held : Held) (place : ℕ) (last : Option HeldStat) (old new : Result (List Stat) ScriptFault) → IsSoFar n text rules held (EndAt place ∷ []) old
        → finished place held ≡ Ok last → Adds text rules last old new → IsCompared n text rules new
    ends held place last old new so_far e adds =
        let step : read_from n text held (EndAt place ∷ []) ≡ Ok (put_first last []) = rw e refl in
        record { low = so_far.low; helds = so_far.before ++ put_first last []; read = sym so_far.read ∙ ap (behind so_far.before) step; holds = adds so_far.before so_far.holds }

    pub ends_with : {A : Type 0} (result : Result A ScriptFault) (held : Held) (place : ℕ) (old new : Result (List Stat) ScriptFault) → IsSoFar n text rules held (EndAt place ∷ []) old
        → finished place held ≡ Ok (Some held.stat) → ((helds : List HeldStat) → Holds text rules old helds → OnOk result (Holds text rules new (helds ++ held.stat ∷ []))) → OnOk result (IsCompared n text rules new)
    ends_with (Ok x) held place old new so_far e adds = ends held place (Some held.stat) old new so_far e adds
    ends_with (Err fault) held place old new so_far e adds = tt

    pub memory_fails : {A : Type 0} (result : Result A ScriptFault) → IfErr result (λ fault. fault ≡ faults.OutOfMemory) → IfErr result (IsFaultOf text n rules)
    memory_fails (Ok x) e = tt
    memory_fails (Err fault) e = rw e tt

    module _ (compared : Result (List Stat) ScriptFault) (done : IsCompared n text rules compared) where
      pub done_script : (result : Result Script ScriptFault) → IfOk result (λ all. compared ≡ Ok all.stats) → IfOk result (λ all. ScriptText text n rules all.stats)
      done_script (Ok all) e =
          let holds : Holds text rules (Ok all.stats) done.helds = rw e at done.holds in
          script_is n text rules done.helds (stats.stats_are n done.low text done.helds done.read) all.stats holds
      done_script (Err fault) e = tt

      pub done_fault : (result : Result Script ScriptFault) → IfErr result (λ fault. compared ≡ Err fault) → IfErr result (IsFaultOf text n rules)
      done_fault (Ok all) e = tt
      done_fault (Err fault) e =
          let holds : Holds text rules (Err fault) done.helds = rw e at done.holds in
          fault_is n text rules done.helds (stats.stats_are n done.low text done.helds done.read) fault holds
