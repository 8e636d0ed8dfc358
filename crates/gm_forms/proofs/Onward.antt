-- How reading mark by mark goes on: over a token that a lexer answers, and up to a fault.
use Rattle.std.proofs.Common.{arith, ◌≡◌, ℕ, Bool, true, false, cond, List, ◌∷◌, Option, Some, None, Result, Ok, Err, refl, sym, ap, subst, ◌∙◌}
use Rattle.gm_model.specs.declared.token.Token.{Token}
use Rattle.gm_model.specs.Symbols.{Stray, Mark}
use Rattle.gm_text.specs.inner.Cursor.{Cursor}
use Rattle.gm_text.specs.inner.Lexing.{rest_of, items_read, after, IsInText, IsLongestThere}
use Rattle.gm_text.proofs.Marks.{marks_at-token, marks_at-end}
use Rattle.gm_forms.specs.declared.draft.Draft.{Draft}
use Rattle.gm_forms.specs.declared.form_fault.FormFault.{FormFault}
use Rattle.gm_forms.specs.declared.form_fault.FormFault.TheVariants as faults
use Rattle.gm_forms.specs.declared.state.State.{State as CodeState}
use Rattle.gm_text.specs.inner.Machine as machines
use Rattle.gm_parse.specs.inner.Reading.{is_whole_spot}
use Rattle.gm_forms.specs.BookText.{limit_of, stands_before}
use Rattle.gm_forms.proofs.Apart.{other_stuck}
use Rattle.gm_forms.proofs.Values.{plain_before}
use Rattle.gm_forms.specs.inner.Reading.{Slot, SetSlot, PreSlot, behind_slot, plain_role, plain_move, role_at, move, State, AtRules, AtName, AtLeft, AtParam, AtColon, AtKind, AtComma, AtBody, AtItem, AtSign, AtLetter, AtBehind, AtSet, AtEqual, AtExpr, AtRuleEnd, AtLabel, AtDash, AtTo, AtEnd, Held}
use Rattle.gm_text.specs.inner.SchemaAnswers.{marks_left}
use Rattle.gm_forms.specs.inner.Standing.{Stand, settled, stepped, read_on, ◌>>=◌, Fails, IsNext, IsStateIn, IsDraftIn, MovesFrom, stand_of, mark_of}

-- ---- tokens

next_after : (cursor : Cursor) (found : Option Token) → IsInText cursor (Ok found) → IsLongestThere cursor.text (Ok found) → rest_of cursor ≡ items_read cursor.text (Ok found) (rest_of (after (Ok found) cursor))
    → IsNext cursor (Ok found) (after (Ok found) cursor)
next_after cursor None span longest answer = (marks_at-end cursor.text cursor.place answer, refl)
next_after cursor (Some token) span longest answer =
    (record { order = span.1; within = span.2; lexeme = longest.lexeme }, marks_at-token cursor.text cursor.place token answer, omega (arith, span.0, span.1), refl)

pub next_is : (cursor rest : Cursor) (found : Option Token) → rest ≡ after (Ok found) cursor → IsInText cursor (Ok found) → IsLongestThere cursor.text (Ok found) → rest_of cursor ≡ items_read cursor.text (Ok found) (rest_of rest)
    → IsNext cursor (Ok found) rest
next_is cursor rest found moved span longest answer =
    let there = subst (λ (r : Cursor). rest_of cursor ≡ items_read cursor.text (Ok found) (rest_of r)) moved answer in
    subst (λ (r : Cursor). IsNext cursor (Ok found) r) (sym moved) (next_after cursor found span longest there)

-- ---- reading

-- no state goes on with a stray byte
stray_is_fault : (state : State) (last place : ℕ) (held : Held) → stepped (record { state = state; last = last; held = held }) (record { symbol = Stray; place = place }) ≡ Err (faults.Text place)
unfolding stepped
stray_is_fault (AtRules n) last place held = refl
stray_is_fault (AtName n k) last place held = refl
stray_is_fault (AtLeft n k) last place held = refl
stray_is_fault (AtParam n k count) last place held = refl
stray_is_fault (AtColon n k count) last place held = refl
stray_is_fault (AtKind n k count) last place held = refl
stray_is_fault (AtComma n k count) last place held = refl
stray_is_fault (AtBody n k) last place held = refl
stray_is_fault (AtItem spot) last place held = refl
stray_is_fault (AtSign spot name) last place held = refl
stray_is_fault (AtLetter spot k) last place held = refl
stray_is_fault (AtBehind spot) last place held = refl
stray_is_fault (AtSet spot) last place held = refl
stray_is_fault (AtEqual spot) last place held = refl
stray_is_fault (AtExpr slot spot) last place held = rw (other_stuck spot Stray refl, plain_before slot Stray place) (go slot (is_whole_spot spot))
  where
    go : (slot : Slot) (b : Bool) → settled (record { state = AtExpr slot spot; last = last; held = held }) (record { symbol = Stray; place = place })
        (machines.taken limit_of stands_before role_at move (AtExpr slot spot) (record { symbol = Stray; place = place }) place (cond b (plain_move (behind_slot slot) Stray) None) (limit_of (plain_role (behind_slot slot) Stray place) Stray)) ≡ Err (faults.Text place)
    go (SetSlot at) true = refl
    go (SetSlot at) false = refl
    go (PreSlot heading k) true = refl
    go (PreSlot heading k) false = refl
stray_is_fault (AtRuleEnd n k) last place held = refl
stray_is_fault (AtLabel spot) last place held = refl
stray_is_fault (AtDash spot) last place held = refl
stray_is_fault (AtTo spot) last place held = refl
stray_is_fault AtEnd last place held = refl

-- up to a byte that no token begins with
pub stray_stops : (cursor rest : Cursor) (fault : FormFault) (stand : Stand) (whole : Result Stand FormFault) → IsNext cursor (Err fault) rest → read_on stand (marks_left cursor) ≡ whole → Fails fault whole
stray_stops cursor rest (faults.Text place) stand whole is so_far = sym so_far ∙ (ap (λ (marks : List Mark). read_on stand marks) is ∙ rw (stray_is_fault stand.state stand.last place stand.held) refl)
stray_stops cursor rest (faults.Limit what place) stand whole is so_far = absurd is
stray_stops cursor rest faults.OutOfMemory stand whole is so_far = absurd is

fails : {A B : Type 0} (fault : FormFault) (found : Result A FormFault) (on : A → Result B FormFault) → Fails fault found → Fails fault (found >>= on)
fails faults.OutOfMemory found on given = tt
fails (faults.Text place) found on given = rw given refl
fails (faults.Limit what place) found on given = rw given refl

module _ (text : List ℕ) (cursor rest : Cursor) (same : cursor.text ≡ text) (still : rest.text ≡ cursor.text) (token : Token) (nodes new_nodes : List (List ℕ)) (draft new : Draft) (state : CodeState) (last : ℕ) (whole : Result Stand FormFault) where
  at_mark : IsNext cursor (Ok (Some token)) rest → read_on (stand_of text nodes draft state last) (marks_left cursor) ≡ whole
      → (stepped (stand_of text nodes draft state last) (mark_of text token) >>= λ stand. read_on stand (marks_left rest)) ≡ whole
  at_mark is so_far =
      let marks = subst (λ (t : List ℕ). marks_left cursor ≡ mark_of t token ∷ marks_left rest) same is.1 in
      sym (ap (λ (ms : List Mark). read_on (stand_of text nodes draft state last) ms) marks) ∙ so_far

  -- over a token
  pub goes_on : (next : CodeState) → IsNext cursor (Ok (Some token)) rest → MovesFrom last rest.text nodes draft state (mark_of rest.text token) (Ok next) new_nodes new
      → read_on (stand_of text nodes draft state last) (marks_left cursor) ≡ whole
      → read_on (stand_of text new_nodes new next token.start) (marks_left rest) ≡ whole
  goes_on next is moves so_far =
      let here = subst (λ (t : List ℕ). MovesFrom last t nodes draft state (mark_of t token) (Ok next) new_nodes new) (still ∙ same) moves in
      sym (ap (λ (found : Result Stand FormFault). found >>= λ stand. read_on stand (marks_left rest)) here) ∙ at_mark is so_far

  -- up to a fault
  pub stops_here : (fault : FormFault) → IsNext cursor (Ok (Some token)) rest → MovesFrom last rest.text nodes draft state (mark_of rest.text token) (Err fault) new_nodes new
      → read_on (stand_of text nodes draft state last) (marks_left cursor) ≡ whole → Fails fault whole
  stops_here fault is moves so_far =
      let here = subst (λ (t : List ℕ). MovesFrom last t nodes draft state (mark_of t token) (Err fault) new_nodes new) (still ∙ same) moves in
      subst (λ (w : Result Stand FormFault). Fails fault w) (at_mark is so_far)
      (fails fault (stepped (stand_of text nodes draft state last) (mark_of text token)) (λ stand. read_on stand (marks_left rest)) here)

  pub keeps_on : (next : CodeState) → (IsStateIn rest.text state → IsDraftIn rest.text draft → IsStateIn rest.text next × IsDraftIn rest.text new) → IsStateIn text state → IsDraftIn text draft → IsStateIn text next × IsDraftIn text new
  keeps_on next keeps = subst (λ (t : List ℕ). IsStateIn t state → IsDraftIn t draft → IsStateIn t next × IsDraftIn t new) (still ∙ same) keeps

-- ---- past an expression

module _ (text : List ℕ) (cursor rest : Cursor) (same : cursor.text ≡ text) (nodes new_nodes : List (List ℕ)) (draft new : Draft) (state : CodeState) (last : ℕ) (whole : Result Stand FormFault) where
  pub past_on : (next : CodeState) → read_on (stand_of cursor.text new_nodes new next last) (marks_left rest) ≡ read_on (stand_of cursor.text nodes draft state last) (marks_left cursor)
      → read_on (stand_of text nodes draft state last) (marks_left cursor) ≡ whole → read_on (stand_of text new_nodes new next last) (marks_left rest) ≡ whole
  past_on next past so_far = subst (λ (t : List ℕ). read_on (stand_of t new_nodes new next last) (marks_left rest) ≡ read_on (stand_of t nodes draft state last) (marks_left cursor)) same past ∙ so_far

  pub past_stops : (fault : FormFault) → Fails fault (read_on (stand_of cursor.text nodes draft state last) (marks_left cursor)) → read_on (stand_of text nodes draft state last) (marks_left cursor) ≡ whole → Fails fault whole
  past_stops fault fails so_far = subst (λ (w : Result Stand FormFault). Fails fault w) so_far (subst (λ (t : List ℕ). Fails fault (read_on (stand_of t nodes draft state last) (marks_left cursor))) same fails)
