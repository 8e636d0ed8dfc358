-- Building goes on token by token, over just the marks of the expression that stands there.
use Rattle.std.proofs.Common.{◌≡◌, ◌+◌, ℕ, true, false, List, [], ◌∷◌, ◌++◌, Some, None, Ok, Err, refl, sym, ap, subst, ◌∙◌}
use Rattle.std.proofs.lemmas.List.{append_cancel_right}
use Rattle.std.specs.List.{AllByRecursion}
use Rattle.gm_model.specs.declared.token.Token.{Token}
use Rattle.gm_model.specs.Reading.{Part, symbols_in}
use Rattle.gm_model.specs.Symbols.{Symbol, Mark, symbols}
use Rattle.gm_text.specs.inner.Cursor.{Cursor}
use Rattle.gm_text.specs.inner.Machine.{Ends, Passes}
use Rattle.gm_text.specs.inner.SchemaAnswers.{marks_left, mark_at}
use Rattle.gm_text.proofs.Machine.{last_of}
use Rattle.gm_parse.specs.declared.fault.SyntaxFault.{SyntaxFault}
use Rattle.gm_parse.specs.declared.fault.SyntaxFault.TheVariants as faults
use Rattle.gm_parse.specs.Forms.{Form}
use Rattle.gm_parse.specs.Spelling.{Counted, limit_in, parts_of, Stands}
use Rattle.gm_parse.specs.inner.Reading.{State, Spot, spot_at, first_spot, start, spot_move, spot_role, is_whole_spot}
use Rattle.gm_parse.specs.inner.Answers.{run_in, Stops, Advances, HasExpr}
use Rattle.gm_parse.specs.Meaning.{Names}
use Rattle.gm_tree.specs.inner.Building.{Work, work, Nothing, built, built_all}
use Rattle.gm_tree.specs.inner.Built.{IsBuiltOver, IsUnderway}
use Rattle.gm_parse.proofs.Counted.{LedSpot, spot_behind, form_leads, form_whole, stays_ended, parts_symbols}
use Rattle.gm_parse.proofs.Standing.{spot_limit, form_stands}
use Rattle.gm_parse.proofs.Steps.{reads_self, reads_then, stops_then, run_over, whole_behind}

-- ---- what stands there is run over

run_parts : (n : ℕ) (spot last : Spot) (from : ℕ) (marks : List Mark) (parts : List (Part Counted)) → LedSpot n spot parts last → symbols marks ≡ symbols_in parts → AllByRecursion (λ part. limit_in part.role part.symbol ≡ None) parts → run_in n spot from marks ≡ Ok last
run_parts n spot last from [] [] e same within = ap Ok e
run_parts n spot last from [] (part ∷ parts) led same within = absurd cc
run_parts n spot last from (mark ∷ marks) [] e same within = absurd cc
run_parts n spot last from (mark ∷ marks) (part ∷ parts) (place, next, role, moves, led) same within =
    let head : mark.symbol ≡ part.symbol = cc same in
    let tail : symbols marks ≡ symbols_in parts = cc same in
    let moved : spot_move spot mark.symbol ≡ Some next = ap (spot_move spot) head ∙ moves in
    let free : limit_in (spot_role n spot part.symbol place) part.symbol ≡ None = ap (λ (r : Counted). limit_in r part.symbol) (sym role) ∙ within.0 in
    let limit : limit_in (spot_role n spot mark.symbol mark.place) mark.symbol ≡ None = ap (λ (s : Symbol). limit_in (spot_role n spot s mark.place) s) head ∙ spot_limit n spot part.symbol mark.place place ∙ free in
    rw (moved, limit) (run_parts n next last mark.place marks parts led tail within.1)

pub stands_run : (n : ℕ) (form : Form) (marks rest : List Mark) (from : ℕ) (stands : Stands n form marks rest) → run_in n first_spot from stands.before ≡ Ok (spot_behind n form)
stands_run n form marks rest from stands = run_parts n first_spot (spot_behind n form) from stands.before (parts_of n form) (form_leads n form stands.good) (stands.spelled ∙ sym (parts_symbols n form)) stands.within

-- a run over all that is left ends at the expression's end
pub stands_end : (n : ℕ) (form : Form) (marks rest : List Mark) (stands : Stands n form marks rest) → run_in n first_spot 0 marks ≡ Err (Ends (spot_behind n form) stands.next)
stands_end n form marks rest stands =
    let none = stays_ended n form stands.good stands.next.symbol stands.ends in
    let at : run_in n (spot_behind n form) (last_of 0 stands.before) (stands.next ∷ stands.others) ≡ Err (Ends (spot_behind n form) stands.next) = rw none refl in
    ap (run_in n first_spot 0) (stands.split ∙ ap (λ (ms : List Mark). stands.before ++ ms) stands.behind)
    ∙ run_over n first_spot (spot_behind n form) 0 stands.before (stands.next ∷ stands.others) (stands_run n form marks rest 0 stands) ∙ at

-- ---- building

built-append : (names : Names) (w : Work) (marks : List Mark) (mark : Mark) → built_all names w (marks ++ mark ∷ []) ≡ built names (built_all names w marks) mark
built-append names w [] mark = refl
built-append names w (first ∷ marks) mark = built-append names (built names w first) marks mark

pub underway_start : (n : ℕ) (names : Names) (cursor : Cursor) → IsUnderway n names cursor cursor (spot_at 0 start) (work [] None Nothing)
underway_start n names cursor = record { reads = reads_self n first_spot cursor; built = refl }

pub underway_on : (n : ℕ) (names : Names) (old now new : Cursor) (spot : Spot) (state : State) (token : Token) (w next : Work) → IsUnderway n names old now spot w → Advances n spot now (Some token) state new → next ≡ built names w (mark_at new.text token)
    → IsUnderway n names old new (spot_at (spot.count + 1) state) next
underway_on n names old now new spot state token w next is (one, onward, within, few, room, at) takes =
    let single : one.before ≡ mark_at new.text token ∷ [] = append_cancel_right one.before (mark_at new.text token ∷ []) (marks_left new) (sym one.split ∙ at.marks) in
    record {
      reads = reads_then n first_spot spot (spot_at (spot.count + 1) state) old now new is.reads one;
      built = takes ∙ ap (λ (v : Work). built names v (mark_at new.text token)) is.built ∙ sym (built-append names (work [] None Nothing) is.reads.before (mark_at new.text token))
          ∙ ap (λ (ms : List Mark). built_all names (work [] None Nothing) (is.reads.before ++ ms)) (sym single);
    }

pub underway_ends : (n : ℕ) (names : Names) (old now new : Cursor) (spot : Spot) (state : State) (w : Work) → IsUnderway n names old now spot w → Advances n spot now None state new → IsBuiltOver n names old new w
underway_ends n names old now new spot state w is (same, stays, whole, ends) =
    subst (λ (c : Cursor). IsBuiltOver n names old c w) (sym stays)
    (let (form, stands, before) = form_stands n (marks_left old) is.reads.before (marks_left now) ends.next ends.others spot (is.reads.runs 0) whole is.reads.split ends.split ends.none in
    record { form = form; stands = stands; built = is.built ∙ ap (built_all names (work [] None Nothing)) (sym before); text = is.reads.text; behind = whole_behind n spot old now whole is.reads })

-- where an expression stands, no fault does
pub no_stop : (n : ℕ) (names : Names) (old now : Cursor) (spot : Spot) (fault : SyntaxFault) (w : Work) → IsUnderway n names old now spot w → HasExpr n old → Stops n spot now fault → ⊥
no_stop n names old now spot fault w is (form, rest, stands) stops = go fault (stops_then n first_spot spot old now fault is.reads stops)
  where
    end : run_in n first_spot 0 (marks_left old) ≡ Err (Ends (spot_behind n form) stands.next)
    end = stands_end n form (marks_left old) rest stands

    go : (fault : SyntaxFault) → Stops n first_spot old fault → ⊥
    go (faults.Text place) ends =
        let both : Err (Ends ends.stop ends.mark) ≡ Err (Ends (spot_behind n form) stands.next) = sym (ends.ends 0) ∙ end in
        let same : ends.stop ≡ spot_behind n form = cc both in
        let no_way : true ≡ false = sym (form_whole n form) ∙ ap is_whole_spot (sym same) ∙ ends.part in
        absurd cc
    go (faults.Limit what place) passes = let both : Err (Passes what place) ≡ Err (Ends (spot_behind n form) stands.next) = sym (passes 0) ∙ end in absurd cc
