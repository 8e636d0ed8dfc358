-- Over an expression reading holds its tokens, and goes on behind it.
use Rattle.std.proofs.Common.{◌≡◌, ℕ, Bool, true, false, List, [], ◌∷◌, ◌++◌, Option, Some, None, is_some, Result, Ok, Err, refl, sym, ap, subst, ◌∙◌, append_assoc}
use Rattle.std.proofs.lemmas.List.{append-nil}
use Rattle.std.specs.Option.{option_map}
use Rattle.std.specs.Prelude.{IsTrue}
use Rattle.gm_model.specs.declared.limit.LimitKind.{LimitKind}
use Rattle.gm_model.specs.Names.{Mention}
use Rattle.gm_model.specs.Symbols.{Symbol, Word, Numeral, Sign, Gone, Stray, End, Mark}
use Rattle.gm_text.specs.inner.Cursor.{Cursor}
use Rattle.gm_text.specs.inner.Machine.{Stop, Ends, Passes}
use Rattle.gm_text.specs.inner.SchemaAnswers.{marks_left}
use Rattle.gm_text.proofs.Machine.{last_of, Refused, Limited, Moved}
use Rattle.gm_text.proofs.Machine as machine
use Rattle.gm_text.specs.inner.Machine as machines
use Rattle.gm_parse.specs.inner.Answers.{run_in}
use Rattle.gm_parse.specs.inner.Reading as exprs
use Rattle.gm_parse.specs.inner.Reading.{first_spot, spot_move, spot_role, is_whole_spot, never}
use Rattle.gm_parse.specs.Spelling.{limit_in}
use Rattle.gm_forms.specs.BookText.{ExprToken, RuleForm, limit_of, stands_before}
use Rattle.gm_forms.specs.declared.draft.Draft.{Draft}
use Rattle.gm_forms.specs.declared.form.Span.{Span}
use Rattle.gm_forms.specs.declared.form_fault.FormFault.{FormFault}
use Rattle.gm_forms.specs.declared.form_fault.FormFault.TheVariants as faults
use Rattle.gm_forms.specs.declared.state.Heading.{Heading}
use Rattle.gm_forms.specs.declared.state.Spot.{Spot as CodeSpot}
use Rattle.gm_forms.specs.declared.state.State.TheVariants as code
use Rattle.gm_model.specs.declared.token.Token.{Token}
use Rattle.gm_forms.specs.inner.Forms.{mention_of, tokens_from, marks_in, value_of}
use Rattle.std.specs.Str.{bytes_eq}
use Rattle.gm_model.specs.declared.rule.Side.{Side}
use Rattle.gm_model.specs.declared.rule.Side.TheVariants.{Left, Right}
use Rattle.gm_forms.specs.inner.Reading.{Spot, State, AtExpr, AtRuleEnd, closing, is_hook, is_pre_on, is_with_on, item_role, behind_role, end_role, on_right, Slot, SetSlot, PreSlot, behind_slot, dim_of, plain_role, role_at, move, Part, Nothing, Assigned, Required, Held, put_expr, with_token, token_at, assign_last, require}
use Rattle.gm_forms.specs.inner.Standing.{Stand, settled, stepped, read_on, ◌>>=◌, Fails, stand_of, spot_of, rules_of, current_of}
use Rattle.gm_forms.specs.inner.Values.{IsGoneOver, IsValueFault}

abbrev at_expr : Slot → exprs.Spot → ℕ → Held → Stand
at_expr slot spot last held = record { state = AtExpr slot spot; last = last; held = held }

abbrev pub holding : Part → Held → Held
holding part held = record held { part = part }

abbrev pub with_tokens : List ExprToken → Part → Part
with_tokens [] part = part
with_tokens (token ∷ tokens) part = with_tokens tokens (with_token token part)

pub assigned_tokens : (embed : Mention) (tokens front : List ExprToken) → with_tokens tokens (Assigned embed front) ≡ Assigned embed (front ++ tokens)
assigned_tokens embed [] front = ap (Assigned embed) (sym (append-nil front))
assigned_tokens embed (token ∷ tokens) front = assigned_tokens embed tokens (front ++ token ∷ []) ∙ ap (Assigned embed) (append_assoc front (token ∷ []) tokens)

pub required_tokens : (tokens front : List ExprToken) → with_tokens tokens (Required front) ≡ Required (front ++ tokens)
required_tokens [] front = ap Required (sym (append-nil front))
required_tokens (token ∷ tokens) front = required_tokens tokens (front ++ token ∷ []) ∙ ap Required (append_assoc front (token ∷ []) tokens)

-- ---- over the marks of an expression

abbrev outcome : Result exprs.Spot (Stop exprs.Spot LimitKind) → Result exprs.Spot (Stop exprs.Spot LimitKind)
outcome found = found

abbrev found_as : Result Stand FormFault → Result Stand FormFault
found_as found = found

-- what contradicts itself, and what is the same, over plain variables
no_ok : (stop : Stop exprs.Spot LimitKind) (to : exprs.Spot) → outcome (Err stop) ≡ outcome (Ok to) → ⊥
no_ok stop to is = cc is

no_end : (spot : exprs.Spot) (mark : Mark) (what : LimitKind) (place : ℕ) → outcome (Err (Ends spot mark)) ≡ outcome (Err (Passes what place)) → ⊥
no_end spot mark what place is = cc is

same_end : (spot stop : exprs.Spot) (first mark : Mark) → outcome (Err (Ends spot first)) ≡ outcome (Err (Ends stop mark)) → (spot ≡ stop) × (first ≡ mark)
same_end spot stop first mark is = (cc is, cc is)

same_ok : (spot to : exprs.Spot) → outcome (Ok spot) ≡ outcome (Ok to) → spot ≡ to
same_ok spot to is = cc is

module _ (slot : Slot) where
  abbrev cases : (spot : exprs.Spot) (last : ℕ) (mark : Mark) → machine.Stepped limit_in never (spot_role (dim_of slot)) spot_move spot last mark
  cases spot last mark = machine.stepped limit_in never (spot_role (dim_of slot)) spot_move spot last mark

  over_expr : (spot to : exprs.Spot) (before rest : List Mark) (last : ℕ) (held : Held) → run_in (dim_of slot) spot last before ≡ Ok to
      → read_on (at_expr slot spot last held) (before ++ rest) ≡ read_on (at_expr slot to (last_of last before) (holding (with_tokens (tokens_from (dim_of slot) spot before) held.part) held)) rest
  unfolding stepped
  over_expr spot to [] rest last held e = ap (λ (s : exprs.Spot). read_on (at_expr slot s last held) rest) (same_ok spot to e)
  over_expr spot to (mark ∷ before) rest last held e =
      elim (cases spot last mark) [
        | Refused moves is ↦ absurd (no_ok (Ends spot mark) to (rw is at e))
        | Limited next what moves limit is ↦ absurd (no_ok (Passes what mark.place) to (rw is at e))
        | Moved next moves limit is ↦ rw (moves, limit, moves)
            (over_expr next to before rest mark.place (holding (with_token (token_at slot spot mark.symbol mark.place) held.part) held) (rw is at e))
      ]

  stops_at : (spot stop : exprs.Spot) (marks : List Mark) (mark : Mark) (last : ℕ) (held : Held) → run_in (dim_of slot) spot last marks ≡ Err (Ends stop mark) → is_whole_spot stop ≡ false
      → read_on (at_expr slot spot last held) marks ≡ Err (faults.Text mark.place)
  unfolding stepped
  stops_at spot stop [] mark last held e part = absurd (no_ok (Ends stop mark) spot (sym e))
  stops_at spot stop (first ∷ marks) mark last held e part =
      elim (cases spot last first) [
        | Refused moves is ↦
            (let same = same_end spot stop first mark (rw is at e) in
            let not_whole : is_whole_spot spot ≡ false = ap is_whole_spot same.0 ∙ part in
            rw (moves, not_whole) (ap (λ (m : Mark). Err (faults.Text m.place)) same.1))
        | Limited next what moves limit is ↦ absurd (no_end stop mark what first.place (sym (rw is at e)))
        | Moved next moves limit is ↦ rw (moves, limit, moves)
            (stops_at next stop marks mark first.place (holding (with_token (token_at slot spot first.symbol first.place) held.part) held) (rw is at e) part)
      ]

  passes_at : (spot : exprs.Spot) (marks : List Mark) (what : LimitKind) (place last : ℕ) (held : Held) → run_in (dim_of slot) spot last marks ≡ Err (Passes what place)
      → read_on (at_expr slot spot last held) marks ≡ Err (faults.Limit what place)
  unfolding stepped
  passes_at spot [] what place last held e = absurd (no_ok (Passes what place) spot (sym e))
  passes_at spot (first ∷ marks) what place last held e =
      elim (cases spot last first) [
        | Refused moves is ↦ absurd (no_end spot first what place (rw is at e))
        | Limited next some moves limit is ↦ (let same : outcome (Err (Passes some first.place)) ≡ outcome (Err (Passes what place)) = rw is at e in rw (moves, limit) (limits some first.place same))
        | Moved next moves limit is ↦ rw (moves, limit, moves)
            (passes_at next marks what place first.place (holding (with_token (token_at slot spot first.symbol first.place) held.part) held) (rw is at e))
      ]
    where
      limits : (some : LimitKind) (here : ℕ) → outcome (Err (Passes some here)) ≡ outcome (Err (Passes what place)) → found_as (Err (faults.Limit some here)) ≡ found_as (Err (faults.Limit what place))
      limits some here same = let a : some ≡ what = cc same in let b : here ≡ place = cc same in ap (λ (w : LimitKind). found_as (Err (faults.Limit w here))) a ∙ ap (λ (p : ℕ). found_as (Err (faults.Limit what p))) b

-- ---- behind it

-- no limit stands at the mark before
pub item_before : (spot : Spot) (symbol : Symbol) (place : ℕ) → stands_before (item_role spot symbol place) ≡ false
item_before spot (Word w) place = go spot.side refl (bytes_eq w (closing spot.side)) refl (is_pre_on spot.side w) refl
  where
    go : (side : Side) → spot.side ≡ side → (b : Bool) → bytes_eq w (closing spot.side) ≡ b → (c : Bool) → is_pre_on spot.side w ≡ c → stands_before (item_role spot (Word w) place) ≡ false
    go Left side true e c f = rw (e, side) refl
    go Right side true e c f = rw (e, side) refl
    go side is false e true f = rw (e, f) refl
    go side is false e false f = rw (e, f) refl
item_before spot (Numeral n) place = refl
item_before spot (Sign s) place = refl
item_before spot Gone place = refl
item_before spot Stray place = refl
item_before spot End place = refl

pub behind_before : (spot : Spot) (symbol : Symbol) (place : ℕ) → stands_before (behind_role spot symbol place) ≡ false
behind_before spot (Word w) place = go (is_hook spot w) refl (is_with_on spot.side w) refl
  where
    go : (b : Bool) → is_hook spot w ≡ b → (c : Bool) → is_with_on spot.side w ≡ c → stands_before (behind_role spot (Word w) place) ≡ false
    go true e c f = rw e refl
    go false e true f = rw (e, f) refl
    go false e false f = rw (e, f) (item_before spot (Word w) place)
behind_before spot (Numeral n) place = refl
behind_before spot (Sign s) place = refl
behind_before spot Gone place = refl
behind_before spot Stray place = refl
behind_before spot End place = refl

end_before : (k : ℕ) (symbol : Symbol) → stands_before (end_role k symbol) ≡ false
end_before k (Word w) = refl
end_before k (Numeral n) = refl
end_before k (Sign s) = refl
end_before k Gone = refl
end_before k Stray = refl
end_before k End = refl

pub plain_before : (slot : Slot) (symbol : Symbol) (place : ℕ) → stands_before (plain_role (behind_slot slot) symbol place) ≡ false
plain_before (SetSlot spot) symbol place = behind_before (on_right spot) symbol place
plain_before (PreSlot heading k) symbol place = end_before k symbol

pub expr_before : (slot : Slot) (spot : exprs.Spot) (symbol : Symbol) (place : ℕ) → stands_before (role_at (AtExpr slot spot) symbol place) ≡ false
expr_before slot spot symbol place = go (is_some (spot_move spot symbol)) refl
  where
    go : (b : Bool) → is_some (spot_move spot symbol) ≡ b → stands_before (role_at (AtExpr slot spot) symbol place) ≡ false
    go true e = rw e refl
    go false e = rw e (plain_before slot symbol place)

-- a mark with which the expression doesn't go on
module _ (to : exprs.Spot) (mark : Mark) (last other : ℕ) (held : Held) (none : spot_move to mark.symbol ≡ None) (whole : IsTrue (is_whole_spot to)) where
  abbrev taken : State → Option State → Option LimitKind → Result State (Stop State LimitKind)
  taken state next limit = machines.taken limit_of stands_before role_at move state mark mark.place next limit

  abbrev after : Slot → Stand
  after slot = record { state = behind_slot slot; last = other; held = put_expr held held.part }

  settles : (slot : Slot) (next : Option State) (limit : Option LimitKind) → settled (at_expr slot to last held) mark (taken (AtExpr slot to) next limit) ≡ settled (after slot) mark (taken (behind_slot slot) next limit)
  settles slot None limit = refl
  settles slot (Some next) (Some what) = refl
  settles (SetSlot spot) (Some next) None = rw none refl
  settles (PreSlot heading k) (Some next) None = rw none refl

  leaves_expr : (slot : Slot) → stepped (at_expr slot to last held) mark ≡ stepped (after slot) mark
  unfolding stepped
  leaves_expr (SetSlot spot) = rw (none, whole, behind_before (on_right spot) mark.symbol mark.place) (settles (SetSlot spot) _ _)
  leaves_expr (PreSlot heading k) = rw (none, whole, end_before k mark.symbol) (settles (PreSlot heading k) _ _)

-- ---- past an expression

module _ (text : List ℕ) (old new : Cursor) (span : Span) (over : IsGoneOver old span new) (last : ℕ) where
  past : (slot : Slot) (held : Held) → span.dim ≡ dim_of slot
      → read_on (record { state = behind_slot slot; last = last; held = put_expr (holding (with_tokens (value_of old.text span) held.part) held) (with_tokens (value_of old.text span) held.part) }) (marks_left new)
      ≡ read_on (at_expr slot first_spot last held) (marks_left old)
  past slot held dim =
      let n = dim_of slot in
      let next = over.ends.next in
      let others = over.ends.others in
      let runs : run_in n first_spot last (marks_in old.text span) ≡ Ok over.last = subst (λ (m : ℕ). run_in m first_spot last (marks_in old.text span) ≡ Ok over.last) dim (over.runs last) in
      let tokens : tokens_from n first_spot (marks_in old.text span) ≡ value_of old.text span = ap (λ (m : ℕ). tokens_from m first_spot (marks_in old.text span)) (sym dim) in
      let carried = over_expr slot first_spot over.last (marks_in old.text span) (marks_left new) last held runs in
      let there : (part : Part) → read_on (at_expr slot over.last (last_of last (marks_in old.text span)) (holding part held)) (next ∷ others) ≡ read_on (record { state = behind_slot slot; last = last; held = put_expr (holding part held) part }) (next ∷ others) = λ part.
      ap (λ (found : Result Stand FormFault). found >>= λ stand. read_on stand others) (leaves_expr over.last next (last_of last (marks_in old.text span)) last (holding part held) over.ends.none over.whole slot) in
      let part = with_tokens (value_of old.text span) held.part in
      ap (λ (marks : List Mark). read_on (record { state = behind_slot slot; last = last; held = put_expr (holding part held) part }) marks) over.ends.split
      ∙ sym (there part)
      ∙ ap (λ (marks : List Mark). read_on (at_expr slot over.last (last_of last (marks_in old.text span)) (holding part held)) marks) (sym over.ends.split)
      ∙ ap (λ (ts : List ExprToken). read_on (at_expr slot over.last (last_of last (marks_in old.text span)) (holding (with_tokens ts held.part) held)) (marks_left new)) (sym tokens)
      ∙ sym carried
      ∙ ap (λ (marks : List Mark). read_on (at_expr slot first_spot last held) marks) (sym over.split)

module _ (old new : Cursor) (span : Span) (over : IsGoneOver old span new) (nodes : List (List ℕ)) (draft put : Draft) (last : ℕ) where
  pub set_past : (spot : CodeSpot) (embed : Token) → span.dim ≡ spot.heading.dim → rules_of old.text put ≡ rules_of old.text draft
      → current_of old.text put ≡ option_map (assign_last (record { embed = mention_of old.text embed; value = value_of old.text span })) (current_of old.text draft)
      → read_on (stand_of old.text nodes put (code.Assigned spot) last) (marks_left new) ≡ read_on (stand_of old.text nodes draft (code.Value spot embed) last) (marks_left old)
  set_past spot embed dim rules current =
      let slot = SetSlot (spot_of nodes spot) in
      let name = mention_of old.text embed in
      let tokens = value_of old.text span in
      let held : Held = record { rules = rules_of old.text draft; current = current_of old.text draft; part = Assigned name [] } in
      ap (λ (rs : List RuleForm). read_on (record { state = behind_slot slot; last = last; held = record { rules = rs; current = current_of old.text put; part = Nothing } }) (marks_left new)) rules
      ∙ ap (λ (c : Option RuleForm). read_on (record { state = behind_slot slot; last = last; held = record { rules = rules_of old.text draft; current = c; part = Nothing } }) (marks_left new)) current
      ∙ ap (λ (p : Part). read_on (record { state = behind_slot slot; last = last; held = put_expr (holding p held) p }) (marks_left new)) (sym (assigned_tokens name tokens []))
      ∙ past old.text old new span over last slot held dim

  pub pre_past : (heading : Heading) (rules_so_far : ℕ) → span.dim ≡ heading.dim → rules_of old.text put ≡ rules_of old.text draft
      → current_of old.text put ≡ option_map (require (value_of old.text span)) (current_of old.text draft)
      → (stand : Stand) → stand ≡ record { state = AtRuleEnd heading rules_so_far; last = last; held = record { rules = rules_of old.text put; current = current_of old.text put; part = Nothing } }
      → read_on stand (marks_left new) ≡ read_on (record { state = AtExpr (PreSlot heading rules_so_far) first_spot; last = last; held = record { rules = rules_of old.text draft; current = current_of old.text draft; part = Required [] } }) (marks_left old)
  pre_past heading k dim rules current stand is =
      let slot = PreSlot heading k in
      let tokens = value_of old.text span in
      let held : Held = record { rules = rules_of old.text draft; current = current_of old.text draft; part = Required [] } in
      ap (λ (s : Stand). read_on s (marks_left new)) is
      ∙ ap (λ (rs : List RuleForm). read_on (record { state = behind_slot slot; last = last; held = record { rules = rs; current = current_of old.text put; part = Nothing } }) (marks_left new)) rules
      ∙ ap (λ (c : Option RuleForm). read_on (record { state = behind_slot slot; last = last; held = record { rules = rules_of old.text draft; current = c; part = Nothing } }) (marks_left new)) current
      ∙ ap (λ (p : Part). read_on (record { state = behind_slot slot; last = last; held = put_expr (holding p held) p }) (marks_left new)) (sym (required_tokens tokens []))
      ∙ past old.text old new span over last slot held dim

-- ---- a fault in an expression

pub value_fails : (slot : Slot) (n : ℕ) (old : Cursor) (fault : FormFault) (last : ℕ) (held : Held) → n ≡ dim_of slot → IsValueFault n old fault → Fails fault (read_on (at_expr slot first_spot last held) (marks_left old))
value_fails slot n old (faults.Text place) last held dim stops =
    let runs : run_in (dim_of slot) first_spot last (marks_left old) ≡ Err (Ends stops.stop stops.mark) = subst (λ (m : ℕ). run_in m first_spot last (marks_left old) ≡ Err (Ends stops.stop stops.mark)) dim (stops.ends last) in
    stops_at slot first_spot stops.stop (marks_left old) stops.mark last held runs stops.part ∙ ap (λ (p : ℕ). Err (faults.Text p)) stops.here
value_fails slot n old (faults.Limit what place) last held dim stops =
    let runs : run_in (dim_of slot) first_spot last (marks_left old) ≡ Err (Passes what place) = subst (λ (m : ℕ). run_in m first_spot last (marks_left old) ≡ Err (Passes what place)) dim (stops last) in
    passes_at slot first_spot (marks_left old) what place last held runs
value_fails slot n old faults.OutOfMemory last held dim stops = absurd stops
