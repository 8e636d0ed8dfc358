-- Where the reader of a book's rules stands, what each mark comes to there, what the code holds of it, and what reading answers.
use Rattle.std.specs.Prelude.{◌≡◌, ℕ, ◌<◌, true, false, List, [], ◌∷◌, length, map, Option, Some, None, Result, Ok, Err, IfOk, codes}
use Rattle.std.specs.List.{AllByRecursion}
use Rattle.std.specs.Option.{option_map}
use Rattle.gm_model.specs.declared.limit.LimitKind.{LimitKind}
use Rattle.gm_model.specs.declared.token.Token.{Token}
use Rattle.gm_model.specs.Tokens.{bytes_of}
use Rattle.gm_model.specs.Symbols.{Word, Numeral, Sign, Stray, End, Mark, symbol_of_kind, value_of}
use Rattle.gm_forms.specs.BookText.{NodeItem, RuleForm}
use Rattle.gm_text.specs.inner.Cursor.{Cursor}
use Rattle.gm_parse.specs.inner.Reading.{first_spot}
use Rattle.gm_text.specs.inner.Machine.{Stop, Ends, Passes}
use Rattle.gm_text.specs.inner.SchemaAnswers.{IsToken, marks_left}
use Rattle.gm_forms.specs.declared.form.RuleForm.{RuleForm as CodeRule}
use Rattle.gm_forms.specs.declared.form_fault.FormFault.{FormFault}
use Rattle.gm_forms.specs.declared.form_fault.FormFault.TheVariants as faults
use Rattle.gm_forms.specs.declared.draft.Draft.{Draft}
use Rattle.gm_forms.specs.declared.state.Heading.{Heading}
use Rattle.gm_forms.specs.declared.state.Spot.{Spot as CodeSpot}
use Rattle.gm_forms.specs.declared.state.State.{State as CodeState}
use Rattle.gm_forms.specs.declared.state.State.TheVariants as code
use Rattle.gm_forms.specs.inner.Forms.{mention_of, rule_form_of, IsIn, IsRuleIn}
use Rattle.gm_forms.specs.inner.Reading.{Spot, State, AtRules, AtName, AtLeft, AtParam, AtColon, AtKind, AtComma, AtBody, AtItem, AtSign, AtLetter, AtBehind, AtSet, AtEqual, AtExpr, AtRuleEnd, AtLabel, AtDash, AtTo, AtEnd, SetSlot, PreSlot, Whole, on_right, is_version, step, run, run_whole, Part, Nothing, Declared, Named, Lettered, Linked, Labelled, Assigned, Required, Held, nothing_held, put_item, hold, held_behind}

-- the state, the place of the mark before, and what is held
pub record Stand : Type 0 where
  pub state : State
  pub last : ℕ
  pub held : Held

-- after the header
abbrev pub rules_stand : Heading → Stand
rules_stand heading = record { state = AtRules heading; last = 0; held = nothing_held }

abbrev pub fault_of : Stop State LimitKind → FormFault
fault_of (Ends state mark) = faults.Text mark.place
fault_of (Passes what place) = faults.Limit what place

abbrev pub settled : Stand → Mark → Result State (Stop State LimitKind) → Result Stand FormFault
settled stand mark (Err stop) = Err (fault_of stop)
settled stand mark (Ok next) = Ok (record {
  state = next;
  last = mark.place;
  held = hold stand.state mark.symbol mark.place stand.held;
})

-- what one mark comes to
unfoldable pub stepped : Stand → Mark → Result Stand FormFault
stepped stand mark = settled stand mark (step stand.state stand.last mark)

infixl 10 ◌>>=◌
abbrev pub ◌>>=◌ : {A B : Type 0} → Result A FormFault → (A → Result B FormFault) → Result B FormFault
(Ok x) >>= f = f x
(Err fault) >>= f = Err fault

-- what all marks come to
abbrev pub read_on : Stand → List Mark → Result Stand FormFault
read_on stand [] = Ok stand
read_on stand (mark ∷ marks) = stepped stand mark >>= λ next. read_on next marks

-- ---- where the code stands

abbrev pub spot_of : List (List ℕ) → CodeSpot → Spot
spot_of nodes spot = record { heading = spot.heading; rules = spot.rules; side = spot.side; count = record { nodes = nodes; links = spot.links }; hooked = spot.hooked }

abbrev pub state_of : List ℕ → List (List ℕ) → CodeState → State
state_of text nodes (code.Rules heading) = AtRules heading
state_of text nodes (code.Name heading rules) = AtName heading rules
state_of text nodes (code.Left heading rules) = AtLeft heading rules
state_of text nodes (code.Param heading rules count) = AtParam heading rules count
state_of text nodes (code.Colon heading rules count name) = AtColon heading rules count
state_of text nodes (code.Kind heading rules count name) = AtKind heading rules count
state_of text nodes (code.Comma heading rules count) = AtComma heading rules count
state_of text nodes (code.Body heading rules) = AtBody heading rules
state_of text nodes (code.Item spot) = AtItem (spot_of nodes spot)
state_of text nodes (code.Sign spot name) = AtSign (spot_of nodes spot) (bytes_of text name)
state_of text nodes (code.Letter spot name word) = AtLetter (spot_of nodes spot) (length word)
state_of text nodes (code.Behind spot name word) = AtBehind (spot_of nodes spot)
state_of text nodes (code.Assigned spot) = AtBehind (on_right (spot_of nodes spot))
state_of text nodes (code.Set spot) = AtSet (spot_of nodes spot)
state_of text nodes (code.Equal spot embed) = AtEqual (spot_of nodes spot)
state_of text nodes (code.Value spot embed) = AtExpr (SetSlot (spot_of nodes spot)) first_spot
state_of text nodes (code.Pre heading rules) = AtExpr (PreSlot heading rules) first_spot
state_of text nodes (code.RuleEnd heading rules) = AtRuleEnd heading rules
state_of text nodes (code.Label spot from) = AtLabel (spot_of nodes spot)
state_of text nodes (code.Dash spot from label) = AtDash (spot_of nodes spot)
state_of text nodes (code.To spot from label) = AtTo (spot_of nodes spot)

abbrev pub part_of : List ℕ → CodeState → Part
part_of text (code.Colon heading rules count name) = Declared (mention_of text name)
part_of text (code.Kind heading rules count name) = Declared (mention_of text name)
part_of text (code.Sign spot name) = Named (mention_of text name)
part_of text (code.Letter spot name word) = Lettered (mention_of text name) word
part_of text (code.Equal spot embed) = Assigned (mention_of text embed) []
part_of text (code.Value spot embed) = Assigned (mention_of text embed) []
part_of text (code.Pre heading rules) = Required []
part_of text (code.Label spot from) = Linked (mention_of text from)
part_of text (code.Dash spot from label) = Labelled (mention_of text from) label
part_of text (code.To spot from label) = Labelled (mention_of text from) label
part_of text state = Nothing

-- The node after whose word reading is joins its side only once it is known whether it is a hook.
abbrev pub held_in : List ℕ → List RuleForm → Option RuleForm → CodeState → Held
held_in text rules current (code.Behind spot name word) = put_item spot.side (NodeItem (mention_of text name) word false []) (record { rules = rules; current = current; part = Nothing })
held_in text rules current state = record { rules = rules; current = current; part = part_of text state }

-- the names counted as nodes, the rules read whole and the one that is read stand beside the state
abbrev pub stand_in : List ℕ → List (List ℕ) → List RuleForm → Option RuleForm → CodeState → ℕ → Stand
stand_in text nodes rules current state last = record { state = state_of text nodes state; last = last; held = held_in text rules current state }

-- the names that the state holds are in the text
abbrev pub IsStateIn : List ℕ → CodeState → Type 0
IsStateIn text (code.Colon heading rules count name) = IsIn text name
IsStateIn text (code.Kind heading rules count name) = IsIn text name
IsStateIn text (code.Sign spot name) = IsIn text name
IsStateIn text (code.Letter spot name word) = IsIn text name
IsStateIn text (code.Behind spot name word) = IsIn text name
IsStateIn text (code.Equal spot embed) = IsIn text embed
IsStateIn text (code.Value spot embed) = IsIn text embed
IsStateIn text (code.Label spot from) = IsIn text from
IsStateIn text (code.Dash spot from label) = IsIn text from
IsStateIn text (code.To spot from label) = IsIn text from
IsStateIn text state = Unit {0}

abbrev pub IsCurrentIn : List ℕ → Option CodeRule → Type 0
IsCurrentIn text None = Unit {0}
IsCurrentIn text (Some rule) = IsRuleIn text rule

abbrev pub IsDraftIn : List ℕ → Draft → Type 0
IsDraftIn text draft = AllByRecursion (IsRuleIn text) draft.rules.items × IsCurrentIn text draft.current

abbrev pub rules_of : List ℕ → Draft → List RuleForm
rules_of text draft = map (rule_form_of text) draft.rules.items

abbrev pub current_of : List ℕ → Draft → Option RuleForm
current_of text draft = option_map (rule_form_of text) draft.current

abbrev pub stand_of : List ℕ → List (List ℕ) → Draft → CodeState → ℕ → Stand
stand_of text nodes draft state last = stand_in text nodes (rules_of text draft) (current_of text draft) state last

-- ---- what the code answers

abbrev pub Fails : {Y : Type 0} → FormFault → Result Y FormFault → Type 0
Fails faults.OutOfMemory found = Unit {0}
Fails (faults.Text place) found = found ≡ Err (faults.Text place)
Fails (faults.Limit what place) found = found ≡ Err (faults.Limit what place)

-- what was returned, seen by view, is what the mark comes to, unless memory ran out
abbrev pub Gives : {X Y : Type 0} → (X → Y) → Result X FormFault → Result Y FormFault → Type 0
Gives view (Ok x) found = found ≡ Ok (view x)
Gives view (Err fault) found = Fails fault found

-- the answer is the state to which the mark leads, whatever stands beside it and stays
abbrev pub Leads : List ℕ → CodeState → Mark → Result CodeState FormFault → Type 0
Leads text state mark result =
    (nodes : List (List ℕ)) (rules : List RuleForm) (current : Option RuleForm) (last : ℕ)
    → Gives (λ next. stand_in text nodes rules current next mark.place) result (stepped (stand_in text nodes rules current state last) mark)

-- the answer is the state to which the mark leads after one at the place `last`, where what stands beside it changes
abbrev pub MovesFrom : ℕ → List ℕ → List (List ℕ) → Draft → CodeState → Mark → Result CodeState FormFault → List (List ℕ) → Draft → Type 0
MovesFrom last text nodes draft state mark result new_nodes new_draft =
    Gives (λ next. stand_of text new_nodes new_draft next mark.place) result (stepped (stand_of text nodes draft state last) mark)

abbrev pub Moves : List ℕ → List (List ℕ) → Draft → CodeState → Mark → Result CodeState FormFault → List (List ℕ) → Draft → Type 0
Moves text nodes draft state mark result new_nodes new_draft = (last : ℕ) → MovesFrom last text nodes draft state mark result new_nodes new_draft

-- names in the text stay so
abbrev pub StaysIn : List ℕ → CodeState → Result CodeState FormFault → Type 0
StaysIn text state result = IsStateIn text state → IfOk result (λ next. IsStateIn text next)

abbrev pub KeepsIn : List ℕ → Draft → CodeState → Result CodeState FormFault → Draft → Type 0
KeepsIn text draft state result new_draft = IsStateIn text state → IsDraftIn text draft → IfOk result (λ next. IsStateIn text next × IsDraftIn text new_draft)

-- no expression stands next
abbrev pub IsOutside : CodeState → Type 0
IsOutside (code.Value spot embed) = ⊥
IsOutside (code.Pre heading rules) = ⊥
IsOutside state = Unit {0}

-- what reading comes to where the lexer stands goes on from where it stands afterwards
abbrev pub GoesPast : {X : Type 0} → Result Stand FormFault → (X → Result Stand FormFault) → Result X FormFault → Type 0
GoesPast whole from (Ok x) = from x ≡ whole
GoesPast whole from (Err fault) = Fails fault whole

-- after the end
abbrev pub end_stand : List ℕ → Draft → ℕ → Stand
end_stand text draft last = record { state = AtEnd; last = last; held = record { rules = rules_of text draft; current = current_of text draft; part = Nothing } }

-- the book can end at the place
abbrev pub EndsFrom : {X : Type 0} → List ℕ → List (List ℕ) → Draft → CodeState → ℕ → Result X FormFault → Draft → Type 0
EndsFrom text nodes draft state place result new_draft =
    (last : ℕ) → Gives (λ _. end_stand text new_draft place) result (stepped (stand_of text nodes draft state last) (record { symbol = End; place = place }))

-- ---- tokens

abbrev pub mark_of : List ℕ → Token → Mark
mark_of text token = record { symbol = symbol_of_kind token.kind (bytes_of text token); place = token.start }

abbrev pub word_mark : List ℕ → Token → Mark
word_mark text token = record { symbol = Word (bytes_of text token); place = token.start }

abbrev pub number_mark : List ℕ → Token → Mark
number_mark text token = record { symbol = Numeral (value_of (bytes_of text token)); place = token.start }

abbrev pub sign_mark : List ℕ → Token → Mark
sign_mark text token = record { symbol = Sign (bytes_of text token); place = token.start }

-- what a lexer answers, and how it goes on; a byte that no token begins with is a fault
abbrev pub IsNext : Cursor → Result (Option Token) FormFault → Cursor → Type 0
IsNext cursor (Ok (Some token)) rest = IsToken cursor.text token × (marks_left cursor ≡ mark_of cursor.text token ∷ marks_left rest) × (cursor.place < token.end) × (rest.place ≡ token.end)
IsNext cursor (Ok None) rest = (marks_left cursor ≡ record { symbol = End; place = rest.place } ∷ []) × (rest.place ≡ length cursor.text)
IsNext cursor (Err (faults.Text place)) rest = marks_left cursor ≡ record { symbol = Stray; place = place } ∷ []
IsNext cursor (Err _) rest = ⊥

-- ---- what reading a text answers

-- the word `book` stands there, and then these marks
abbrev pub BeginsBook : List Mark → List Mark → Type 0
BeginsBook marks rest = (place : ℕ) × (marks ≡ record { symbol = Word (codes "book"); place = place } ∷ rest)

-- a version of the format stands there, and then these marks
pub record IsVersioned (marks : List Mark) (version : ℕ) (rest : List Mark) : Type 0 where
  pub place : ℕ
  pub split : marks ≡ record { symbol = Numeral version; place = place } ∷ rest
  pub known : is_version version ≡ true

-- the word `book` and the version stand there, and then these marks
pub record IsHeaded (marks : List Mark) (version : ℕ) (rest : List Mark) : Type 0 where
  pub first : ℕ
  pub second : ℕ
  pub split : marks ≡ record { symbol = Word (codes "book"); place = first } ∷ record { symbol = Numeral version; place = second } ∷ rest
  pub known : is_version version ≡ true

-- from the state on, reading ends at the place
abbrev pub EndsAt : Whole → List Mark → ℕ → Type 0
EndsAt from marks place = (last : ℕ) → (state : Whole) × (mark : Mark) × (run_whole from last marks ≡ Err (Ends state mark)) × (mark.place ≡ place)

-- before the schema no text of a book goes on, and the fault says where
abbrev pub IsHeadFault : Whole → List Mark → FormFault → Type 0
IsHeadFault from marks (faults.Text place) = EndsAt from marks place
IsHeadFault from marks _ = ⊥

-- the machine goes through all marks of the rules, and these are held after them
pub record AreRulesRead (heading : Heading) (marks : List Mark) (rules : List RuleForm) : Type 0 where
  pub ends : run (AtRules heading) 0 marks ≡ Ok AtEnd
  pub held : (held_behind (AtRules heading) marks nothing_held).rules ≡ rules

-- the same in the rules alone
abbrev pub EndsInRules : Heading → List Mark → ℕ → Type 0
EndsInRules heading marks place = (state : State) × (mark : Mark) × (run (AtRules heading) 0 marks ≡ Err (Ends state mark)) × (mark.place ≡ place)

abbrev pub IsRulesFault : Heading → List Mark → FormFault → Type 0
IsRulesFault heading marks (faults.Text place) = EndsInRules heading marks place
IsRulesFault heading marks (faults.Limit what place) = run (AtRules heading) 0 marks ≡ Err (Passes what place)
IsRulesFault heading marks faults.OutOfMemory = Unit {0}
