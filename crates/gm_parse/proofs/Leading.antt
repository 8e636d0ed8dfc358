-- Each good form leads through the states, and each state can be gone on from.
use Rattle.std.proofs.Common.{◌≡◌, ◌<◌, ◌≤◌, ℕ, Bool, true, false, List, [], ◌∷◌, Some, refl, sym, ap, subst, ◌∙◌, codes, arith}
use Rattle.std.specs.Prelude.{IsTrue}
use Rattle.gm_model.specs.declared.expr.BinOp.{BinOp}
use Rattle.gm_model.specs.declared.expr.BinOp.TheVariants as ops
use Rattle.gm_model.specs.Names.{Mention, reserved, is_among}
use Rattle.gm_model.specs.Reading.{Part, word, number, sign}
use Rattle.gm_text.specs.inner.Machine.{Leads}
use Rattle.gm_text.specs.SchemaText.{LabelForm}
use Rattle.gm_text.specs.ValueText.{truth_text}
use Rattle.gm_parse.specs.declared.key.Collector.{Collector}
use Rattle.gm_parse.specs.declared.key.Collector.TheVariants as collectors
use Rattle.gm_parse.specs.declared.key.Key.{Key}
use Rattle.gm_parse.specs.declared.key.Key.TheVariants as keys
use Rattle.gm_parse.specs.declared.place.Bracket.{Bracket}
use Rattle.gm_parse.specs.declared.place.Bracket.TheVariants as brackets
use Rattle.gm_parse.specs.declared.place.Ending.{Ending}
use Rattle.gm_parse.specs.declared.place.Ending.TheVariants as endings
use Rattle.gm_parse.specs.declared.place.Need.{Need}
use Rattle.gm_parse.specs.declared.place.Need.TheVariants as needs
use Rattle.gm_parse.specs.declared.place.Place.{Place}
use Rattle.gm_parse.specs.declared.place.Place.TheVariants as places
use Rattle.gm_parse.specs.Forms.{TermForm, Form, NumberForm, TruthForm, ParamForm, FieldForm, SameForm, CountForm, CollectForm, CallForm, ParenForm, MinusForm, NotForm, BinaryForm, IfForm, Arguments, First, Further, level_of, IsGood, AreGood}
use Rattle.gm_parse.specs.Levels.{binary_level, least_on_left, least_on_right}
use Rattle.gm_parse.specs.Spelling.{Role, Fixed, limit_of, name, operator, spell, spell_arguments, spell_term, Quantity, StepAt, collector_word}
use Rattle.gm_parse.proofs.SpelledParts.{spell_labels, spell_path}
use Rattle.gm_parse.specs.inner.Reading.{State, state_at, operator_move, behind_move, move_by, move, role_at, key_role, key_of, is_whole}
use Rattle.gm_parse.proofs.Keys.{key_operator, key_name}

abbrev pub plainly : Role → Bool
plainly role = false

-- the parts lead from the one state to the other, whatever they pass
abbrev pub Led : ℕ → State → List (Part Role) → State → Type 0
Led n state parts last = Leads limit_of plainly (role_at n) move state parts last

-- ---- what reading comes to behind a form

-- whether a comparison is open behind an operator
abbrev pub compared_by : BinOp → Bool → Bool
compared_by ops.Or compared = false
compared_by ops.And compared = false
compared_by ops.Add compared = compared
compared_by ops.Sub compared = compared
compared_by ops.Mul compared = compared
compared_by ops.Div compared = compared
compared_by ops.Rem compared = compared
compared_by _ compared = true

-- and behind a form
abbrev pub compared_behind : Bool → Form → Bool
compared_behind compared (MinusForm part) = compared_behind compared part
compared_behind compared (NotForm part) = compared_behind compared part
compared_behind compared (BinaryForm op left right) = compared_behind (compared_by op (compared_behind compared left)) right
compared_behind compared (IfForm c a b) = compared_behind false b
compared_behind compared _ = compared

abbrev pub place_behind : Form → Place
place_behind (ParamForm param) = places.BehindName
place_behind (MinusForm part) = place_behind part
place_behind (NotForm part) = place_behind part
place_behind (BinaryForm op left right) = place_behind right
place_behind (IfForm c a b) = place_behind b
place_behind _ = places.Behind

-- what an operand behind an operator needs
abbrev pub need_behind : BinOp → Need
need_behind ops.Or = needs.NoIf
need_behind ops.And = needs.NoIf
need_behind _ = needs.Tight

abbrev pub least_with : Need → ℕ
least_with needs.Any = 0
least_with needs.NoIf = 1
least_with needs.Tight = 4

-- the least level of what can be read as an operand there
abbrev pub least_for : Need → Bool → ℕ
least_for need true = 5
least_for need false = least_with need

-- ---- levels

-- what an operator owes by the tables
pub record Tables (op : BinOp) : Type 0 where
  pub left : binary_level op ≤ least_on_left op
  pub right : binary_level op ≤ least_on_right op
  pub kept : (compared : Bool) → 5 ≤ binary_level op → compared_by op compared ≡ compared
  pub fits : (compared : Bool) → least_for (need_behind op) (compared_by op compared) ≤ least_on_right op
  pub moves : (open_brackets : List Bracket) (compared : Bool) (place : Place) → (binary_level op < least_on_left op → compared ≡ false) → operator_move (state_at open_brackets compared place) op ≡ Some (state_at open_brackets (compared_by op compared) (places.Operand (need_behind op)))
  -- a comparison, which is in no chain
  pub apart : binary_level op < least_on_left op → (binary_level op ≤ 4) × (5 ≤ least_on_left op)
  pub role : (operator op).role ≡ Fixed

fits_tightly : (least : ℕ) → 5 ≤ least → (compared : Bool) → least_for needs.Tight compared ≤ least
fits_tightly least low true = low
fits_tightly least low false = omega (arith, low)

pub tables : (op : BinOp) → Tables op
tables ops.Or = record { left = omega arith; right = omega arith; kept = λ compared low. absurd (omega (arith, low)); fits = λ compared. omega arith; moves = λ o c p low. refl; apart = λ low. absurd (omega (arith, low)); role = refl }
tables ops.And = record { left = omega arith; right = omega arith; kept = λ compared low. absurd (omega (arith, low)); fits = λ compared. omega arith; moves = λ o c p low. refl; apart = λ low. absurd (omega (arith, low)); role = refl }
tables ops.Eq = record { left = omega arith; right = omega arith; kept = λ compared low. absurd (omega (arith, low)); fits = λ compared. omega arith; moves = λ o c p low. rw (low (omega arith)) refl; apart = λ low. (omega arith, omega arith); role = refl }
tables ops.Ne = record { left = omega arith; right = omega arith; kept = λ compared low. absurd (omega (arith, low)); fits = λ compared. omega arith; moves = λ o c p low. rw (low (omega arith)) refl; apart = λ low. (omega arith, omega arith); role = refl }
tables ops.Lt = record { left = omega arith; right = omega arith; kept = λ compared low. absurd (omega (arith, low)); fits = λ compared. omega arith; moves = λ o c p low. rw (low (omega arith)) refl; apart = λ low. (omega arith, omega arith); role = refl }
tables ops.Le = record { left = omega arith; right = omega arith; kept = λ compared low. absurd (omega (arith, low)); fits = λ compared. omega arith; moves = λ o c p low. rw (low (omega arith)) refl; apart = λ low. (omega arith, omega arith); role = refl }
tables ops.Gt = record { left = omega arith; right = omega arith; kept = λ compared low. absurd (omega (arith, low)); fits = λ compared. omega arith; moves = λ o c p low. rw (low (omega arith)) refl; apart = λ low. (omega arith, omega arith); role = refl }
tables ops.Ge = record { left = omega arith; right = omega arith; kept = λ compared low. absurd (omega (arith, low)); fits = λ compared. omega arith; moves = λ o c p low. rw (low (omega arith)) refl; apart = λ low. (omega arith, omega arith); role = refl }
tables ops.Add = record { left = omega arith; right = omega arith; kept = λ compared low. refl; fits = fits_tightly (least_on_right ops.Add) (omega arith); moves = λ o c p low. refl; apart = λ low. absurd (omega (arith, low)); role = refl }
tables ops.Sub = record { left = omega arith; right = omega arith; kept = λ compared low. refl; fits = fits_tightly (least_on_right ops.Sub) (omega arith); moves = λ o c p low. refl; apart = λ low. absurd (omega (arith, low)); role = refl }
tables ops.Mul = record { left = omega arith; right = omega arith; kept = λ compared low. refl; fits = fits_tightly (least_on_right ops.Mul) (omega arith); moves = λ o c p low. refl; apart = λ low. absurd (omega (arith, low)); role = refl }
tables ops.Div = record { left = omega arith; right = omega arith; kept = λ compared low. refl; fits = fits_tightly (least_on_right ops.Div) (omega arith); moves = λ o c p low. refl; apart = λ low. absurd (omega (arith, low)); role = refl }
tables ops.Rem = record { left = omega arith; right = omega arith; kept = λ compared low. refl; fits = fits_tightly (least_on_right ops.Rem) (omega arith); moves = λ o c p low. refl; apart = λ low. absurd (omega (arith, low)); role = refl }

-- a sum or what binds more closely leaves it as it was
pub tight : (form : Form) (compared : Bool) → IsGood form → 5 ≤ level_of form → compared_behind compared form ≡ compared
tight (NumberForm n) compared good low = refl
tight (TruthForm b) compared good low = refl
tight (ParamForm param) compared good low = refl
tight (FieldForm term embed) compared good low = refl
tight (SameForm left right) compared good low = refl
tight (CountForm orbit term) compared good low = refl
tight (CollectForm collector orbit term embed) compared good low = refl
tight (CallForm function arguments) compared good low = refl
tight (ParenForm part) compared good low = refl
tight (MinusForm part) compared good low = tight part compared good.1 (omega (arith, good.0))
tight (NotForm part) compared good low = absurd (omega (arith, low))
tight (BinaryForm op left right) compared good low =
    let table = tables op in
    let one : compared_behind compared left ≡ compared = tight left compared good.2 (omega (arith, low, table.left, good.0)) in
    ap (λ (b : Bool). compared_behind (compared_by op b) right) one ∙ tight right (compared_by op compared) good.3 (omega (arith, low, table.right, good.1)) ∙ table.kept compared low
tight (IfForm c a b) compared good low = absurd (omega (arith, low))

low_false : (need : Need) (compared : Bool) (level : ℕ) → least_for need compared ≤ level → level ≤ 4 → compared ≡ false
low_false need true level fits low = absurd (omega (arith, fits, low))
low_false need false level fits low = refl

-- ---- behind a form

pub data IsBehind : Place → Type 0 where
  Plainly : IsBehind places.Behind
  AtName : IsBehind places.BehindName

pub is_behind : (form : Form) → IsBehind (place_behind form)
is_behind (NumberForm n) = Plainly
is_behind (TruthForm b) = Plainly
is_behind (ParamForm param) = AtName
is_behind (FieldForm term embed) = Plainly
is_behind (SameForm left right) = Plainly
is_behind (CountForm orbit term) = Plainly
is_behind (CollectForm collector orbit term embed) = Plainly
is_behind (CallForm function arguments) = Plainly
is_behind (ParenForm part) = Plainly
is_behind (MinusForm part) = is_behind part
is_behind (NotForm part) = is_behind part
is_behind (BinaryForm op left right) = is_behind right
is_behind (IfForm c a b) = is_behind b

-- with the others a name goes on
abbrev pub is_after : Key → Bool
is_after (keys.Operator op) = true
is_after keys.Close = true
is_after keys.Comma = true
is_after keys.Then = true
is_after keys.Else = true
is_after _ = false

name_moves : (state : State) (key : Key) → is_after key ≡ true → move_by state places.BehindName key ≡ behind_move state key
name_moves state (keys.Operator op) after = refl
name_moves state keys.Close after = refl
name_moves state keys.Comma after = refl
name_moves state keys.Then after = refl
name_moves state keys.Else after = refl
name_moves state _ after = absurd cc

pub behind_moves : (state : State) (place : Place) (key : Key) → IsBehind place → is_after key ≡ true → move_by state place key ≡ behind_move state key
behind_moves state place key behind after = elim behind as (λ (p : Place) (is : IsBehind p). move_by state p key ≡ behind_move state key) [
  | Plainly ↦ refl
  | AtName ↦ name_moves state key after
]

-- ---- forms lead through the states

module _ (n : ℕ) where
  -- behind a form stands a fixed symbol
  after_form : (form : Form) (open_brackets : List Bracket) (compared : Bool) (next : State) (key : Key) (part : Part Role) (rest : List (Part Role)) (last : State) → is_after key ≡ true → key_of part.symbol ≡ key → part.role ≡ Fixed
      → behind_move (state_at open_brackets compared (place_behind form)) key ≡ Some next → Led n next rest last → Led n (state_at open_brackets compared (place_behind form)) (part ∷ rest) last
  after_form form open_brackets compared next key part rest last after is role moves led =
      let state = state_at open_brackets compared (place_behind form) in
      let own : part.role ≡ key_role n (place_behind form) (key_of part.symbol) 0 = role ∙ sym (plain key after) ∙ ap (λ (k : Key). key_role n (place_behind form) k 0) (sym is) in
      (0, next, own, ap (move_by state (place_behind form)) is ∙ behind_moves state (place_behind form) key (is_behind form) after ∙ moves, led)
    where
      plain : (k : Key) → is_after k ≡ true → key_role n (place_behind form) k 0 ≡ Fixed
      plain (keys.Operator op) after = refl
      plain keys.Close after = refl
      plain keys.Comma after = refl
      plain keys.Then after = refl
      plain keys.Else after = refl
      plain _ after = absurd cc

  named : (state next : State) (mention : Mention) (rest : List (Part Role)) (last : State) → is_among reserved mention.name ≡ false → move_by state state.place keys.Name ≡ Some next → Led n next rest last → Led n state (name mention ∷ rest) last
  named state next mention rest last free moves led =
      let key = key_name mention.name free in
      (mention.place, next, ap (λ (k : Key). key_role n state.place k mention.place) (sym key), ap (move_by state state.place) key ∙ moves, led)

  led_labels : (open_brackets : List Bracket) (compared : Bool) (ending : Ending) (orbit : List LabelForm) (rest : List (Part Role)) (last : State)
      → Led n (state_at open_brackets compared (places.Label ending)) rest last → Led n (state_at open_brackets compared (places.Label ending)) (spell_labels n orbit rest) last
  led_labels open_brackets compared ending [] rest last led = led
  led_labels open_brackets compared ending (form ∷ orbit) rest last led = (form.place, state_at open_brackets compared (places.Label ending), refl, refl, led_labels open_brackets compared ending orbit rest last led)

  led_path : (open_brackets : List Bracket) (compared : Bool) (ending : Ending) (path : List ℕ) (rest : List (Part Role)) (last : State)
      → Led n (state_at open_brackets compared (places.BehindNode ending)) rest last → Led n (state_at open_brackets compared (places.BehindNode ending)) (spell_path n path rest) last
  led_path open_brackets compared ending [] rest last led = led
  led_path open_brackets compared ending (label ∷ path) rest last led =
      (0, state_at open_brackets compared (places.Step ending), refl, refl, (0, state_at open_brackets compared (places.BehindNode ending), refl, refl, led_path open_brackets compared ending path rest last led))

  led_term : (open_brackets : List Bracket) (compared : Bool) (ending : Ending) (term : TermForm) (rest : List (Part Role)) (last : State) → is_among reserved term.node.name ≡ false
      → Led n (state_at open_brackets compared (places.BehindNode ending)) rest last → Led n (state_at open_brackets compared (places.Node ending)) (spell_term n term rest) last
  led_term open_brackets compared ending term rest last free led =
      named (state_at open_brackets compared (places.Node ending)) (state_at open_brackets compared (places.BehindNode ending)) term.node (spell_path n term.path rest) last free refl (led_path open_brackets compared ending term.path rest last led)

  -- behind a name that is a node
  led_field : (open_brackets : List Bracket) (compared : Bool) (path : List ℕ) (embed : Mention) (rest : List (Part Role)) (last : State) → is_among reserved embed.name ≡ false
      → Led n (state_at open_brackets compared places.Behind) rest last → Led n (state_at open_brackets compared places.BehindName) (spell_path n path (sign Fixed (codes ".") ∷ name embed ∷ rest)) last
  led_field open_brackets compared [] embed rest last free led =
      (0, state_at open_brackets compared (places.Field endings.Field), refl, refl, named (state_at open_brackets compared (places.Field endings.Field)) (state_at open_brackets compared places.Behind) embed rest last free refl led)
  led_field open_brackets compared (label ∷ path) embed rest last free led = (
    0,
    state_at open_brackets compared (places.Step endings.Field),
    refl,
    refl,
    (
      0,
      state_at open_brackets compared (places.BehindNode endings.Field),
      refl,
      refl,
      led_path open_brackets compared endings.Field path (sign Fixed (codes ".") ∷ name embed ∷ rest) last
          (0, state_at open_brackets compared (places.Field endings.Field), refl, refl, named (state_at open_brackets compared (places.Field endings.Field)) (state_at open_brackets compared places.Behind) embed rest last free refl led),
    ),
  )

  led_orbit : (open_brackets : List Bracket) (compared : Bool) (ending : Ending) (orbit : List LabelForm) (rest : List (Part Role)) (last : State)
      → Led n (state_at open_brackets compared (places.Node ending)) rest last
      → Led n (state_at open_brackets compared (places.Orbit ending)) (sign Fixed (codes "<") ∷ spell_labels n orbit (sign Fixed (codes ">") ∷ sign Fixed (codes "(") ∷ rest)) last
  led_orbit open_brackets compared ending orbit rest last led = (
    0,
    state_at open_brackets compared (places.Label ending),
    refl,
    refl,
    led_labels open_brackets compared ending orbit (sign Fixed (codes ">") ∷ sign Fixed (codes "(") ∷ rest) last
        (0, state_at open_brackets compared (places.Open ending), refl, refl, (0, state_at open_brackets compared (places.Node ending), refl, refl, led)),
  )

  led_collect : (collector : Collector) (open_brackets : List Bracket) (compared : Bool) (need : Need) (rest : List (Part Role)) (last : State)
      → Led n (state_at open_brackets compared (places.Orbit endings.FieldClose)) rest last → Led n (state_at open_brackets compared (places.Operand need)) (word Fixed (collector_word collector) ∷ rest) last
  led_collect collectors.Sum open_brackets compared need rest last led = (0, state_at open_brackets compared (places.Orbit endings.FieldClose), refl, refl, led)
  led_collect collectors.Least open_brackets compared need rest last led = (0, state_at open_brackets compared (places.Orbit endings.FieldClose), refl, refl, led)
  led_collect collectors.Greatest open_brackets compared need rest last led = (0, state_at open_brackets compared (places.Orbit endings.FieldClose), refl, refl, led)

  led_truth : (b : Bool) (open_brackets : List Bracket) (compared : Bool) (need : Need) (rest : List (Part Role)) (last : State)
      → Led n (state_at open_brackets compared places.Behind) rest last → Led n (state_at open_brackets compared (places.Operand need)) (word Fixed (truth_text b) ∷ rest) last
  led_truth true open_brackets compared need rest last led = (0, state_at open_brackets compared places.Behind, refl, refl, led)
  led_truth false open_brackets compared need rest last led = (0, state_at open_brackets compared places.Behind, refl, refl, led)

  not_need : (need : Need) (open_brackets : List Bracket) (rest : List (Part Role)) (last : State) → least_for need false ≤ 3
      → Led n (state_at open_brackets false (places.Operand needs.NoIf)) rest last → Led n (state_at open_brackets false (places.Operand need)) (word Fixed (codes "not") ∷ rest) last
  not_need needs.Any open_brackets rest last low led = (0, state_at open_brackets false (places.Operand needs.NoIf), refl, refl, led)
  not_need needs.NoIf open_brackets rest last low led = (0, state_at open_brackets false (places.Operand needs.NoIf), refl, refl, led)
  not_need needs.Tight open_brackets rest last low led = absurd (omega (arith, low))

  if_need : (need : Need) (open_brackets : List Bracket) (rest : List (Part Role)) (last : State) → least_for need false ≤ 0
      → Led n (state_at (brackets.If ∷ open_brackets) false (places.Operand needs.Any)) rest last → Led n (state_at open_brackets false (places.Operand need)) (word Fixed (codes "if") ∷ rest) last
  if_need needs.Any open_brackets rest last low led = (0, state_at (brackets.If ∷ open_brackets) false (places.Operand needs.Any), refl, refl, led)
  if_need needs.NoIf open_brackets rest last low led = absurd (omega (arith, low))
  if_need needs.Tight open_brackets rest last low led = absurd (omega (arith, low))

  abbrev LedForm : Form → Type 0
  LedForm form = (open_brackets : List Bracket) (compared : Bool) (need : Need) (rest : List (Part Role)) (last : State) → IsGood form → least_for need compared ≤ level_of form
      → Led n (state_at open_brackets (compared_behind compared form) (place_behind form)) rest last → Led n (state_at open_brackets compared (places.Operand need)) (spell n form rest) last

  abbrev LedArguments : Arguments → Type 0
  LedArguments arguments = (open_brackets : List Bracket) (compared : Bool) (rest : List (Part Role)) (last : State) → AreGood arguments
      → ((form : Form) (within : Bool) → Led n (state_at (brackets.Call compared ∷ open_brackets) within (place_behind form)) rest last)
      → Led n (state_at (brackets.Call compared ∷ open_brackets) false (places.Operand needs.Any)) (spell_arguments n arguments rest) last

  mutual
    pub led_form : (form : Form) → LedForm form
    led_form (NumberForm value) o c need rest last good fits led = (0, state_at o c places.Behind, refl, refl, led)
    led_form (TruthForm b) o c need rest last good fits led = led_truth b o c need rest last led
    led_form (ParamForm param) o c need rest last good fits led = named (state_at o c (places.Operand need)) (state_at o c places.BehindName) param rest last good refl led
    led_form (FieldForm term embed) o c need rest last good fits led =
        named (state_at o c (places.Operand need)) (state_at o c places.BehindName) term.node (spell_path n term.path (sign Fixed (codes ".") ∷ name embed ∷ rest)) last good.0 refl (led_field o c term.path embed rest last good.1 led)
    led_form (SameForm left right) o c need rest last good fits led =
        let close = led_term o c endings.Close right (sign Fixed (codes ")") ∷ rest) last good.1 (0, state_at o c places.Behind, refl, refl, led) in
        let first = led_term o c endings.Comma left (sign Fixed (codes ",") ∷ spell_term n right (sign Fixed (codes ")") ∷ rest)) last good.0 (0, state_at o c (places.Node endings.Close), refl, refl, close) in
        (0, state_at o c places.Same, refl, refl, (0, state_at o c (places.Node endings.Comma), refl, refl, first))
    led_form (CountForm orbit term) o c need rest last good fits led =
        let close = led_term o c endings.Close term (sign Fixed (codes ")") ∷ rest) last good (0, state_at o c places.Behind, refl, refl, led) in
        (0, state_at o c (places.Orbit endings.Close), refl, refl, led_orbit o c endings.Close orbit (spell_term n term (sign Fixed (codes ")") ∷ rest)) last close)
    led_form (CollectForm collector orbit term embed) o c need rest last good fits led =
        let field = named (state_at o c (places.Field endings.FieldClose)) (state_at o c places.Close) embed (sign Fixed (codes ")") ∷ rest) last good.1 refl (0, state_at o c places.Behind, refl, refl, led) in
        let close = led_term o c endings.FieldClose term (sign Fixed (codes ".") ∷ name embed ∷ sign Fixed (codes ")") ∷ rest) last good.0 (0, state_at o c (places.Field endings.FieldClose), refl, refl, field) in
        led_collect collector o c need (sign Fixed (codes "<") ∷ spell_labels n orbit (sign Fixed (codes ">") ∷ sign Fixed (codes "(") ∷ spell_term n term (sign Fixed (codes ".") ∷ name embed ∷ sign Fixed (codes ")") ∷ rest))) last
        (led_orbit o c endings.FieldClose orbit (spell_term n term (sign Fixed (codes ".") ∷ name embed ∷ sign Fixed (codes ")") ∷ rest)) last close)
    led_form (CallForm function arguments) o c need rest last good fits led =
        let close : (form : Form) (within : Bool) → Led n (state_at (brackets.Call c ∷ o) within (place_behind form)) (sign Fixed (codes ")") ∷ rest) last =
        λ form within. after_form form (brackets.Call c ∷ o) within (state_at o c places.Behind) keys.Close (sign Fixed (codes ")")) rest last refl refl refl refl led in
        let bracket : Led n (state_at o c places.BehindName) (sign Fixed (codes "(") ∷ spell_arguments n arguments (sign Fixed (codes ")") ∷ rest)) last =
        (0, state_at (brackets.Call c ∷ o) false (places.Operand needs.Any), refl, refl, led_arguments arguments o c (sign Fixed (codes ")") ∷ rest) last good.1 close) in
        named (state_at o c (places.Operand need)) (state_at o c places.BehindName) function (sign Fixed (codes "(") ∷ spell_arguments n arguments (sign Fixed (codes ")") ∷ rest)) last good.0 refl bracket
    led_form (ParenForm part) o c need rest last good fits led =
        let close = after_form part (brackets.Group c ∷ o) (compared_behind false part) (state_at o c places.Behind) keys.Close (sign Fixed (codes ")")) rest last refl refl refl refl led in
        (0, state_at (brackets.Group c ∷ o) false (places.Operand needs.Any), refl, refl, led_form part (brackets.Group c ∷ o) false needs.Any (sign Fixed (codes ")") ∷ rest) last good (omega arith) close)
    led_form (MinusForm part) o c need rest last good fits led =
        (0, state_at o c (places.Operand needs.Tight), refl, refl, led_form part o c needs.Tight rest last good.1 (fits_tightly (level_of part) (omega (arith, good.0)) c) led)
    led_form (NotForm part) o c need rest last good fits led =
        let false_is = low_false need c 3 fits (omega arith) in
        subst (λ (b : Bool). Led n (state_at o b (places.Operand need)) (spell n (NotForm part) rest) last) (sym false_is)
        (not_need need o (spell n part rest) last (subst (λ (b : Bool). least_for need b ≤ 3) false_is fits)
        (led_form part o false needs.NoIf rest last good.1 (omega (arith, good.0)) (subst (λ (b : Bool). Led n (state_at o (compared_behind b part) (place_behind part)) rest last) false_is led)))
    led_form (BinaryForm op left right) o c need rest last good fits led =
        let table = tables op in
        let middle = compared_behind c left in
        let behind = led_form right o (compared_by op middle) (need_behind op) rest last good.3 (omega (arith, table.fits middle, good.1)) led in
        let free : binary_level op < least_on_left op → middle ≡ false =
        λ less. let (low, high) = table.apart less in tight left c good.2 (omega (arith, high, good.0)) ∙ low_false need c (binary_level op) fits low in
        let on = after_form left o middle (state_at o (compared_by op middle) (places.Operand (need_behind op))) (keys.Operator op) (operator op) (spell n right rest) last refl (key_operator op) table.role (table.moves o middle (place_behind left) free) behind in
        led_form left o c need (operator op ∷ spell n right rest) last good.2 (omega (arith, fits, table.left, good.0)) on
    led_form (IfForm condition one two) o c need rest last good fits led =
        let false_is = low_false need c 0 fits (omega arith) in
        let tail = led_form two o false needs.Any rest last good.2 (omega arith) led in
        let on_else = after_form one (brackets.Then ∷ o) (compared_behind false one) (state_at o false (places.Operand needs.Any)) keys.Else (word Fixed (codes "else")) (spell n two rest) last refl refl refl refl tail in
        let middle = led_form one (brackets.Then ∷ o) false needs.Any (word Fixed (codes "else") ∷ spell n two rest) last good.1 (omega arith) on_else in
        let on_then = after_form condition (brackets.If ∷ o) (compared_behind false condition) (state_at (brackets.Then ∷ o) false (places.Operand needs.Any)) keys.Then (word Fixed (codes "then")) (spell n one (word Fixed (codes "else") ∷ spell n two rest)) last refl refl refl refl middle in
        let head = led_form condition (brackets.If ∷ o) false needs.Any (word Fixed (codes "then") ∷ spell n one (word Fixed (codes "else") ∷ spell n two rest)) last good.0 (omega arith) on_then in
        subst (λ (b : Bool). Led n (state_at o b (places.Operand need)) (spell n (IfForm condition one two) rest) last) (sym false_is)
        (if_need need o (spell n condition (word Fixed (codes "then") ∷ spell n one (word Fixed (codes "else") ∷ spell n two rest))) last (subst (λ (b : Bool). least_for need b ≤ 0) false_is fits) head)

    pub led_arguments : (arguments : Arguments) → LedArguments arguments
    led_arguments (First form) o c rest last good led = led_form form (brackets.Call c ∷ o) false needs.Any rest last good (omega arith) (led form (compared_behind false form))
    led_arguments (Further arguments form) o c rest last good led =
        led_arguments arguments o c (sign Fixed (codes ",") ∷ spell n form rest) last good.0
        (λ before within. after_form before (brackets.Call c ∷ o) within (state_at (brackets.Call c ∷ o) false (places.Operand needs.Any)) keys.Comma (sign Fixed (codes ",")) (spell n form rest) last refl refl refl refl
        (led_form form (brackets.Call c ∷ o) false needs.Any rest last good.1 (omega arith) (led form (compared_behind false form))))

-- ---- each state can be gone on from

module _ (n : ℕ) where
  abbrev GoesOn : State → Type 0
  GoesOn state = (rest : List (Part Role)) × (last : State) × Led n state rest last × IsTrue (is_whole last)

  onward : (state next : State) (part : Part Role) (place : ℕ) → part.role ≡ role_at n state part.symbol place → move state part.symbol ≡ Some next → GoesOn next → GoesOn state
  onward state next part place role moves (rest, last, led, whole) = (part ∷ rest, last, (place, next, role, moves, led), whole)

  -- each bracket is closed in its turn
  closes : (open_brackets : List Bracket) (compared : Bool) → GoesOn (state_at open_brackets compared places.Behind)
  closes [] compared = ([], state_at [] compared places.Behind, refl, refl)
  closes (brackets.Group before ∷ others) compared = onward _ (state_at others before places.Behind) (sign Fixed (codes ")")) 0 refl refl (closes others before)
  closes (brackets.Call before ∷ others) compared = onward _ (state_at others before places.Behind) (sign Fixed (codes ")")) 0 refl refl (closes others before)
  closes (brackets.If ∷ others) compared =
      onward _ (state_at (brackets.Then ∷ others) false (places.Operand needs.Any)) (word Fixed (codes "then")) 0 refl refl
      (onward _ (state_at (brackets.Then ∷ others) false places.Behind) (number Quantity 0) 0 refl refl
      (onward _ (state_at others false (places.Operand needs.Any)) (word Fixed (codes "else")) 0 refl refl
      (onward _ (state_at others false places.Behind) (number Quantity 0) 0 refl refl (closes others false))))
  closes (brackets.Then ∷ others) compared =
      onward _ (state_at others false (places.Operand needs.Any)) (word Fixed (codes "else")) 0 refl refl
      (onward _ (state_at others false places.Behind) (number Quantity 0) 0 refl refl (closes others false))

  -- the name of what there may be
  abbrev a : Mention
  a = record { name = codes "a"; place = 0 }

  close_place : (o : List Bracket) (c : Bool) → GoesOn (state_at o c places.Close)
  close_place o c = onward _ (state_at o c places.Behind) (sign Fixed (codes ")")) 0 refl refl (closes o c)

  field_place : (o : List Bracket) (c : Bool) (ending : Ending) → GoesOn (state_at o c (places.Field ending))
  field_place o c endings.FieldClose = onward _ (state_at o c places.Close) (name a) 0 refl refl (close_place o c)
  field_place o c endings.Field = onward _ (state_at o c places.Behind) (name a) 0 refl refl (closes o c)
  field_place o c endings.Comma = onward _ (state_at o c places.Behind) (name a) 0 refl refl (closes o c)
  field_place o c endings.Close = onward _ (state_at o c places.Behind) (name a) 0 refl refl (closes o c)

  node_place : (o : List Bracket) (c : Bool) (ending : Ending) → GoesOn (state_at o c (places.BehindNode ending))
  node_place o c endings.Comma =
      onward _ (state_at o c (places.Node endings.Close)) (sign Fixed (codes ",")) 0 refl refl
      (onward _ (state_at o c (places.BehindNode endings.Close)) (name a) 0 refl refl (onward _ (state_at o c places.Behind) (sign Fixed (codes ")")) 0 refl refl (closes o c)))
  node_place o c endings.Close = onward _ (state_at o c places.Behind) (sign Fixed (codes ")")) 0 refl refl (closes o c)
  node_place o c endings.Field = onward _ (state_at o c (places.Field endings.Field)) (sign Fixed (codes ".")) 0 refl refl (field_place o c endings.Field)
  node_place o c endings.FieldClose = onward _ (state_at o c (places.Field endings.FieldClose)) (sign Fixed (codes ".")) 0 refl refl (field_place o c endings.FieldClose)

  term_place : (o : List Bracket) (c : Bool) (ending : Ending) → GoesOn (state_at o c (places.Node ending))
  term_place o c ending = onward _ (state_at o c (places.BehindNode ending)) (name a) 0 refl refl (node_place o c ending)

  open_place : (o : List Bracket) (c : Bool) (ending : Ending) → GoesOn (state_at o c (places.Open ending))
  open_place o c ending = onward _ (state_at o c (places.Node ending)) (sign Fixed (codes "(")) 0 refl refl (term_place o c ending)

  label_place : (o : List Bracket) (c : Bool) (ending : Ending) → GoesOn (state_at o c (places.Label ending))
  label_place o c ending = onward _ (state_at o c (places.Open ending)) (sign Fixed (codes ">")) 0 refl refl (open_place o c ending)

  pub goes_on : (o : List Bracket) (c : Bool) (place : Place) → GoesOn (state_at o c place)
  goes_on o c (places.Operand need) = onward _ (state_at o c places.Behind) (number Quantity 0) 0 refl refl (closes o c)
  goes_on o c places.Behind = closes o c
  goes_on [] c places.BehindName = ([], state_at [] c places.BehindName, refl, refl)
  goes_on (bracket ∷ o) c places.BehindName = onward _ (state_at (bracket ∷ o) c (places.Field endings.Field)) (sign Fixed (codes ".")) 0 refl refl (field_place (bracket ∷ o) c endings.Field)
  goes_on o c places.Same = onward _ (state_at o c (places.Node endings.Comma)) (sign Fixed (codes "(")) 0 refl refl (term_place o c endings.Comma)
  goes_on o c (places.Orbit ending) = onward _ (state_at o c (places.Label ending)) (sign Fixed (codes "<")) 0 refl refl (label_place o c ending)
  goes_on o c (places.Label ending) = label_place o c ending
  goes_on o c (places.Open ending) = open_place o c ending
  goes_on o c (places.Node ending) = term_place o c ending
  goes_on o c (places.BehindNode ending) = node_place o c ending
  goes_on o c (places.Step ending) = onward _ (state_at o c (places.BehindNode ending)) (number (StepAt n) 0) 0 refl refl (node_place o c ending)
  goes_on o c (places.Field ending) = field_place o c ending
  goes_on o c places.Close = close_place o c
