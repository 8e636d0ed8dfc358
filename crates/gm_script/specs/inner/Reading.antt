-- How a script's text is read, one symbol after another: what can stand next and in which role, and what is held of what was read.
use Rattle.std.specs.Prelude.{◌≡◌, ℕ, ◌+◌, ◌^◌, ◌-◌, ◌<◌, ◌≤◌, min, Bool, true, false, nat_lt, nat_le, if◌then◌else◌, ℤ, pos, neg_ℤ, List, [], ◌∷◌, ◌++◌, length, map, take, drop, Option, Some, None, Result, Ok, Err, codes}
use Rattle.std.specs.List.{list_any}
use Rattle.std.specs.Option.{option_map}
use Rattle.std.specs.Str.{bytes_eq}
use Rattle.gm_model.specs.declared.limit.TheConstants.{MOST_LINES, MOST_NAME_BYTES}
use Rattle.gm_model.specs.declared.limit.LimitKind.TheVariants as limits
use Rattle.gm_model.specs.declared.token.Token.{Token}
use Rattle.gm_model.specs.declared.token.TokenKind.TheVariants as tokens
use Rattle.gm_model.specs.declared.value.Value.{Value}
use Rattle.gm_model.specs.declared.value.Value.TheVariants as values
use Rattle.gm_model.specs.Limits.{most_names}
use Rattle.gm_model.specs.Names.{reserved, is_among}
use Rattle.gm_model.specs.Tokens.{Item, Lexed, StrayAt, EndAt, items_from, items_of, bytes_of, IsLexeme}
use Rattle.gm_model.specs.Symbols.{Symbol, Word, Numeral, Sign, End, symbol_of_kind}
use Rattle.gm_model.specs.declared.word.Mask.{Mask}
use Rattle.gm_model.specs.Labels.{has}
use Rattle.gm_script.specs.ScriptText.{Role, Fixed, StatAt, RuleAt, Hook, LabelBehind, Size}
use Rattle.gm_text.specs.SchemaText.{Passed, LimitOf, Again, no_labels, with_label}
use Rattle.gm_text.specs.ValueText.{greatest}
use Rattle.gm_text.specs.inner.Cursor.{Cursor}
use Rattle.gm_text.specs.inner.Lexing.{rest_of}
use Rattle.gm_script.specs.declared.near.NameLead.{NameLead}
use Rattle.gm_script.specs.declared.sight.Head.{Head}
use Rattle.gm_script.specs.declared.sight.Head.TheVariants as heads
use Rattle.gm_script.specs.declared.sight.Sight.{Sight}
use Rattle.gm_script.specs.declared.sight.Sight.TheVariants as sights
use Rattle.gm_script.specs.declared.spot.Spot.{Spot}
use Rattle.gm_script.specs.declared.spot.Spot.TheVariants as spots
use Rattle.gm_script.specs.declared.reader.Passing.{Passing}
use Rattle.gm_script.specs.declared.reader.Passing.TheVariants as passings
use Rattle.gm_script.specs.declared.reader.TextFault.{TextFault}
use Rattle.gm_script.specs.declared.reader.TextFault.TheVariants as faults

-- ---- what a symbol is to a script

abbrev pub head_word : Head → List ℕ
head_word heads.Apply = codes "apply"
head_word heads.Each = codes "each"
head_word heads.Undo = codes "undo"
head_word heads.Redo = codes "redo"
head_word heads.Group = codes "group"
head_word heads.End = codes "end"

-- of a word that is neither `apply` nor `with`
abbrev pub sight_of_rarer_word : List ℕ → Sight
sight_of_rarer_word bytes =
    if bytes_eq bytes (codes "each") then sights.Begins heads.Each
    else (if bytes_eq bytes (codes "undo") then sights.Begins heads.Undo
    else (if bytes_eq bytes (codes "redo") then sights.Begins heads.Redo
    else (if bytes_eq bytes (codes "group") then sights.Begins heads.Group
    else (if bytes_eq bytes (codes "end") then sights.Begins heads.End
    else (if bytes_eq bytes (codes "true") then sights.Truth true
    else (if bytes_eq bytes (codes "false") then sights.Truth false
    else (if is_among reserved bytes then sights.Other
    else sights.Name)))))))

abbrev pub sight_of_word : List ℕ → Sight
sight_of_word bytes =
    if bytes_eq bytes (codes "apply") then sights.Begins heads.Apply
    else (if bytes_eq bytes (codes "with") then sights.With
    else sight_of_rarer_word bytes)

-- the words in which more is seen than a name
abbrev pub known_words : List (List ℕ)
known_words = codes "apply" ∷ codes "each" ∷ codes "undo" ∷ codes "redo" ∷ codes "group" ∷ codes "end" ∷ reserved

-- one of them begins with both bytes
abbrev pub is_known_beginning : ℕ → ℕ → Bool
is_known_beginning first second = list_any (bytes_eq (first ∷ second ∷ [])) (map (take 2) known_words)

abbrev pub sight_of_sign : List ℕ → Sight
sight_of_sign bytes =
    if bytes_eq bytes (codes "-") then sights.Minus
    else (if bytes_eq bytes (codes "(") then sights.Open
    else (if bytes_eq bytes (codes ")") then sights.Close
    else (if bytes_eq bytes (codes "<") then sights.Less
    else (if bytes_eq bytes (codes ">") then sights.Greater
    else sights.Other))))

-- a number above the greatest u64 counts as that one
abbrev pub sight_of : Symbol → Sight
sight_of (Word bytes) = sight_of_word bytes
sight_of (Numeral n) = sights.Number (min n (2 ^ 64 - 1))
sight_of (Sign bytes) = sight_of_sign bytes
sight_of _ = sights.Other

-- ---- what can stand next

-- a statement that can begin, in a group or not
abbrev pub next_head : Bool → Head → Option Spot
next_head within heads.Apply = Some spots.Apply
next_head true heads.End = Some spots.Bare
next_head true head = None
next_head false heads.Each = Some spots.Each
next_head false heads.End = None
next_head false head = Some spots.Bare

abbrev pub next_name : Spot → Sight → Option Spot
next_name to sights.Name = Some to
next_name to _ = None

abbrev pub next_hook : Sight → Option Spot
next_hook (sights.Number n) = Some spots.Rule
next_hook sights.With = Some spots.With
next_hook _ = None

abbrev pub next_with : Sight → Option Spot
next_with sights.With = Some spots.With
next_with _ = None

abbrev pub next_orbit : Sight → Option Spot
next_orbit sights.Less = Some spots.Orbit
next_orbit _ = None

abbrev pub next_label : Sight → Option Spot
next_label (sights.Number n) = Some spots.Orbit
next_label sights.Greater = Some spots.Over
next_label _ = None

-- where a value can begin
abbrev pub next_value : Sight → Option Spot
next_value (sights.Number n) = Some spots.Value
next_value (sights.Truth b) = Some spots.Value
next_value sights.Minus = Some spots.Minus
next_value sights.Open = Some spots.Open
next_value _ = None

-- where a number stands, with a minus or without
abbrev pub next_signed : Spot → Spot → Sight → Option Spot
next_signed behind spot sights.Minus = Some behind
next_signed behind spot (sights.Number n) = Some spot
next_signed behind spot _ = None

-- where it stands after its minus
abbrev pub next_number : Spot → Sight → Option Spot
next_number spot (sights.Number n) = Some spot
next_number spot _ = None

abbrev pub next_close : Sight → Option Spot
next_close sights.Close = Some spots.Value
next_close _ = None

abbrev pub next_third : Sight → Option Spot
next_third sights.Close = Some spots.Value
next_third sight = next_signed spots.SecondMinus spots.Third sight

-- a word that begins statements, or a rule's name where one is looked for
abbrev pub next_word : Bool → Spot → Head → Option Spot
next_word within spots.Start head = next_head within head
next_word within spots.Bare head = next_head within head
next_word within spots.Rule head = next_head within head
next_word within spots.Named head = next_head within head
next_word within spots.Value head = next_head within head
next_word within spots.Apply head = Some spots.Rule
next_word within spots.Over head = Some spots.Named
next_word within _ head = None

-- what begins no statement
abbrev pub next_part : Spot → Sight → Option Spot
next_part spots.Start sight = None
next_part spots.Bare sight = None
next_part spots.Apply sight = next_name spots.Rule sight
next_part spots.Rule sight = next_hook sight
next_part spots.Each sight = next_orbit sight
next_part spots.Orbit sight = next_label sight
next_part spots.Over sight = next_name spots.Named sight
next_part spots.Named sight = next_with sight
next_part spots.With sight = next_value sight
next_part spots.Value sight = next_value sight
next_part spots.Minus sight = next_number spots.Value sight
next_part spots.Open sight = next_signed spots.OpenMinus spots.First sight
next_part spots.OpenMinus sight = next_number spots.First sight
next_part spots.First sight = next_signed spots.FirstMinus spots.Second sight
next_part spots.FirstMinus sight = next_number spots.Second sight
next_part spots.Second sight = next_third sight
next_part spots.SecondMinus sight = next_number spots.Third sight
next_part spots.Third sight = next_close sight

-- after the spot, in a group or not
abbrev pub next_spot : Bool → Spot → Sight → Option Spot
next_spot within spot (sights.Begins head) = next_word within spot head
next_spot within spot sight = next_part spot sight

-- a rule's name is looked for
abbrev pub wants_name : Spot → Bool
wants_name spots.Apply = true
wants_name spots.Over = true
wants_name _ = false

-- after a minus
abbrev pub is_minus : Spot → Bool
is_minus spots.Minus = true
is_minus spots.OpenMinus = true
is_minus spots.FirstMinus = true
is_minus spots.SecondMinus = true
is_minus _ = false

-- where a statement is whole, or none has begun
abbrev pub is_whole : Spot → Bool
is_whole spots.Start = true
is_whole spots.Bare = true
is_whole spots.Rule = true
is_whole spots.Named = true
is_whole spots.Value = true
is_whole _ = false

-- a script can end there, in a group or not
abbrev pub can_end : Bool → Spot → Bool
can_end true spot = false
can_end false spot = is_whole spot

-- how many statements have begun, whether a group is open, and the labels of the orbit that is being read
pub record Been : Type 0 where
  pub begun : ℕ
  pub within : Bool
  pub labels : Mask

pub data State : Type 0 where
  -- after what was read last, where so much has been
  At : Spot → Been → State
  -- after the end of the text
  Ended : State

-- before anything was read
abbrev pub no_been : Been
no_been = record { begun = 0; within = false; labels = no_labels }

abbrev pub first_state : State
first_state = At spots.Start no_been

-- whether a group is open after the word
abbrev pub within_behind : Head → Bool → Bool
within_behind heads.Group within = true
within_behind heads.End within = false
within_behind _ within = within

abbrev pub begun_behind : Head → Been → Been
begun_behind head been = record { begun = been.begun + 1; within = within_behind head been.within; labels = no_labels }

abbrev pub labelled : ℕ → Been → Been
labelled label been = record { begun = been.begun; within = been.within; labels = with_label been.labels label }

-- after a label
abbrev pub labelled_by : Symbol → Been → Been
labelled_by (Numeral label) been = labelled label been
labelled_by _ been = been

-- after what is seen in the symbol
abbrev pub been_behind : Spot → Sight → Symbol → Been → Been
been_behind spots.Apply sight symbol been = been
been_behind spots.Over sight symbol been = been
been_behind spots.Orbit sight symbol been = labelled_by symbol been
been_behind spot (sights.Begins head) symbol been = begun_behind head been
been_behind spot sight symbol been = been

abbrev pub move : State → Symbol → Option State
move Ended symbol = None
move (At spot been) End = if can_end been.within spot then Some Ended else None
move (At spot been) symbol = option_map (λ next. At next (been_behind spot (sight_of symbol) symbol been)) (next_spot been.within spot (sight_of symbol))

-- ---- in which role it stands there

-- of a symbol that isn't a rule's name, a hook or a label
abbrev pub role_of : Spot → Been → Sight → ℕ → Role
role_of spot been (sights.Begins head) place = StatAt (been.begun + 1) place
role_of spot been (sights.Number n) place = Size (is_minus spot)
role_of spot been _ place = Fixed

abbrev pub role_of_hook : Been → Sight → ℕ → Role
role_of_hook been (sights.Number n) place = Hook
role_of_hook been sight place = role_of spots.Rule been sight place

abbrev pub role_of_label : ℕ → Been → Sight → ℕ → Role
role_of_label n been (sights.Number label) place = LabelBehind n been.labels
role_of_label n been sight place = role_of spots.Orbit been sight place

abbrev pub role_in : ℕ → Spot → Been → Sight → ℕ → Role
role_in n spots.Apply been sight place = RuleAt place
role_in n spots.Over been sight place = RuleAt place
role_in n spots.Rule been sight place = role_of_hook been sight place
role_in n spots.Orbit been sight place = role_of_label n been sight place
role_in n spot been sight place = role_of spot been sight place

-- where labels go up to the number
abbrev pub role_at : ℕ → State → Symbol → ℕ → Role
role_at n Ended symbol place = Fixed
role_at n (At spot been) symbol place = role_in n spot been (sight_of symbol) place

-- no part tells what stands before it
abbrev pub never : Role → Bool
never role = false

abbrev pub label_passes : ℕ → Mask → ℕ → Option Passed
label_passes n labels label = if nat_lt n label then Some (LimitOf limits.Label) else (if has labels label then Some Again else None)

-- what a number passes at the spot
abbrev pub number_passes : ℕ → Spot → Mask → ℕ → Option Passed
number_passes n spots.Rule labels m = if nat_le most_names m then Some (LimitOf limits.DartName) else None
number_passes n spots.Orbit labels m = label_passes n labels m
number_passes n spot labels m = if nat_lt (greatest (is_minus spot)) m then Some (LimitOf limits.Integer) else None

abbrev pub name_passes : ℕ → Option Passed
name_passes size = if nat_lt MOST_NAME_BYTES size then Some (LimitOf limits.Name) else None

-- what is passed at the spot, where so much has been and the token has this many bytes
abbrev pub passed_in : ℕ → Spot → Been → Sight → ℕ → Option Passed
passed_in n spot been (sights.Number m) size = number_passes n spot been.labels m
passed_in n spots.Apply been sight size = name_passes size
passed_in n spots.Over been sight size = name_passes size
passed_in n spot been (sights.Begins head) size = if nat_lt MOST_LINES (been.begun + 1) then Some (LimitOf limits.Lines) else None
passed_in n _ been _ _ = None

-- ---- what is held of it

-- a statement, its rule's name by the token; three numbers are held as a vector
pub record HeldStat : Type 0 where
  pub place : ℕ
  pub head : Head
  pub name : Token
  pub hooks : List ℕ
  pub labels : Mask
  pub values : List Value

-- what was read last, how many statements have begun, whether a group is open, the statement that is being read, and the numbers of its vector
pub record Held : Type 0 where
  pub spot : Spot
  pub begun : ℕ
  pub within : Bool
  pub stat : HeldStat
  pub x : ℤ
  pub y : ℤ
  pub z : ℤ

abbrev pub been_of : Held → Been
been_of held = record { begun = held.begun; within = held.within; labels = held.stat.labels }

abbrev pub signed : Bool → ℕ → ℤ
signed minus size = if minus then neg_ℤ (pos size) else pos size

-- a statement that begins at the token
abbrev pub new_stat : Head → Token → HeldStat
new_stat head token = record { place = token.start; head = head; name = token; hooks = []; labels = no_labels; values = [] }

abbrev pub begun : Head → Token → Held → Held
begun head token held = record held { begun = held.begun + 1; within = within_behind head held.within; stat = new_stat head token }

abbrev pub named : Token → Held → Held
named token held = record held { stat = record held.stat { name = token } }

abbrev pub with_hook : ℕ → Held → Held
with_hook n held = record held { stat = record held.stat { hooks = held.stat.hooks ++ n ∷ [] } }

abbrev pub with_orbit : ℕ → Held → Held
with_orbit label held = record held { stat = record held.stat { labels = with_label held.stat.labels label } }

abbrev pub with_value : Value → Held → Held
with_value value held = record held { stat = record held.stat { values = held.stat.values ++ value ∷ [] } }

-- a word that begins statements, or a rule's name where one is looked for
abbrev pub hold_head : Spot → Head → Token → Held → Held
hold_head spots.Apply head token held = named token held
hold_head spots.Over head token held = named token held
hold_head _ head token held = begun head token held

-- a hook, a label, a number of a vector, or one by itself
abbrev pub hold_number : Spot → ℕ → Held → Held
hold_number spots.Rule n held = with_hook n held
hold_number spots.Orbit n held = with_orbit n held
hold_number spots.Open n held = record held { x = signed false n }
hold_number spots.OpenMinus n held = record held { x = signed true n }
hold_number spots.First n held = record held { y = signed false n }
hold_number spots.FirstMinus n held = record held { y = signed true n }
hold_number spots.Second n held = record held { z = signed false n }
hold_number spots.SecondMinus n held = record held { z = signed true n }
hold_number spot n held = with_value (values.Int (signed (is_minus spot) n)) held

abbrev pub hold_vector : Spot → Held → Held
hold_vector spots.Second held = with_value (values.Vec2 held.x held.y) held
hold_vector _ held = with_value (values.Vec3 held.x held.y held.z) held

-- what is held after what is seen in the token, where that can stand there
abbrev pub hold : Spot → Sight → Token → Held → Held
hold spot sights.Name token held = named token held
hold spot (sights.Begins head) token held = hold_head spot head token held
hold spot (sights.Number n) token held = hold_number spot n held
hold spot (sights.Truth b) token held = with_value (values.Bool b) held
hold spot sights.Close token held = hold_vector spot held
hold _ _ token held = held

-- ---- which statements are whole

-- the statement that is whole where the next begins or the text ends
abbrev pub whole_stat : Spot → HeldStat → Option HeldStat
whole_stat spots.Start stat = None
whole_stat _ stat = Some stat

-- the statement before a word that begins one, unless that is a rule's name
abbrev pub before_head : Spot → HeldStat → Option HeldStat
before_head spots.Apply stat = None
before_head spots.Over stat = None
before_head spot stat = whole_stat spot stat

-- the statement that ends where this is seen after the spot
abbrev pub ended_by : Spot → Sight → HeldStat → Option HeldStat
ended_by spot (sights.Begins head) stat = before_head spot stat
ended_by spot _ stat = None

-- the statement, if there is one, and the others after it
abbrev pub put_first : Option HeldStat → List HeldStat → List HeldStat
put_first None stats = stats
put_first (Some stat) stats = stat ∷ stats

-- ---- what reading comes to

-- why reading stops
pub data Stop : Type 0 where
  -- at this place no script goes on
  Ends : ℕ → Stop
  -- something is passed at this place
  Passes : Passed → ℕ → Stop
  -- what a text's items end with is missing, as it never is
  Lost : Stop

-- what is seen in the token, where it can stand there, unless it passes something
abbrev pub taken : Option Spot → Option Passed → Sight → Token → Held → Result Held Stop
taken None passed sight token held = Err (Ends token.start)
taken (Some spot) (Some what) sight token held = Err (Passes what token.start)
taken (Some spot) None sight token held = Ok (record (hold held.spot sight token held) { spot = spot })

-- where labels go up to the number
abbrev pub taken_at : ℕ → Sight → Token → Held → Result Held Stop
taken_at n sight token held = taken (next_spot held.within held.spot sight) (passed_in n held.spot (been_of held) sight (token.end - token.start)) sight token held

-- the last statement, if there is one, where the text ends
abbrev pub finished : ℕ → Held → Result (Option HeldStat) Stop
finished place held = if can_end held.within held.spot then Ok (whole_stat held.spot held.stat) else Err (Ends place)

infixl 10 ◌>>=◌
abbrev pub ◌>>=◌ : {A B : Type 0} → Result A Stop → (A → Result B Stop) → Result B Stop
(Ok x) >>= f = f x
(Err stop) >>= f = Err stop

abbrev pub symbol_at : List ℕ → Token → Symbol
symbol_at text token = symbol_of_kind token.kind (bytes_of text token)

-- the statements that end from here on
abbrev pub read_from : ℕ → List ℕ → Held → List Item → Result (List HeldStat) Stop
read_from n text held [] = Err Lost
read_from n text held (StrayAt place ∷ items) = Err (Ends place)
read_from n text held (EndAt place ∷ []) = finished place held >>= λ stat. Ok (put_first stat [])
read_from n text held (EndAt place ∷ item ∷ items) = Err Lost
read_from n text held (Lexed token ∷ items) =
    taken_at n (sight_of (symbol_at text token)) token held >>= λ next. read_from n text next items
    >>= λ stats. Ok (put_first (ended_by held.spot (sight_of (symbol_at text token)) held.stat) stats)

abbrev pub no_token : Token
no_token = record { kind = tokens.Name; start = 0; end = 0 }

abbrev pub nothing : Held
nothing = record { spot = spots.Start; begun = 0; within = false; stat = new_stat heads.Apply no_token; x = pos 0; y = pos 0; z = pos 0 }

-- the statements of a text
abbrev pub stats_of : ℕ → List ℕ → Result (List HeldStat) Stop
stats_of n text = read_from n text nothing (items_of text)

-- ---- what a reader of the code answers

-- what the code says is passed
abbrev pub passed_of : Option Passing → Option Passed
passed_of None = None
passed_of (Some (passings.Limit what)) = Some (LimitOf what)
passed_of (Some passings.Mention) = Some Again

abbrev pub fault_of : Passing → ℕ → TextFault
fault_of (passings.Limit what) place = faults.Limit what place
fault_of passings.Mention place = faults.Twice place

-- the token lies in the text
pub record IsInText (text : List ℕ) (token : Token) : Type 0 where
  pub order : token.start ≤ token.end
  pub within : token.end ≤ length text

-- from the one lexer to the other tokens were read that end no statement
pub record ReadsOn (held next : Held) (old new : Cursor) : Type 0 where
  pub text : new.text ≡ old.text
  pub goes_on : old.place ≤ new.place
  pub same : (n : ℕ) → read_from n old.text next (rest_of new) ≡ read_from n old.text held (rest_of old)
  pub named : IsInText old.text held.stat.name → IsInText old.text next.stat.name

-- the token is the next item, and lies in the text
pub record IsNext (before : Cursor) (token : Token) (behind : Cursor) : Type 0 where
  pub items : rest_of before ≡ Lexed token ∷ rest_of behind
  pub goes_on : before.place < behind.place
  pub order : token.start ≤ token.end
  pub within : token.end ≤ length before.text
  pub lexeme : IsLexeme token.kind (bytes_of before.text token)

-- the token is the next item, in which this is seen, and lies in the text
pub record IsSeenNext (before : Cursor) (sight : Sight) (token : Token) (behind : Cursor) : Type 0 where
  pub text : behind.text ≡ before.text
  pub items : rest_of before ≡ Lexed token ∷ rest_of behind
  pub goes_on : before.place < behind.place
  pub inside : IsInText before.text token
  pub seen : sight ≡ sight_of (symbol_at before.text token)

-- the bytes are a blank, a word in which this is seen, and a byte that no name goes on with: wherever they stand, the word is a token
pub record IsLead (lead : List ℕ) (sight : Sight) : Type 0 where
  pub some : 3 ≤ length lead
  pub items : (place : ℕ) (rest : List ℕ) → items_from place 0 (lead ++ rest) ≡ Lexed (record { kind = tokens.Name; start = place + 1; end = place + length lead - 1 }) ∷ items_from (place + length lead - 1) 0 (drop (length lead - 1) lead ++ rest)
  pub seen : sight ≡ sight_of_word (take (length lead - 2) (drop 1 lead))

-- the bytes are a name between two blanks, and nothing else is seen in it
pub record IsNameLead (lead : NameLead) : Type 0 where
  pub some : 1 ≤ lead.size
  pub few : lead.size ≤ 16
  pub is : IsLead (take lead.size lead.bytes) sights.Name

abbrev pub IsStray : Cursor → TextFault → Type 0
IsStray cursor (faults.Text place) = rest_of cursor ≡ StrayAt place ∷ []
IsStray cursor _ = ⊥

abbrev pub Fails : {Y : Type 0} → TextFault → Result Y Stop → Type 0
Fails faults.OutOfMemory read = Unit {0}
Fails (faults.Text place) read = read ≡ Err (Ends place)
Fails (faults.Limit what place) read = read ≡ Err (Passes (LimitOf what) place)
Fails (faults.Twice place) read = read ≡ Err (Passes Again place)

-- what was returned, seen by view, is what reading gives, unless memory ran out
abbrev pub Gives : {X Y : Type 0} → (X → Y) → Result X TextFault → Result Y Stop → Type 0
Gives view (Ok x) read = read ≡ Ok (view x)
Gives view (Err fault) read = Fails fault read
