-- How the tree of an expression is put together, one symbol after another, with the least fault of its names so far.
use Rattle.std.specs.Prelude.{ℕ, pos, Bool, true, false, ◌||◌, ◌&&◌, nat_eq, nat_lt, nat_le, if◌then◌else◌, List, [], ◌∷◌, ◌++◌, map, reverse, Option, Some, None, is_some, min}
use Rattle.std.specs.List.{position}
use Rattle.std.specs.Option.{option_map, unwrap_or}
use Rattle.gm_model.specs.declared.expr.BinOp.{BinOp}
use Rattle.gm_model.specs.declared.expr.DartTerm.{DartTerm}
use Rattle.gm_model.specs.declared.expr.UnOp.TheVariants as unary
use Rattle.gm_model.specs.declared.word.Mask.{Mask}
use Rattle.gm_model.specs.Labels.{has}
use Rattle.gm_model.specs.Symbols.{Symbol, Word, Numeral, Mark}
use Rattle.gm_model.specs.Trees.{Tree, Number, Truth, Param as Parameter, Field, Same, Count, Unary, Binary, If, tree_of}
use Rattle.gm_text.specs.SchemaText.{no_labels, with_label}
use Rattle.gm_parse.specs.declared.fault.ExprFault.{ExprFault}
use Rattle.gm_parse.specs.declared.fault.ExprFault.TheVariants as faults
use Rattle.gm_parse.specs.declared.key.Collector.{Collector}
use Rattle.gm_parse.specs.declared.key.Key.{Key}
use Rattle.gm_parse.specs.declared.key.Key.TheVariants as keys
use Rattle.gm_tree.specs.declared.partial.Callee.{Callee}
use Rattle.gm_tree.specs.declared.partial.Head.{Head}
use Rattle.gm_tree.specs.declared.partial.Head.TheVariants as heads
use Rattle.gm_tree.specs.declared.partial.Lead.{Lead}
use Rattle.gm_tree.specs.declared.partial.Lead.TheVariants as leads
use Rattle.gm_tree.specs.declared.partial.Named.{Named}
use Rattle.gm_tree.specs.declared.partial.Partial.{Partial}
use Rattle.gm_tree.specs.declared.partial.Partial.TheVariants as partials
use Rattle.gm_tree.specs.declared.waiting.Waiting.{Waiting}
use Rattle.gm_tree.specs.declared.waiting.Waiting.TheVariants as waitings
use Rattle.gm_parse.specs.Levels.{binary_level, least_of_part, least_on_right}
use Rattle.gm_parse.specs.Meaning.{Names, NameFault, UnknownAt, TwiceAt, fault_place, fault_rank, number_of, is_named, function_named, with_arity, call_of, collect}
use Rattle.gm_parse.specs.inner.Reading.{key_of}
use Rattle.gm_parse.specs.Spelling.{greatest}
use Rattle.gm_tree.specs.declared.builder.Builder.{Builder}

-- ---- what waits for an operand, and what is read of one

pub data Frame : Type 0 where
  -- an operator with its left operand, `-` and `not`
  LeftOf : BinOp → Tree → Frame
  MinusOf : Frame
  NotOf : Frame
  -- `else`, with the condition and the first part
  ElseOf : Tree → Tree → Frame
  -- an open bracket, and a function's in its first, second, third and a later argument
  GroupOf : Frame
  FirstOf : Callee → Frame
  SecondOf : Callee → Tree → Frame
  ThirdOf : Callee → Tree → Tree → Frame
  BeyondOf : Callee → Frame
  IfOf : Frame
  ThenOf : Tree → Frame

abbrev pub frame_of : Waiting → Frame
frame_of (waitings.Left op e) = LeftOf op (tree_of e)
frame_of waitings.Minus = MinusOf
frame_of waitings.Not = NotOf
frame_of (waitings.Else c a) = ElseOf (tree_of c) (tree_of a)
frame_of waitings.Group = GroupOf
frame_of (waitings.First callee) = FirstOf callee
frame_of (waitings.Second callee a) = SecondOf callee (tree_of a)
frame_of (waitings.Third callee a b) = ThirdOf callee (tree_of a) (tree_of b)
frame_of (waitings.Beyond callee) = BeyondOf callee
frame_of waitings.If = IfOf
frame_of (waitings.Then c) = ThenOf (tree_of c)

-- those of a stack, whose last one is the innermost
abbrev pub frames_of : List Waiting → List Frame
frames_of stack = reverse (map frame_of stack)

pub data Part : Type 0 where
  -- nothing, a whole operand, and a name by itself
  Nothing : Part
  Value : Tree → Part
  Name : Named → Part
  -- in an orbit, before a dart term, after one, and after the embedding that is read at it
  InOrbit : Head → Mask → Part
  BeforeTerm : Lead → Part
  BehindTerm : Lead → DartTerm → Part
  BehindField : Collector → Mask → DartTerm → ℕ → Part

abbrev pub part_of : Partial → Part
part_of partials.Nothing = Nothing
part_of (partials.Value e) = Value (tree_of e)
part_of (partials.Name named) = Name named
part_of (partials.InOrbit head mask) = InOrbit head mask
part_of (partials.BeforeTerm lead) = BeforeTerm lead
part_of (partials.BehindTerm lead term) = BehindTerm lead term
part_of (partials.BehindField collector mask term embed) = BehindField collector mask term embed

-- the frames, the innermost first, the least fault, and what is read of the operand
pub record Work : Type 0 where
  pub frames : List Frame
  pub fault : Option NameFault
  pub part : Part

abbrev pub work : List Frame → Option NameFault → Part → Work
work frames fault part = record { frames = frames; fault = fault; part = part }

abbrev pub name_fault : ExprFault → NameFault
name_fault (faults.Unknown place) = UnknownAt place
name_fault (faults.Twice place) = TwiceAt place
name_fault faults.OutOfMemory = UnknownAt 0

-- what a builder has, with what is read of an operand
abbrev pub work_of : Builder → Partial → Work
work_of builder partial = work (frames_of builder.waiting.items) (option_map name_fault builder.least) (part_of partial)

-- ---- faults

abbrev pub is_before : NameFault → NameFault → Bool
is_before fault other = nat_lt (fault_place fault) (fault_place other) || (nat_eq (fault_place fault) (fault_place other) && nat_lt (fault_rank fault) (fault_rank other))

-- the one that counts first
abbrev pub earlier : Option NameFault → NameFault → Option NameFault
earlier None fault = Some fault
earlier (Some least) fault = if is_before fault least then Some fault else Some least

abbrev pub noted : Option NameFault → List NameFault → Option NameFault
noted least [] = least
noted least (fault ∷ faults) = noted (earlier least fault) faults

-- where nothing was found for the name at the place
abbrev pub missed : {A : Type 0} → Option NameFault → ℕ → Option A → Option NameFault
missed least place found = if is_some found then least else earlier least (UnknownAt place)

-- ---- frames

abbrev pub least_in : Frame → ℕ
least_in (LeftOf op left) = least_on_right op
least_in MinusOf = least_of_part unary.Neg
least_in NotOf = least_of_part unary.Not
least_in _ = 0

abbrev pub is_bracket : Frame → Bool
is_bracket (LeftOf op left) = false
is_bracket MinusOf = false
is_bracket NotOf = false
is_bracket (ElseOf c a) = false
is_bracket _ = true

abbrev pub least_of : List Frame → ℕ
least_of [] = 0
least_of (frame ∷ frames) = least_in frame

-- a bracket is innermost, or nothing waits
abbrev pub is_at_bracket : List Frame → Bool
is_at_bracket [] = true
is_at_bracket (frame ∷ frames) = is_bracket frame

-- the frame with its operand
abbrev pub closed : Frame → Tree → Tree
closed (LeftOf op left) tree = Binary op left tree
closed MinusOf tree = Unary unary.Neg tree
closed NotOf tree = Unary unary.Not tree
closed (ElseOf c a) tree = If c a tree
closed _ tree = tree

-- frames with an operand after them
pub record Held : Type 0 where
  pub frames : List Frame
  pub tree : Tree

abbrev pub held : List Frame → Tree → Held
held frames tree = record { frames = frames; tree = tree }

-- up to the innermost bracket
abbrev pub settled : List Frame → Tree → Held
settled [] tree = held [] tree
settled (frame ∷ frames) tree = if is_bracket frame then held (frame ∷ frames) tree else settled frames (closed frame tree)

-- up to what an operator of the level can stand within
abbrev pub reduced : ℕ → List Frame → Tree → Held
reduced level [] tree = held [] tree
reduced level (frame ∷ frames) tree = if nat_le (least_in frame) level then held (frame ∷ frames) tree else reduced level frames (closed frame tree)

-- ---- after an operand

-- whether the callee takes this many arguments, or else its place
abbrev pub misfit_of : Callee → ℕ → Option ℕ
misfit_of callee count = if is_some (with_arity callee.function count) then None else Some callee.place

-- the place of a function that doesn't take its arguments, of which the last one is still to come
abbrev pub misfit : Frame → Option ℕ
misfit (FirstOf callee) = misfit_of callee 1
misfit (SecondOf callee a) = misfit_of callee 2
misfit (ThirdOf callee a b) = misfit_of callee 3
misfit (BeyondOf callee) = Some callee.place
misfit _ = None

abbrev pub misfitted : Option NameFault → Option ℕ → Option NameFault
misfitted least (Some place) = earlier least (UnknownAt place)
misfitted least None = least

-- a bracket with the last operand in it
abbrev pub enclosed : Frame → Tree → Tree
enclosed (FirstOf callee) tree = call_of callee.function (tree ∷ [])
enclosed (SecondOf callee a) tree = call_of callee.function (a ∷ tree ∷ [])
enclosed (ThirdOf callee a b) tree = call_of callee.function (a ∷ b ∷ tree ∷ [])
enclosed (BeyondOf callee) tree = Truth false
enclosed _ tree = tree

abbrev pub close_bracket : List Frame → Option NameFault → Tree → Work
close_bracket (frame ∷ frames) least tree = work frames (misfitted least (misfit frame)) (Value (enclosed frame tree))
close_bracket [] least tree = work [] least (Value tree)

abbrev pub close_held : Option NameFault → Held → Work
close_held least to = close_bracket to.frames least to.tree

-- a bracket whose next part begins after the operand
abbrev pub next_frame : Key → Frame → Tree → Frame
next_frame keys.Comma (FirstOf callee) tree = SecondOf callee tree
next_frame keys.Comma (SecondOf callee a) tree = ThirdOf callee a tree
next_frame keys.Comma (ThirdOf callee a b) tree = BeyondOf callee
next_frame keys.Then IfOf tree = ThenOf tree
next_frame keys.Else (ThenOf c) tree = ElseOf c tree
next_frame _ frame tree = frame

abbrev pub next_frames : Key → List Frame → Tree → List Frame
next_frames key (frame ∷ frames) tree = next_frame key frame tree ∷ frames
next_frames key [] tree = []

abbrev pub next_held : Key → Held → List Frame
next_held key to = next_frames key to.frames to.tree

abbrev pub before_operator : BinOp → Held → List Frame
before_operator op to = LeftOf op to.tree ∷ to.frames

abbrev pub behind_value : List Frame → Option NameFault → Tree → Key → Work
behind_value frames least tree (keys.Operator op) = work (before_operator op (reduced (binary_level op) frames tree)) least Nothing
behind_value frames least tree keys.Close = close_held least (settled frames tree)
behind_value frames least tree keys.Comma = work (next_held keys.Comma (settled frames tree)) least Nothing
behind_value frames least tree keys.Then = work (next_held keys.Then (settled frames tree)) least Nothing
behind_value frames least tree keys.Else = work (next_held keys.Else (settled frames tree)) least Nothing
behind_value frames least tree _ = work frames least (Value tree)

-- ---- names and terms

-- a name by itself is a parameter
abbrev pub param_of : Named → Tree
param_of named = Parameter (unwrap_or named.param 0)

abbrev pub param_missed : Option NameFault → Named → Option NameFault
param_missed least named = missed least named.place named.param

abbrev pub callee_of : Named → Callee
callee_of named = record { function = named.function; place = named.place }

abbrev pub term_at : Option ℕ → DartTerm
term_at node = record { node = unwrap_or node 0; path = [] }

abbrev pub behind_name : List Frame → Option NameFault → Named → Key → Work
behind_name frames least named keys.Open = work (FirstOf (callee_of named) ∷ frames) least Nothing
behind_name frames least named keys.At = work frames (missed least named.place named.node) (BehindTerm leads.Plain (term_at named.node))
behind_name frames least named keys.Dot = work frames (missed least named.place named.node) (BehindTerm leads.Plain (term_at named.node))
behind_name frames least named key = behind_value frames (param_missed least named) (param_of named) key

abbrev pub lead_of : Head → Mask → Lead
lead_of heads.Count mask = leads.Counted mask
lead_of (heads.Collect collector) mask = leads.Collected collector mask

-- a label of the orbit at the place
abbrev pub labelled : List Frame → Option NameFault → Head → Mask → ℕ → ℕ → Work
labelled frames least head mask label place = work frames (if has mask label then earlier least (TwiceAt place) else least) (InOrbit head (with_label mask label))

abbrev pub term_value : Lead → DartTerm → Part
term_value (leads.Second first) term = Value (Same first term)
term_value (leads.Counted mask) term = Value (Count mask term)
term_value _ term = Nothing

abbrev pub field_part : Lead → DartTerm → ℕ → Part
field_part leads.Plain term embed = Value (Field term embed)
field_part (leads.Collected collector mask) term embed = BehindField collector mask term embed
field_part _ term embed = Nothing

-- ---- one symbol

abbrev pub number_in : Symbol → ℕ
number_in (Numeral n) = n
number_in _ = 0

-- a label is at most 7, and a number at most the greatest
abbrev pub label_in : Symbol → ℕ
label_in symbol = min (number_in symbol) 7

abbrev pub size_in : Symbol → ℕ
size_in symbol = min (number_in symbol) greatest

abbrev pub word_in : Symbol → List ℕ
word_in (Word w) = w
word_in _ = []

-- what waits for an operand that begins with it
abbrev pub begin_frame : Key → Option Frame
begin_frame keys.Open = Some GroupOf
begin_frame (keys.Operator op) = Some MinusOf
begin_frame keys.Not = Some NotOf
begin_frame keys.If = Some IfOf
begin_frame _ = None

-- `)` ends what a function of an orbit has in its parentheses
abbrev pub field_end : Key → Collector → Mask → DartTerm → ℕ → Part
field_end keys.Close collector mask term embed = Value (collect collector mask term embed)
field_end _ collector mask term embed = BehindField collector mask term embed

abbrev pub in_orbit : List Frame → Option NameFault → Head → Mask → Key → Mark → Work
in_orbit frames least head mask keys.Number mark = labelled frames least head mask (label_in mark.symbol) mark.place
in_orbit frames least head mask keys.Open mark = work frames least (BeforeTerm (lead_of head mask))
in_orbit frames least head mask _ mark = work frames least (InOrbit head mask)

module _ (names : Names) where
  abbrev pub embed_of : List ℕ → Option ℕ
  embed_of name = number_of names.embeds name

  abbrev pub node_of : List ℕ → Option ℕ
  node_of name = position (is_named name) names.nodes

  abbrev pub named_at : List ℕ → ℕ → Named
  named_at name place = record { place = place; param = number_of names.params name; node = node_of name; function = function_named name }

  -- what is read of the operand after its first symbol, which is no bracket and no operator
  abbrev pub begin_part : Key → Mark → Part
  begin_part keys.Number mark = Value (Number (pos (size_in mark.symbol)))
  begin_part (keys.Truth b) mark = Value (Truth b)
  begin_part keys.Name mark = Name (named_at (word_in mark.symbol) mark.place)
  begin_part keys.Same mark = BeforeTerm leads.First
  begin_part keys.Count mark = InOrbit heads.Count no_labels
  begin_part (keys.Collect collector) mark = InOrbit (heads.Collect collector) no_labels
  begin_part _ mark = Nothing

  abbrev pub begun : List Frame → Option NameFault → Option Frame → Part → Work
  begun frames least (Some frame) part = work (frame ∷ frames) least Nothing
  begun frames least None part = work frames least part

  abbrev pub begin : List Frame → Option NameFault → Key → Mark → Work
  begin frames least key mark = begun frames least (begin_frame key) (begin_part key mark)

  -- a term begins with the node at the place
  abbrev pub term_in : List Frame → Option NameFault → Lead → List ℕ → ℕ → Work
  term_in frames least lead name place = work frames (missed least place (node_of name)) (BehindTerm lead (term_at (node_of name)))

  abbrev pub before_term : List Frame → Option NameFault → Lead → Key → Mark → Work
  before_term frames least lead keys.Name mark = term_in frames least lead (word_in mark.symbol) mark.place
  before_term frames least lead _ mark = work frames least (BeforeTerm lead)

  -- the embedding of a field after the term, at the place
  abbrev pub field_in : List Frame → Option NameFault → Lead → DartTerm → List ℕ → ℕ → Work
  field_in frames least lead term name place = work frames (missed least place (embed_of name)) (field_part lead term (unwrap_or (embed_of name) 0))

  abbrev pub behind_term : List Frame → Option NameFault → Lead → DartTerm → Key → Mark → Work
  behind_term frames least lead term keys.Number mark = work frames least (BehindTerm lead (record term { path = term.path ++ label_in mark.symbol ∷ [] }))
  behind_term frames least lead term keys.Comma mark = work frames least (BeforeTerm (leads.Second term))
  behind_term frames least lead term keys.Close mark = work frames least (term_value lead term)
  behind_term frames least lead term keys.Name mark = field_in frames least lead term (word_in mark.symbol) mark.place
  behind_term frames least lead term _ mark = work frames least (BehindTerm lead term)

  abbrev pub take_in : List Frame → Option NameFault → Part → Key → Mark → Work
  take_in frames least Nothing key mark = begin frames least key mark
  take_in frames least (Value tree) key mark = behind_value frames least tree key
  take_in frames least (Name named) key mark = behind_name frames least named key
  take_in frames least (InOrbit head mask) key mark = in_orbit frames least head mask key mark
  take_in frames least (BeforeTerm lead) key mark = before_term frames least lead key mark
  take_in frames least (BehindTerm lead term) key mark = behind_term frames least lead term key mark
  take_in frames least (BehindField collector mask term embed) key mark = work frames least (field_end key collector mask term embed)

  -- the work after a mark
  abbrev pub built : Work → Mark → Work
  built w mark = take_in w.frames w.fault w.part (key_of mark.symbol) mark

  -- and after marks
  abbrev pub built_all : Work → List Mark → Work
  built_all w [] = w
  built_all w (mark ∷ marks) = built_all (built w mark) marks

-- ---- at the end

-- an operand that isn't whole has no tree
abbrev pub operand_tree : Part → Tree
operand_tree (Value tree) = tree
operand_tree (Name named) = param_of named
operand_tree _ = Truth false

abbrev pub tree_behind : List Frame → Part → Tree
tree_behind frames part = (settled frames (operand_tree part)).tree

abbrev pub fault_behind : Option NameFault → Part → Option NameFault
fault_behind least (Name named) = param_missed least named
fault_behind least _ = least
