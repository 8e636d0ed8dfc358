-- What is read of an expression before an operand of it: the forms that wait for the operand, the innermost first.
use Rattle.std.proofs.Common.{◌≡◌, ◌+◌, ◌<◌, ◌≤◌, ℕ, Bool, true, false, cond, List, [], ◌∷◌, refl, sym, ap, ◌∙◌, codes, arith}
use Rattle.std.specs.Prelude.{nat_le}
use Rattle.std.proofs.lemmas.Bool.Decides.{nat_tests}
use Rattle.gm_model.specs.declared.expr.BinOp.{BinOp}
use Rattle.gm_model.specs.declared.expr.BinOp.TheVariants as ops
use Rattle.gm_model.specs.Names.{Mention, IsFree}
use Rattle.gm_model.specs.Reading.{Part, word, sign}
use Rattle.gm_parse.specs.declared.place.Bracket.{Bracket}
use Rattle.gm_parse.specs.declared.place.Bracket.TheVariants as brackets
use Rattle.gm_parse.specs.Forms.{Form, MinusForm, NotForm, BinaryForm, IfForm, Arguments, level_of, IsGood, AreGood}
use Rattle.gm_parse.specs.Levels.{binary_level, least_on_left, least_on_right}
use Rattle.gm_parse.specs.Spelling.{Role, Fixed, name, operator, spell, spell_arguments}
use Rattle.gm_parse.proofs.Leading.{compared_by}

pub data Frame : Type 0 where
  -- the operator's left operand
  LeftOf : BinOp → Form → Frame
  MinusOf : Frame
  NotOf : Frame
  -- the condition, and the first part
  ElseOf : Form → Form → Frame
  -- open brackets: in parentheses, in the first argument and in a further one, in a condition, and in a first part
  GroupOf : Frame
  FirstOf : Mention → Frame
  FurtherOf : Mention → Arguments → Frame
  IfOf : Frame
  ThenOf : Form → Frame

module _ (n : ℕ) where
  -- what a frame is spelled as
  abbrev pub spell_frame : Frame → List (Part Role) → List (Part Role)
  spell_frame (LeftOf op left) rest = spell n left (operator op ∷ rest)
  spell_frame MinusOf rest = sign Fixed (codes "-") ∷ rest
  spell_frame NotOf rest = word Fixed (codes "not") ∷ rest
  spell_frame (ElseOf c a) rest = word Fixed (codes "if") ∷ spell n c (word Fixed (codes "then") ∷ spell n a (word Fixed (codes "else") ∷ rest))
  spell_frame GroupOf rest = sign Fixed (codes "(") ∷ rest
  spell_frame (FirstOf function) rest = name function ∷ sign Fixed (codes "(") ∷ rest
  spell_frame (FurtherOf function arguments) rest = name function ∷ sign Fixed (codes "(") ∷ spell_arguments n arguments (sign Fixed (codes ",") ∷ rest)
  spell_frame IfOf rest = word Fixed (codes "if") ∷ rest
  spell_frame (ThenOf c) rest = word Fixed (codes "if") ∷ spell n c (word Fixed (codes "then") ∷ rest)

  abbrev pub spell_frames : List Frame → List (Part Role) → List (Part Role)
  spell_frames [] rest = rest
  spell_frames (frame ∷ frames) rest = spell_frames frames (spell_frame frame rest)

-- the least level of the operand
abbrev pub least_in : Frame → ℕ
least_in (LeftOf op left) = least_on_right op
least_in MinusOf = 7
least_in NotOf = 3
least_in _ = 0

abbrev pub least_of : List Frame → ℕ
least_of [] = 0
least_of (frame ∷ frames) = least_in frame

-- whether a comparison is open
abbrev pub compared_in : List Frame → Bool
compared_in [] = false
compared_in (LeftOf op left ∷ frames) = compared_by op (compared_in frames)
compared_in (MinusOf ∷ frames) = compared_in frames
compared_in (_ ∷ frames) = false

-- the open brackets
abbrev pub brackets_of : List Frame → List Bracket
brackets_of [] = []
brackets_of (GroupOf ∷ frames) = brackets.Group (compared_in frames) ∷ brackets_of frames
brackets_of (FirstOf function ∷ frames) = brackets.Call (compared_in frames) ∷ brackets_of frames
brackets_of (FurtherOf function arguments ∷ frames) = brackets.Call (compared_in frames) ∷ brackets_of frames
brackets_of (IfOf ∷ frames) = brackets.If ∷ brackets_of frames
brackets_of (ThenOf c ∷ frames) = brackets.Then ∷ brackets_of frames
brackets_of (_ ∷ frames) = brackets_of frames

-- a frame that can stand where an operand of the least level begins
abbrev pub IsGoodFrame : Frame → ℕ → Type 0
IsGoodFrame (LeftOf op left) least = (least_on_left op ≤ level_of left) × IsGood left × (least ≤ binary_level op)
IsGoodFrame MinusOf least = Unit {0}
IsGoodFrame NotOf least = least ≤ 3
IsGoodFrame (ElseOf c a) least = IsGood c × IsGood a × (least ≤ 0)
IsGoodFrame GroupOf least = Unit {0}
IsGoodFrame (FirstOf function) least = IsFree function
IsGoodFrame (FurtherOf function arguments) least = IsFree function × AreGood arguments
IsGoodFrame IfOf least = least ≤ 0
IsGoodFrame (ThenOf c) least = IsGood c × (least ≤ 0)

abbrev pub AreGoodFrames : List Frame → Type 0
AreGoodFrames [] = Unit {0}
AreGoodFrames (frame ∷ frames) = IsGoodFrame frame (least_of frames) × AreGoodFrames frames

pub least_most : (frames : List Frame) → least_of frames ≤ 7
least_most [] = omega arith
least_most (LeftOf op left ∷ frames) = most op
  where
    most : (op : BinOp) → least_on_right op ≤ 7
    most ops.Or = omega arith
    most ops.And = omega arith
    most ops.Eq = omega arith
    most ops.Ne = omega arith
    most ops.Lt = omega arith
    most ops.Le = omega arith
    most ops.Gt = omega arith
    most ops.Ge = omega arith
    most ops.Add = omega arith
    most ops.Sub = omega arith
    most ops.Mul = omega arith
    most ops.Div = omega arith
    most ops.Rem = omega arith
least_most (MinusOf ∷ frames) = omega arith
least_most (NotOf ∷ frames) = omega arith
least_most (ElseOf c a ∷ frames) = omega arith
least_most (GroupOf ∷ frames) = omega arith
least_most (FirstOf function ∷ frames) = omega arith
least_most (FurtherOf function arguments ∷ frames) = omega arith
least_most (IfOf ∷ frames) = omega arith
least_most (ThenOf c ∷ frames) = omega arith

-- ---- closing

-- the form of the frame and its operand, where no bracket is open
abbrev pub closed : Frame → Form → Form
closed (LeftOf op left) form = BinaryForm op left form
closed MinusOf form = MinusForm form
closed NotOf form = NotForm form
closed (ElseOf c a) form = IfForm c a form
closed _ form = form

abbrev pub is_open : Frame → Bool
is_open GroupOf = true
is_open (FirstOf function) = true
is_open (FurtherOf function arguments) = true
is_open IfOf = true
is_open (ThenOf c) = true
is_open _ = false

-- frames with an operand behind them
pub record Held : Type 0 where
  pub frames : List Frame
  pub form : Form

abbrev pub held : List Frame → Form → Held
held frames form = record { frames = frames; form = form }

pub record IsHeld (h : Held) : Type 0 where
  pub frames : AreGoodFrames h.frames
  pub form : IsGood h.form
  pub fits : least_of h.frames ≤ level_of h.form

-- up to an open bracket
abbrev pub settled : List Frame → Form → Held
settled [] form = held [] form
settled (frame ∷ frames) form = cond (is_open frame) (held (frame ∷ frames) form) (settled frames (closed frame form))

-- The operator's left operand ends with what binds more closely.
abbrev pub reduced : ℕ → List Frame → Form → Held
reduced level [] form = held [] form
reduced level (frame ∷ frames) form = cond (nat_le (least_in frame) level) (held (frame ∷ frames) form) (reduced level frames (closed frame form))

close_held : (frame : Frame) (frames : List Frame) (form : Form) → is_open frame ≡ false → IsHeld (held (frame ∷ frames) form) → IsHeld (held frames (closed frame form))
close_held (LeftOf op left) frames form shut h = record { frames = h.frames.1; form = (h.frames.0.0, h.fits, h.frames.0.1, h.form); fits = h.frames.0.2 }
close_held MinusOf frames form shut h = record { frames = h.frames.1; form = (h.fits, h.form); fits = least_most frames }
close_held NotOf frames form shut h = record { frames = h.frames.1; form = (h.fits, h.form); fits = h.frames.0 }
close_held (ElseOf c a) frames form shut h = record { frames = h.frames.1; form = (h.frames.0.0, h.frames.0.1, h.form); fits = h.frames.0.2 }
close_held GroupOf frames form shut h = absurd cc
close_held (FirstOf function) frames form shut h = absurd cc
close_held (FurtherOf function arguments) frames form shut h = absurd cc
close_held IfOf frames form shut h = absurd cc
close_held (ThenOf c) frames form shut h = absurd cc

close_spells : (n : ℕ) (frame : Frame) (form : Form) (rest : List (Part Role)) → is_open frame ≡ false → spell_frame n frame (spell n form rest) ≡ spell n (closed frame form) rest
close_spells n (LeftOf op left) form rest shut = refl
close_spells n MinusOf form rest shut = refl
close_spells n NotOf form rest shut = refl
close_spells n (ElseOf c a) form rest shut = refl
close_spells n GroupOf form rest shut = absurd cc
close_spells n (FirstOf function) form rest shut = absurd cc
close_spells n (FurtherOf function arguments) form rest shut = absurd cc
close_spells n IfOf form rest shut = absurd cc
close_spells n (ThenOf c) form rest shut = absurd cc

close_brackets : (frame : Frame) (frames : List Frame) → is_open frame ≡ false → brackets_of (frame ∷ frames) ≡ brackets_of frames
close_brackets (LeftOf op left) frames shut = refl
close_brackets MinusOf frames shut = refl
close_brackets NotOf frames shut = refl
close_brackets (ElseOf c a) frames shut = refl
close_brackets GroupOf frames shut = absurd cc
close_brackets (FirstOf function) frames shut = absurd cc
close_brackets (FurtherOf function arguments) frames shut = absurd cc
close_brackets IfOf frames shut = absurd cc
close_brackets (ThenOf c) frames shut = absurd cc

-- what is said of the same frames and operand, put together otherwise
pub record IsSame (n : ℕ) (one other : Held) : Type 0 where
  pub good : IsHeld one → IsHeld other
  pub spells : (rest : List (Part Role)) → spell_frames n one.frames (spell n one.form rest) ≡ spell_frames n other.frames (spell n other.form rest)
  pub brackets : brackets_of one.frames ≡ brackets_of other.frames

same_self : (n : ℕ) (h : Held) → IsSame n h h
same_self n h = record { good = λ g. g; spells = λ rest. refl; brackets = refl }

same_close : (n : ℕ) (frame : Frame) (frames : List Frame) (form : Form) (to : Held) → is_open frame ≡ false → IsSame n (held frames (closed frame form)) to → IsSame n (held (frame ∷ frames) form) to
same_close n frame frames form to shut behind = record {
  good = λ g. behind.good (close_held frame frames form shut g);
  spells = λ rest. ap (spell_frames n frames) (close_spells n frame form rest shut) ∙ behind.spells rest;
  brackets = close_brackets frame frames shut ∙ behind.brackets;
}

pub settled_same : (n : ℕ) (frames : List Frame) (form : Form) → IsSame n (held frames form) (settled frames form)
settled_same n [] form = same_self n (held [] form)
settled_same n (frame ∷ frames) form = go (settled_same n frames (closed frame form)) (is_open frame) refl
  where
    go : IsSame n (held frames (closed frame form)) (settled frames (closed frame form)) → (b : Bool) → is_open frame ≡ b → IsSame n (held (frame ∷ frames) form) (settled (frame ∷ frames) form)
    go behind true e = rw e (same_self n (held (frame ∷ frames) form))
    go behind false e = rw e (same_close n frame frames form (settled frames (closed frame form)) e behind)

-- a bracket is open, or nothing is left
pub data IsSettled : List Frame → Type 0 where
  Nothing : IsSettled []
  AtBracket : (frame : Frame) (frames : List Frame) → is_open frame ≡ true → IsSettled (frame ∷ frames)

pub settled_is : (frames : List Frame) (form : Form) → IsSettled (settled frames form).frames
settled_is [] form = Nothing
settled_is (frame ∷ frames) form = go (settled_is frames (closed frame form)) (is_open frame) refl
  where
    go : IsSettled (settled frames (closed frame form)).frames → (b : Bool) → is_open frame ≡ b → IsSettled (settled (frame ∷ frames) form).frames
    go behind true e = rw e (AtBracket frame frames e)
    go behind false e = rw e behind

-- ---- before an operator

above_zero : (level : ℕ) → nat_le 0 level ≡ false → ⊥
above_zero level more = grind (arith, nat_tests, more)

shut_above : (frame : Frame) (level : ℕ) → nat_le (least_in frame) level ≡ false → is_open frame ≡ false
shut_above (LeftOf op left) level more = refl
shut_above MinusOf level more = refl
shut_above NotOf level more = refl
shut_above (ElseOf c a) level more = refl
shut_above GroupOf level more = absurd (above_zero level more)
shut_above (FirstOf function) level more = absurd (above_zero level more)
shut_above (FurtherOf function arguments) level more = absurd (above_zero level more)
shut_above IfOf level more = absurd (above_zero level more)
shut_above (ThenOf c) level more = absurd (above_zero level more)

pub reduced_same : (n level : ℕ) (frames : List Frame) (form : Form) → IsSame n (held frames form) (reduced level frames form)
reduced_same n level [] form = same_self n (held [] form)
reduced_same n level (frame ∷ frames) form = go (reduced_same n level frames (closed frame form)) (nat_le (least_in frame) level) refl
  where
    go : IsSame n (held frames (closed frame form)) (reduced level frames (closed frame form)) → (b : Bool) → nat_le (least_in frame) level ≡ b → IsSame n (held (frame ∷ frames) form) (reduced level (frame ∷ frames) form)
    go behind true e = rw e (same_self n (held (frame ∷ frames) form))
    go behind false e = rw e (same_close n frame frames form (reduced level frames (closed frame form)) (shut_above frame level e) behind)

pub reduced_least : (level : ℕ) (frames : List Frame) (form : Form) → least_of (reduced level frames form).frames ≤ level
reduced_least level [] form = omega arith
reduced_least level (frame ∷ frames) form = go (reduced_least level frames (closed frame form)) (nat_le (least_in frame) level) refl
  where
    go : least_of (reduced level frames (closed frame form)).frames ≤ level → (b : Bool) → nat_le (least_in frame) level ≡ b → least_of (reduced level (frame ∷ frames) form).frames ≤ level
    go behind true e = rw e (grind (arith, nat_tests, e))
    go behind false e = rw e behind

-- ---- operators by their tables

-- a comparison is in no chain; the other operators go on to the left
data Class (op : BinOp) : Type 0 where
  Compares : binary_level op ≡ 4 → least_on_left op ≡ 5 → least_on_right op ≡ 5 → ((compared : Bool) → compared_by op compared ≡ true) → Class op
  Joins : binary_level op ≤ 2 → least_on_left op ≡ binary_level op → least_on_right op ≡ binary_level op + 1 → ((compared : Bool) → compared_by op compared ≡ false) → Class op
  Counts : 5 ≤ binary_level op → binary_level op ≤ 6 → least_on_left op ≡ binary_level op → least_on_right op ≡ binary_level op + 1 → ((compared : Bool) → compared_by op compared ≡ compared) → Class op

class_of : (op : BinOp) → Class op
class_of ops.Or = Joins (omega arith) refl refl (λ c. refl)
class_of ops.And = Joins (omega arith) refl refl (λ c. refl)
class_of ops.Eq = Compares refl refl refl (λ c. refl)
class_of ops.Ne = Compares refl refl refl (λ c. refl)
class_of ops.Lt = Compares refl refl refl (λ c. refl)
class_of ops.Le = Compares refl refl refl (λ c. refl)
class_of ops.Gt = Compares refl refl refl (λ c. refl)
class_of ops.Ge = Compares refl refl refl (λ c. refl)
class_of ops.Add = Counts (omega arith) (omega arith) refl refl (λ c. refl)
class_of ops.Sub = Counts (omega arith) (omega arith) refl refl (λ c. refl)
class_of ops.Mul = Counts (omega arith) (omega arith) refl refl (λ c. refl)
class_of ops.Div = Counts (omega arith) (omega arith) refl refl (λ c. refl)
class_of ops.Rem = Counts (omega arith) (omega arith) refl refl (λ c. refl)

no_more : (least level : ℕ) → nat_le least level ≡ false → level < least
no_more least level e = grind (arith, nat_tests, e)

-- no comparison is open where the operator is one
abbrev pub IsFreeFor : BinOp → Bool → Type 0
IsFreeFor op compared = binary_level op < least_on_left op → compared ≡ false

ends_left : (op other : BinOp) (compared : Bool) → Class op → Class other → binary_level op < least_on_right other → IsFreeFor op (compared_by other compared) → (least_on_left op ≤ binary_level other) × IsFreeFor op compared
ends_left op other compared (Compares l a r c) (Compares l' a' r' c') more free = let no_way : true ≡ false = sym (c' compared) ∙ free (omega (arith, l, a)) in absurd cc
ends_left op other compared (Compares l a r c) (Joins l' a' r' c') more free = absurd (omega (arith, more, l, l', r'))
ends_left op other compared (Compares l a r c) (Counts l' m' a' r' c') more free = (omega (arith, a, l'), λ less. sym (c' compared) ∙ free less)
ends_left op other compared (Joins l a r c) (Compares l' a' r' c') more free = (omega (arith, a, l, l'), λ less. absurd (omega (arith, less, a)))
ends_left op other compared (Joins l a r c) (Joins l' a' r' c') more free = (omega (arith, a, more, r'), λ less. absurd (omega (arith, less, a)))
ends_left op other compared (Joins l a r c) (Counts l' m' a' r' c') more free = (omega (arith, a, l, l'), λ less. absurd (omega (arith, less, a)))
ends_left op other compared (Counts l m a r c) (Compares l' a' r' c') more free = absurd (omega (arith, more, l, r'))
ends_left op other compared (Counts l m a r c) (Joins l' a' r' c') more free = absurd (omega (arith, more, l, l', r'))
ends_left op other compared (Counts l m a r c) (Counts l' m' a' r' c') more free = (omega (arith, a, more, r'), λ less. absurd (omega (arith, less, a)))

left_by : (op : BinOp) → Class op → least_on_left op ≤ 6
left_by op (Compares l a r c) = omega (arith, a)
left_by op (Joins l a r c) = omega (arith, l, a)
left_by op (Counts l m a r c) = omega (arith, m, a)

pub left_most : (op : BinOp) → least_on_left op ≤ 6
left_most op = left_by op (class_of op)

ends_not : (op : BinOp) → Class op → binary_level op < 3 → (least_on_left op ≤ 3) × (binary_level op < least_on_left op → ⊥)
ends_not op (Compares l a r c) more = absurd (omega (arith, l, more))
ends_not op (Joins l a r c) more = (omega (arith, l, a), λ less. omega (arith, less, a))
ends_not op (Counts l m a r c) more = absurd (omega (arith, l, more))

-- a frame that ends before the operator leaves a left operand for it
ends_before : (op : BinOp) (frame : Frame) (frames : List Frame) (form : Form) → binary_level op < least_in frame → IsFreeFor op (compared_in (frame ∷ frames)) → (least_on_left op ≤ level_of (closed frame form)) × IsFreeFor op (compared_in frames)
ends_before op (LeftOf other left) frames form more free = ends_left op other (compared_in frames) (class_of op) (class_of other) more free
ends_before op MinusOf frames form more free = (omega (arith, left_most op), free)
ends_before op NotOf frames form more free = let (low, never) = ends_not op (class_of op) more in (low, λ less. absurd (never less))
ends_before op (ElseOf c a) frames form more free = absurd (omega (arith, more))
ends_before op GroupOf frames form more free = absurd (omega (arith, more))
ends_before op (FirstOf function) frames form more free = absurd (omega (arith, more))
ends_before op (FurtherOf function arguments) frames form more free = absurd (omega (arith, more))
ends_before op IfOf frames form more free = absurd (omega (arith, more))
ends_before op (ThenOf c) frames form more free = absurd (omega (arith, more))

pub reduced_level : (op : BinOp) (frames : List Frame) (form : Form) → IsFreeFor op (compared_in frames) → least_on_left op ≤ level_of form → least_on_left op ≤ level_of (reduced (binary_level op) frames form).form
reduced_level op [] form free low = low
reduced_level op (frame ∷ frames) form free low = go (λ f l. reduced_level op frames (closed frame form) f l) (nat_le (least_in frame) (binary_level op)) refl
  where
    go : (IsFreeFor op (compared_in frames) → least_on_left op ≤ level_of (closed frame form) → least_on_left op ≤ level_of (reduced (binary_level op) frames (closed frame form)).form)
        → (b : Bool) → nat_le (least_in frame) (binary_level op) ≡ b → least_on_left op ≤ level_of (reduced (binary_level op) (frame ∷ frames) form).form
    go behind true e = rw e low
    go behind false e = let is = ends_before op frame frames form (no_more (least_in frame) (binary_level op) e) free in rw e (behind is.1 is.0)

kept_left : (other : BinOp) (level : ℕ) (compared : Bool) → Class other → 5 ≤ level → level < least_on_right other → compared_by other compared ≡ compared
kept_left other level compared (Compares l a r c) low more = absurd (omega (arith, low, more, r))
kept_left other level compared (Joins l a r c) low more = absurd (omega (arith, low, more, l, r))
kept_left other level compared (Counts l m a r c) low more = c compared

kept_frame : (frame : Frame) (frames : List Frame) (level : ℕ) → 5 ≤ level → level < least_in frame → compared_in (frame ∷ frames) ≡ compared_in frames
kept_frame (LeftOf other left) frames level low more = kept_left other level (compared_in frames) (class_of other) low more
kept_frame MinusOf frames level low more = refl
kept_frame NotOf frames level low more = absurd (omega (arith, low, more))
kept_frame (ElseOf c a) frames level low more = absurd (omega (arith, more))
kept_frame GroupOf frames level low more = absurd (omega (arith, more))
kept_frame (FirstOf function) frames level low more = absurd (omega (arith, more))
kept_frame (FurtherOf function arguments) frames level low more = absurd (omega (arith, more))
kept_frame IfOf frames level low more = absurd (omega (arith, more))
kept_frame (ThenOf c) frames level low more = absurd (omega (arith, more))

reduced_kept : (level : ℕ) (frames : List Frame) (form : Form) → 5 ≤ level → compared_in (reduced level frames form).frames ≡ compared_in frames
reduced_kept level [] form low = refl
reduced_kept level (frame ∷ frames) form low = go (reduced_kept level frames (closed frame form) low) (nat_le (least_in frame) level) refl
  where
    go : compared_in (reduced level frames (closed frame form)).frames ≡ compared_in frames → (b : Bool) → nat_le (least_in frame) level ≡ b → compared_in (reduced level (frame ∷ frames) form).frames ≡ compared_in (frame ∷ frames)
    go behind true e = rw e refl
    go behind false e = rw e (behind ∙ sym (kept_frame frame frames level low (no_more (least_in frame) level e)))

-- behind the operator a comparison is open as it is by what stands before it
pub reduced_compared : (op : BinOp) (frames : List Frame) (form : Form) → compared_by op (compared_in (reduced (binary_level op) frames form).frames) ≡ compared_by op (compared_in frames)
reduced_compared op frames form = go (class_of op)
  where
    go : Class op → compared_by op (compared_in (reduced (binary_level op) frames form).frames) ≡ compared_by op (compared_in frames)
    go (Compares l a r c) = c (compared_in (reduced (binary_level op) frames form).frames) ∙ sym (c (compared_in frames))
    go (Joins l a r c) = c (compared_in (reduced (binary_level op) frames form).frames) ∙ sym (c (compared_in frames))
    go (Counts l m a r c) = ap (compared_by op) (reduced_kept (binary_level op) frames form l)
