-- What leads through the states to where an expression can end is the spelling of a good form.
use Rattle.std.proofs.Common.{◌≡◌, ◌≤◌, ◌⊎◌, inl, inr, ℕ, Bool, true, false, List, [], ◌∷◌, ◌++◌, Option, Some, None, refl, sym, ap, subst, ◌∙◌, codes, arith}
use Rattle.std.specs.Prelude.{IsTrue}
use Rattle.gm_model.specs.declared.expr.BinOp.{BinOp}
use Rattle.gm_model.specs.declared.expr.BinOp.TheVariants as ops
use Rattle.gm_model.specs.Names.{Mention, IsFree}
use Rattle.gm_model.specs.Reading.{Part, word, number, sign}
use Rattle.gm_model.specs.Symbols.{Symbol, Word, Numeral, Sign}
use Rattle.gm_text.specs.SchemaText.{LabelForm}
use Rattle.gm_text.specs.ValueText.{truth_text}
use Rattle.gm_parse.specs.declared.key.Collector.{Collector}
use Rattle.gm_parse.specs.declared.key.Key.{Key}
use Rattle.gm_parse.specs.declared.key.Key.TheVariants as keys
use Rattle.gm_parse.specs.declared.place.Bracket.{Bracket}
use Rattle.gm_parse.specs.declared.place.Bracket.TheVariants as brackets
use Rattle.gm_parse.specs.declared.place.Ending.{Ending}
use Rattle.gm_parse.specs.declared.place.Ending.TheVariants as endings
use Rattle.gm_parse.specs.declared.place.Need.{Need}
use Rattle.gm_parse.specs.declared.place.Need.TheVariants as needs
use Rattle.gm_parse.specs.declared.place.Place.{Place}
use Rattle.gm_parse.specs.declared.place.Place.TheVariants as places
use Rattle.gm_parse.specs.Forms.{TermForm, Form, NumberForm, TruthForm, ParamForm, FieldForm, SameForm, CountForm, CollectForm, CallForm, ParenForm, First, Further, level_of, IsGood, IsGoodTerm}
use Rattle.gm_parse.specs.Levels.{binary_level, least_on_right}
use Rattle.gm_parse.specs.Spelling.{Role, Fixed, Quantity, NameAt, LabelAt, StepAt, name, operator, spell, spell_orbit, spell_term, spell_field, collector_word}
use Rattle.gm_parse.proofs.SpelledParts.{spell_labels, spell_path}
use Rattle.gm_parse.specs.inner.Reading.{State, state_at, operator_move, behind_move, close_move, comma_move, then_move, else_move, move_by, move, role_at, key_role, key_of, is_whole, start}
use Rattle.gm_parse.proofs.Keys.{symbol_of, is_fixed, fixed_is, number_is, name_is}
use Rattle.gm_parse.proofs.Leading.{compared_by, need_behind, Led, tables}
use Rattle.gm_parse.proofs.Frames.{Frame, LeftOf, MinusOf, NotOf, ElseOf, GroupOf, FirstOf, FurtherOf, IfOf, ThenOf, spell_frames, least_of, compared_in, brackets_of, AreGoodFrames, least_most, held, IsHeld, settled, reduced, settled_same, settled_is, IsSettled, Nothing, AtBracket, is_open, reduced_same, reduced_least, reduced_level, reduced_compared, left_most, IsFreeFor}

-- ---- what is read of an operand

-- before an orbit
abbrev pub Head : Ending → Type 0
Head endings.Close = Unit {0}
Head endings.FieldClose = Collector
Head _ = ⊥

-- before a dart term: the first term of `same`, or an orbit
abbrev pub Lead : Ending → Type 0
Lead endings.Comma = Unit {0}
Lead endings.Close = TermForm ⊎ List LabelForm
Lead endings.Field = Unit {0}
Lead endings.FieldClose = Collector × List LabelForm

abbrev pub Partial : Place → Type 0
Partial (places.Operand need) = Unit {0}
Partial places.Behind = Form
Partial places.BehindName = Mention
Partial places.Same = Unit {0}
Partial (places.Orbit ending) = Head ending
Partial (places.Label ending) = Head ending × List LabelForm
Partial (places.Open ending) = Head ending × List LabelForm
Partial (places.Node ending) = Lead ending
Partial (places.BehindNode ending) = Lead ending × TermForm
Partial (places.Step ending) = Lead ending × TermForm
Partial (places.Field ending) = Lead ending × TermForm
Partial places.Close = Collector × List LabelForm × TermForm × Mention

abbrev IsGoodLead : (ending : Ending) → Lead ending → Type 0
IsGoodLead endings.Comma lead = Unit {0}
IsGoodLead endings.Close (inl term) = IsGoodTerm term
IsGoodLead endings.Close (inr orbit) = Unit {0}
IsGoodLead endings.Field lead = Unit {0}
IsGoodLead endings.FieldClose lead = Unit {0}

abbrev IsNeeded : Need → ℕ → Type 0
IsNeeded needs.Any least = least ≤ 0
IsNeeded needs.NoIf least = least ≤ 3
IsNeeded needs.Tight least = Unit {0}

abbrev HasField : Ending → Type 0
HasField endings.Field = Unit {0}
HasField endings.FieldClose = Unit {0}
HasField _ = ⊥

-- it can stand where an operand of the least level is asked for
abbrev IsGoodPartial : ℕ → (place : Place) → Partial place → Type 0
IsGoodPartial least (places.Operand need) partial = IsNeeded need least
IsGoodPartial least places.Behind form = IsGood form × (8 ≤ level_of form)
IsGoodPartial least places.BehindName mention = IsFree mention
IsGoodPartial least (places.Node ending) lead = IsGoodLead ending lead
IsGoodPartial least (places.BehindNode ending) partial = IsGoodLead ending partial.0 × IsGoodTerm partial.1
IsGoodPartial least (places.Step ending) partial = IsGoodLead ending partial.0 × IsGoodTerm partial.1
IsGoodPartial least (places.Field ending) partial = HasField ending × IsGoodLead ending partial.0 × IsGoodTerm partial.1
IsGoodPartial least places.Close partial = IsGoodTerm partial.2 × IsFree partial.3
IsGoodPartial least _ partial = Unit {0}

-- what can't be
never : false ≡ true → ⊥
never e = absurd cc

nowhere : (next : State) → None ≡ Some next → ⊥
nowhere next e = absurd cc

module _ (n : ℕ) where
  abbrev spell_head : (ending : Ending) → Head ending → List (Part Role) → List (Part Role)
  spell_head endings.Close head rest = word Fixed (codes "count") ∷ rest
  spell_head endings.FieldClose collector rest = word Fixed (collector_word collector) ∷ rest
  spell_head endings.Comma head rest = rest
  spell_head endings.Field head rest = rest

  abbrev spell_lead : (ending : Ending) → Lead ending → List (Part Role) → List (Part Role)
  spell_lead endings.Comma lead rest = word Fixed (codes "same") ∷ sign Fixed (codes "(") ∷ rest
  spell_lead endings.Close (inl term) rest = word Fixed (codes "same") ∷ sign Fixed (codes "(") ∷ spell_term n term (sign Fixed (codes ",") ∷ rest)
  spell_lead endings.Close (inr orbit) rest = word Fixed (codes "count") ∷ spell_orbit n orbit (sign Fixed (codes "(") ∷ rest)
  spell_lead endings.Field lead rest = rest
  spell_lead endings.FieldClose lead rest = word Fixed (collector_word lead.0) ∷ spell_orbit n lead.1 (sign Fixed (codes "(") ∷ rest)

  abbrev spell_partial : (place : Place) → Partial place → List (Part Role) → List (Part Role)
  spell_partial (places.Operand need) partial rest = rest
  spell_partial places.Behind form rest = spell n form rest
  spell_partial places.BehindName mention rest = name mention ∷ rest
  spell_partial places.Same partial rest = word Fixed (codes "same") ∷ rest
  spell_partial (places.Orbit ending) head rest = spell_head ending head rest
  spell_partial (places.Label ending) partial rest = spell_head ending partial.0 (sign Fixed (codes "<") ∷ spell_labels n partial.1 rest)
  spell_partial (places.Open ending) partial rest = spell_head ending partial.0 (sign Fixed (codes "<") ∷ spell_labels n partial.1 (sign Fixed (codes ">") ∷ rest))
  spell_partial (places.Node ending) lead rest = spell_lead ending lead rest
  spell_partial (places.BehindNode ending) partial rest = spell_lead ending partial.0 (spell_term n partial.1 rest)
  spell_partial (places.Step ending) partial rest = spell_lead ending partial.0 (spell_term n partial.1 (sign Fixed (codes "@") ∷ rest))
  spell_partial (places.Field ending) partial rest = spell_lead ending partial.0 (spell_term n partial.1 (sign Fixed (codes ".") ∷ rest))
  spell_partial places.Close partial rest = word Fixed (collector_word partial.0) ∷ spell_orbit n partial.1 (sign Fixed (codes "(") ∷ spell_field n partial.2 partial.3 rest)

  -- what is read so far, where reading is in this state
  record Zip (state : State) : Type 0 where
    frames : List Frame
    partial : Partial state.place
    good : AreGoodFrames frames
    fits : IsGoodPartial (least_of frames) state.place partial
    brackets : state.open_brackets ≡ brackets_of frames
    compared : state.compared ≡ compared_in frames

  abbrev zip_spelled : (state : State) → Zip state → List (Part Role) → List (Part Role)
  zip_spelled state zip rest = spell_frames n zip.frames (spell_partial state.place zip.partial rest)

  -- and behind one part more
  record Next (spelled : List (Part Role) → List (Part Role)) (part : Part Role) (next : State) : Type 0 where
    zip : Zip next
    spells : (rest : List (Part Role)) → spelled (part ∷ rest) ≡ zip_spelled next zip rest

  as_next : (spelled : List (Part Role) → List (Part Role)) (part : Part Role) (one next : State) → Some one ≡ Some next → Next spelled part one → Next spelled part next
  as_next spelled part one next e is = let same : one ≡ next = cc e in subst (λ (s : State). Next spelled part s) same is

  the_part : (part : Part Role) (symbol : Symbol) (role : Role) → part.symbol ≡ symbol → part.role ≡ role → part ≡ record { symbol = symbol; role = role }
  the_part part symbol role e f = ap (λ (s : Symbol). let p : Part Role = record { symbol = s; role = part.role } in p) e ∙ ap (λ (r : Role). let p : Part Role = record { symbol = symbol; role = r } in p) f

  -- a part that stands behind what was read
  put : (spelled : List (Part Role) → List (Part Role)) (part other : Part Role) (next : State) → part ≡ other → Next spelled other next → Next spelled part next
  put spelled part other next e is = subst (λ (p : Part Role). Next spelled p next) (sym e) is

  -- ---- where an operand begins

  -- a comparison isn't open where something else can stand than a sum
  low_compared : (frames : List Frame) → least_of frames ≤ 3 → compared_in frames ≡ false
  low_compared [] low = refl
  low_compared (LeftOf op left ∷ frames) low = go op low
    where
      go : (op : BinOp) → least_on_right op ≤ 3 → compared_by op (compared_in frames) ≡ false
      go ops.Or low = refl
      go ops.And low = refl
      go ops.Eq low = absurd (omega (arith, low))
      go ops.Ne low = absurd (omega (arith, low))
      go ops.Lt low = absurd (omega (arith, low))
      go ops.Le low = absurd (omega (arith, low))
      go ops.Gt low = absurd (omega (arith, low))
      go ops.Ge low = absurd (omega (arith, low))
      go ops.Add low = absurd (omega (arith, low))
      go ops.Sub low = absurd (omega (arith, low))
      go ops.Mul low = absurd (omega (arith, low))
      go ops.Div low = absurd (omega (arith, low))
      go ops.Rem low = absurd (omega (arith, low))
  low_compared (MinusOf ∷ frames) low = absurd (omega (arith, low))
  low_compared (NotOf ∷ frames) low = refl
  low_compared (ElseOf c a ∷ frames) low = refl
  low_compared (GroupOf ∷ frames) low = refl
  low_compared (FirstOf function ∷ frames) low = refl
  low_compared (FurtherOf function arguments ∷ frames) low = refl
  low_compared (IfOf ∷ frames) low = refl
  low_compared (ThenOf c ∷ frames) low = refl

  module _ (o : List Bracket) (c : Bool) (frames : List Frame) (good : AreGoodFrames frames) (open_are : o ≡ brackets_of frames) (compared_is : c ≡ compared_in frames) where
    -- the frames stay, and the operand goes on
    stays : (place to : Place) (partial : Partial place) (more : Partial to) (part : Part Role) → IsGoodPartial (least_of frames) to more
        → ((rest : List (Part Role)) → spell_partial place partial (part ∷ rest) ≡ spell_partial to more rest) → Next (λ rest. spell_frames n frames (spell_partial place partial rest)) part (state_at o c to)
    stays place to partial more part fits spells = record {
      zip = record { frames = frames; partial = more; good = good; fits = fits; brackets = open_are; compared = compared_is };
      spells = λ rest. ap (spell_frames n frames) (spells rest);
    }

    operand_next : (need : Need) (key : Key) (part : Part Role) (at : ℕ) (next : State) → IsNeeded need (least_of frames) → key_of part.symbol ≡ key → part.role ≡ key_role n (places.Operand need) key at
        → move_by (state_at o c (places.Operand need)) (places.Operand need) key ≡ Some next → Next (λ rest. spell_frames n frames rest) part next
    operand_next need keys.Number part at next needed key role moves =
        let (value, is) = number_is part.symbol key in
        put _ part (number Quantity value) next (the_part part (Numeral value) Quantity is role)
        (as_next _ _ (state_at o c places.Behind) next moves (stays (places.Operand need) places.Behind tt (NumberForm value) (number Quantity value) (tt, omega arith) (λ rest. refl)))
    operand_next need (keys.Truth b) part at next needed key role moves =
        put _ part (word Fixed (truth_text b)) next (the_part part (Word (truth_text b)) Fixed (fixed_is part.symbol (keys.Truth b) key refl) role)
        (as_next _ _ (state_at o c places.Behind) next moves (stays (places.Operand need) places.Behind tt (TruthForm b) (word Fixed (truth_text b)) (tt, omega arith) (λ rest. refl)))
    operand_next need keys.Name part at next needed key role moves =
        let (w, free, is) = name_is part.symbol key in
        let mention : Mention = record { name = w; place = at } in
        put _ part (name mention) next (the_part part (Word w) (NameAt at) is role)
        (as_next _ _ (state_at o c places.BehindName) next moves (stays (places.Operand need) places.BehindName tt mention (name mention) free (λ rest. refl)))
    operand_next need keys.Open part at next needed key role moves =
        put _ part (sign Fixed (codes "(")) next (the_part part (Sign (codes "(")) Fixed (fixed_is part.symbol keys.Open key refl) role)
        (as_next _ _ (state_at (brackets.Group c ∷ o) false (places.Operand needs.Any)) next moves
        (record {
          zip = record { frames = GroupOf ∷ frames; partial = tt; good = (tt, good); fits = omega arith; brackets = ap (λ (b : Bool). brackets.Group b ∷ o) compared_is ∙ ap (λ (bs : List Bracket). brackets.Group (compared_in frames) ∷ bs) open_are; compared = refl };
          spells = λ rest. refl;
        }))
    operand_next need (keys.Operator ops.Sub) part at next needed key role moves =
        put _ part (sign Fixed (codes "-")) next (the_part part (Sign (codes "-")) Fixed (fixed_is part.symbol (keys.Operator ops.Sub) key refl) role)
        (as_next _ _ (state_at o c (places.Operand needs.Tight)) next moves
        (record {
          zip = record { frames = MinusOf ∷ frames; partial = tt; good = (tt, good); fits = tt; brackets = open_are; compared = compared_is };
          spells = λ rest. refl;
        }))
    operand_next need keys.Not part at next needed key role moves =
        put _ part (word Fixed (codes "not")) next (the_part part (Word (codes "not")) Fixed (fixed_is part.symbol keys.Not key refl) role) (go need needed moves)
      where
        inner : least_of frames ≤ 3 → Next (λ rest. spell_frames n frames rest) (word Fixed (codes "not")) (state_at o c (places.Operand needs.NoIf))
        inner low = record {
          zip = record { frames = NotOf ∷ frames; partial = tt; good = (low, good); fits = omega arith; brackets = open_are; compared = compared_is ∙ low_compared frames low };
          spells = λ rest. refl;
        }

        go : (need : Need) → IsNeeded need (least_of frames) → move_by (state_at o c (places.Operand need)) (places.Operand need) keys.Not ≡ Some next → Next (λ rest. spell_frames n frames rest) (word Fixed (codes "not")) next
        go needs.Any low moves = as_next _ _ (state_at o c (places.Operand needs.NoIf)) next moves (inner (omega (arith, low)))
        go needs.NoIf low moves = as_next _ _ (state_at o c (places.Operand needs.NoIf)) next moves (inner low)
        go needs.Tight low moves = absurd (nowhere next moves)
    operand_next need keys.If part at next needed key role moves =
        put _ part (word Fixed (codes "if")) next (the_part part (Word (codes "if")) Fixed (fixed_is part.symbol keys.If key refl) role) (go need needed moves)
      where
        go : (need : Need) → IsNeeded need (least_of frames) → move_by (state_at o c (places.Operand need)) (places.Operand need) keys.If ≡ Some next → Next (λ rest. spell_frames n frames rest) (word Fixed (codes "if")) next
        go needs.Any low moves =
            as_next _ _ (state_at (brackets.If ∷ o) false (places.Operand needs.Any)) next moves
            (record {
              zip = record { frames = IfOf ∷ frames; partial = tt; good = (low, good); fits = omega arith; brackets = ap (λ (bs : List Bracket). brackets.If ∷ bs) open_are; compared = refl };
              spells = λ rest. refl;
            })
        go needs.NoIf low moves = absurd (nowhere next moves)
        go needs.Tight low moves = absurd (nowhere next moves)
    operand_next need keys.Same part at next needed key role moves =
        put _ part (word Fixed (codes "same")) next (the_part part (Word (codes "same")) Fixed (fixed_is part.symbol keys.Same key refl) role)
        (as_next _ _ (state_at o c places.Same) next moves (stays (places.Operand need) places.Same tt tt (word Fixed (codes "same")) tt (λ rest. refl)))
    operand_next need keys.Count part at next needed key role moves =
        put _ part (word Fixed (codes "count")) next (the_part part (Word (codes "count")) Fixed (fixed_is part.symbol keys.Count key refl) role)
        (as_next _ _ (state_at o c (places.Orbit endings.Close)) next moves (stays (places.Operand need) (places.Orbit endings.Close) tt tt (word Fixed (codes "count")) tt (λ rest. refl)))
    operand_next need (keys.Collect collector) part at next needed key role moves =
        put _ part (word Fixed (collector_word collector)) next (the_part part (Word (collector_word collector)) Fixed (fixed_is part.symbol (keys.Collect collector) key refl) role)
        (as_next _ _ (state_at o c (places.Orbit endings.FieldClose)) next moves (stays (places.Operand need) (places.Orbit endings.FieldClose) tt collector (word Fixed (collector_word collector)) tt (λ rest. refl)))
    operand_next need _ part at next needed key role moves = absurd (nowhere next moves)

  -- ---- behind an operand

  through : (spelled other : List (Part Role) → List (Part Role)) (part : Part Role) (next : State) → ((rest : List (Part Role)) → spelled rest ≡ other rest) → Next other part next → Next spelled part next
  through spelled other part next same is = record { zip = is.zip; spells = λ rest. same (part ∷ rest) ∙ is.spells rest }

  operator_free : (op : BinOp) (o : List Bracket) (c : Bool) (place : Place) (next : State) → operator_move (state_at o c place) op ≡ Some next → IsFreeFor op c
  operator_free op o c place next moves = go op c moves
    where
      go : (op : BinOp) (c : Bool) → operator_move (state_at o c place) op ≡ Some next → IsFreeFor op c
      go op false moves less = refl
      go ops.Or true moves less = absurd (omega (arith, less))
      go ops.And true moves less = absurd (omega (arith, less))
      go ops.Eq true moves less = absurd (nowhere next moves)
      go ops.Ne true moves less = absurd (nowhere next moves)
      go ops.Lt true moves less = absurd (nowhere next moves)
      go ops.Le true moves less = absurd (nowhere next moves)
      go ops.Gt true moves less = absurd (nowhere next moves)
      go ops.Ge true moves less = absurd (nowhere next moves)
      go ops.Add true moves less = absurd (omega (arith, less))
      go ops.Sub true moves less = absurd (omega (arith, less))
      go ops.Mul true moves less = absurd (omega (arith, less))
      go ops.Div true moves less = absurd (omega (arith, less))
      go ops.Rem true moves less = absurd (omega (arith, less))

  needed_behind : (op : BinOp) → IsNeeded (need_behind op) (least_on_right op)
  needed_behind ops.Or = omega arith
  needed_behind ops.And = omega arith
  needed_behind ops.Eq = tt
  needed_behind ops.Ne = tt
  needed_behind ops.Lt = tt
  needed_behind ops.Le = tt
  needed_behind ops.Gt = tt
  needed_behind ops.Ge = tt
  needed_behind ops.Add = tt
  needed_behind ops.Sub = tt
  needed_behind ops.Mul = tt
  needed_behind ops.Div = tt
  needed_behind ops.Rem = tt

  module _ (frames : List Frame) (form : Form) (is_held : IsHeld (held frames form)) where
    abbrev Spelled : List (Part Role) → List (Part Role)
    Spelled rest = spell_frames n frames (spell n form rest)

    operator_next : (op : BinOp) (low : 8 ≤ level_of form) (o : List Bracket) (c : Bool) (place : Place) → o ≡ brackets_of frames → c ≡ compared_in frames → IsFreeFor op c
        → Next Spelled (operator op) (state_at o (compared_by op c) (places.Operand (need_behind op)))
    operator_next op low o c place open_are compared_is free =
        let same = reduced_same n (binary_level op) frames form in
        let to = reduced (binary_level op) frames form in
        let good = same.good is_held in
        let level = reduced_level op frames form (λ less. sym compared_is ∙ free less) (omega (arith, low, left_most op)) in
        record {
          zip = record {
            frames = LeftOf op to.form ∷ to.frames;
            partial = tt;
            good = ((level, good.form, reduced_least (binary_level op) frames form), good.frames);
            fits = needed_behind op;
            brackets = open_are ∙ same.brackets;
            compared = ap (compared_by op) compared_is ∙ sym (reduced_compared op frames form);
          };
          spells = λ rest. same.spells (operator op ∷ rest);
        }

  -- behind a whole operand an open bracket closes, or its next part begins
  closed_next : (form : Form) (part : Part Role) (frame : Frame) (frames : List Frame) (next : State) → is_open frame ≡ true → key_of part.symbol ≡ keys.Close → part.role ≡ Fixed → IsHeld (held (frame ∷ frames) form)
      → close_move (brackets_of (frame ∷ frames)) ≡ Some next → Next (λ rest. spell_frames n (frame ∷ frames) (spell n form rest)) part next
  closed_next form part GroupOf frames next opens key role h moves =
      put _ part (sign Fixed (codes ")")) next (the_part part (Sign (codes ")")) Fixed (fixed_is part.symbol keys.Close key refl) role)
      (as_next _ _ (state_at (brackets_of frames) (compared_in frames) places.Behind) next moves
      (record { zip = record { frames = frames; partial = ParenForm form; good = h.frames.1; fits = (h.form, omega arith); brackets = refl; compared = refl }; spells = λ rest. refl }))
  closed_next form part (FirstOf function) frames next opens key role h moves =
      put _ part (sign Fixed (codes ")")) next (the_part part (Sign (codes ")")) Fixed (fixed_is part.symbol keys.Close key refl) role)
      (as_next _ _ (state_at (brackets_of frames) (compared_in frames) places.Behind) next moves
      (record { zip = record { frames = frames; partial = CallForm function (First form); good = h.frames.1; fits = ((h.frames.0, h.form), omega arith); brackets = refl; compared = refl }; spells = λ rest. refl }))
  closed_next form part (FurtherOf function arguments) frames next opens key role h moves =
      put _ part (sign Fixed (codes ")")) next (the_part part (Sign (codes ")")) Fixed (fixed_is part.symbol keys.Close key refl) role)
      (as_next _ _ (state_at (brackets_of frames) (compared_in frames) places.Behind) next moves
      (record { zip = record { frames = frames; partial = CallForm function (Further arguments form); good = h.frames.1; fits = ((h.frames.0.0, (h.frames.0.1, h.form)), omega arith); brackets = refl; compared = refl }; spells = λ rest. refl }))
  closed_next form part IfOf frames next opens key role h moves = absurd (nowhere next moves)
  closed_next form part (ThenOf c) frames next opens key role h moves = absurd (nowhere next moves)
  closed_next form part (LeftOf op left) frames next opens key role h moves = absurd (never opens)
  closed_next form part MinusOf frames next opens key role h moves = absurd (never opens)
  closed_next form part NotOf frames next opens key role h moves = absurd (never opens)
  closed_next form part (ElseOf c a) frames next opens key role h moves = absurd (never opens)

  comma_next : (form : Form) (part : Part Role) (frame : Frame) (frames : List Frame) (next : State) → is_open frame ≡ true → key_of part.symbol ≡ keys.Comma → part.role ≡ Fixed → IsHeld (held (frame ∷ frames) form)
      → comma_move (brackets_of (frame ∷ frames)) ≡ Some next → Next (λ rest. spell_frames n (frame ∷ frames) (spell n form rest)) part next
  comma_next form part (FirstOf function) frames next opens key role h moves =
      put _ part (sign Fixed (codes ",")) next (the_part part (Sign (codes ",")) Fixed (fixed_is part.symbol keys.Comma key refl) role)
      (as_next _ _ (state_at (brackets.Call (compared_in frames) ∷ brackets_of frames) false (places.Operand needs.Any)) next moves
      (record { zip = record { frames = FurtherOf function (First form) ∷ frames; partial = tt; good = ((h.frames.0, h.form), h.frames.1); fits = omega arith; brackets = refl; compared = refl }; spells = λ rest. refl }))
  comma_next form part (FurtherOf function arguments) frames next opens key role h moves =
      put _ part (sign Fixed (codes ",")) next (the_part part (Sign (codes ",")) Fixed (fixed_is part.symbol keys.Comma key refl) role)
      (as_next _ _ (state_at (brackets.Call (compared_in frames) ∷ brackets_of frames) false (places.Operand needs.Any)) next moves
      (record { zip = record { frames = FurtherOf function (Further arguments form) ∷ frames; partial = tt; good = ((h.frames.0.0, (h.frames.0.1, h.form)), h.frames.1); fits = omega arith; brackets = refl; compared = refl }; spells = λ rest. refl }))
  comma_next form part GroupOf frames next opens key role h moves = absurd (nowhere next moves)
  comma_next form part IfOf frames next opens key role h moves = absurd (nowhere next moves)
  comma_next form part (ThenOf c) frames next opens key role h moves = absurd (nowhere next moves)
  comma_next form part (LeftOf op left) frames next opens key role h moves = absurd (never opens)
  comma_next form part MinusOf frames next opens key role h moves = absurd (never opens)
  comma_next form part NotOf frames next opens key role h moves = absurd (never opens)
  comma_next form part (ElseOf c a) frames next opens key role h moves = absurd (never opens)

  then_next : (form : Form) (part : Part Role) (frame : Frame) (frames : List Frame) (next : State) → is_open frame ≡ true → key_of part.symbol ≡ keys.Then → part.role ≡ Fixed → IsHeld (held (frame ∷ frames) form)
      → then_move (brackets_of (frame ∷ frames)) ≡ Some next → Next (λ rest. spell_frames n (frame ∷ frames) (spell n form rest)) part next
  then_next form part IfOf frames next opens key role h moves =
      put _ part (word Fixed (codes "then")) next (the_part part (Word (codes "then")) Fixed (fixed_is part.symbol keys.Then key refl) role)
      (as_next _ _ (state_at (brackets.Then ∷ brackets_of frames) false (places.Operand needs.Any)) next moves
      (record { zip = record { frames = ThenOf form ∷ frames; partial = tt; good = ((h.form, h.frames.0), h.frames.1); fits = omega arith; brackets = refl; compared = refl }; spells = λ rest. refl }))
  then_next form part GroupOf frames next opens key role h moves = absurd (nowhere next moves)
  then_next form part (FirstOf function) frames next opens key role h moves = absurd (nowhere next moves)
  then_next form part (FurtherOf function arguments) frames next opens key role h moves = absurd (nowhere next moves)
  then_next form part (ThenOf c) frames next opens key role h moves = absurd (nowhere next moves)
  then_next form part (LeftOf op left) frames next opens key role h moves = absurd (never opens)
  then_next form part MinusOf frames next opens key role h moves = absurd (never opens)
  then_next form part NotOf frames next opens key role h moves = absurd (never opens)
  then_next form part (ElseOf c a) frames next opens key role h moves = absurd (never opens)

  else_next : (form : Form) (part : Part Role) (frame : Frame) (frames : List Frame) (next : State) → is_open frame ≡ true → key_of part.symbol ≡ keys.Else → part.role ≡ Fixed → IsHeld (held (frame ∷ frames) form)
      → else_move (brackets_of (frame ∷ frames)) ≡ Some next → Next (λ rest. spell_frames n (frame ∷ frames) (spell n form rest)) part next
  else_next form part (ThenOf c) frames next opens key role h moves =
      put _ part (word Fixed (codes "else")) next (the_part part (Word (codes "else")) Fixed (fixed_is part.symbol keys.Else key refl) role)
      (as_next _ _ (state_at (brackets_of frames) false (places.Operand needs.Any)) next moves
      (record { zip = record { frames = ElseOf c form ∷ frames; partial = tt; good = ((h.frames.0.0, h.form, h.frames.0.1), h.frames.1); fits = omega arith; brackets = refl; compared = refl }; spells = λ rest. refl }))
  else_next form part IfOf frames next opens key role h moves = absurd (nowhere next moves)
  else_next form part GroupOf frames next opens key role h moves = absurd (nowhere next moves)
  else_next form part (FirstOf function) frames next opens key role h moves = absurd (nowhere next moves)
  else_next form part (FurtherOf function arguments) frames next opens key role h moves = absurd (nowhere next moves)
  else_next form part (LeftOf op left) frames next opens key role h moves = absurd (never opens)
  else_next form part MinusOf frames next opens key role h moves = absurd (never opens)
  else_next form part NotOf frames next opens key role h moves = absurd (never opens)
  else_next form part (ElseOf c a) frames next opens key role h moves = absurd (never opens)

  module _ (frames : List Frame) (form : Form) (is_held : IsHeld (held frames form)) (low : 8 ≤ level_of form) (c : Bool) (compared_is : c ≡ compared_in frames) where
    abbrev Spelt : List (Part Role) → List (Part Role)
    Spelt rest = spell_frames n frames (spell n form rest)

    -- where what stands next closes or parts a bracket
    at_bracket : (part : Part Role) (next : State) (moves : List Bracket → Option State)
        → ((frame : Frame) (others : List Frame) (whole : Form) → is_open frame ≡ true → IsHeld (held (frame ∷ others) whole) → moves (brackets_of (frame ∷ others)) ≡ Some next → Next (λ rest. spell_frames n (frame ∷ others) (spell n whole rest)) part next)
        → (moves [] ≡ None) → moves (brackets_of frames) ≡ Some next → Next Spelt part next
    at_bracket part next moves goes none is =
        let same = settled_same n frames form in
        let to = settled frames form in
        let there : moves (brackets_of to.frames) ≡ Some next = ap moves (sym same.brackets) ∙ is in
        through Spelt (λ rest. spell_frames n to.frames (spell n to.form rest)) part next same.spells (go to.frames to.form (settled_is frames form) (same.good is_held) there)
      where
        go : (others : List Frame) (whole : Form) → IsSettled others → IsHeld (held others whole) → moves (brackets_of others) ≡ Some next → Next (λ rest. spell_frames n others (spell n whole rest)) part next
        go others whole settled h there = elim settled as (λ (fs : List Frame) (s : IsSettled fs). IsHeld (held fs whole) → moves (brackets_of fs) ≡ Some next → Next (λ rest. spell_frames n fs (spell n whole rest)) part next) [
          | Nothing ↦ λ h there. let no_way : None ≡ Some next = sym none ∙ there in absurd cc
          | AtBracket frame fs opens ↦ λ h there. goes frame fs whole opens h there
        ] h there

    fixed_role : (where_it_is : Place) (key : Key) (at : ℕ) (part : Part Role) → is_fixed key ≡ true → part.role ≡ key_role n where_it_is key at → part.role ≡ Fixed
    fixed_role where_it_is key at part fixed role = role ∙ go key fixed
      where
        go : (key : Key) → is_fixed key ≡ true → key_role n where_it_is key at ≡ Fixed
        go keys.Number fixed = absurd (never fixed)
        go keys.Name fixed = absurd (never fixed)
        go keys.Other fixed = absurd (never fixed)
        go _ fixed = refl

    behind_next : (place : Place) (key : Key) (part : Part Role) (at : ℕ) (next : State) → key_of part.symbol ≡ key → part.role ≡ key_role n place key at
        → behind_move (state_at (brackets_of frames) c place) key ≡ Some next → Next Spelt part next
    behind_next place (keys.Operator op) part at next key role moves =
        let free = operator_free op (brackets_of frames) c place next moves in
        let table = tables op in
        let same = sym (table.moves (brackets_of frames) c place (λ less. free less)) ∙ moves in
        put _ part (operator op) next (the_part part (operator op).symbol (operator op).role (fixed_is part.symbol (keys.Operator op) key refl) (role ∙ sym table.role))
        (as_next _ _ (state_at (brackets_of frames) (compared_by op c) (places.Operand (need_behind op))) next same (operator_next frames form is_held op low (brackets_of frames) c place refl compared_is free))
    behind_next place keys.Close part at next key role moves = at_bracket part next close_move (λ frame others whole opens h is. closed_next whole part frame others next opens key role h is) refl moves
    behind_next place keys.Comma part at next key role moves = at_bracket part next comma_move (λ frame others whole opens h is. comma_next whole part frame others next opens key role h is) refl moves
    behind_next place keys.Then part at next key role moves = at_bracket part next then_move (λ frame others whole opens h is. then_next whole part frame others next opens key role h is) refl moves
    behind_next place keys.Else part at next key role moves = at_bracket part next else_move (λ frame others whole opens h is. else_next whole part frame others next opens key role h is) refl moves
    behind_next place _ part at next key role moves = absurd (nowhere next moves)

  -- ---- dart terms

  labels_behind : (orbit : List LabelForm) (form : LabelForm) (rest : List (Part Role)) → spell_labels n orbit (number (LabelAt n form.place) form.label ∷ rest) ≡ spell_labels n (orbit ++ form ∷ []) rest
  labels_behind [] form rest = refl
  labels_behind (first ∷ orbit) form rest = ap (λ (ps : List (Part Role)). number (LabelAt n first.place) first.label ∷ ps) (labels_behind orbit form rest)

  path_behind : (path : List ℕ) (label : ℕ) (rest : List (Part Role)) → spell_path n path (sign Fixed (codes "@") ∷ number (StepAt n) label ∷ rest) ≡ spell_path n (path ++ label ∷ []) rest
  path_behind [] label rest = refl
  path_behind (first ∷ path) label rest = ap (λ (ps : List (Part Role)). sign Fixed (codes "@") ∷ number (StepAt n) first ∷ ps) (path_behind path label rest)

  module _ (o : List Bracket) (c : Bool) (frames : List Frame) (good : AreGoodFrames frames) (open_are : o ≡ brackets_of frames) (compared_is : c ≡ compared_in frames) where
    abbrev NextOf : (place : Place) → Partial place → Part Role → State → Type 0
    NextOf place partial part next = Next (λ rest. spell_frames n frames (spell_partial place partial rest)) part next

    abbrev Moves : Place → Key → State → Type 0
    Moves place key next = move_by (state_at o c place) place key ≡ Some next

    on : (place to : Place) (partial : Partial place) (more : Partial to) (part : Part Role) → IsGoodPartial (least_of frames) to more
        → ((rest : List (Part Role)) → spell_partial place partial (part ∷ rest) ≡ spell_partial to more rest) → NextOf place partial part (state_at o c to)
    on place to partial more part fits spells = stays o c frames good open_are compared_is place to partial more part fits spells

    -- on by a symbol of its own, by a name, and by a number
    by_sign : (key : Key) (place to : Place) (partial : Partial place) (more : Partial to) (part : Part Role) (next : State) → key_of part.symbol ≡ key → is_fixed key ≡ true → part.role ≡ Fixed → Some (state_at o c to) ≡ Some next → IsGoodPartial (least_of frames) to more
        → ((rest : List (Part Role)) → spell_partial place partial (record { symbol = symbol_of key; role = Fixed } ∷ rest) ≡ spell_partial to more rest) → NextOf place partial part next
    by_sign key place to partial more part next is own plain moves fits spells =
        put _ part (record { symbol = symbol_of key; role = Fixed }) next (the_part part (symbol_of key) Fixed (fixed_is part.symbol key is own) plain)
        (as_next _ _ (state_at o c to) next moves (on place to partial more (record { symbol = symbol_of key; role = Fixed }) fits spells))

    by_name : (place to : Place) (partial : Partial place) (more : Mention → Partial to) (part : Part Role) (at : ℕ) (next : State) → key_of part.symbol ≡ keys.Name → part.role ≡ NameAt at → Some (state_at o c to) ≡ Some next
        → ((mention : Mention) → IsFree mention → IsGoodPartial (least_of frames) to (more mention)) → ((mention : Mention) (rest : List (Part Role)) → spell_partial place partial (name mention ∷ rest) ≡ spell_partial to (more mention) rest) → NextOf place partial part next
    by_name place to partial more part at next is role moves fits spells =
        let (w, free, word_is) = name_is part.symbol is in
        let mention : Mention = record { name = w; place = at } in
        put _ part (name mention) next (the_part part (Word w) (NameAt at) word_is role)
        (as_next _ _ (state_at o c to) next moves (on place to partial (more mention) (name mention) (fits mention free) (spells mention)))

    by_number : (role : Role) (place to : Place) (partial : Partial place) (more : ℕ → Partial to) (part : Part Role) (next : State) → key_of part.symbol ≡ keys.Number → part.role ≡ role → Some (state_at o c to) ≡ Some next
        → ((value : ℕ) → IsGoodPartial (least_of frames) to (more value)) → ((value : ℕ) (rest : List (Part Role)) → spell_partial place partial (number role value ∷ rest) ≡ spell_partial to (more value) rest) → NextOf place partial part next
    by_number role place to partial more part next is role_is moves fits spells =
        let (value, number_at) = number_is part.symbol is in
        put _ part (number role value) next (the_part part (Numeral value) role number_at role_is)
        (as_next _ _ (state_at o c to) next moves (on place to partial (more value) (number role value) (fits value) (spells value)))

    same_next : (key : Key) (part : Part Role) (at : ℕ) (next : State) → key_of part.symbol ≡ key → part.role ≡ key_role n places.Same key at → Moves places.Same key next → NextOf places.Same tt part next
    same_next keys.Open part at next is role moves = by_sign keys.Open places.Same (places.Node endings.Comma) tt tt part next is refl role moves tt (λ rest. refl)
    same_next _ part at next is role moves = absurd (nowhere next moves)

    orbit_next : (ending : Ending) (head : Head ending) (key : Key) (part : Part Role) (at : ℕ) (next : State) → key_of part.symbol ≡ key → part.role ≡ key_role n (places.Orbit ending) key at → Moves (places.Orbit ending) key next → NextOf (places.Orbit ending) head part next
    orbit_next ending head (keys.Operator ops.Lt) part at next is role moves = by_sign (keys.Operator ops.Lt) (places.Orbit ending) (places.Label ending) head (head, []) part next is refl role moves tt (λ rest. refl)
    orbit_next ending head _ part at next is role moves = absurd (nowhere next moves)

    label_next : (ending : Ending) (head : Head ending) (orbit : List LabelForm) (key : Key) (part : Part Role) (at : ℕ) (next : State) → key_of part.symbol ≡ key → part.role ≡ key_role n (places.Label ending) key at → Moves (places.Label ending) key next
        → NextOf (places.Label ending) (head, orbit) part next
    label_next ending head orbit keys.Number part at next is role moves =
        by_number (LabelAt n at) (places.Label ending) (places.Label ending) (head, orbit) (λ label. (head, orbit ++ record { label = label; place = at } ∷ [])) part next is role moves (λ value. tt)
        (λ value rest. ap (λ (ps : List (Part Role)). spell_head ending head (sign Fixed (codes "<") ∷ ps)) (labels_behind orbit (record { label = value; place = at }) rest))
    label_next ending head orbit (keys.Operator ops.Gt) part at next is role moves = by_sign (keys.Operator ops.Gt) (places.Label ending) (places.Open ending) (head, orbit) (head, orbit) part next is refl role moves tt (λ rest. refl)
    label_next ending head orbit _ part at next is role moves = absurd (nowhere next moves)

    open_next : (ending : Ending) (head : Head ending) (orbit : List LabelForm) (key : Key) (part : Part Role) (at : ℕ) (next : State) → key_of part.symbol ≡ key → part.role ≡ key_role n (places.Open ending) key at → Moves (places.Open ending) key next
        → NextOf (places.Open ending) (head, orbit) part next
    open_next endings.Close head orbit keys.Open part at next is role moves = by_sign keys.Open (places.Open endings.Close) (places.Node endings.Close) (head, orbit) (inr orbit) part next is refl role moves tt (λ rest. refl)
    open_next endings.FieldClose head orbit keys.Open part at next is role moves = by_sign keys.Open (places.Open endings.FieldClose) (places.Node endings.FieldClose) (head, orbit) (head, orbit) part next is refl role moves tt (λ rest. refl)
    open_next endings.Comma head orbit keys.Open part at next is role moves = absurd head
    open_next endings.Field head orbit keys.Open part at next is role moves = absurd head
    open_next ending head orbit _ part at next is role moves = absurd (nowhere next moves)

    node_next : (ending : Ending) (lead : Lead ending) → IsGoodLead ending lead → (key : Key) (part : Part Role) (at : ℕ) (next : State) → key_of part.symbol ≡ key → part.role ≡ key_role n (places.Node ending) key at → Moves (places.Node ending) key next
        → NextOf (places.Node ending) lead part next
    node_next ending lead good_lead keys.Name part at next is role moves =
        by_name (places.Node ending) (places.BehindNode ending) lead (λ mention. (lead, record { node = mention; path = [] })) part at next is role moves (λ mention free. (good_lead, free)) (λ mention rest. refl)
    node_next ending lead good_lead _ part at next is role moves = absurd (nowhere next moves)

    path_next : (ending : Ending) (lead : Lead ending) (term : TermForm) → IsGoodLead ending lead → IsGoodTerm term → (part : Part Role) (next : State) → key_of part.symbol ≡ keys.At → part.role ≡ Fixed → Some (state_at o c (places.Step ending)) ≡ Some next
        → NextOf (places.BehindNode ending) (lead, term) part next
    path_next ending lead term good_lead good_term part next is role moves = by_sign keys.At (places.BehindNode ending) (places.Step ending) (lead, term) (lead, term) part next is refl role moves (good_lead, good_term) (λ rest. refl)

    term_next : (ending : Ending) (lead : Lead ending) (term : TermForm) → IsGoodLead ending lead → IsGoodTerm term → (key : Key) (part : Part Role) (at : ℕ) (next : State) → key_of part.symbol ≡ key → part.role ≡ key_role n (places.BehindNode ending) key at
        → Moves (places.BehindNode ending) key next → NextOf (places.BehindNode ending) (lead, term) part next
    term_next ending lead term good_lead good_term keys.At part at next is role moves = path_next ending lead term good_lead good_term part next is role moves
    term_next endings.Comma lead term good_lead good_term keys.Comma part at next is role moves = by_sign keys.Comma (places.BehindNode endings.Comma) (places.Node endings.Close) (lead, term) (inl term) part next is refl role moves good_term (λ rest. refl)
    term_next endings.Close (inl first) term good_lead good_term keys.Close part at next is role moves =
        by_sign keys.Close (places.BehindNode endings.Close) places.Behind (inl first, term) (SameForm first term) part next is refl role moves ((good_lead, good_term), omega arith) (λ rest. refl)
    term_next endings.Close (inr orbit) term good_lead good_term keys.Close part at next is role moves =
        by_sign keys.Close (places.BehindNode endings.Close) places.Behind (inr orbit, term) (CountForm orbit term) part next is refl role moves (good_term, omega arith) (λ rest. refl)
    term_next endings.Field lead term good_lead good_term keys.Dot part at next is role moves = by_sign keys.Dot (places.BehindNode endings.Field) (places.Field endings.Field) (lead, term) (lead, term) part next is refl role moves (tt, good_lead, good_term) (λ rest. refl)
    term_next endings.FieldClose lead term good_lead good_term keys.Dot part at next is role moves =
        by_sign keys.Dot (places.BehindNode endings.FieldClose) (places.Field endings.FieldClose) (lead, term) (lead, term) part next is refl role moves (tt, good_lead, good_term) (λ rest. refl)
    term_next ending lead term good_lead good_term _ part at next is role moves = absurd (nowhere next moves)

    step_next : (ending : Ending) (lead : Lead ending) (term : TermForm) → IsGoodLead ending lead → IsGoodTerm term → (key : Key) (part : Part Role) (at : ℕ) (next : State) → key_of part.symbol ≡ key → part.role ≡ key_role n (places.Step ending) key at
        → Moves (places.Step ending) key next → NextOf (places.Step ending) (lead, term) part next
    step_next ending lead term good_lead good_term keys.Number part at next is role moves =
        by_number (StepAt n) (places.Step ending) (places.BehindNode ending) (lead, term) (λ label. (lead, record { node = term.node; path = term.path ++ label ∷ [] })) part next is role moves (λ value. (good_lead, good_term))
        (λ value rest. ap (λ (ps : List (Part Role)). spell_lead ending lead (name term.node ∷ ps)) (path_behind term.path value rest))
    step_next ending lead term good_lead good_term _ part at next is role moves = absurd (nowhere next moves)

    field_next : (ending : Ending) (lead : Lead ending) (term : TermForm) → HasField ending → IsGoodTerm term → (key : Key) (part : Part Role) (at : ℕ) (next : State) → key_of part.symbol ≡ key → part.role ≡ key_role n (places.Field ending) key at
        → Moves (places.Field ending) key next → NextOf (places.Field ending) (lead, term) part next
    field_next endings.Field lead term has good_term keys.Name part at next is role moves =
        by_name (places.Field endings.Field) places.Behind (lead, term) (λ embed. FieldForm term embed) part at next is role moves (λ embed free. ((good_term, free), omega arith)) (λ embed rest. refl)
    field_next endings.FieldClose lead term has good_term keys.Name part at next is role moves =
        by_name (places.Field endings.FieldClose) places.Close (lead, term) (λ embed. (lead.0, lead.1, term, embed)) part at next is role moves (λ embed free. (good_term, free)) (λ embed rest. refl)
    field_next endings.Comma lead term has good_term key part at next is role moves = absurd has
    field_next endings.Close lead term has good_term key part at next is role moves = absurd has
    field_next ending lead term has good_term _ part at next is role moves = absurd (nowhere next moves)

    close_next : (partial : Partial places.Close) → IsGoodTerm partial.2 → IsFree partial.3 → (key : Key) (part : Part Role) (at : ℕ) (next : State) → key_of part.symbol ≡ key → part.role ≡ key_role n places.Close key at → Moves places.Close key next
        → NextOf places.Close partial part next
    close_next partial good_term free keys.Close part at next is role moves =
        by_sign keys.Close places.Close places.Behind partial (CollectForm partial.0 partial.1 partial.2 partial.3) part next is refl role moves ((good_term, free), omega arith) (λ rest. refl)
    close_next partial good_term free _ part at next is role moves = absurd (nowhere next moves)

    name_next : (mention : Mention) → IsFree mention → (key : Key) (part : Part Role) (at : ℕ) (next : State) → key_of part.symbol ≡ key → part.role ≡ key_role n places.BehindName key at → Moves places.BehindName key next → NextOf places.BehindName mention part next
    name_next mention free keys.Open part at next is role moves =
        put _ part (sign Fixed (codes "(")) next (the_part part (Sign (codes "(")) Fixed (fixed_is part.symbol keys.Open is refl) role)
        (as_next _ _ (state_at (brackets.Call c ∷ o) false (places.Operand needs.Any)) next moves
        (record {
          zip = record { frames = FirstOf mention ∷ frames; partial = tt; good = (free, good); fits = omega arith; brackets = ap (λ (b : Bool). brackets.Call b ∷ o) compared_is ∙ ap (λ (bs : List Bracket). brackets.Call (compared_in frames) ∷ bs) open_are; compared = refl };
          spells = λ rest. refl;
        }))
    name_next mention free keys.At part at next is role moves = by_sign keys.At places.BehindName (places.Step endings.Field) mention (tt, record { node = mention; path = [] }) part next is refl role moves (tt, free) (λ rest. refl)
    name_next mention free keys.Dot part at next is role moves = by_sign keys.Dot places.BehindName (places.Field endings.Field) mention (tt, record { node = mention; path = [] }) part next is refl role moves (tt, tt, free) (λ rest. refl)
    name_next mention free key part at next is role moves =
        behind_next frames (ParamForm mention) (record { frames = good; form = free; fits = omega (arith, least_most frames) }) (omega arith) c compared_is places.BehindName key part at next is role (subst (λ (bs : List Bracket). behind_move (state_at bs c places.BehindName) key ≡ Some next) open_are moves)

  -- ---- one part more, wherever reading is

  moved : (state next : State) (zip : Zip state) (part : Part Role) (at : ℕ) → part.role ≡ role_at n state part.symbol at → move state part.symbol ≡ Some next → Next (zip_spelled state zip) part next
  moved state next zip part at role moves = go state.place zip.partial zip.fits role moves
    where
      go : (place : Place) (partial : Partial place) → IsGoodPartial (least_of zip.frames) place partial → part.role ≡ key_role n place (key_of part.symbol) at → move_by (state_at state.open_brackets state.compared place) place (key_of part.symbol) ≡ Some next
          → Next (λ rest. spell_frames n zip.frames (spell_partial place partial rest)) part next
      go (places.Operand need) partial fits role moves = operand_next state.open_brackets state.compared zip.frames zip.good zip.brackets zip.compared need (key_of part.symbol) part at next fits refl role moves
      go places.Behind form fits role moves =
          behind_next zip.frames form (record { frames = zip.good; form = fits.0; fits = omega (arith, least_most zip.frames, fits.1) }) fits.1 state.compared zip.compared places.Behind (key_of part.symbol) part at next refl role (subst (λ (bs : List Bracket). behind_move (state_at bs state.compared places.Behind) (key_of part.symbol) ≡ Some next) zip.brackets moves)
      go places.BehindName mention fits role moves = name_next state.open_brackets state.compared zip.frames zip.good zip.brackets zip.compared mention fits (key_of part.symbol) part at next refl role moves
      go places.Same partial fits role moves = same_next state.open_brackets state.compared zip.frames zip.good zip.brackets zip.compared (key_of part.symbol) part at next refl role moves
      go (places.Orbit ending) head fits role moves = orbit_next state.open_brackets state.compared zip.frames zip.good zip.brackets zip.compared ending head (key_of part.symbol) part at next refl role moves
      go (places.Label ending) partial fits role moves = label_next state.open_brackets state.compared zip.frames zip.good zip.brackets zip.compared ending partial.0 partial.1 (key_of part.symbol) part at next refl role moves
      go (places.Open ending) partial fits role moves = open_next state.open_brackets state.compared zip.frames zip.good zip.brackets zip.compared ending partial.0 partial.1 (key_of part.symbol) part at next refl role moves
      go (places.Node ending) lead fits role moves = node_next state.open_brackets state.compared zip.frames zip.good zip.brackets zip.compared ending lead fits (key_of part.symbol) part at next refl role moves
      go (places.BehindNode ending) partial fits role moves = term_next state.open_brackets state.compared zip.frames zip.good zip.brackets zip.compared ending partial.0 partial.1 fits.0 fits.1 (key_of part.symbol) part at next refl role moves
      go (places.Step ending) partial fits role moves = step_next state.open_brackets state.compared zip.frames zip.good zip.brackets zip.compared ending partial.0 partial.1 fits.0 fits.1 (key_of part.symbol) part at next refl role moves
      go (places.Field ending) partial fits role moves = field_next state.open_brackets state.compared zip.frames zip.good zip.brackets zip.compared ending partial.0 partial.1 fits.0 fits.2 (key_of part.symbol) part at next refl role moves
      go places.Close partial fits role moves = close_next state.open_brackets state.compared zip.frames zip.good zip.brackets zip.compared partial fits.0 fits.1 (key_of part.symbol) part at next refl role moves

  -- ---- to the end

  -- the form of what was read, where an expression can end
  pub record IsSpelled (parts : List (Part Role)) : Type 0 where
    pub form : Form
    pub good : IsGood form
    pub spelled : parts ≡ spell n form []

  whole_form : (frames : List Frame) (form : Form) → IsHeld (held frames form) → [] ≡ brackets_of frames → IsSpelled (spell_frames n frames (spell n form []))
  whole_form frames form is_held none =
      let same = settled_same n frames form in
      let to = settled frames form in
      let end = go to.frames to.form (settled_is frames form) (none ∙ same.brackets) (same.good is_held) in
      record { form = end.form; good = end.good; spelled = same.spells [] ∙ end.spelled }
    where
      no_bracket : (frame : Frame) (others : List Frame) → is_open frame ≡ true → [] ≡ brackets_of (frame ∷ others) → ⊥
      no_bracket GroupOf others opens e = absurd cc
      no_bracket (FirstOf function) others opens e = absurd cc
      no_bracket (FurtherOf function arguments) others opens e = absurd cc
      no_bracket IfOf others opens e = absurd cc
      no_bracket (ThenOf c) others opens e = absurd cc
      no_bracket (LeftOf op left) others opens e = absurd (never opens)
      no_bracket MinusOf others opens e = absurd (never opens)
      no_bracket NotOf others opens e = absurd (never opens)
      no_bracket (ElseOf c a) others opens e = absurd (never opens)

      go : (others : List Frame) (whole : Form) → IsSettled others → [] ≡ brackets_of others → IsHeld (held others whole) → IsSpelled (spell_frames n others (spell n whole []))
      go others whole settled e h = elim settled as (λ (fs : List Frame) (s : IsSettled fs). [] ≡ brackets_of fs → IsHeld (held fs whole) → IsSpelled (spell_frames n fs (spell n whole []))) [
        | Nothing ↦ λ e h. record { form = whole; good = h.form; spelled = refl }
        | AtBracket frame fs opens ↦ λ e h. absurd (no_bracket frame fs opens e)
      ] e h

  whole_zip : (state : State) (zip : Zip state) → IsTrue (is_whole state) → IsSpelled (zip_spelled state zip [])
  whole_zip state zip whole = go state.open_brackets state.place zip.partial zip.fits zip.brackets whole
    where
      go : (o : List Bracket) (place : Place) (partial : Partial place) → IsGoodPartial (least_of zip.frames) place partial → o ≡ brackets_of zip.frames → IsTrue (is_whole (state_at o state.compared place)) → IsSpelled (spell_frames n zip.frames (spell_partial place partial []))
      go [] places.Behind form fits e whole = whole_form zip.frames form (record { frames = zip.good; form = fits.0; fits = omega (arith, least_most zip.frames, fits.1) }) e
      go [] places.BehindName mention fits e whole = whole_form zip.frames (ParamForm mention) (record { frames = zip.good; form = fits; fits = omega (arith, least_most zip.frames) }) e
      go _ place partial fits e whole = absurd cc

  reads : (parts : List (Part Role)) (state last : State) (zip : Zip state) → Led n state parts last → IsTrue (is_whole last) → IsSpelled (zip_spelled state zip parts)
  reads [] state last zip e whole = whole_zip state zip (subst (λ (s : State). IsTrue (is_whole s)) (sym e) whole)
  reads (part ∷ parts) state last zip (at, next, role, moves, led) whole =
      let one = moved state next zip part at role moves in
      let behind = reads parts next last one.zip led whole in
      record { form = behind.form; good = behind.good; spelled = one.spells parts ∙ behind.spelled }

  -- each path through the states to where an expression can end is a form
  pub form_is : (parts : List (Part Role)) (last : State) → Led n start parts last → IsTrue (is_whole last) → IsSpelled parts
  form_is parts last led whole = reads parts start last (record { frames = []; partial = tt; good = tt; fits = omega arith; brackets = refl; compared = refl }) led whole
