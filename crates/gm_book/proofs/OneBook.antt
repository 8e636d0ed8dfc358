-- A text is written as at most one book, and has at most one first fault, and then no book.
use Rattle.std.proofs.Common.{◌≡◌, ◌≢◌, inl, inr, ℕ, ◌+◌, Bool, true, false, ◌||◌, List, [], ◌∷◌, ◌++◌, map, Option, Some, None, Result, Ok, Err, refl, sym, ap, subst, ◌∙◌, ◌≤◌, arith}
use Rattle.std.proofs.lemmas.Slice.Eq.{bytes_eq-Decides}
use Rattle.std.specs.List.{AllByRecursion, AllZip}
use Rattle.std.specs.Prelude.{IsTrue, is_some}
use Rattle.std.specs.Str.{bytes_eq}
use Rattle.gm_model.specs.declared.limit.LimitKind.{LimitKind}
use Rattle.gm_model.specs.declared.schema.Embed.{Embed}
use Rattle.gm_model.specs.declared.schema.Schema.{Schema}
use Rattle.gm_model.specs.Names.{is_among}
use Rattle.gm_model.specs.Rules.{Rule, RuleNode, Assignment}
use Rattle.gm_model.specs.Symbols.{Symbol, Word, Numeral, Mark, symbols, marks_of}
use Rattle.gm_model.specs.Reading.{symbols_in, the_end, in_role, ArePlaced}
use Rattle.gm_model.specs.Reading as reading
use Rattle.gm_model.specs.Trees.{Tree}
use Rattle.gm_text.specs.inner.Machine.{Stop, Ends, Passes}
use Rattle.gm_text.specs.inner.Nested.{Outside, Inside}
use Rattle.gm_text.specs.inner.Nested as nested
use Rattle.gm_text.specs.SchemaText as schemas
use Rattle.gm_text.specs.SchemaText.{SchemaForm, schema_of, spell}
use Rattle.gm_text.proofs.Machine.{Along, part_at, reading_runs, ends_run, passes_run}
use Rattle.gm_text.proofs.SchemaSpelled.{same_form}
use Rattle.gm_parse.specs.Meaning.{Names}
use Rattle.gm_parse.specs.inner.Reading.{spot_move, spot_role}
use Rattle.gm_forms.specs.BookText.{ExprToken, SetForm, RuleForm, BookForm, Role, Fixed, InSchema, NameAt, ParamName, InExpr, limit_of, stands_before, spell_rules, spelling, IsSentence, IsPlacedAt, IsWritten, nodes_of, sets_in, names_for, node_in, rule_in, MeansTree, MeansSet, MeansPre, MeansRule, BookText, StandsForNoBook, NameFault, TwiceAt, UnknownAt, WrongKindAt, IsNotAfter, IsNameFault, IsFirstNameFault}
use Rattle.gm_book.specs.declared.fault.BookFault.{BookFault}
use Rattle.gm_book.specs.declared.fault.BookFault.TheVariants as faults
use Rattle.gm_book.specs.inner.Faults.{IsFaultOf}
use Rattle.gm_book.proofs.OneValue.{AreWithin, one_tree}
use Rattle.gm_book.proofs.ValuesWithin.{AreSetsWithin, IsPreWithin, AreValuesWithin, dim_within, values_within}
use Rattle.gm_forms.specs.inner.Reading.{Spot, State, AtRules, AtName, AtParam, AtItem, AtBehind, AtSet, AtExpr, AtTo, AtEnd, behind_slot, dim_of, heading_at, closing, is_pre_on, is_with_on, is_hook, item_role, behind_role, plain_role, AtFormat, AtVersion, InRules, Whole, in_rules, book_nesting, Held, nothing_held, held_behind, run_whole}
use Rattle.gm_forms.specs.inner.Reading as rules
use Rattle.gm_forms.proofs.Header.{LedWhole, book_grammar}
use Rattle.gm_forms.proofs.RulesHeld.{marks_for, header_held}
use Rattle.gm_forms.proofs.SchemaNames as schema_names
use Rattle.gm_forms.proofs.Spelling.{Parts}

abbrev role_at : Whole → Symbol → ℕ → Role
role_at = nested.role_at book_nesting

abbrev move_on : Whole → Symbol → Option Whole
move_on = nested.move book_nesting

-- ---- one list of parts

moved_item : (spot : Spot) (symbol : Symbol) (place other : ℕ) → IsPlacedAt other (item_role spot symbol place) → item_role spot symbol place ≡ item_role spot symbol other
moved_item spot (Word w) place other at = go (bytes_eq w (closing spot.side)) refl (is_pre_on spot.side w) refl
  where
    go : (b : Bool) → bytes_eq w (closing spot.side) ≡ b → (p : Bool) → is_pre_on spot.side w ≡ p → item_role spot (Word w) place ≡ item_role spot (Word w) other
    go true e p f = rw e refl
    go false e true f = rw (e, f) refl
    go false e false f = rw (e, f) (ap NameAt (rw (e, f) at at))
moved_item spot symbol place other at = refl

moved_behind : (spot : Spot) (symbol : Symbol) (place other : ℕ) → IsPlacedAt other (behind_role spot symbol place) → behind_role spot symbol place ≡ behind_role spot symbol other
moved_behind spot (Word w) place other at = go (is_hook spot w) refl (is_with_on spot.side w) refl
  where
    go : (h : Bool) → is_hook spot w ≡ h → (b : Bool) → is_with_on spot.side w ≡ b → behind_role spot (Word w) place ≡ behind_role spot (Word w) other
    go true e b f = rw e refl
    go false e true f = rw (e, f) refl
    go false e false f = rw (e, f) (moved_item spot (Word w) place other (rw (e, f) at at))
moved_behind spot symbol place other at = refl

moved_plain : (state : State) (symbol : Symbol) (place other : ℕ) → IsPlacedAt other (plain_role state symbol place) → plain_role state symbol place ≡ plain_role state symbol other
moved_plain (AtName n k) symbol place other at = ap NameAt at
moved_plain (AtParam n k count) symbol place other at = ap (ParamName (count + 1)) at
moved_plain (AtTo spot) symbol place other at = ap NameAt at
moved_plain (AtSet spot) symbol place other at = ap NameAt at
moved_plain (AtItem spot) symbol place other at = moved_item spot symbol place other at
moved_plain (AtBehind spot) symbol place other at = moved_behind spot symbol place other at
moved_plain state symbol place other at = refl

-- where a role in the rules says a place, it is the place of the mark
moved_in_rules : (state : State) (symbol : Symbol) (place other : ℕ) → IsPlacedAt other (rules.role_at state symbol place) → rules.role_at state symbol place ≡ rules.role_at state symbol other
moved_in_rules (AtExpr slot spot) symbol place other at = go (is_some (spot_move spot symbol)) refl
  where
    go : (b : Bool) → is_some (spot_move spot symbol) ≡ b → rules.role_at (AtExpr slot spot) symbol place ≡ rules.role_at (AtExpr slot spot) symbol other
    go true e = rw e (ap (λ (p : ℕ). InExpr p (spot_role (dim_of slot) spot symbol p)) (rw e at at))
    go false e = rw e (moved_plain (behind_slot slot) symbol place other (rw e at at))
moved_in_rules state symbol place other at = moved_plain state symbol place other at

-- and so in a whole book
moved_role : (state : Whole) (symbol : Symbol) (place other : ℕ) → IsPlacedAt other (role_at state symbol place) → role_at state symbol place ≡ role_at state symbol other
moved_role (Outside AtFormat) symbol place other at = refl
moved_role (Outside AtVersion) symbol place other at = refl
moved_role (Outside (InRules state)) symbol place other at = moved_in_rules state symbol place other at
moved_role (Inside inner) symbol place other at = go (is_some (book_nesting.inner_move inner symbol)) refl
  where
    go : (b : Bool) → is_some (book_nesting.inner_move inner symbol) ≡ b → role_at (Inside inner) symbol place ≡ role_at (Inside inner) symbol other
    go true e = rw e (ap InSchema (schema_names.moved_role inner.state symbol place other (rw e at at)))
    go false e = rw e refl

-- marks of a sentence's symbols at its places are its parts along the states
led_along : (state : Whole) (marks : List Mark) (parts : Parts) → LedWhole state parts (in_rules AtEnd) → symbols marks ≡ symbols_in parts → ArePlaced IsPlacedAt marks parts → Along limit_of stands_before role_at move_on state marks parts (in_rules AtEnd)
led_along state [] [] e same placed = e
led_along state [] (part ∷ parts) led same placed = absurd cc
led_along state (mark ∷ marks) [] led same placed = absurd cc
led_along state (mark ∷ marks) (part ∷ parts) (place, next, is, moves, led) same (here, placed) =
    let head : mark.symbol ≡ part.symbol = cc same in
    let tail : symbols marks ≡ symbols_in parts = cc same in
    let role : part.role ≡ role_at state part.symbol mark.place = is ∙ moved_role state part.symbol place mark.place (subst (IsPlacedAt mark.place) is here) in
    let part_is : part ≡ part_at limit_of stands_before role_at move_on state mark =
    ap (λ (r : Role). let p : reading.Part Role = record { symbol = part.symbol; role = r } in p) role
    ∙ ap (λ (s : Symbol). let p : reading.Part Role = record { symbol = s; role = role_at state s mark.place } in p) (sym head) in
    (next, part_is, ap (move_on state) head ∙ moves, led_along next marks parts led tail placed)

one_along : (state last last' : Whole) (marks : List Mark) (one other : Parts) → Along limit_of stands_before role_at move_on state marks one last → Along limit_of stands_before role_at move_on state marks other last' → one ≡ other
one_along state last last' [] [] [] e f = refl
one_along state last last' [] [] (q ∷ other) e f = absurd f
one_along state last last' [] (p ∷ one) other e f = absurd e
one_along state last last' (mark ∷ marks) [] other e f = absurd e
one_along state last last' (mark ∷ marks) (p ∷ one) [] e f = absurd f
one_along state last last' (mark ∷ marks) (p ∷ one) (q ∷ other) (next, is, moves, along) (next', is', moves', along') =
    let both : Some next ≡ Some next' = sym moves ∙ moves' in
    let same : next' ≡ next = cc both in
    let rest = one_along next last last' marks one other along (subst (λ s. Along limit_of stands_before role_at move_on s marks other last') same along') in
    ap (λ (p : reading.Part Role). p ∷ one) (is ∙ sym is') ∙ ap (λ (ps : Parts). q ∷ ps) rest

written_along : (text : List ℕ) (book : BookForm) → IsWritten text book → Along limit_of stands_before role_at move_on (Outside AtFormat) (marks_of text) (spelling book) (in_rules AtEnd)
written_along text book written = led_along (Outside AtFormat) (marks_of text) (spelling book) (book_grammar.leads (spelling book) written.read.sentence) written.read.spelled written.placed

-- ---- one book

-- the parts of the schema at the front, and those behind them
abbrev before_rest : Symbol → Role → List (reading.Part schemas.Role) → List (reading.Part schemas.Role)
before_rest symbol (InSchema role) rest = record { symbol = symbol; role = role } ∷ rest
before_rest symbol _ rest = []

abbrev inside : Parts → List (reading.Part schemas.Role)
inside [] = []
inside (part ∷ parts) = before_rest part.symbol part.role (inside parts)

-- the rest where the part is one of the schema
abbrev either_rest : Role → Parts → Parts → Parts
either_rest (InSchema role) rest parts = rest
either_rest _ rest parts = parts

abbrev behind : Parts → Parts
behind [] = []
behind (part ∷ parts) = either_rest part.role (behind parts) (part ∷ parts)

-- rules begin with no part of a schema
inside_rules : (n : ℕ) (forms : List RuleForm) → inside (spell_rules n 0 forms (the_end Fixed ∷ [])) ≡ []
inside_rules n [] = refl
inside_rules n (form ∷ forms) = refl

behind_rules : (n : ℕ) (forms : List RuleForm) → behind (spell_rules n 0 forms (the_end Fixed ∷ [])) ≡ spell_rules n 0 forms (the_end Fixed ∷ [])
behind_rules n [] = refl
behind_rules n (form ∷ forms) = refl

inside_is : (parts : List (reading.Part schemas.Role)) (rest : Parts) → inside rest ≡ [] → inside (map (in_role InSchema) parts ++ rest) ≡ parts
inside_is [] rest none = none
inside_is (part ∷ parts) rest none = ap (λ (ps : List (reading.Part schemas.Role)). part ∷ ps) (inside_is parts rest none)

behind_is : (parts : List (reading.Part schemas.Role)) (rest : Parts) → behind rest ≡ rest → behind (map (in_role InSchema) parts ++ rest) ≡ rest
behind_is [] rest same = same
behind_is (part ∷ parts) rest same = behind_is parts rest same

pub one_written : (text : List ℕ) (one other : BookForm) → IsWritten text one → IsWritten text other → one ≡ other
one_written text one other w v =
    let same : spelling one ≡ spelling other = one_along (Outside AtFormat) (in_rules AtEnd) (in_rules AtEnd) (marks_of text) (spelling one) (spelling other) (written_along text one w) (written_along text other v) in
    let rest_one = spell_rules one.schema.dim 0 one.rules (the_end Fixed ∷ []) in
    let rest_two = spell_rules other.schema.dim 0 other.rules (the_end Fixed ∷ []) in
    let version : one.version ≡ other.version = ap version_in same in
    let tail : map (in_role InSchema) (spell one.schema []) ++ rest_one ≡ map (in_role InSchema) (spell other.schema []) ++ rest_two = ap tail_of same in
    let spelled : spell one.schema [] ≡ spell other.schema [] =
    sym (inside_is (spell one.schema []) rest_one (inside_rules one.schema.dim one.rules)) ∙ ap inside tail ∙ inside_is (spell other.schema []) rest_two (inside_rules other.schema.dim other.rules) in
    let schema : one.schema ≡ other.schema = same_form one.schema other.schema w.form.1 v.form.1 spelled in
    let rests : rest_one ≡ rest_two = sym (behind_is (spell one.schema []) rest_one (behind_rules one.schema.dim one.rules)) ∙ ap behind tail ∙ behind_is (spell other.schema []) rest_two (behind_rules other.schema.dim other.rules) in
    let held_one = header_held (heading_at one.version one.schema.dim) one.rules w.form.2 in
    let held_two = header_held (heading_at other.version other.schema.dim) other.rules v.form.2 in
    let from : held_behind (AtRules (heading_at one.version one.schema.dim)) (marks_for rest_one) nothing_held ≡ held_behind (AtRules (heading_at other.version other.schema.dim)) (marks_for rest_two) nothing_held =
    ap (λ (u : ℕ). held_behind (AtRules (heading_at u one.schema.dim)) (marks_for rest_one) nothing_held) version
    ∙ ap (λ (f : SchemaForm). held_behind (AtRules (heading_at other.version f.dim)) (marks_for rest_one) nothing_held) schema
    ∙ ap (λ (ps : Parts). held_behind (AtRules (heading_at other.version other.schema.dim)) (marks_for ps) nothing_held) rests in
    let forms : one.rules ≡ other.rules = ap (λ (h : Held). h.rules) (sym held_one ∙ from ∙ held_two) in
    ap (λ (u : ℕ). let b : BookForm = record { version = u; schema = one.schema; rules = one.rules } in b) version ∙ ap (λ (f : SchemaForm). let b : BookForm = record { version = other.version; schema = f; rules = one.rules } in b) schema
    ∙ ap (λ (rs : List RuleForm). let b : BookForm = record { version = other.version; schema = other.schema; rules = rs } in b) forms
  where
    numeral_in : Symbol → ℕ
    numeral_in (Numeral n) = n
    numeral_in symbol = 0

    version_in : Parts → ℕ
    version_in (first ∷ second ∷ parts) = numeral_in second.symbol
    version_in parts = 0

    tail_of : Parts → Parts
    tail_of (first ∷ second ∷ parts) = parts
    tail_of parts = []

-- ---- one meaning

own_name : (name : List ℕ) → bytes_eq name name ≡ true
own_name name = (bytes_eq-Decides name name).1 refl

map_same : {B : Type 0} (f g : List ℕ → B) (names : List (List ℕ)) → ((name : List ℕ) → IsTrue (is_among names name) → f name ≡ g name) → map f names ≡ map g names
map_same f g [] same = refl
map_same {B} f g (name ∷ names) same =
    ap (λ (b : B). b ∷ map f names) (same name (rw (own_name name) refl)) ∙ ap (λ (bs : List B). g name ∷ bs) (map_same f g names (λ other among. same other (go (bytes_eq other name) (is_among names other) among)))
  where
    go : (a b : Bool) → IsTrue b → IsTrue (a || b)
    go true b is = refl
    go false b is = is

module _ (n : ℕ) (top : n ≤ 7) (names : Names) where
  one_means : (tokens : List ExprToken) (tree other : Tree) → AreWithin tokens → MeansTree n names tokens tree → MeansTree n names tokens other → tree ≡ other
  one_means tokens tree other within one two = one.means ∙ one_tree n names top tokens within one.form two.form one.value two.value ∙ sym two.means

  one_set : (set : SetForm) (assignment other : Assignment) → AreWithin set.value → MeansSet n names set assignment → MeansSet n names set other → assignment ≡ other
  one_set set assignment other within one two =
      let both : Some assignment.embed ≡ Some other.embed = sym one.embed ∙ two.embed in
      let embed : assignment.embed ≡ other.embed = cc both in
      ap (λ (e : ℕ). let a : Assignment = record { embed = e; tree = assignment.tree } in a) embed
      ∙ ap (λ (t : Tree). let a : Assignment = record { embed = other.embed; tree = t } in a) (one_means set.value assignment.tree other.tree within one.tree two.tree)

  one_sets : (sets : List SetForm) (one other : List Assignment) → AreSetsWithin sets → AllZip (MeansSet n names) sets one → AllZip (MeansSet n names) sets other → one ≡ other
  one_sets [] [] [] within first second = refl
  one_sets [] [] (b ∷ other) within first second = absurd second
  one_sets [] (a ∷ one) other within first second = absurd first
  one_sets (set ∷ sets) [] other within first second = absurd first
  one_sets (set ∷ sets) (a ∷ one) [] within first second = absurd second
  one_sets (set ∷ sets) (a ∷ one) (b ∷ other) within first second =
      ap (λ (x : Assignment). x ∷ one) (one_set set a b within.0 first.0 second.0) ∙ ap (λ (xs : List Assignment). b ∷ xs) (one_sets sets one other within.1 first.1 second.1)

  one_pre : (tokens : Option (List ExprToken)) (pre other : Option Tree) → IsPreWithin tokens → MeansPre n names tokens pre → MeansPre n names tokens other → pre ≡ other
  one_pre None pre other within first second = first ∙ sym second
  one_pre (Some tokens) pre other within (tree, is, means) (second, at, also) = is ∙ ap Some (one_means tokens tree second within means also) ∙ sym at

module _ (n : ℕ) (top : n ≤ 7) (embeds : List Embed) where
  one_rule : (form : RuleForm) (rule other : Rule) → AreValuesWithin form → MeansRule n embeds form rule → MeansRule n embeds form other → rule ≡ other
  one_rule form rule other within one two =
      let names = names_for embeds form in
      let sets = λ (name : List ℕ) (among : IsTrue (is_among (nodes_of form) name)).
      one_sets n top names (sets_in form.right name) (one.sets name) (two.sets name) (within.sets name) (one.each name among) (two.each name among) in
      let nodes : map (node_in form one.sets) (nodes_of form) ≡ map (node_in form two.sets) (nodes_of form) =
      map_same (node_in form one.sets) (node_in form two.sets) (nodes_of form)
      (λ name among. ap (λ (assigned : List Assignment). let node : RuleNode = record (node_in form one.sets name) { sets = assigned } in node) (sets name among)) in
      let pre : one.pre ≡ two.pre = one_pre n top names form.pre one.pre two.pre within.pre one.holds two.holds in
      one.same ∙ ap (λ (ns : List RuleNode). let r : Rule = record (rule_in one.sets one.pre form) { nodes = ns } in r) nodes
      ∙ ap (λ (p : Option Tree). rule_in two.sets p form) pre ∙ sym two.same

  one_rules : (forms : List RuleForm) (one other : List Rule) → AllByRecursion AreValuesWithin forms → AllZip (MeansRule n embeds) forms one → AllZip (MeansRule n embeds) forms other → one ≡ other
  one_rules [] [] [] within first second = refl
  one_rules [] [] (b ∷ other) within first second = absurd second
  one_rules [] (a ∷ one) other within first second = absurd first
  one_rules (form ∷ forms) [] other within first second = absurd first
  one_rules (form ∷ forms) (a ∷ one) [] within first second = absurd second
  one_rules (form ∷ forms) (a ∷ one) (b ∷ other) within first second =
      ap (λ (r : Rule). r ∷ one) (one_rule form a b within.0 first.0 second.0) ∙ ap (λ (rs : List Rule). b ∷ rs) (one_rules forms one other within.1 first.1 second.1)

-- two books that a text stands for
pub one_book : (text : List ℕ) (version second : ℕ) (schema other : Schema) (rules others : List Rule) → BookText text version schema rules → BookText text second other others → (version ≡ second) × (schema ≡ other) × (rules ≡ others)
one_book text version second schema other rules others one two =
    let same : one.book ≡ two.book = one_written text one.book two.book one.written two.written in
    let means = subst (λ (b : BookForm). AllZip (MeansRule b.schema.dim (schema_of b.schema).embeds) b.rules others) (sym same) two.same in (
      one.versions ∙ ap (λ (b : BookForm). b.version) same ∙ sym two.versions,
      one.means ∙ ap (λ (b : BookForm). schema_of b.schema) same ∙ sym two.means,
      one_rules one.book.schema.dim (dim_within one.book one.written.read.within) (schema_of one.book.schema).embeds one.book.rules rules others (values_within one.book one.written.read.within) one.same means,
    )

-- ---- one fault

-- two of which neither counts before the other are one
same_in_order : (one other : NameFault) → IsNotAfter one other → IsNotAfter other one → one ≡ other
same_in_order one other (inl less) (inl more) = absurd (omega (arith, less, more))
same_in_order one other (inl less) (inr same) = absurd (omega (arith, less, same.0))
same_in_order one other (inr same) (inl more) = absurd (omega (arith, same.0, more))
same_in_order (TwiceAt place) (TwiceAt last) (inr same) (inr back) = ap TwiceAt same.0
same_in_order (UnknownAt place) (UnknownAt last) (inr same) (inr back) = ap UnknownAt same.0
same_in_order (WrongKindAt place) (WrongKindAt last) (inr same) (inr back) = ap WrongKindAt same.0
same_in_order one other (inr same) (inr back) = absurd (omega (arith, same.1, back.1))

-- a fault of the text by its grammar and limits
abbrev IsOfGrammar : BookFault → Type 0
IsOfGrammar (faults.Text place) = Unit {0}
IsOfGrammar (faults.Limit what place) = Unit {0}
IsOfGrammar _ = ⊥

-- a fault of names as one of the book
abbrev book_fault_of_name : NameFault → BookFault
book_fault_of_name (TwiceAt place) = faults.Twice place
book_fault_of_name (UnknownAt place) = faults.Unknown place
book_fault_of_name (WrongKindAt place) = faults.WrongKind place

module _ (text : List ℕ) where
  abbrev Run : Result Whole (Stop Whole LimitKind)
  Run = run_whole (Outside AtFormat) 0 (marks_of text)

  written_runs : (book : BookForm) → IsWritten text book → Run ≡ Ok (in_rules AtEnd)
  written_runs book written = reading_runs limit_of stands_before role_at move_on IsSentence (Outside AtFormat) (in_rules AtEnd) book_grammar (marks_of text) (spelling book) written.read

  -- what reading by the states answers where the text has the fault
  abbrev Answers : BookFault → Type 0
  Answers (faults.Text place) = (state : Whole) × (mark : Mark) × (mark.place ≡ place) × (Run ≡ Err (Ends state mark))
  Answers (faults.Limit what place) = Run ≡ Err (Passes what place)
  Answers faults.OutOfMemory = Unit {0}
  Answers _ = Run ≡ Ok (in_rules AtEnd)

  answers : (fault : BookFault) → IsFaultOf text fault → Answers fault
  answers (faults.Text place) fault = ends_run limit_of stands_before role_at move_on IsSentence (Outside AtFormat) (in_rules AtEnd) book_grammar (marks_of text) place fault
  answers (faults.Limit what place) fault = passes_run limit_of stands_before role_at move_on IsSentence (Outside AtFormat) (in_rules AtEnd) book_grammar (marks_of text) what place fault
  answers (faults.Twice place) fault = written_runs fault.book fault.written
  answers (faults.Unknown place) fault = written_runs fault.book fault.written
  answers (faults.WrongKind place) fault = written_runs fault.book fault.written
  answers faults.OutOfMemory fault = tt

  -- a text without a fault of its grammar
  reads_whole : (fault : BookFault) → IsOfGrammar fault → Answers fault → Run ≡ Ok (in_rules AtEnd) → ⊥
  reads_whole (faults.Text place) of (state, mark, here, ends) runs = let both : Ok (in_rules AtEnd) ≡ Err (Ends state mark) = sym runs ∙ ends in absurd cc
  reads_whole (faults.Limit what place) of passes runs = let both : Ok (in_rules AtEnd) ≡ Err (Passes what place) = sym runs ∙ passes in absurd cc
  reads_whole _ of answers runs = of

  no_book_named : (fault : NameFault) (version : ℕ) (schema : Schema) (rules : List Rule) → IsFirstNameFault text fault → BookText text version schema rules → ⊥
  no_book_named fault version schema rules is stands = stands.sound fault (subst (λ (b : BookForm). IsNameFault b fault) (one_written text is.book stands.book is.written stands.written) is.found)

  pub no_book : (fault : BookFault) → fault ≢ faults.OutOfMemory → IsFaultOf text fault → StandsForNoBook text
  no_book (faults.Text place) memory is version schema rules stands = reads_whole (faults.Text place) tt (answers (faults.Text place) is) (written_runs stands.book stands.written)
  no_book (faults.Limit what place) memory is version schema rules stands = reads_whole (faults.Limit what place) tt (answers (faults.Limit what place) is) (written_runs stands.book stands.written)
  no_book (faults.Twice place) memory is version schema rules stands = no_book_named (TwiceAt place) version schema rules is stands
  no_book (faults.Unknown place) memory is version schema rules stands = no_book_named (UnknownAt place) version schema rules is stands
  no_book (faults.WrongKind place) memory is version schema rules stands = no_book_named (WrongKindAt place) version schema rules is stands
  no_book faults.OutOfMemory memory is version schema rules stands = memory refl

  one_answer : (one other : BookFault) → IsOfGrammar one → other ≢ faults.OutOfMemory → Answers one → Answers other → one ≡ other
  one_answer (faults.Text p) (faults.Text q) of memory (s, m, here, ends) (s', m', here', ends') =
      let both : Err (Ends s m) ≡ Err (Ends s' m') = sym ends ∙ ends' in
      let same : m ≡ m' = cc both in
      ap faults.Text (sym here ∙ ap (λ (mark : Mark). mark.place) same ∙ here')
  one_answer (faults.Text p) (faults.Limit what q) of memory (s, m, here, ends) passes = let both : Err (Ends s m) ≡ Err (Passes what q) = sym ends ∙ passes in absurd cc
  one_answer (faults.Limit what p) (faults.Text q) of memory passes (s, m, here, ends) = let both : Err (Ends s m) ≡ Err (Passes what p) = sym ends ∙ passes in absurd cc
  one_answer (faults.Limit what p) (faults.Limit thing q) of memory passes other = let both : Err (Passes what p) ≡ Err (Passes thing q) = sym passes ∙ other in cc both
  one_answer one (faults.Twice place) of memory a runs = absurd (reads_whole one of a runs)
  one_answer one (faults.Unknown place) of memory a runs = absurd (reads_whole one of a runs)
  one_answer one (faults.WrongKind place) of memory a runs = absurd (reads_whole one of a runs)
  one_answer one faults.OutOfMemory of memory a b = absurd (memory refl)
  one_answer _ other of memory a b = absurd of

  one_grammar_fault : (one other : BookFault) → IsOfGrammar one → other ≢ faults.OutOfMemory → IsFaultOf text one → IsFaultOf text other → one ≡ other
  one_grammar_fault one other of memory is also = one_answer one other of memory (answers one is) (answers other also)

  -- each counts no later than the other
  pub one_name_fault : (fault other : NameFault) → IsFirstNameFault text fault → IsFirstNameFault text other → fault ≡ other
  one_name_fault fault other is also =
      let same : is.book ≡ also.book = one_written text is.book also.book is.written also.written in
      let up : IsNotAfter fault other = is.first other (subst (λ (b : BookForm). IsNameFault b other) (sym same) also.found) in
      let down : IsNotAfter other fault = also.first fault (subst (λ (b : BookForm). IsNameFault b fault) same is.found) in
      same_in_order fault other up down

  -- beside a fault of names
  named_or_other : (fault : NameFault) (other : BookFault) → book_fault_of_name fault ≢ faults.OutOfMemory → other ≢ faults.OutOfMemory → IsFirstNameFault text fault → IsFaultOf text (book_fault_of_name fault) → IsFaultOf text other → book_fault_of_name fault ≡ other
  named_or_other fault (faults.Text place) memory known is of also = sym (one_grammar_fault (faults.Text place) (book_fault_of_name fault) tt memory also of)
  named_or_other fault (faults.Limit what place) memory known is of also = sym (one_grammar_fault (faults.Limit what place) (book_fault_of_name fault) tt memory also of)
  named_or_other fault (faults.Twice place) memory known is of also = ap book_fault_of_name (one_name_fault fault (TwiceAt place) is also)
  named_or_other fault (faults.Unknown place) memory known is of also = ap book_fault_of_name (one_name_fault fault (UnknownAt place) is also)
  named_or_other fault (faults.WrongKind place) memory known is of also = ap book_fault_of_name (one_name_fault fault (WrongKindAt place) is also)
  named_or_other fault faults.OutOfMemory memory known is of also = absurd (known refl)

  pub one_fault : (one other : BookFault) → one ≢ faults.OutOfMemory → other ≢ faults.OutOfMemory → IsFaultOf text one → IsFaultOf text other → one ≡ other
  one_fault (faults.Text place) other memory known is also = one_grammar_fault (faults.Text place) other tt known is also
  one_fault (faults.Limit what place) other memory known is also = one_grammar_fault (faults.Limit what place) other tt known is also
  one_fault (faults.Twice place) other memory known is also = named_or_other (TwiceAt place) other memory known is is also
  one_fault (faults.Unknown place) other memory known is also = named_or_other (UnknownAt place) other memory known is is also
  one_fault (faults.WrongKind place) other memory known is also = named_or_other (WrongKindAt place) other memory known is is also
  one_fault faults.OutOfMemory other memory known is also = absurd (memory refl)
