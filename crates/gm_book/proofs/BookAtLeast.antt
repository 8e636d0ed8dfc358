-- A text stands for a book, or has a first fault.
use Rattle.std.proofs.Common.{◌≡◌, ◌≢◌, ◌⊎◌, ℕ, ◌+◌, Bool, true, false, cond, List, [], ◌∷◌, ◌++◌, Option, Some, None, inl, inr, refl, sym, ap, subst, ◌∙◌}
use Rattle.std.specs.List.{AllByRecursion}
use Rattle.std.specs.Option.{option_map}
use Rattle.gm_model.specs.declared.rule.Side.{Side}
use Rattle.gm_model.specs.declared.rule.Side.TheVariants.{Left, Right}
use Rattle.gm_model.specs.declared.schema.Schema.{Schema}
use Rattle.gm_model.specs.Reading.{Part, ArePlaced, IsReadAs, IsWithin, symbols_in, the_end}
use Rattle.gm_model.specs.Rules.{Rule}
use Rattle.gm_model.specs.Symbols.{Symbol, Mark, marks_of}
use Rattle.gm_text.specs.inner.Nested.{Outside, Inside}
use Rattle.gm_text.specs.inner.Nested as nested
use Rattle.gm_text.specs.inner.SchemaAnswers.{IsNoToken, AtStray, AtEnd as NoMore}
use Rattle.gm_text.specs.inner.SchemaReading as schema
use Rattle.gm_text.specs.SchemaText.{schema_of, spell, limit_of as schema_limit}
use Rattle.gm_text.proofs.AtLeast.{IsAnswered, Read, Ended, Passed, answered}
use Rattle.gm_text.proofs.Machine.{Along, IsRead}
use Rattle.gm_text.proofs.SchemaAtLeast.{stands_still}
use Rattle.gm_text.proofs.SchemaStanding as schemas
use Rattle.gm_text.proofs.TextMarks.{text_end}
use Rattle.gm_parse.specs.inner.Reading.{is_whole_spot}
use Rattle.gm_parse.specs.inner.Reading as exprs
use Rattle.gm_parse.proofs.Standing.{other_spot}
use Rattle.gm_parse.proofs.Steps.{no_token}
use Rattle.gm_forms.specs.BookText.{SetForm, Item, NodeItem, LinkItem, RuleForm, BookForm, Role, Fixed, Count, limit_of, stands_before, no_count, count_after, count_across, counted, spell_items, spell_rules, spell_pre, spelling, assignments_in, IsSentence, IsPlacedAt, IsWritten, BookText, IsNameFault, IsNotAfter, IsFirstNameFault, RulesFault, TwiceAt, UnknownAt, WrongKindAt}
use Rattle.gm_forms.specs.BookText as text
use Rattle.gm_forms.specs.inner.Reading.{State, AtRules, AtName, AtLeft, AtParam, AtColon, AtKind, AtComma, AtBody, AtItem, AtSign, AtLetter, AtBehind, AtSet, AtEqual, AtExpr, AtRuleEnd, AtLabel, AtDash, AtTo, AtEnd, Slot, behind_slot, end_move, plain_move, move, AtFormat, AtVersion, InRules, Outer, Whole, in_rules, heading_in, book_nesting, outer_move}
use Rattle.gm_forms.proofs.Grammar.{placed_role}
use Rattle.gm_forms.proofs.Header.{book_grammar}
use Rattle.gm_book.specs.declared.fault.BookFault.{BookFault}
use Rattle.gm_book.specs.declared.fault.BookFault.TheVariants as faults
use Rattle.gm_book.specs.declared.names.NameFault.{NameFault}
use Rattle.gm_book.specs.declared.names.NameFault.TheVariants.{Twice, Unknown, WrongKind}
use Rattle.gm_book.specs.inner.Faults.{IsFaultOf}
use Rattle.gm_book.specs.inner.FirstNameFault.{fault_of, IsLeast}
use Rattle.gm_book.proofs.BookFound.{rules_meant}
use Rattle.gm_book.proofs.FaultFound.{IsRuleWithin, IsBookFault, fault_found}
use Rattle.gm_book.proofs.ValuesWithin.{IsBookWithin, AreSetsWithin, sets_within, letters_within, hook_within, params_within, pre_within, behind_schema, dim_within}

-- ---- what is no token ends a book

side_end : (side : Side) (next : State) → end_move side ≡ Some next → next ≡ AtEnd
side_end Left next e = absurd cc
side_end Right next e = sym (cc e)

plain_end : (state next : State) (symbol : Symbol) → IsNoToken symbol → plain_move state symbol ≡ Some next → next ≡ AtEnd
plain_end (AtRules heading) next symbol NoMore e = sym (cc e)
plain_end (AtItem spot) next symbol NoMore e = side_end spot.side next e
plain_end (AtBehind spot) next symbol NoMore e = side_end spot.side next e
plain_end (AtRuleEnd heading k) next symbol NoMore e = sym (cc e)
plain_end (AtRules heading) next symbol AtStray e = absurd cc
plain_end (AtItem spot) next symbol AtStray e = absurd cc
plain_end (AtBehind spot) next symbol AtStray e = absurd cc
plain_end (AtRuleEnd heading k) next symbol AtStray e = absurd cc
plain_end (AtName heading k) next symbol AtStray e = absurd cc
plain_end (AtName heading k) next symbol NoMore e = absurd cc
plain_end (AtLeft heading k) next symbol AtStray e = absurd cc
plain_end (AtLeft heading k) next symbol NoMore e = absurd cc
plain_end (AtParam heading k count) next symbol AtStray e = absurd cc
plain_end (AtParam heading k count) next symbol NoMore e = absurd cc
plain_end (AtColon heading k count) next symbol AtStray e = absurd cc
plain_end (AtColon heading k count) next symbol NoMore e = absurd cc
plain_end (AtKind heading k count) next symbol AtStray e = absurd cc
plain_end (AtKind heading k count) next symbol NoMore e = absurd cc
plain_end (AtComma heading k count) next symbol AtStray e = absurd cc
plain_end (AtComma heading k count) next symbol NoMore e = absurd cc
plain_end (AtBody heading k) next symbol AtStray e = absurd cc
plain_end (AtBody heading k) next symbol NoMore e = absurd cc
plain_end (AtSign spot name) next symbol AtStray e = absurd cc
plain_end (AtSign spot name) next symbol NoMore e = absurd cc
plain_end (AtLetter spot k) next symbol AtStray e = absurd cc
plain_end (AtLetter spot k) next symbol NoMore e = absurd cc
plain_end (AtSet spot) next symbol AtStray e = absurd cc
plain_end (AtSet spot) next symbol NoMore e = absurd cc
plain_end (AtEqual spot) next symbol AtStray e = absurd cc
plain_end (AtEqual spot) next symbol NoMore e = absurd cc
plain_end (AtExpr slot spot) next symbol AtStray e = absurd cc
plain_end (AtExpr slot spot) next symbol NoMore e = absurd cc
plain_end (AtLabel spot) next symbol AtStray e = absurd cc
plain_end (AtLabel spot) next symbol NoMore e = absurd cc
plain_end (AtDash spot) next symbol AtStray e = absurd cc
plain_end (AtDash spot) next symbol NoMore e = absurd cc
plain_end (AtTo spot) next symbol AtStray e = absurd cc
plain_end (AtTo spot) next symbol NoMore e = absurd cc
plain_end AtEnd next symbol AtStray e = absurd cc
plain_end AtEnd next symbol NoMore e = absurd cc

expr_end : (slot : Slot) (spot : exprs.Spot) (next : State) (symbol : Symbol) → IsNoToken symbol → move (AtExpr slot spot) symbol ≡ Some next → next ≡ AtEnd
expr_end slot spot next symbol none e = go (is_whole_spot spot) (rw (other_spot spot symbol (no_token symbol none)) at e)
  where
    go : (whole : Bool) → cond whole (plain_move (behind_slot slot) symbol) None ≡ Some next → next ≡ AtEnd
    go true f = plain_end (behind_slot slot) next symbol none f
    go false f = absurd cc

rules_end : (state next : State) (symbol : Symbol) → IsNoToken symbol → move state symbol ≡ Some next → next ≡ AtEnd
rules_end (AtExpr slot spot) next symbol none e = expr_end slot spot next symbol none e
rules_end state next symbol none e = plain_end state next symbol none e

outer_end : (outer : Outer) (next : Whole) (symbol : Symbol) → IsNoToken symbol → outer_move outer symbol ≡ Some next → next ≡ in_rules AtEnd
outer_end AtFormat next symbol AtStray e = absurd cc
outer_end AtFormat next symbol NoMore e = absurd cc
outer_end AtVersion next symbol AtStray e = absurd cc
outer_end AtVersion next symbol NoMore e = absurd cc
outer_end (InRules state) next symbol none e = go (move state symbol) refl e
  where
    go : (to : Option State) → move state symbol ≡ to → option_map in_rules to ≡ Some next → next ≡ in_rules AtEnd
    go None f is = absurd cc
    go (Some to) f is = let at : in_rules to ≡ next = cc is in sym at ∙ ap in_rules (rules_end state to symbol none f)

behind_end : (state next : Whole) (symbol : Symbol) → IsNoToken symbol → nested.move book_nesting state symbol ≡ Some next → next ≡ in_rules AtEnd
behind_end (Outside outer) next symbol none e = outer_end outer next symbol none e
behind_end (Inside header) next symbol none e = go (schema.is_whole header.state) (rw (stands_still header.state symbol none) at e)
  where
    go : (whole : Bool) → cond whole (outer_move (InRules (AtRules (heading_in header))) symbol) None ≡ Some next → next ≡ in_rules AtEnd
    go true f = outer_end (InRules (AtRules (heading_in header))) next symbol none f
    go false f = absurd cc

-- ---- what is written

role_placed : (state : Whole) (symbol : Symbol) (place : ℕ) → IsPlacedAt place (nested.role_at book_nesting state symbol place)
role_placed (Outside AtFormat) symbol place = tt
role_placed (Outside AtVersion) symbol place = tt
role_placed (Outside (InRules state)) symbol place = placed_role state symbol place
role_placed (Inside header) symbol place = go (schema.move header.state symbol) refl
  where
    go : (to : Option schema.State) → schema.move header.state symbol ≡ to → IsPlacedAt place (nested.role_at book_nesting (Inside header) symbol place)
    go None e = rw e (placed_role (AtRules (heading_in header)) symbol place)
    go (Some to) e = rw e (schemas.placed_role schema_limit schemas.limit_placeless header.state symbol place)

placed_along : (state last : Whole) (marks : List Mark) (parts : List (Part Role)) → Along limit_of stands_before (nested.role_at book_nesting) (nested.move book_nesting) state marks parts last → ArePlaced IsPlacedAt marks parts
placed_along state last [] parts along = tt
placed_along state last (mark ∷ marks) [] along = tt
placed_along state last (mark ∷ marks) (part ∷ parts) (next, is, moves, along) =
    (subst (λ (p : Part Role). IsPlacedAt mark.place p.role) (sym is) (role_placed state mark.symbol mark.place), placed_along next last marks parts along)

written : (text : List ℕ) (read : IsRead limit_of stands_before (nested.role_at book_nesting) (nested.move book_nesting) (Outside AtFormat) (in_rules AtEnd) (marks_of text)) → IsReadAs IsSentence limit_of (marks_of text) read.parts → (book : BookForm) × IsWritten text book
written text read is =
    let (book, form, same) = is.sentence in (
      book,
      record {
        form = form;
        read = record { spelled = is.spelled ∙ ap symbols_in same; sentence = (book, form, refl); within = subst (IsWithin IsSentence limit_of) same is.within };
        placed = subst (ArePlaced IsPlacedAt (marks_of text)) same (placed_along (Outside AtFormat) (in_rules AtEnd) (marks_of text) read.parts read.along);
      },
    )

-- ---- its expressions pass no limit

both_within : (one other : List SetForm) → AreSetsWithin one → AreSetsWithin other → AreSetsWithin (one ++ other)
both_within [] other first second = second
both_within (set ∷ one) other first second = (first.0, both_within one other first.1 second)

module _ (n : ℕ) where
  assigned_within : (count : Count) (items : List Item) (rest : List (Part Role)) → IsBookWithin (spell_items n count items rest) → AreSetsWithin (assignments_in items) × IsBookWithin rest
  assigned_within count [] rest within = (tt, within)
  assigned_within count (NodeItem node word hook sets ∷ items) rest within =
      let behind = letters_within n 0 word _ within.1.1 in
      let (here, others) = sets_within sets (spell_items n (count_after count (NodeItem node word hook sets)) items rest) (hook_within n hook _ behind.1) in
      let (later, last) = assigned_within (count_after count (NodeItem node word hook sets)) items rest others in
      (both_within sets (assignments_in items) here later, last)
  assigned_within count (LinkItem from label to ∷ items) rest within = assigned_within (count_after count (LinkItem from label to)) items rest within.1.1.1.1.1

  rules_within : (k : ℕ) (rules : List RuleForm) (rest : List (Part Role)) → IsBookWithin (spell_rules n k rules rest) → AllByRecursion IsRuleWithin rules
  rules_within k [] rest within = tt
  rules_within k (rule ∷ rules) rest within =
      let left = params_within rule.params _ within.1.1 in
      let (left_sets, right) = assigned_within no_count rule.left _ left.1 in
      let (sets, behind) = assigned_within (count_across (counted no_count rule.left)) rule.right (spell_pre rule.pre (spell_rules n (k + 1) rules rest)) right.1 in
      let (pre, others) = pre_within rule.pre (spell_rules n (k + 1) rules rest) behind in
      ((sets, pre), rules_within (k + 1) rules rest others)

book_within : (book : BookForm) → IsBookWithin (spelling book) → AllByRecursion IsRuleWithin book.rules
book_within book within = rules_within book.schema.dim 0 book.rules (the_end Fixed ∷ []) (behind_schema (spell book.schema []) (spell_rules book.schema.dim 0 book.rules (the_end Fixed ∷ [])) within.1.1)

-- ---- the whole

module _ (whole : List ℕ) where
  abbrev Stands : Type 0
  Stands = (version : ℕ) × (schema : Schema) × (rules : List Rule) × BookText whole version schema rules

  abbrev IsAtFault : Type 0
  IsAtFault = (fault : BookFault) × (fault ≢ faults.OutOfMemory) × IsFaultOf whole fault

  module _ (book : BookForm) (is : IsWritten whole book) where
    stands : ((fault : NameFault) → IsBookFault book fault → ⊥) → Stands
    stands none =
        let sound = faultless in
        let (rules, same) = rules_meant book.version book.schema.dim (schema_of book.schema).embeds book.rules (λ fault found. sound fault (RulesFault fault found)) is.form.2 in
        (book.version, schema_of book.schema, rules, record { book = book; written = is; sound = sound; versions = refl; means = refl; same = same })
      where
        faultless : (fault : text.NameFault) → IsNameFault book fault → ⊥
        faultless (TwiceAt place) found = none (Twice place) found
        faultless (UnknownAt place) found = none (Unknown place) found
        faultless (WrongKindAt place) found = none (WrongKind place) found

    first_of : (fault : NameFault) → IsLeast (IsBookFault book) (Some fault) → IsFirstNameFault whole (fault_of fault)
    first_of fault least = record { book = book; written = is; found = least.0; first = first }
      where
        first : (other : text.NameFault) → IsNameFault book other → IsNotAfter (fault_of fault) other
        first (TwiceAt place) found = least.1 (Twice place) found
        first (UnknownAt place) found = least.1 (Unknown place) found
        first (WrongKindAt place) found = least.1 (WrongKind place) found

    of_names : (least : Option NameFault) → IsLeast (IsBookFault book) least → Stands ⊎ IsAtFault
    of_names None none = inl (stands none)
    of_names (Some (Twice place)) least = inr (faults.Twice place, (λ e. absurd cc), first_of (Twice place) least)
    of_names (Some (Unknown place)) least = inr (faults.Unknown place, (λ e. absurd cc), first_of (Unknown place) least)
    of_names (Some (WrongKind place)) least = inr (faults.WrongKind place, (λ e. absurd cc), first_of (WrongKind place) least)

    of_written : Stands ⊎ IsAtFault
    of_written = let (least, found) = fault_found book is.form.2 (book_within book is.read.within) (dim_within book is.read.within) in of_names least found

  pub stands_or_fault : Stands ⊎ IsAtFault
  stands_or_fault = go (answered limit_of stands_before (nested.role_at book_nesting) (nested.move book_nesting) IsSentence (Outside AtFormat) (in_rules AtEnd) book_grammar behind_end (marks_of whole) (text_end whole))
    where
      go : IsAnswered limit_of stands_before (nested.role_at book_nesting) (nested.move book_nesting) IsSentence (Outside AtFormat) (in_rules AtEnd) book_grammar (marks_of whole) → Stands ⊎ IsAtFault
      go (Read read is) = let (book, is_written) = written whole read is in of_written book is_written
      go (Ended place ends) = inr (faults.Text place, (λ e. absurd cc), ends)
      go (Passed what place passes) = inr (faults.Limit what place, (λ e. absurd cc), passes)
