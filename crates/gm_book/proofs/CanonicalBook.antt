-- A schema and rules that a text can give are given by their canonical text.
use Rattle.std.proofs.Common.{◌≡◌, ◌≢◌, ℕ, ◌<◌, ◌≤◌, ◌⊎◌, inl, inr, true, false, List, [], ◌∷◌, ◌++◌, length, None, refl, sym, ap, subst, ◌∙◌, append_assoc, arith, codes}
use Rattle.std.specs.Prelude.{decimal}
use Rattle.std.specs.List.{flat_map, AllByRecursion, AllZip}
use Rattle.gm_model.specs.declared.schema.Schema.{Schema}
use Rattle.gm_model.specs.Symbols.{Symbol, Word, Numeral, End, Mark, symbols, marks_of}
use Rattle.gm_model.specs.Reading.{Part, IsWithin, symbols_in, the_end}
use Rattle.gm_model.specs.Rules.{Rule}
use Rattle.gm_text.specs.SchemaText as schemas
use Rattle.gm_text.specs.SchemaText.{SchemaForm, Passed, schema_of, spell, is_again, passed_of}
use Rattle.gm_text.specs.inner.SchemaPrinting.{AreParts}
use Rattle.gm_text.proofs.Printed.{symbols_from, symbols_of-from, symbols_from-word_blank, symbols_from-decimal_blank}
use Rattle.gm_text.proofs.SchemaAgain.{form_again}
use Rattle.gm_text.proofs.SchemaSound.{nothing_passed}
use Rattle.gm_forms.specs.BookText.{RuleForm, BookForm, BookText, NameFault, IsFaultInRules, IsNameFault, SchemaTwice, RulesFault, MeansRule, spell_rules, Fixed}
use Rattle.gm_book.specs.Canonical.{rule_lines, canonical}
use Rattle.gm_forms.specs.inner.Standing.{IsHeaded}
use Rattle.gm_book.proofs.CanonicalForm.{forms_at, AreNew, IsWritable, HasGoodExprs}
use Rattle.gm_book.proofs.CanonicalText.{rules_symbols}
use Rattle.gm_book.proofs.CanonicalMeans.{rules_mean}
use Rattle.gm_book.proofs.CanonicalPlaces.{rules_placed}
use Rattle.gm_book.proofs.CanonicalLimits.{HasFewHooks, forms_are_rules, rules_within}
use Rattle.gm_book.proofs.CanonicalNames.{rule_names, rules_faultless}
use Rattle.gm_forms.proofs.Contained.{contains_cases, contains_none}
use Rattle.gm_forms.proofs.Header.{known_version}
use Rattle.gm_book.proofs.GoodEmbeds.{embeds_good}
use Rattle.gm_book.proofs.Written.{AreThere, written_from}
use Rattle.std.specs.List.{Contains}

pub record AreWritable (version n : ℕ) (rules : List Rule) : Type 0 where
  pub known : (version ≡ 1) ⊎ (version ≡ 2)
  pub hooks : AllByRecursion (HasFewHooks version) rules
  pub some : 0 < n
  pub low : n ≤ 7
  pub few : length rules ≤ 256
  pub each : AllByRecursion (IsWritable n) rules
  pub differ : AreNew [] (rule_names rules)

small : (version : ℕ) → (version ≡ 1) ⊎ (version ≡ 2) → version ≤ 2
small version (inl one) = omega (arith, one)
small version (inr two) = omega (arith, two)

-- ---- the symbols

head_symbols : (version : ℕ) (more : List ℕ) → version ≤ 2 → symbols_from (codes "book " ++ decimal version ++ codes "\n" ++ more) ≡ Word (codes "book") ∷ Numeral version ∷ symbols_from more
head_symbols version more low =
    let regrouped : codes "book " ++ decimal version ++ codes "\n" ++ more ≡ codes "book" ++ 32 ∷ (decimal version ++ 10 ∷ more) = simp append_assoc in
    ap symbols_from regrouped
    ∙ symbols_from-word_blank (codes "book") 32 (decimal version ++ 10 ∷ more) (refl, refl) refl
    ∙ ap (λ (s : List Symbol). Word (codes "book") ∷ s) (symbols_from-decimal_blank version 10 more (omega (arith, low)) refl)

book_symbols : (version : ℕ) (schema : Schema) (rules : List Rule) → version ≤ 2
    → symbols (marks_of (canonical version schema rules)) ≡ Word (codes "book") ∷ Numeral version ∷ symbols_from (schemas.canonical schema ++ flat_map (rule_lines schema) rules)
book_symbols version schema rules low =
    let more : List ℕ = schemas.canonical schema ++ flat_map (rule_lines schema) rules in
    let grouped : canonical version schema rules ≡ codes "book " ++ decimal version ++ codes "\n" ++ more = append_assoc (codes "book " ++ decimal version ++ codes "\n") (schemas.canonical schema) (flat_map (rule_lines schema) rules) in
    symbols_of-from (canonical version schema rules) ∙ ap symbols_from grouped ∙ head_symbols version more low

-- what stands behind the schema begins no embedding
begins : (schema : Schema) (rules : List Rule) (marks : List Mark) → (next : Symbol) × (others : List Symbol) × (symbols_in (spell_rules schema.dim 0 (forms_at schema marks rules) (the_end Fixed ∷ [])) ≡ next ∷ others) × (next ≢ Word (codes "embed"))
begins schema [] marks = (End, [], refl, λ e. absurd cc)
begins schema (rule ∷ rules) marks = (Word (codes "rule"), _, refl, λ e. absurd cc)

-- the first two marks
headed : (marks : List Mark) (version : ℕ) (others : List Symbol) → (version ≡ 1) ⊎ (version ≡ 2) → symbols marks ≡ Word (codes "book") ∷ Numeral version ∷ others → (rest : List Mark) × IsHeaded marks version rest × (symbols rest ≡ others)
headed [] version others known same = absurd cc
headed (one ∷ []) version others known same = absurd cc
headed (one ∷ two ∷ rest) version others known same =
    let first : one.symbol ≡ Word (codes "book") = cc same in
    let second : two.symbol ≡ Numeral version = cc same in
    let behind : symbols rest ≡ others = cc same in (
      rest,
      record {
        first = one.place;
        second = two.place;
        split = ap (λ (s : Symbol). let m : Mark = record { symbol = s; place = one.place } in m ∷ two ∷ rest) first ∙ ap (λ (s : Symbol). let m : Mark = record { symbol = s; place = two.place } in record { symbol = Word (codes "book"); place = one.place } ∷ m ∷ rest) second;
        known = known_version version known;
      },
      behind,
    )

-- ---- nothing is there again

pub passes_free : (role : schemas.Role) (symbol : Symbol) → passed_of role symbol ≡ None → schemas.limit_of role symbol ≡ None
passes_free role symbol none = (nothing_passed (schemas.limit_of role symbol) (is_again role symbol) none).0

pub none_again : (parts : List (Part schemas.Role)) → IsWithin schemas.IsSentence passed_of parts → (part : Part schemas.Role) → Contains parts part → is_again part.role part.symbol ≡ true → ⊥
none_again [] within part among again = contains_none part among
none_again (first ∷ parts) within part among again = elim (contains_cases first parts part among) [
  | inl e ↦ (let new = (nothing_passed (schemas.limit_of first.role first.symbol) (is_again first.role first.symbol) within.0).1 in
      let both : true ≡ false = sym again ∙ ap (λ (p : Part schemas.Role). is_again p.role p.symbol) (sym e) ∙ new in absurd cc)
  | inr behind ↦ none_again parts within.1 part behind again
]

-- ---- a book

pub written_again : (version : ℕ) (form : SchemaForm) (rules : List Rule) → schemas.IsForm form → IsWithin schemas.IsSentence passed_of (spell form []) → AreParts (schema_of form).embeds → AreWritable version form.dim rules → AllByRecursion (HasGoodExprs (schema_of form)) rules
    → BookText (canonical version (schema_of form) rules) version (schema_of form) rules
written_again version form rules good within names ok exprs =
    let schema = schema_of form in
    let embeds = embeds_good form good within names in
    let lines = flat_map (rule_lines schema) rules in
    let text = canonical version schema rules in
    let (marks, is_headed, behind) = headed (marks_of text) version (symbols_from (schemas.canonical schema ++ lines)) ok.known (book_symbols version schema rules (small version ok.known)) in
    let (next, others, first, other) = begins schema rules [] in
    let again = form_again form marks lines good within names behind next others (rules_symbols schema ok.low embeds.good 0 rules [] ok.each exprs ∙ first) other in
    let forms = forms_at schema again.after rules in
    let there : AreThere version schema.dim forms again.after = record {
      good = forms_are_rules version schema rules again.after embeds.good ok.hooks ok.each exprs;
      spelled = again.behind_is ∙ rules_symbols schema ok.low embeds.good 0 rules again.after ok.each exprs;
      within = rules_within schema 0 rules again.after embeds.good (omega (arith, ok.few)) ok.each exprs;
      placed = rules_placed schema 0 rules again.after;
    } in
    let sound = rules_faultless schema ok.low embeds rules again.after ok.each exprs ok.differ in
    let book : BookForm = record { version = version; schema = again.again; rules = forms } in
    record {
      book = book;
      written = written_from passed_of passes_free text version again.again forms marks again.after is_headed again.stands (subst (λ (s : Schema). AreThere version s.dim forms again.after) again.means there);
      sound = faultless again.again forms again.stands.within (subst (λ (s : Schema). (fault : NameFault) → IsFaultInRules s.dim s.embeds forms fault → ⊥) again.means sound);
      versions = refl;
      means = again.means;
      same = subst (λ (s : Schema). AllZip (MeansRule s.dim s.embeds) forms rules) again.means (rules_mean schema ok.low embeds rules again.after ok.each exprs);
    }
  where
    faultless : (schema : SchemaForm) (forms : List RuleForm) → IsWithin schemas.IsSentence passed_of (spell schema []) → ((fault : NameFault) → IsFaultInRules schema.dim (schema_of schema).embeds forms fault → ⊥) → (fault : NameFault)
        → IsNameFault (record { version = version; schema = schema; rules = forms }) fault → ⊥
    faultless schema forms within sound _ (SchemaTwice place part among again here) = none_again (spell schema []) within part among again
    faultless schema forms within sound fault (RulesFault _ found) = sound fault found
