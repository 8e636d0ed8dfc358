-- A book is its version, its schema and its rules: the states of the three read it as its grammar says.
use Rattle.std.proofs.Common.{◌≡◌, ℕ, Bool, true, false, cond, List, [], ◌∷◌, ◌++◌, map, ◌⊎◌, inl, inr, Option, Some, None, refl, sym, ap, subst, ◌∙◌, codes, ◌==◌}
use Rattle.std.proofs.lemmas.Option.{none-some}
use Rattle.std.proofs.lemmas.Bool.{eqb-true}
use Rattle.std.proofs.lemmas.Slice.Eq.{bytes_eq-Decides}
use Rattle.std.specs.Option.{option_map}
use Rattle.std.specs.Prelude.{IsTrue}
use Rattle.std.specs.Str.{bytes_eq}
use Rattle.gm_model.specs.declared.limit.LimitKind.{LimitKind}
use Rattle.gm_model.specs.declared.schema.Embed.{Embed}
use Rattle.gm_model.specs.Symbols.{Symbol, Word, Numeral, Sign, Gone, Stray, End}
use Rattle.gm_model.specs.Reading.{Part, word, number, the_end, in_role}
use Rattle.gm_text.specs.inner.Machine.{Leads, IsGrammar}
use Rattle.gm_text.specs.inner.Nested.{Outside, Inside, IsApart, HasPieces, IsNestedSentence, LeadsNested, LeadsInside}
use Rattle.gm_text.specs.inner.Nested as nested
use Rattle.gm_text.specs.SchemaText as schemas
use Rattle.gm_text.specs.SchemaText.{SchemaForm, embed_of, spell}
use Rattle.gm_text.specs.inner.SchemaReading as schema
use Rattle.gm_text.proofs.Carried.{leads_carried, leads_within}
use Rattle.gm_text.proofs.Nested.{nested_grammar}
use Rattle.gm_text.proofs.SchemaGrammar as schema_grammar
use Rattle.gm_text.proofs.SchemaStanding.{limit_placeless}
use Rattle.gm_text.proofs.SchemaStanding as schema_standing
use Rattle.gm_forms.specs.declared.state.Heading.{Heading}
use Rattle.gm_forms.specs.BookText.{BookForm, Role, Fixed, InSchema, limit_of, stands_before, spell_rules, spelling, IsSentence}
use Rattle.gm_forms.specs.inner.Reading.{State, AtRules, AtName, AtEnd, heading_at, Outer, AtFormat, AtVersion, InRules, Header, header_at, Whole, is_version, outer_role, in_rules, outer_move, heading_in, book_nesting, role_at, move}
use Rattle.gm_forms.proofs.Grammar.{same_limit, same_before, has_marks}
use Rattle.gm_forms.proofs.Leading.{at_header, led_rules, goes_on}
use Rattle.gm_forms.proofs.Marks.{along_rules}

abbrev Parts : Type 0
Parts = List (Part Role)

abbrev pub LedWhole : Whole → Parts → Whole → Type 0
LedWhole state parts last = LeadsNested book_nesting limit_of stands_before state parts last

abbrev LedInside : Header → List (Part schemas.Role) → Header → Type 0
LedInside inner parts last = LeadsInside book_nesting limit_of stands_before inner parts last

-- ---- the rules and the schema within the whole

abbrev LedRules : State → Parts → State → Type 0
LedRules state parts last = Leads limit_of stands_before role_at move state parts last

pub rules_carried : (state last : State) (parts : Parts) → LedRules state parts last → LedWhole (in_rules state) parts (in_rules last)
rules_carried = leads_carried limit_of stands_before role_at move (nested.role_at book_nesting) (nested.move book_nesting) in_rules (λ state symbol place. refl) (λ state symbol. refl)

same_rules : (one other : State) → in_rules one ≡ in_rules other → one ≡ other
same_rules one other e = cc e

pub rules_within : (state last : State) (parts : Parts) → LedWhole (in_rules state) parts (in_rules last) → LedRules state parts last
rules_within = leads_within limit_of stands_before role_at move (nested.role_at book_nesting) (nested.move book_nesting) in_rules (λ state symbol place. refl) (λ state symbol. refl) same_rules

abbrev in_limit : schemas.Role → Symbol → Option LimitKind
in_limit role symbol = limit_of (InSchema role) symbol

abbrev LedSchema : schema.State → List (Part schemas.Role) → schema.State → Type 0
LedSchema state parts last = Leads in_limit (λ role. stands_before (InSchema role)) schema.role_at schema.move state parts last

pub schema_carried : (version : ℕ) (state last : schema.State) (parts : List (Part schemas.Role)) → LedSchema state parts last → LedInside (header_at version state) parts (header_at version last)
schema_carried version = leads_carried in_limit (λ role. stands_before (InSchema role)) schema.role_at schema.move book_nesting.inner_role book_nesting.inner_move (header_at version) (λ state symbol place. refl) (λ state symbol. refl)

same_header : (version : ℕ) (one other : schema.State) → header_at version one ≡ header_at version other → one ≡ other
same_header version one other e = ap (λ (header : Header). header.state) e

schema_within : (version : ℕ) (state last : schema.State) (parts : List (Part schemas.Role)) → LedInside (header_at version state) parts (header_at version last) → LedSchema state parts last
schema_within version = leads_within in_limit (λ role. stands_before (InSchema role)) schema.role_at schema.move book_nesting.inner_role book_nesting.inner_move (header_at version) (λ state symbol place. refl) (λ state symbol. refl) (same_header version)

kept : (header next : Header) (to : Option schema.State) → option_map (header_at header.version) to ≡ Some next → header.version ≡ next.version
kept header next None e = absurd (none-some next e)
kept header next (Some state) e = let some : header_at header.version state ≡ next = cc e in ap (λ (h : Header). h.version) some

same_version : (inner last : Header) (parts : List (Part schemas.Role)) → LedInside inner parts last → inner.version ≡ last.version
same_version inner last [] led = ap (λ (h : Header). h.version) led
same_version inner last (part ∷ parts) (place, next, is, moves, led) = kept inner next (schema.move inner.state part.symbol) moves ∙ same_version next last parts led

-- ---- the front

pub known_version : (version : ℕ) → (version ≡ 1) ⊎ (version ≡ 2) → is_version version ≡ true
known_version version (inl one) = rw one refl
known_version version (inr two) = rw two refl

pub version_known : (v : ℕ) → is_version v ≡ true → (v ≡ 1) ⊎ (v ≡ 2)
version_known v known = go (v == 1) refl
  where
    go : (b : Bool) → (v == 1) ≡ b → (v ≡ 1) ⊎ (v ≡ 2)
    go true is = inl (eqb-true v 1 is)
    go false is = inr (eqb-true v 2 (rw is at known))

pub format_moved : (symbol : Symbol) (next : Whole) → outer_move AtFormat symbol ≡ Some next → (symbol ≡ Word (codes "book")) × (next ≡ Outside AtVersion)
format_moved (Word w) next moves = go (bytes_eq w (codes "book")) refl moves
  where
    go : (b : Bool) → bytes_eq w (codes "book") ≡ b → cond b (Some (Outside AtVersion)) None ≡ Some next → (Word w ≡ Word (codes "book")) × (next ≡ Outside AtVersion)
    go true e is = (ap Word ((bytes_eq-Decides w (codes "book")).0 e), sym (cc is))
    go false e is = absurd cc
format_moved (Numeral n) next moves = absurd (none-some next moves)
format_moved (Sign s) next moves = absurd (none-some next moves)
format_moved Gone next moves = absurd (none-some next moves)
format_moved Stray next moves = absurd (none-some next moves)
format_moved End next moves = absurd (none-some next moves)

pub version_moved : (symbol : Symbol) (next : Whole) → outer_move AtVersion symbol ≡ Some next → (v : ℕ) × (is_version v ≡ true) × (symbol ≡ Numeral v) × (next ≡ Inside (header_at v schema.AtDim))
version_moved (Numeral v) next moves = go (is_version v) refl moves
  where
    go : (b : Bool) → is_version v ≡ b → cond b (Some (Inside (header_at v schema.AtDim))) None ≡ Some next → (u : ℕ) × (is_version u ≡ true) × (Numeral v ≡ Numeral u) × (next ≡ Inside (header_at u schema.AtDim))
    go true e is = (v, e, refl, sym (cc is))
    go false e is = absurd cc
version_moved (Word w) next moves = absurd (none-some next moves)
version_moved (Sign s) next moves = absurd (none-some next moves)
version_moved Gone next moves = absurd (none-some next moves)
version_moved Stray next moves = absurd (none-some next moves)
version_moved End next moves = absurd (none-some next moves)

abbrev pub front_of : ℕ → Parts
front_of version = word Fixed (codes "book") ∷ number Fixed version ∷ []

abbrev IsFront : Parts → Header → Type 0
IsFront parts inner = (version : ℕ) × (is_version version ≡ true) × (parts ≡ front_of version) × (inner ≡ header_at version schema.AtDim)

pub the_part : (part : Part Role) (symbol : Symbol) (role : Role) → part.symbol ≡ symbol → part.role ≡ role → part ≡ record { symbol = symbol; role = role }
the_part part symbol role e f = ap (λ (s : Symbol). let p : Part Role = record { symbol = s; role = part.role } in p) e ∙ ap (λ (r : Role). let p : Part Role = record { symbol = symbol; role = r } in p) f

pub front_leads : (version : ℕ) → is_version version ≡ true → LedWhole (Outside AtFormat) (front_of version) (Inside (header_at version schema.AtDim))
front_leads version known = (0, Outside AtVersion, refl, refl, (0, Inside (header_at version schema.AtDim), refl, rw known refl, refl))

-- the parts come apart behind the version, wherever they lead that isn't before it
pub record IsFronted (parts : Parts) (last : Whole) : Type 0 where
  pub version : ℕ
  pub known : is_version version ≡ true
  pub rest : Parts
  pub split : parts ≡ front_of version ++ rest
  pub leads : LedWhole (Inside (header_at version schema.AtDim)) rest last

pub fronted : (parts : Parts) (last : Whole) → (Outside AtFormat ≡ last → ⊥) → (Outside AtVersion ≡ last → ⊥) → LedWhole (Outside AtFormat) parts last → IsFronted parts last
fronted [] last no_format no_version led = absurd (no_format led)
fronted (p ∷ []) last no_format no_version (place, next, is, moves, led) = absurd (no_version (sym (format_moved p.symbol next moves).1 ∙ led))
fronted (p ∷ q ∷ rest) last no_format no_version (place, next, is, moves, (there, behind, role, goes, led)) =
    let first = format_moved p.symbol next moves in
    let at : LedWhole (Outside AtVersion) (q ∷ rest) last = subst (λ (s : Whole). LedWhole s (q ∷ rest) last) first.1 (there, behind, role, goes, led) in
    let (v, known, symbol, to) = version_moved q.symbol at.1 at.3 in
    record {
      version = v;
      known = known;
      rest = rest;
      split = ap (λ (r : Part Role). r ∷ q ∷ rest) (the_part p (Word (codes "book")) Fixed first.0 is) ∙ ap (λ (r : Part Role). word Fixed (codes "book") ∷ r ∷ rest) (the_part q (Numeral v) Fixed symbol at.2);
      leads = subst (λ (s : Whole). LedWhole s rest last) to at.4;
    }

-- ---- the schema

abbrev whole_at : ℕ → SchemaForm → Header
whole_at version form = header_at version (schema.AtEmbeds form.dim (map embed_of form.embeds))

abbrev IsInner : Header → List (Part schemas.Role) → Header → Type 0
IsInner inner parts last = (version : ℕ) × (form : SchemaForm) × schemas.IsForm form × (inner ≡ header_at version schema.AtDim) × (parts ≡ spell form []) × (last ≡ whole_at version form)

pub form_leads : (version : ℕ) (form : SchemaForm) → schemas.IsForm form → LedInside (header_at version schema.AtDim) (spell form []) (whole_at version form)
form_leads version form good = schema_carried version schema.AtDim (schema.AtEmbeds form.dim (map embed_of form.embeds)) (spell form []) (schema_grammar.led_form in_limit form good)

pub inner_is : (version : ℕ) (parts : List (Part schemas.Role)) (last : Header) → LedInside (header_at version schema.AtDim) parts last → IsTrue (schema.is_whole last.state) → IsInner (header_at version schema.AtDim) parts last
inner_is version parts last led whole =
    let kept = same_version (header_at version schema.AtDim) last parts led in
    let at : last ≡ header_at version last.state = ap (λ (v : ℕ). header_at v last.state) (sym kept) in
    let is = schema_grammar.form_is in_limit parts last.state (schema_within version schema.AtDim last.state parts (subst (λ (h : Header). LedInside (header_at version schema.AtDim) parts h) at led)) whole in
    (version, is.form, is.good, refl, is.spelled, at ∙ ap (header_at version) is.end)

-- ---- apart

rule_no_embed : (n : ℕ) (declared : List Embed) (h : Heading) (symbol : Symbol) (next : Whole) → outer_move (InRules (AtRules h)) symbol ≡ Some next → schema.move (schema.AtEmbeds n declared) symbol ≡ None
rule_no_embed n declared h (Word w) next moves = go (bytes_eq w (codes "rule")) refl moves
  where
    go : (b : Bool) → bytes_eq w (codes "rule") ≡ b → option_map in_rules (cond b (Some (AtName h 1)) None) ≡ Some next → schema.move (schema.AtEmbeds n declared) (Word w) ≡ None
    go true e is = rw ((bytes_eq-Decides w (codes "rule")).0 e) refl
    go false e is = absurd cc
rule_no_embed n declared h (Numeral m) next moves = refl
rule_no_embed n declared h (Sign s) next moves = refl
rule_no_embed n declared h Gone next moves = refl
rule_no_embed n declared h Stray next moves = refl
rule_no_embed n declared h End next moves = refl

is_apart : IsApart book_nesting
is_apart inner symbol next whole moves = go inner.state refl whole
  where
    go : (state : schema.State) → inner.state ≡ state → IsTrue (schema.is_whole state) → book_nesting.inner_move inner symbol ≡ None
    go (schema.AtEmbeds n declared) e is = ap (λ (s : schema.State). option_map (header_at inner.version) (schema.move s symbol)) e ∙ ap (option_map (header_at inner.version)) (rule_no_embed n declared (heading_in inner) symbol next moves)
    go schema.AtDim e is = absurd cc
    go schema.AtTop e is = absurd cc
    go (schema.AtName n declared) e is = absurd cc
    go (schema.AtOrbit n declared name) e is = absurd cc
    go (schema.AtLabel n declared name mask) e is = absurd cc
    go (schema.AtKind n declared name mask) e is = absurd cc

-- ---- the pieces

abbrev IsBack : Outer → Parts → Type 0
IsBack outer parts = LedWhole (Outside outer) parts (in_rules AtEnd)

rules_go_on : (state : State) → (rest : Parts) × LedWhole (in_rules state) rest (in_rules AtEnd)
rules_go_on state = let rest = goes_on state in (rest.0, rules_carried state AtEnd rest.0 rest.1)

inner_goes_on : (inner : Header) → (rest : List (Part schemas.Role)) × (last : Header) × LedInside inner rest last × IsTrue (schema.is_whole last.state)
inner_goes_on inner =
    let (rest, last, led, whole) = schema_grammar.goes_on in_limit inner.state in
    (rest, header_at inner.version last, schema_carried inner.version inner.state last rest led, whole)

-- a whole book of nothing
abbrev empty_schema : Parts
empty_schema = record { symbol = Word (codes "dim"); role = InSchema schemas.Fixed } ∷ record { symbol = Numeral 1; role = InSchema schemas.Dimension } ∷ the_end Fixed ∷ []

version_goes_on : LedWhole (Outside AtVersion) (number Fixed 1 ∷ empty_schema) (in_rules AtEnd)
version_goes_on = (0, Inside (header_at 1 schema.AtDim), refl, refl, (0, Inside (header_at 1 schema.AtTop), refl, refl, (0, Inside (header_at 1 (schema.AtEmbeds 1 [])), refl, refl, (0, in_rules AtEnd, refl, refl, refl))))

outer_goes_on : (outer : Outer) → (rest : Parts) × LedWhole (Outside outer) rest (in_rules AtEnd)
outer_goes_on AtFormat = (word Fixed (codes "book") ∷ number Fixed 1 ∷ empty_schema, (0, Outside AtVersion, refl, refl, version_goes_on))
outer_goes_on AtVersion = (number Fixed 1 ∷ empty_schema, version_goes_on)
outer_goes_on (InRules state) = rules_go_on state

outer_limit : (outer : Outer) (symbol : Symbol) (place other : ℕ) → limit_of (outer_role outer symbol place) symbol ≡ limit_of (outer_role outer symbol other) symbol
outer_limit AtFormat symbol place other = refl
outer_limit AtVersion symbol place other = refl
outer_limit (InRules state) symbol place other = same_limit state symbol place other

outer_before : (outer : Outer) (symbol : Symbol) (place other : ℕ) → stands_before (outer_role outer symbol place) ≡ stands_before (outer_role outer symbol other)
outer_before AtFormat symbol place other = refl
outer_before AtVersion symbol place other = refl
outer_before (InRules state) symbol place other = same_before state symbol place other

pieces : HasPieces book_nesting limit_of stands_before IsFront IsInner IsBack (Outside AtFormat) (InRules AtEnd)
pieces = record {
  front_leads = λ parts inner front.
      subst (λ (ps : Parts). LedWhole (Outside AtFormat) ps (Inside inner)) (sym front.2) (subst (λ (h : Header). LedWhole (Outside AtFormat) (front_of front.0) (Inside h)) (sym front.3) (front_leads front.0 front.1));
  front = λ parts led.
      let at = fronted parts (in_rules AtEnd) (λ e. absurd cc) (λ e. absurd cc) led in
      (front_of at.version, at.rest, header_at at.version schema.AtDim, (at.version, at.known, refl, refl), at.split, at.leads);
  inner_leads = λ inner last parts (version, form, good, at, spelled, to). (
    subst (λ (h : Header). LedInside h parts last) (sym at) (subst (λ (ps : List (Part schemas.Role)). LedInside (header_at version schema.AtDim) ps last) (sym spelled)
        (subst (λ (h : Header). LedInside (header_at version schema.AtDim) (spell form []) h) (sym to) (form_leads version form good))),
    subst (λ (h : Header). IsTrue (schema.is_whole h.state)) (sym to) refl,
  );
  inner = λ front inner last parts at led whole.
      let is = inner_is at.0 parts last (subst (λ (h : Header). LedInside h parts last) at.3 led) whole in
      (is.0, is.1, is.2, at.3 ∙ is.3, is.4, is.5);
  back_leads = λ outer parts led. led;
  back = λ outer parts led. led;
  more = λ inner e. absurd cc;
  inner_goes_on = inner_goes_on;
  outer_goes_on = outer_goes_on;
  outer_limit = outer_limit;
  inner_limit = λ inner symbol place other. schema_standing.inner_limit schemas.limit_of limit_placeless inner.state symbol place other;
  outer_before = outer_before;
  inner_before = λ inner symbol place other. refl;
}

-- ---- the grammar

abbrev AreNested : Parts → Type 0
AreNested parts = IsNestedSentence book_nesting limit_of stands_before IsFront IsInner IsBack parts

to_nested : (parts : Parts) → IsSentence parts → AreNested parts
to_nested parts (book, good, is) =
    let h = heading_at book.version book.schema.dim in
    let rest = spell_rules book.schema.dim 0 book.rules (the_end Fixed ∷ []) in
    record {
      front = front_of book.version;
      entry = header_at book.version schema.AtDim;
      inner = spell book.schema [];
      last = whole_at book.version book.schema;
      back = rest;
      is_front = (book.version, known_version book.version good.0, refl, refl);
      is_inner = (book.version, book.schema, good.1, refl, refl, refl);
      is_back = rules_carried (AtRules h) AtEnd rest (led_rules (AtRules h) h 0 book.rules (at_header h) good.2);
      spelled = is;
    }

of_nested : (parts : Parts) → AreNested parts → IsSentence parts
of_nested parts sentence =
    let (version, known, front, entry) = sentence.is_front in
    let (version', form, good, entry', inner, last) = sentence.is_inner in
    let same : version' ≡ version = ap (λ (h : Header). h.version) (sym entry' ∙ entry) in
    let h = heading_at version form.dim in
    let whole : sentence.last ≡ whole_at version form = last ∙ ap (λ (v : ℕ). whole_at v form) same in
    let back : LedWhole (in_rules (AtRules h)) sentence.back (in_rules AtEnd) = subst (λ (l : Header). LedWhole (in_rules (AtRules (heading_in l))) sentence.back (in_rules AtEnd)) whole sentence.is_back in
    let has = has_marks (AtRules h) sentence.back (rules_within (AtRules h) AtEnd sentence.back back) in
    let rules = along_rules h has.marks sentence.back has.along in
    let book : BookForm = record { version = version; schema = form; rules = rules.rules } in
    let spelled : parts ≡ spelling book =
    sentence.spelled ∙ ap (λ (ps : Parts). ps ++ (map (in_role book_nesting.wrap) sentence.inner ++ sentence.back)) front
    ∙ ap (λ (ps : List (Part schemas.Role)). front_of version ++ (map (in_role book_nesting.wrap) ps ++ sentence.back)) inner
    ∙ ap (λ (ps : Parts). front_of version ++ (map (in_role book_nesting.wrap) (spell form []) ++ ps)) rules.same in
    (book, (version_known version known, good, rules.rules_good), spelled)

pub book_grammar : IsGrammar limit_of stands_before (nested.role_at book_nesting) (nested.move book_nesting) IsSentence (Outside AtFormat) (in_rules AtEnd)
book_grammar =
    let grammar = nested_grammar book_nesting limit_of stands_before IsFront IsInner IsBack (Outside AtFormat) (InRules AtEnd) is_apart pieces in
    record {
      leads = λ parts sentence. grammar.leads parts (to_nested parts sentence);
      sentence = λ parts led. of_nested parts (grammar.sentence parts led);
      goes_on = grammar.goes_on;
      limit = grammar.limit;
      before = grammar.before;
    }
