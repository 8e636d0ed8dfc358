-- The canonical text of a schema that was read is read as the same schema, before any bytes that begin no embedding.
use Rattle.std.proofs.Common.{◌≡◌, ◌≢◌, ℕ, zero, suc, ◌+◌, ◌^◌, ◌<◌, ◌≤◌, Bool, true, false, cond, List, [], ◌∷◌, ◌++◌, length, map, Some, None, Ok, refl, sym, ap, subst, ◌∙◌, append_assoc, codes, arith}
use Rattle.std.specs.Prelude.{decimal, nat_lt, ◌==◌}
use Rattle.std.specs.List.{flat_map, AllByRecursion}
use Rattle.std.proofs.lemmas.Bool.Decides.{nat_tests}
use Rattle.std.proofs.lemmas.List.{append-nil, map-append, length-append}
use Rattle.gm_model.specs.declared.schema.Embed.{Embed}
use Rattle.gm_model.specs.declared.schema.Schema.{Schema}
use Rattle.gm_model.specs.declared.token.TokenKind.TheVariants as tokens
use Rattle.gm_model.specs.declared.value.Kind.{Kind}
use Rattle.gm_model.specs.declared.value.Kind.TheVariants as kinds
use Rattle.gm_model.specs.declared.word.Mask.{Mask}
use Rattle.gm_model.specs.Labels.{has}
use Rattle.gm_model.specs.Symbols.{Symbol, Word, Numeral, Sign, Mark, symbols, marks_of}
use Rattle.gm_model.specs.Tokens.{is_digit, begins_two_byte_sign, IsLexeme}
use Rattle.gm_model.specs.Reading.{Part, IsWithin, symbols_in, word, sign}
use Rattle.gm_text.specs.inner.Cursor.{Cursor}
use Rattle.gm_text.specs.inner.Machine.{Leads, run}
use Rattle.gm_text.specs.SchemaText.{LabelForm, EmbedForm, SchemaForm, Role, Fixed, EmbedWord, NameAt, LabelAt, passed_of, no_labels, with_label, with_labels, embed_of, names_in, kind_word, schema_of, spell_labels, spell_embed, spell_embeds, spell, IsEmbed, IsForm, IsSentence, beyond, labels_below, labels_in, labels_text, embed_line, canonical}
use Rattle.gm_text.specs.inner.SchemaReading.{State, AtDim, AtEmbeds, role_at, move, never, Stands}
use Rattle.gm_text.specs.inner.SchemaAnswers.{IsSchemaRead}
use Rattle.gm_text.specs.inner.SchemaPrinting.{AreParts, BeginNoEmbed, StandsBefore}
use Rattle.gm_text.proofs.Printed.{Stops, symbols_from, symbols_of-from, symbols_from-blank, symbols_from-word_blank, symbols_from-decimal, symbols_from-decimal_blank, symbols_from-sign, IsLexeme-decimal}
use Rattle.gm_text.proofs.SchemaGrammar.{spell_before, led_form}
use Rattle.gm_text.proofs.SchemaMasks.{label_forms, built, none_above, built_whole}
use Rattle.gm_text.proofs.SchemaPrinted.{labels_all}
use Rattle.gm_text.proofs.SchemaSound.{IsGood, IsLow, AreNew, sound_from, dim_read, read_parts}
use Rattle.gm_text.proofs.SchemaStanding.{passed_placeless, inner_limit, form_stands}

-- ---- the form of a schema, at no places yet

abbrev pub form_of : Embed → EmbedForm
form_of embed = record { name = record { name = embed.name; place = 0 }; labels = label_forms (labels_below embed.mask 8); kind = embed.kind }

abbrev pub forms_of : List Embed → List EmbedForm
forms_of embeds = map form_of embeds

pub same_embeds : (embeds : List Embed) → AreParts embeds → map embed_of (forms_of embeds) ≡ embeds
same_embeds [] parts = refl
same_embeds (embed ∷ embeds) parts =
    let mask = built_whole embed.mask parts.0.1 in
    ap (λ (m : Mask). let e : Embed = record { name = embed.name; mask = m; kind = embed.kind } in e ∷ map embed_of (forms_of embeds)) mask ∙ ap (λ (es : List Embed). embed ∷ es) (same_embeds embeds parts.1)

-- ---- it passes nothing

abbrev AreWithin : List (Part Role) → Type 0
AreWithin parts = IsWithin IsSentence passed_of parts

-- labels up to the number, each new behind those before it
abbrev AreLabels : ℕ → Mask → List LabelForm → Type 0
AreLabels n mask [] = Unit {0}
AreLabels n mask (form ∷ forms) = (form.label ≤ n) × (has mask form.label ≡ false) × AreLabels n (with_label mask form.label) forms

one_more : (n : ℕ) (mask : Mask) (labels : List ℕ) (label : ℕ) → AreLabels n mask (label_forms labels) → label ≤ n → has (with_labels mask (label_forms labels)) label ≡ false → AreLabels n mask (label_forms (labels ++ label ∷ []))
one_more n mask [] label all low new = (low, new, tt)
one_more n mask (first ∷ labels) label all low new = (all.0, all.1, one_more n (with_label mask first) labels label all.2 low new)

are_labels : (n : ℕ) (mask : Mask) (k : ℕ) → IsLow n mask → AreLabels n no_labels (label_forms (labels_below mask k))
are_labels n mask zero low = tt
are_labels n mask (suc k) low = go (are_labels n mask k low) (has mask k) refl
  where
    below : (b : Bool) → has mask k ≡ b → labels_below mask (suc k) ≡ labels_below mask k ++ cond b (k ∷ []) []
    below b e = ap (λ (c : Bool). labels_below mask k ++ cond c (k ∷ []) []) e

    new : has (built mask k) k ≡ false
    new = ap (λ (b : ℕ). b == 1) (none_above mask k k (omega arith))

    go : AreLabels n no_labels (label_forms (labels_below mask k)) → (b : Bool) → has mask k ≡ b → AreLabels n no_labels (label_forms (labels_below mask (suc k)))
    go all true e = subst (λ (labels : List ℕ). AreLabels n no_labels (label_forms labels)) (sym (below true e)) (one_more n no_labels (labels_below mask k) k all (low k e) new)
    go all false e = subst (λ (labels : List ℕ). AreLabels n no_labels (label_forms labels)) (sym (below false e ∙ append-nil (labels_below mask k))) all

low_is : (n m : ℕ) → m ≤ n → nat_lt n m ≡ false
low_is n m h = grind (arith, nat_tests)

labels_pass : (n : ℕ) (mask : Mask) (forms : List LabelForm) (rest : List (Part Role)) → AreLabels n mask forms → AreWithin rest → AreWithin (spell_labels n mask forms rest)
labels_pass n mask [] rest all within = within
labels_pass n mask (form ∷ forms) rest all within =
    let free : passed_of (LabelAt n mask form.place) (Numeral form.label) ≡ None = rw (low_is n form.label all.0, all.1) refl in
    (free, labels_pass n (with_label mask form.label) forms rest all.2 within)

pub embeds_pass : (n : ℕ) (declared embeds : List Embed) → AreParts embeds → AllByRecursion (IsGood n) embeds → AreNew declared embeds → length declared + length embeds ≤ 8 → AreWithin (spell_embeds n declared (forms_of embeds) [])
embeds_pass n declared [] parts good new few = tt
embeds_pass n declared (embed ∷ embeds) parts good new few =
    let mask = built_whole embed.mask parts.0.1 in
    let same : embed_of (form_of embed) ≡ embed = ap (λ (m : Mask). let e : Embed = record { name = embed.name; mask = m; kind = embed.kind } in e) mask in
    let count : length (declared ++ embed ∷ []) ≡ length declared + 1 = length-append declared (embed ∷ []) in
    let others = embeds_pass n (declared ++ embed ∷ []) embeds parts.1 good.1 new.1 (omega (arith, count, few)) in
    let rest = subst (λ (e : Embed). AreWithin (spell_embeds n (declared ++ e ∷ []) (forms_of embeds) [])) (sym same) others in
    let counted : passed_of (EmbedWord (length declared + 1)) (Word (codes "embed")) ≡ None = rw (low_is 8 (length declared + 1) (omega (arith, few))) refl in
    let named : passed_of (NameAt (names_in declared) 0) (Word embed.name) ≡ None = rw (low_is 32 (length embed.name) parts.0.0.0, new.0) refl in
    (counted, (named, (refl, labels_pass n no_labels (label_forms (labels_below embed.mask 8)) _ (are_labels n embed.mask 8 good.0.labels) (refl, (refl, rest)))))

-- ---- its symbols

digit_alone : (b : ℕ) (bytes : List ℕ) → is_digit b ≡ true → begins_two_byte_sign 60 (b ∷ bytes) ≡ false
digit_alone b bytes h = grind (arith, nat_tests)

digits_alone : (digits more : List ℕ) → IsLexeme tokens.Number digits → begins_two_byte_sign 60 (digits ++ more) ≡ false
digits_alone [] more h = absurd h
digits_alone (b ∷ digits) more h = digit_alone b (digits ++ more) h.0

abbrev AreSmall : List ℕ → Type 0
AreSmall labels = AllByRecursion (λ label. label < 2 ^ 64) labels

small_below : (mask : Mask) (k : ℕ) → k ≤ 8 → AreSmall (labels_below mask k)
small_below mask zero h = tt
small_below mask (suc k) h = go (small_below mask k (omega (arith, h))) (has mask k) refl
  where
    last : (labels : List ℕ) → AreSmall labels → AreSmall (labels ++ k ∷ [])
    last [] all = (omega (arith, h), tt)
    last (label ∷ labels) all = (all.0, last labels all.1)

    go : AreSmall (labels_below mask k) → (b : Bool) → has mask k ≡ b → AreSmall (labels_below mask (suc k))
    go all true e = rw e (last (labels_below mask k) all)
    go all false e = rw e (subst AreSmall (sym (append-nil (labels_below mask k))) all)

abbrev pub tail_text : List ℕ → List ℕ → List ℕ
tail_text labels more = flat_map (λ other. 32 ∷ decimal other) labels ++ 62 ∷ more

pub tail_stops : (labels : List ℕ) (more : List ℕ) → Stops is_digit (tail_text labels more)
tail_stops [] more = refl
tail_stops (label ∷ labels) more = refl

tail_symbols : (n : ℕ) (mask : Mask) (labels : List ℕ) (more : List ℕ) (parts : List (Part Role)) → AreSmall labels → symbols_from (62 ∷ more) ≡ symbols_in parts → symbols_from (tail_text labels more) ≡ symbols_in (spell_labels n mask (label_forms labels) parts)
tail_symbols n mask [] more parts small rest = rest
tail_symbols n mask (label ∷ labels) more parts small rest =
    ap symbols_from (append_assoc (32 ∷ decimal label) (flat_map (λ other. 32 ∷ decimal other) labels) (62 ∷ more))
    ∙ symbols_from-blank 32 (decimal label ++ tail_text labels more) refl
    ∙ symbols_from-decimal label (tail_text labels more) small.0 (tail_stops labels more)
    ∙ ap (λ (s : List Symbol). Numeral label ∷ s) (tail_symbols n (with_label mask label) labels more parts small.1 rest)

labels_symbols : (n : ℕ) (mask : Mask) (labels : List ℕ) (more : List ℕ) (parts : List (Part Role)) → AreSmall labels → symbols_from (62 ∷ more) ≡ symbols_in parts
    → symbols_from (60 ∷ (labels_text labels ++ 62 ∷ more)) ≡ Sign (codes "<") ∷ symbols_in (spell_labels n mask (label_forms labels) parts)
labels_symbols n mask [] more parts small rest = symbols_from-sign 60 (62 ∷ more) refl refl ∙ ap (λ (s : List Symbol). Sign (codes "<") ∷ s) rest
labels_symbols n mask (label ∷ labels) more parts small rest =
    let assoc = append_assoc (decimal label) (flat_map (λ other. 32 ∷ decimal other) labels) (62 ∷ more) in
    ap (λ (bytes : List ℕ). symbols_from (60 ∷ bytes)) assoc
    ∙ symbols_from-sign 60 (decimal label ++ tail_text labels more) refl (digits_alone (decimal label) (tail_text labels more) (IsLexeme-decimal label small.0))
    ∙ ap (λ (s : List Symbol). Sign (codes "<") ∷ s) (symbols_from-decimal label (tail_text labels more) small.0 (tail_stops labels more) ∙ ap (λ (s : List Symbol). Numeral label ∷ s) (tail_symbols n (with_label mask label) labels more parts small.1 rest))

kind_lexeme : (kind : Kind) → IsLexeme tokens.Name (kind_word kind)
kind_lexeme kinds.Int = (refl, refl)
kind_lexeme kinds.Bool = (refl, refl)
kind_lexeme kinds.Vec2 = (refl, refl)
kind_lexeme kinds.Vec3 = (refl, refl)
kind_lexeme kinds.Rgb = (refl, refl)

-- the line of an embedding, before more
line_symbols : (n : ℕ) (declared : List Embed) (embed : Embed) (more : List ℕ) (parts : List (Part Role)) → IsLexeme tokens.Name embed.name → symbols_from more ≡ symbols_in parts
    → symbols_from (embed_line embed ++ more) ≡ symbols_in (spell_embed n declared (form_of embed) parts)
line_symbols n declared embed more parts name rest =
    let labels = labels_text (labels_in embed.mask) in
    let kind = kind_word embed.kind in
    let behind_kind = kind ++ 10 ∷ more in
    let behind_orbit = labels ++ 62 ∷ 32 ∷ behind_kind in
    let apart : embed_line embed ++ more ≡ codes "embed" ++ 32 ∷ (embed.name ++ 32 ∷ 60 ∷ behind_orbit) =
    ap (λ (bytes : List ℕ). codes "embed " ++ bytes)
    (append_assoc embed.name (codes " <" ++ (labels ++ (codes "> " ++ (kind ++ codes "\n")))) more
    ∙ ap (λ (bytes : List ℕ). embed.name ++ 32 ∷ 60 ∷ bytes) (append_assoc labels (codes "> " ++ (kind ++ codes "\n")) more ∙ ap (λ (bytes : List ℕ). labels ++ 62 ∷ 32 ∷ bytes) (append_assoc kind (codes "\n") more))) in
    let kind_symbols = symbols_from-word_blank kind 10 more (kind_lexeme embed.kind) refl ∙ ap (λ (s : List Symbol). Word kind ∷ s) rest in
    let close : symbols_from (62 ∷ 32 ∷ behind_kind) ≡ symbols_in (sign Fixed (codes ">") ∷ word Fixed kind ∷ parts) =
    symbols_from-sign 62 (32 ∷ behind_kind) refl refl ∙ ap (λ (s : List Symbol). Sign (codes ">") ∷ s) (symbols_from-blank 32 behind_kind refl ∙ kind_symbols) in
    let orbit = ap (λ labels. symbols_from (60 ∷ (labels_text labels ++ 62 ∷ 32 ∷ behind_kind))) (sym (labels_all embed.mask))
    ∙ labels_symbols n no_labels (labels_below embed.mask 8) (32 ∷ behind_kind) (sign Fixed (codes ">") ∷ word Fixed kind ∷ parts) (small_below embed.mask 8 (omega arith)) close in
    ap symbols_from apart
    ∙ symbols_from-word_blank (codes "embed") 32 (embed.name ++ 32 ∷ 60 ∷ behind_orbit) (refl, refl) refl
    ∙ ap (λ (s : List Symbol). Word (codes "embed") ∷ s) (symbols_from-word_blank embed.name 32 (60 ∷ behind_orbit) name refl ∙ ap (λ (s : List Symbol). Word embed.name ∷ s) orbit)

lines_symbols : (n : ℕ) (declared embeds : List Embed) (more : List ℕ) (parts : List (Part Role)) → AreParts embeds → symbols_from more ≡ symbols_in parts
    → symbols_from (flat_map embed_line embeds ++ more) ≡ symbols_in (spell_embeds n declared (forms_of embeds) parts)
lines_symbols n declared [] more parts good rest = rest
lines_symbols n declared (embed ∷ embeds) more parts good rest =
    ap symbols_from (append_assoc (embed_line embed) (flat_map embed_line embeds) more)
    ∙ line_symbols n declared embed (flat_map embed_line embeds ++ more) (spell_embeds n (declared ++ embed_of (form_of embed) ∷ []) (forms_of embeds) parts) good.0.0.1
    (lines_symbols n (declared ++ embed_of (form_of embed) ∷ []) embeds more parts good.1 rest)

abbrev pub schema_form : Schema → SchemaForm
schema_form schema = record { dim = schema.dim; embeds = forms_of schema.embeds }

-- before any bytes
pub canonical_symbols : (schema : Schema) (more : List ℕ) (parts : List (Part Role)) → schema.dim ≤ 7 → AreParts schema.embeds → symbols_from more ≡ symbols_in parts
    → symbols_from (canonical schema ++ more) ≡ symbols_in (spell (schema_form schema) parts)
canonical_symbols schema more parts low good rest =
    let lines = flat_map embed_line schema.embeds in
    let apart : canonical schema ++ more ≡ codes "dim" ++ 32 ∷ (decimal schema.dim ++ 10 ∷ (lines ++ more)) =
    ap (λ (bytes : List ℕ). codes "dim " ++ bytes) (append_assoc (decimal schema.dim) (codes "\n" ++ lines) more) in
    ap symbols_from apart
    ∙ symbols_from-word_blank (codes "dim") 32 (decimal schema.dim ++ 10 ∷ (lines ++ more)) (refl, refl) refl
    ∙ ap (λ (s : List Symbol). Word (codes "dim") ∷ s) (symbols_from-decimal_blank schema.dim 10 (lines ++ more) (omega (arith, low)) refl
    ∙ ap (λ (s : List Symbol). Numeral schema.dim ∷ s) (lines_symbols schema.dim [] schema.embeds more parts good rest))

-- ---- it is read

run_led : (state last : State) (parts : List (Part Role)) (marks : List Mark) (k : ℕ) → Leads passed_of never role_at move state parts last → symbols marks ≡ symbols_in parts → AreWithin parts → run passed_of never role_at move state k marks ≡ Ok last
run_led state last [] [] k e same within = ap Ok e
run_led state last [] (mark ∷ marks) k e same within = absurd cc
run_led state last (part ∷ parts) [] k led same within = absurd cc
run_led state last (part ∷ parts) (mark ∷ marks) k (place, next, is, moves, led) same within =
    let here : mark.symbol ≡ part.symbol = cc same in
    let behind : symbols marks ≡ symbols_in parts = cc same in
    let moved : move state mark.symbol ≡ Some next = ap (move state) here ∙ moves in
    let free : passed_of (role_at state mark.symbol mark.place) mark.symbol ≡ None =
    ap (λ (s : Symbol). passed_of (role_at state s mark.place) s) here ∙ inner_limit passed_of passed_placeless state part.symbol mark.place place ∙ ap (λ (r : Role). passed_of r part.symbol) (sym is) ∙ within.0 in
    rw (moved, free) (run_led next last parts marks mark.place led behind within.1)

-- marks with the symbols of two lists are two lists
record IsApart (marks : List Mark) (front back : List Symbol) : Type 0 where
  before : List Mark
  after : List Mark
  split : marks ≡ before ++ after
  one : symbols before ≡ front
  two : symbols after ≡ back

apart : (marks : List Mark) (front back : List Symbol) → symbols marks ≡ front ++ back → IsApart marks front back
apart marks [] back same = record { before = []; after = marks; split = refl; one = refl; two = same }
apart [] (symbol ∷ front) back same = absurd cc
apart (mark ∷ marks) (symbol ∷ front) back same =
    let here : mark.symbol ≡ symbol = cc same in
    let behind : symbols marks ≡ front ++ back = cc same in
    let rest = apart marks front back behind in
    record { before = mark ∷ rest.before; after = rest.after; split = ap (λ (ms : List Mark). mark ∷ ms) rest.split; one = ap (λ (s : Symbol). s ∷ symbols rest.before) here ∙ ap (λ (ss : List Symbol). symbol ∷ ss) rest.one; two = rest.two }

beyond_symbols : (others : List Symbol) → symbols_in (map beyond others) ≡ others
beyond_symbols [] = refl
beyond_symbols (symbol ∷ others) = ap (λ (ss : List Symbol). symbol ∷ ss) (beyond_symbols others)

-- the first of marks with these symbols
pub first_mark : (marks : List Mark) (next : Symbol) (others : List Symbol) → symbols marks ≡ next ∷ others → (mark : Mark) × (rest : List Mark) × (marks ≡ mark ∷ rest) × (mark.symbol ≡ next)
first_mark [] next others same = absurd cc
first_mark (mark ∷ marks) next others same = (mark, marks, refl, cc same)

-- the schema of the form stands before marks with these symbols
pub record StandsSpelled (form : SchemaForm) (marks : List Mark) (behind : List Symbol) : Type 0 where
  pub again : SchemaForm
  pub after : List Mark
  pub stands : Stands passed_of again marks after
  pub means : schema_of form ≡ schema_of again
  pub behind_is : symbols after ≡ behind

-- a form that passes nothing is read from marks of its spelling, before anything that begins no embedding
pub spelled_stands : (form : SchemaForm) (marks : List Mark) (behind : List Symbol) → IsForm form → AreWithin (spell form []) → symbols marks ≡ symbols_in (spell form []) ++ behind
    → (next : Symbol) (others : List Symbol) → behind ≡ next ∷ others → next ≢ Word (codes "embed") → StandsSpelled form marks behind
spelled_stands form marks behind form_is within spelled next others begins other =
    let split = apart marks (symbols_in (spell form [])) behind spelled in
    let (mark, more, is, symbol) = first_mark split.after next others (split.two ∙ begins) in
    let led = led_form passed_of form form_is in
    let runs = run_led AtDim (AtEmbeds form.dim (map embed_of form.embeds)) (spell form []) split.before 0 led split.one within in
    let stands = form_stands passed_of passed_placeless marks split.before split.after mark more form.dim (map embed_of form.embeds) runs split.split is (λ e. other (sym symbol ∙ e)) in
    record { again = stands.form; after = split.after; stands = stands.stands; means = stands.means; behind_is = split.two }

-- the schema stands before the marks of bytes
abbrev pub StandsAgain : SchemaForm → List Mark → List ℕ → Type 0
StandsAgain form marks rest = StandsSpelled form marks (symbols_from rest)

-- a form that passes nothing and whose names are tokens is read again from marks of its schema's canonical text
pub form_again : (form : SchemaForm) (marks : List Mark) (rest : List ℕ) → IsForm form → AreWithin (spell form []) → AreParts (schema_of form).embeds → symbols marks ≡ symbols_from (canonical (schema_of form) ++ rest)
    → (next : Symbol) (others : List Symbol) → symbols_from rest ≡ next ∷ others → next ≢ Word (codes "embed") → StandsAgain form marks rest
form_again form marks rest form_is within good spelled next others begins other =
    let schema = schema_of form in
    let n = schema.dim in
    let embeds = schema.embeds in
    let low : n ≤ 7 = dim_read form within in
    let sound = sound_from form.dim [] form.embeds form_is within.1.1 in
    let few : length {A = Embed} [] + length embeds ≤ 8 = sound.few (omega arith) in
    let again = schema_form schema in
    let again_good : IsForm again = forms_good n embeds sound.good in
    let again_within : AreWithin (spell again []) = (refl, (within.1.0, embeds_pass n [] embeds good sound.good sound.new few)) in
    let parts = map beyond (symbols_from rest) in
    let all : symbols marks ≡ symbols_in (spell again []) ++ symbols_from rest =
    spelled ∙ canonical_symbols schema rest parts low good (sym (beyond_symbols (symbols_from rest))) ∙ ap symbols_in (sym (spell_before again parts))
    ∙ map-append (λ (part : Part Role). part.symbol) (spell again []) parts ∙ ap (λ (ss : List Symbol). symbols_in (spell again []) ++ ss) (beyond_symbols (symbols_from rest)) in
    let stands = spelled_stands again marks (symbols_from rest) again_good again_within all next others begins other in
    record {
      again = stands.again;
      after = stands.after;
      stands = stands.stands;
      means = ap (λ (es : List Embed). let s : Schema = record { dim = n; embeds = es } in s) (sym (same_embeds embeds good)) ∙ stands.means;
      behind_is = stands.behind_is;
    }
  where
    forms_good : (n : ℕ) (embeds : List Embed) → AllByRecursion (IsGood n) embeds → AllByRecursion IsEmbed (forms_of embeds)
    forms_good n [] all = tt
    forms_good n (embed ∷ embeds) all = ((all.0.free, all.0.kind), forms_good n embeds all.1)

pub read_again : (old new : Cursor) (schema : Schema) (rest : List ℕ) → IsSchemaRead old new schema → BeginNoEmbed rest → StandsBefore rest (canonical schema ++ rest) schema
read_again old new schema rest read (next, others, begins, other) =
    let text = canonical (schema_of read.form) ++ rest in
    let good = subst (λ (s : Schema). AreParts s.embeds) read.means (read_parts old new schema read) in
    let again = form_again read.form (marks_of text) rest read.stands.good read.stands.within good (symbols_of-from text) next others (sym (symbols_of-from rest) ∙ begins) other in
    subst (λ (s : Schema). StandsBefore rest (canonical s ++ rest) s) (sym read.means)
    (record { form = again.again; after = again.after; stands = again.stands; means = again.means; behind = again.behind_is ∙ sym (symbols_of-from rest) })
