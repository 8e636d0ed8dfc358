-- A map's text is read by states as its grammar says: the sentences are what leads from the start behind the end.
use Rattle.std.proofs.Common.{◌≡◌, ℕ, Bool, true, false, ℤ, pos, List, [], ◌∷◌, ◌++◌, length, map, Option, Some, None, refl, sym, ap, subst, ◌∙◌, codes}
use Rattle.std.specs.Prelude.{IsTrue}
use Rattle.std.specs.List.{AllByRecursion}
use Rattle.gm_model.specs.declared.schema.Embed.{Embed}
use Rattle.gm_model.specs.declared.schema.Schema.{Schema}
use Rattle.gm_model.specs.Symbols.{Symbol, Word, Numeral}
use Rattle.gm_model.specs.Reading.{Part, word, number, sign, the_end, in_role}
use Rattle.gm_text.specs.inner.Machine.{Leads, IsGrammar}
use Rattle.gm_text.specs.inner.Nested.{Outside, Inside, IsApart, HasPieces, IsNestedSentence, LeadsInside}
use Rattle.gm_text.specs.inner.Nested as nested
use Rattle.gm_text.specs.inner.SchemaReading as schema
use Rattle.gm_text.specs.SchemaText.{SchemaForm, embed_of, schema_of}
use Rattle.gm_text.specs.SchemaText as text
use Rattle.gm_text.proofs.Nested.{join, nested_grammar}
use Rattle.gm_text.proofs.SchemaGrammar.{led_form, form_is}
use Rattle.gm_text.proofs.SchemaGrammar as schemas
use Rattle.gm_text.proofs.SchemaStanding.{passed_placeless}
use Rattle.gm_text.proofs.SchemaStanding as standing
use Rattle.gm_mapfile.specs.MapText.{DartForm, Version, First, Second, MapForm, Role, Fixed, InSchema, NextName, Count, passed_of, spell_darts, spell_listing, spell_next, number_of, embeds_of, IsShaped, IsForm, IsSentence}
use Rattle.gm_mapfile.specs.MapReading.{Want, TheNumber, Component, TheSign, Head, State, AtFormat, AtVersion, AtNext, AtNextName, AtDarts, AtCount, AtNumbers, Done, Within, Whole, behind_schema, behind_state, number_in, outer_role, outer_move, into_schema, move_within, nesting, never, start, among}
use Rattle.gm_mapfile.proofs.MapMoves.{format_moved, version_number, version_moved, word_behind, next_moved, name_moved, behind_moved, sign_moves}
use Rattle.gm_mapfile.proofs.MapLed.{Led, all_form_numbers, led_darts}
use Rattle.gm_mapfile.proofs.MapPaths.{the_part, both, listing_is}

-- ---- in the schema

abbrev LedSchema : schema.State → List (Part text.Role) → schema.State → Type 0
LedSchema state parts last = Leads (λ role. passed_of (InSchema role)) schema.never schema.role_at schema.move state parts last

abbrev LedInside : Within → List (Part text.Role) → Within → Type 0
LedInside within parts last = LeadsInside nesting passed_of never within parts last

abbrev pub in_version : Bool → schema.State → Within
in_version second state = record { second = second; state = state }

-- the version is borne along
led_within : (second : Bool) (state last : schema.State) (parts : List (Part text.Role)) → LedSchema state parts last → LedInside (in_version second state) parts (in_version second last)
led_within second state last [] e = ap (in_version second) e
led_within second state last (part ∷ parts) (place, next, is, moves, led) = (place, in_version second next, is, ap (move_within second) moves, led_within second next last parts led)

record IsLedTo (second : Bool) (state : schema.State) (parts : List (Part text.Role)) (last : Within) : Type 0 where
  to : schema.State
  led : LedSchema state parts to
  is : last ≡ in_version second to

within_led : (second : Bool) (state : schema.State) (parts : List (Part text.Role)) (last : Within) → LedInside (in_version second state) parts last → IsLedTo second state parts last
within_led second state [] last led = record { to = state; led = refl; is = sym led }
within_led second state (part ∷ parts) last (place, next, is, moves, led) = go (λ to behind. within_led second to parts last behind) (schema.move state part.symbol) refl moves
  where
    go : ((to : schema.State) → LedInside (in_version second to) parts last → IsLedTo second to parts last) → (moved : Option schema.State) → schema.move state part.symbol ≡ moved → move_within second moved ≡ Some next → IsLedTo second state (part ∷ parts) last
    go behind None e to = absurd cc
    go behind (Some to) e at =
        let here : next ≡ in_version second to = sym (cc at) in
        let rest = behind to (subst (λ (w : Within). LedInside w parts last) here led) in
        record { to = rest.to; led = (place, to, is, e, rest.led); is = rest.is }

-- ---- where a schema ends

whole_is : (state : schema.State) → IsTrue (schema.is_whole state) → (n : ℕ) × (declared : List Embed) × (state ≡ schema.AtEmbeds n declared)
whole_is schema.AtDim whole = absurd cc
whole_is schema.AtTop whole = absurd cc
whole_is (schema.AtEmbeds n declared) whole = (n, declared, refl)
whole_is (schema.AtName n declared) whole = absurd cc
whole_is (schema.AtOrbit n declared name) whole = absurd cc
whole_is (schema.AtLabel n declared name mask) whole = absurd cc
whole_is (schema.AtKind n declared name mask) whole = absurd cc

no_embedding : (second : Bool) (n : ℕ) (declared : List Embed) → schema.move (schema.AtEmbeds n declared) (Word (word_behind second)) ≡ None
no_embedding true n declared = refl
no_embedding false n declared = refl

pub is_apart : IsApart nesting
is_apart within symbol next whole moves =
    let (n, declared, at) = whole_is within.state whole in
    let behind = ap (λ (s : schema.State). outer_move (behind_state within.second s) symbol) (sym at) ∙ moves in
    let word = (behind_moved within.second (record { dim = n; embeds = declared }) symbol next behind).0 in
    ap (move_within within.second) (ap (λ (s : schema.State). schema.move s symbol) at ∙ ap (schema.move (schema.AtEmbeds n declared)) word ∙ no_embedding within.second n declared)

-- ---- forms lead through the states

abbrev pub is_second : Version → Bool
is_second First = false
is_second (Second next) = true

abbrev pub head_of : MapForm → Head
head_of form = record { version = form.version; schema = schema_of form.schema }

-- darts k, and then the k darts, before something else
abbrev pub spell_listing_to : List Embed → List DartForm → List (Part Role) → List (Part Role)
spell_listing_to embeds darts rest = word Fixed (codes "darts") ∷ number Count (length darts) ∷ spell_darts embeds darts rest

-- a map's form before something else
abbrev pub spell_to : MapForm → List (Part Role) → List (Part Role)
spell_to form rest =
    word Fixed (codes "gmap") ∷ number Fixed (number_of form.version) ∷ (map (in_role InSchema) (text.spell form.schema []) ++ spell_next form.version (spell_listing_to (embeds_of form) form.darts rest))

module _ (last : Whole) where
  led_listing : (head : Head) (darts : List DartForm) (rest : List (Part Role)) → AllByRecursion (IsShaped head.schema.dim head.schema.embeds) darts → Led (among head (all_form_numbers darts) []) rest last
      → Led (Outside (AtDarts head)) (spell_listing_to head.schema.embeds darts rest) last
  led_listing head darts rest shaped led =
      (0, Outside (AtCount head), refl, refl, (0, among head [] _, refl, refl, led_darts head head.schema [] darts rest last shaped led))

  led_schema : (second : Bool) (form : SchemaForm) (part : Part Role) (back : List (Part Role)) → text.IsForm form → Led (Outside (behind_schema second (schema_of form))) (part ∷ back) last
      → Led (Inside (in_version second schema.AtDim)) (map (in_role InSchema) (text.spell form []) ++ part ∷ back) last
  led_schema second form part back good led =
      let inside = led_within second schema.AtDim (schema.AtEmbeds form.dim (map embed_of form.embeds)) (text.spell form []) (led_form (λ role. passed_of (InSchema role)) form good) in
      join nesting passed_of never is_apart (in_version second schema.AtDim) (in_version second (schema.AtEmbeds form.dim (map embed_of form.embeds))) (text.spell form []) part back last inside refl led

  led_from_schema : (version : Version) (form : SchemaForm) (darts : List DartForm) (rest : List (Part Role)) → text.IsForm form → AllByRecursion (IsShaped form.dim (map embed_of form.embeds)) darts
      → Led (among (record { version = version; schema = schema_of form }) (all_form_numbers darts) []) rest last
      → Led (Inside (in_version (is_second version) schema.AtDim)) (map (in_role InSchema) (text.spell form []) ++ spell_next version (spell_listing_to (map embed_of form.embeds) darts rest)) last
  led_from_schema First form darts rest good shaped led = led_schema false form _ _ good (led_listing (record { version = First; schema = schema_of form }) darts rest shaped led)
  led_from_schema (Second next) form darts rest good shaped led =
      let head : Head = record { version = Second next; schema = schema_of form } in
      let behind : Led (Outside (AtNext (schema_of form))) (word Fixed (codes "next") ∷ number NextName next ∷ spell_listing_to (map embed_of form.embeds) darts rest) last =
      (0, Outside (AtNextName (schema_of form)), refl, refl, (0, Outside (AtDarts head), refl, refl, led_listing head darts rest shaped led)) in
      led_schema true form _ _ good behind

  led_from_start : (version : Version) (parts : List (Part Role)) → Led (Inside (in_version (is_second version) schema.AtDim)) parts last → Led start (word Fixed (codes "gmap") ∷ number Fixed (number_of version) ∷ parts) last
  led_from_start First parts led = (0, Outside AtVersion, refl, refl, (0, into_schema false, refl, refl, led))
  led_from_start (Second next) parts led = (0, Outside AtVersion, refl, refl, (0, into_schema true, refl, refl, led))

  -- behind a form's darts all their numbers are taken
  pub led_map : (form : MapForm) (rest : List (Part Role)) → IsForm form → Led (among (head_of form) (all_form_numbers form.darts) []) rest last → Led start (spell_to form rest) last
  led_map form rest good led =
      led_from_start form.version (map (in_role InSchema) (text.spell form.schema []) ++ spell_next form.version (spell_listing_to (embeds_of form) form.darts rest)) (led_from_schema form.version form.schema form.darts rest good.0 good.1 led)

pub sentence_leads : (parts : List (Part Role)) → IsSentence parts → Led start parts (Outside Done)
sentence_leads parts (form, good, spelled) =
    let end : Led (among (head_of form) (all_form_numbers form.darts) []) (the_end Fixed ∷ []) (Outside Done) = (0, Outside Done, refl, refl, refl) in
    subst (λ (ps : List (Part Role)). Led start ps (Outside Done)) (sym spelled) (led_map (Outside Done) form (the_end Fixed ∷ []) good end)

-- ---- and each path is a form

abbrev IsFront : List (Part Role) → Within → Type 0
IsFront parts inner = (second : Bool) × (parts ≡ word Fixed (codes "gmap") ∷ number Fixed (version_number second) ∷ []) × (inner ≡ in_version second schema.AtDim)

abbrev IsInner : Within → List (Part text.Role) → Within → Type 0
IsInner inner parts last = LedInside inner parts last × IsTrue (schema.is_whole last.state)

abbrev IsBack : State → List (Part Role) → Type 0
IsBack outer parts = Led (Outside outer) parts (Outside Done)

front_leads : (parts : List (Part Role)) (inner : Within) → IsFront parts inner → Led start parts (Inside inner)
front_leads parts inner (true, spelled, at) = rw (spelled, at) (0, Outside AtVersion, refl, refl, (0, into_schema true, refl, refl, refl))
front_leads parts inner (false, spelled, at) = rw (spelled, at) (0, Outside AtVersion, refl, refl, (0, into_schema false, refl, refl, refl))

abbrev HasFront : List (Part Role) → Type 0
HasFront parts = (front rest : List (Part Role)) × (inner : Within) × IsFront front inner × (parts ≡ front ++ rest) × Led (Inside inner) rest (Outside Done)

version_is : (parts : List (Part Role)) → Led (Outside AtVersion) parts (Outside Done) → (second : Bool) × (rest : List (Part Role)) × (parts ≡ number Fixed (version_number second) ∷ rest) × Led (into_schema second) rest (Outside Done)
version_is [] led = let no_way : Outside AtVersion ≡ Outside Done = led in absurd cc
version_is (part ∷ parts) (place, next, is, moves, led) =
    let (second, symbol, at) = version_moved part.symbol next moves in
    (second, parts, ap (λ (p : Part Role). p ∷ parts) (the_part part (Numeral (version_number second)) Fixed symbol is), subst (λ (s : Whole). Led s parts (Outside Done)) at led)

front_is : (parts : List (Part Role)) → Led start parts (Outside Done) → HasFront parts
front_is [] led = let no_way : start ≡ Outside Done = led in absurd cc
front_is (part ∷ parts) (place, next, is, moves, led) =
    let at = format_moved part.symbol next moves in
    let (second, rest, spelled, behind) = version_is parts (subst (λ (s : Whole). Led s parts (Outside Done)) at.1 led) in (
      word Fixed (codes "gmap") ∷ number Fixed (version_number second) ∷ [],
      rest,
      in_version second schema.AtDim,
      (second, refl, refl),
      both part (word Fixed (codes "gmap")) parts (number Fixed (version_number second) ∷ rest) (the_part part (Word (codes "gmap")) Fixed at.0 is) spelled,
      behind,
    )

never_done : (second : Bool) (state : schema.State) → behind_state second state ≡ Done → ⊥
never_done second schema.AtDim e = absurd cc
never_done second schema.AtTop e = absurd cc
never_done true (schema.AtEmbeds n declared) e = absurd cc
never_done false (schema.AtEmbeds n declared) e = absurd cc
never_done second (schema.AtName n declared) e = absurd cc
never_done second (schema.AtOrbit n declared name) e = absurd cc
never_done second (schema.AtLabel n declared name mask) e = absurd cc
never_done second (schema.AtKind n declared name mask) e = absurd cc

inner_goes_on : (inner : Within) → (rest : List (Part text.Role)) × (last : Within) × LedInside inner rest last × IsTrue (schema.is_whole last.state)
inner_goes_on inner =
    let (rest, last, led, whole) = schemas.goes_on (λ role. passed_of (InSchema role)) inner.state in
    (rest, in_version inner.second last, led_within inner.second inner.state last rest led, whole)

-- ---- each state can be gone on from

wants_go_on : (head : Head) (taken : List ℤ) (wants : List Want) → (rest : List (Part Role)) × Led (among head taken wants) rest (Outside Done)
wants_go_on head taken [] = (the_end Fixed ∷ [], (0, Outside Done, refl, refl, refl))
wants_go_on head taken (TheNumber role ∷ wants) =
    let behind = wants_go_on head (taken ++ number_in role 0 ∷ []) wants in
    (number role 0 ∷ behind.0, (0, among head (taken ++ number_in role 0 ∷ []) wants, refl, refl, behind.1))
wants_go_on head taken (Component colour ∷ wants) =
    let behind = wants_go_on head (taken ++ pos 0 ∷ []) wants in
    (number _ 0 ∷ behind.0, (0, among head (taken ++ pos 0 ∷ []) wants, refl, refl, behind.1))
wants_go_on head taken (TheSign wanted ∷ wants) =
    let behind = wants_go_on head taken wants in
    (sign Fixed wanted ∷ behind.0, (0, among head taken wants, refl, sign_moves head taken wanted wants, behind.1))

count_goes_on : (head : Head) → (rest : List (Part Role)) × Led (Outside (AtCount head)) rest (Outside Done)
count_goes_on head = (number Count 0 ∷ the_end Fixed ∷ [], (0, among head [] [], refl, refl, (0, Outside Done, refl, refl, refl)))

darts_go_on : (head : Head) → (rest : List (Part Role)) × Led (Outside (AtDarts head)) rest (Outside Done)
darts_go_on head = let behind = count_goes_on head in (word Fixed (codes "darts") ∷ behind.0, (0, Outside (AtCount head), refl, refl, behind.1))

name_goes_on : (schema : Schema) → (rest : List (Part Role)) × Led (Outside (AtNextName schema)) rest (Outside Done)
name_goes_on schema =
    let head : Head = record { version = Second 0; schema = schema } in
    let behind = darts_go_on head in
    (number NextName 0 ∷ behind.0, (0, Outside (AtDarts head), refl, refl, behind.1))

version_goes_on : (rest : List (Part Role)) × Led (Outside AtVersion) rest (Outside Done)
version_goes_on =
    let form : SchemaForm = record { dim = 1; embeds = [] } in
    let head : Head = record { version = First; schema = schema_of form } in
    let behind = led_listing (Outside Done) head [] (the_end Fixed ∷ []) tt (0, Outside Done, refl, refl, refl) in (
      number Fixed 1 ∷ (map (in_role InSchema) (text.spell form []) ++ spell_listing_to [] [] (the_end Fixed ∷ [])),
      (0, into_schema false, refl, refl, led_schema (Outside Done) false form (word Fixed (codes "darts")) (number Count 0 ∷ the_end Fixed ∷ []) tt behind),
    )

outer_goes_on : (outer : State) → (rest : List (Part Role)) × Led (Outside outer) rest (Outside Done)
outer_goes_on AtFormat = let behind = version_goes_on in (word Fixed (codes "gmap") ∷ behind.0, (0, Outside AtVersion, refl, refl, behind.1))
outer_goes_on AtVersion = version_goes_on
outer_goes_on (AtNext schema) = let behind = name_goes_on schema in (word Fixed (codes "next") ∷ behind.0, (0, Outside (AtNextName schema), refl, refl, behind.1))
outer_goes_on (AtNextName schema) = name_goes_on schema
outer_goes_on (AtDarts head) = darts_go_on head
outer_goes_on (AtCount head) = count_goes_on head
outer_goes_on (AtNumbers head taken wants) = wants_go_on head taken wants
outer_goes_on Done = ([], refl)

placeless : (outer : State) (symbol : Symbol) (place other : ℕ) → outer_role outer symbol place ≡ outer_role outer symbol other
placeless AtFormat symbol place other = refl
placeless AtVersion symbol place other = refl
placeless (AtNext schema) symbol place other = refl
placeless (AtNextName schema) symbol place other = refl
placeless (AtDarts head) symbol place other = refl
placeless (AtCount head) symbol place other = refl
placeless (AtNumbers head taken []) symbol place other = refl
placeless (AtNumbers head taken (want ∷ wants)) symbol place other = refl
placeless Done symbol place other = refl

pieces : HasPieces nesting passed_of never IsFront IsInner IsBack start Done
pieces = record {
  front_leads = front_leads;
  front = front_is;
  inner_leads = λ inner last parts is. is;
  inner = λ front inner last parts at led whole. (led, whole);
  back_leads = λ outer parts led. led;
  back = λ outer parts led. led;
  more = λ inner e. never_done inner.second inner.state e;
  inner_goes_on = inner_goes_on;
  outer_goes_on = outer_goes_on;
  outer_limit = λ outer symbol place other. ap (λ (r : Role). passed_of r symbol) (placeless outer symbol place other);
  inner_limit = λ within symbol place other. standing.inner_limit text.passed_of passed_placeless within.state symbol place other;
  outer_before = λ outer symbol place other. refl;
  inner_before = λ within symbol place other. refl;
}

-- ---- what stands behind the schema

record IsBackOf (second : Bool) (schema : Schema) (parts : List (Part Role)) : Type 0 where
  version : Version
  second_is : number_of version ≡ version_number second
  darts : List DartForm
  shaped : AllByRecursion (IsShaped schema.dim schema.embeds) darts
  spelled : parts ≡ spell_next version (spell_listing schema.embeds darts)

name_is : (schema : Schema) (parts : List (Part Role)) → Led (Outside (AtNextName schema)) parts (Outside Done) → (next : ℕ) × (darts : List DartForm) × AllByRecursion (IsShaped schema.dim schema.embeds) darts × (parts ≡ number NextName next ∷ spell_listing schema.embeds darts)
name_is schema [] led = let no_way : Outside (AtNextName schema) ≡ Outside Done = led in absurd cc
name_is schema (part ∷ parts) (place, to, is, moves, led) =
    let (next, symbol, at) = name_moved schema part.symbol to moves in
    let listing = listing_is (record { version = Second next; schema = schema }) parts (subst (λ (s : Whole). Led s parts (Outside Done)) at led) in
    (next, listing.darts, listing.shaped, both part (number NextName next) parts (spell_listing schema.embeds listing.darts) (the_part part (Numeral next) NextName symbol is) listing.spelled)

back_is : (second : Bool) (schema : Schema) (parts : List (Part Role)) → Led (Outside (behind_schema second schema)) parts (Outside Done) → IsBackOf second schema parts
back_is false schema parts led =
    let listing = listing_is (record { version = First; schema = schema }) parts led in
    record { version = First; second_is = refl; darts = listing.darts; shaped = listing.shaped; spelled = listing.spelled }
back_is true schema [] led = let no_way : Outside (AtNext schema) ≡ Outside Done = led in absurd cc
back_is true schema (part ∷ parts) (place, to, is, moves, led) =
    let at = next_moved schema part.symbol to moves in
    let (next, darts, shaped, spelled) = name_is schema parts (subst (λ (s : Whole). Led s parts (Outside Done)) at.1 led) in
    record {
      version = Second next;
      second_is = refl;
      darts = darts;
      shaped = shaped;
      spelled = both part (word Fixed (codes "next")) parts (number NextName next ∷ spell_listing schema.embeds darts) (the_part part (Word (codes "next")) Fixed at.0 is) spelled;
    }

of_nested : (parts : List (Part Role)) → IsNestedSentence nesting passed_of never IsFront IsInner IsBack parts → IsSentence parts
of_nested parts sentence =
    let (second, front, entry) = sentence.is_front in
    let led = within_led second schema.AtDim sentence.inner sentence.last (subst (λ (w : Within). LedInside w sentence.inner sentence.last) entry sentence.is_inner.0) in
    let whole : IsTrue (schema.is_whole led.to) = subst (λ (w : Within). IsTrue (schema.is_whole w.state)) led.is sentence.is_inner.1 in
    let is = form_is (λ role. passed_of (InSchema role)) sentence.inner led.to led.led whole in
    let behind : behind_state sentence.last.second sentence.last.state ≡ behind_schema second (schema_of is.form) =
    ap (λ (w : Within). behind_state w.second w.state) led.is ∙ ap (behind_state second) is.end in
    let back = back_is second (schema_of is.form) sentence.back (subst (λ (s : State). Led (Outside s) sentence.back (Outside Done)) behind sentence.is_back) in
    let form : MapForm = record { version = back.version; schema = is.form; darts = back.darts } in
    let rest = spell_next back.version (spell_listing (embeds_of form) back.darts) in
    let inside : map (in_role nesting.wrap) sentence.inner ++ sentence.back ≡ map (in_role InSchema) (text.spell is.form []) ++ rest =
    ap (λ (ps : List (Part text.Role)). map (in_role InSchema) ps ++ sentence.back) is.spelled ∙ ap (λ (ps : List (Part Role)). map (in_role InSchema) (text.spell is.form []) ++ ps) back.spelled in
    let before : sentence.front ≡ word Fixed (codes "gmap") ∷ number Fixed (number_of back.version) ∷ [] = front ∙ ap (λ (k : ℕ). word Fixed (codes "gmap") ∷ number Fixed k ∷ []) (sym back.second_is) in (
      form,
      (is.good, back.shaped),
      sentence.spelled ∙ ap (λ (ps : List (Part Role)). ps ++ (map (in_role nesting.wrap) sentence.inner ++ sentence.back)) before
          ∙ ap (λ (ps : List (Part Role)). word Fixed (codes "gmap") ∷ number Fixed (number_of back.version) ∷ ps) inside,
    )

pub map_grammar : IsGrammar passed_of never (nested.role_at nesting) (nested.move nesting) IsSentence start (Outside Done)
map_grammar =
    let grammar = nested_grammar nesting passed_of never IsFront IsInner IsBack start Done is_apart pieces in
    record {
      leads = sentence_leads;
      sentence = λ parts led. of_nested parts (grammar.sentence parts led);
      goes_on = grammar.goes_on;
      limit = grammar.limit;
      before = grammar.before;
    }
