-- The symbols of a map's text lead to one state, so they tell the version, the schema and the numbers of the darts.
use Rattle.std.proofs.Common.{◌≡◌, ℕ, Bool, true, false, ℤ, List, [], ◌∷◌, ◌++◌, length, map, Some, refl, sym, ap, subst, ◌∙◌, append_assoc, codes}
use Rattle.std.proofs.lemmas.List.{map-append, append_cancel_right}
use Rattle.gm_model.specs.declared.schema.Embed.{Embed}
use Rattle.gm_model.specs.declared.value.Kind.{Kind}
use Rattle.gm_model.specs.declared.value.Kind.TheVariants as kinds
use Rattle.gm_model.specs.Symbols.{Symbol, End}
use Rattle.gm_model.specs.Reading.{Part, symbols_in, word, number, sign, the_end, in_role}
use Rattle.gm_text.specs.inner.Nested as nested
use Rattle.gm_text.specs.SchemaText as text
use Rattle.gm_text.specs.ValueText.{Signed, spell_signed}
use Rattle.gm_mapfile.specs.MapText.{DartForm, Version, First, Second, MapForm, Role, Fixed, InSchema, Count, DartName, size_role, spell_components, spell_value, spell_values, spell_dart, spell_darts, spell_next, number_of, embeds_of, spelling, IsForm}
use Rattle.gm_mapfile.proofs.Zipped.{spell_names}
use Rattle.gm_mapfile.specs.MapReading.{Head, Whole, nesting, start, among}
use Rattle.gm_mapfile.proofs.MapLed.{Led, all_form_numbers}
use Rattle.gm_mapfile.proofs.MapGrammar.{head_of, spell_listing_to, spell_to, led_map}

-- ---- one state

pub one_state : (state one two : Whole) (parts others : List (Part Role)) → symbols_in parts ≡ symbols_in others → Led state parts one → Led state others two → one ≡ two
one_state state one two [] [] same led led' = sym led ∙ led'
one_state state one two [] (other ∷ others) same led led' = absurd cc
one_state state one two (part ∷ parts) [] same led led' = absurd cc
one_state state one two (part ∷ parts) (other ∷ others) same (place, next, is, moves, led) (place', next', is', moves', led') =
    let here : part.symbol ≡ other.symbol = cc same in
    let behind : symbols_in parts ≡ symbols_in others = cc same in
    let to : Some next ≡ Some next' = sym moves ∙ ap (nested.move nesting state) here ∙ moves' in
    let at : next' ≡ next = cc to in
    one_state next one two parts others behind led (subst (λ (s : Whole). Led s others two) at led')

-- ---- spellings before something else

names_before : (names : List ℕ) (rest more : List (Part Role)) → spell_names names rest ++ more ≡ spell_names names (rest ++ more)
names_before [] rest more = refl
names_before (name ∷ names) rest more = ap (λ (ps : List (Part Role)). number DartName name ∷ ps) (names_before names rest more)

signed_before : (colour minus : Bool) (size : ℕ) (rest more : List (Part Role))
    → spell_signed Fixed (size_role colour) (record { minus = minus; size = size }) rest ++ more ≡ spell_signed Fixed (size_role colour) (record { minus = minus; size = size }) (rest ++ more)
signed_before colour true size rest more = refl
signed_before colour false size rest more = refl

components_before : (colour : Bool) (xs : List Signed) (rest more : List (Part Role)) → spell_components colour xs rest ++ more ≡ spell_components colour xs (rest ++ more)
components_before colour [] rest more = refl
components_before colour (x ∷ xs) rest more =
    signed_before colour x.minus x.size (spell_components colour xs rest) more ∙ ap (λ (ps : List (Part Role)). spell_signed Fixed (size_role colour) x ps) (components_before colour xs rest more)

bracketed_before : (colour : Bool) (xs : List Signed) (rest more : List (Part Role))
    → (sign Fixed (codes "(") ∷ spell_components colour xs (sign Fixed (codes ")") ∷ rest)) ++ more ≡ sign Fixed (codes "(") ∷ spell_components colour xs (sign Fixed (codes ")") ∷ (rest ++ more))
bracketed_before colour xs rest more = ap (λ (ps : List (Part Role)). sign Fixed (codes "(") ∷ ps) (components_before colour xs (sign Fixed (codes ")") ∷ rest) more)

value_before : (kind : Kind) (xs : List Signed) (rest more : List (Part Role)) → spell_value kind xs rest ++ more ≡ spell_value kind xs (rest ++ more)
value_before kinds.Int xs rest more = components_before false xs rest more
value_before kinds.Bool xs rest more = bracketed_before false xs rest more
value_before kinds.Vec2 xs rest more = bracketed_before false xs rest more
value_before kinds.Vec3 xs rest more = bracketed_before false xs rest more
value_before kinds.Rgb xs rest more = bracketed_before true xs rest more

values_before : (embeds : List Embed) (values : List (List Signed)) (rest more : List (Part Role)) → spell_values embeds values rest ++ more ≡ spell_values embeds values (rest ++ more)
values_before [] [] rest more = refl
values_before [] (value ∷ values) rest more = refl
values_before (embed ∷ embeds) [] rest more = refl
values_before (embed ∷ embeds) (value ∷ values) rest more =
    value_before embed.kind value (spell_values embeds values rest) more ∙ ap (λ (ps : List (Part Role)). spell_value embed.kind value ps) (values_before embeds values rest more)

dart_before : (embeds : List Embed) (dart : DartForm) (rest more : List (Part Role)) → spell_dart embeds dart rest ++ more ≡ spell_dart embeds dart (rest ++ more)
dart_before embeds dart rest more =
    ap (λ (ps : List (Part Role)). number DartName dart.name ∷ ps)
    (names_before dart.alphas (spell_values embeds dart.values rest) more ∙ ap (λ (ps : List (Part Role)). spell_names dart.alphas ps) (values_before embeds dart.values rest more))

pub darts_before : (embeds : List Embed) (darts : List DartForm) (rest more : List (Part Role)) → spell_darts embeds darts rest ++ more ≡ spell_darts embeds darts (rest ++ more)
darts_before embeds [] rest more = refl
darts_before embeds (dart ∷ darts) rest more =
    dart_before embeds dart (spell_darts embeds darts rest) more ∙ ap (λ (ps : List (Part Role)). spell_dart embeds dart ps) (darts_before embeds darts rest more)

listing_before : (embeds : List Embed) (darts : List DartForm) (rest more : List (Part Role)) → spell_listing_to embeds darts rest ++ more ≡ spell_listing_to embeds darts (rest ++ more)
listing_before embeds darts rest more = ap (λ (ps : List (Part Role)). word Fixed (codes "darts") ∷ number Count (length darts) ∷ ps) (darts_before embeds darts rest more)

next_before : (version : Version) (rest more : List (Part Role)) → spell_next version rest ++ more ≡ spell_next version (rest ++ more)
next_before First rest more = refl
next_before (Second next) rest more = refl

pub map_before : (form : MapForm) (rest more : List (Part Role)) → spell_to form rest ++ more ≡ spell_to form (rest ++ more)
map_before form rest more =
    let inside = map (in_role InSchema) (text.spell form.schema []) in
    ap (λ (ps : List (Part Role)). word Fixed (codes "gmap") ∷ number Fixed (number_of form.version) ∷ ps)
    (append_assoc inside (spell_next form.version (spell_listing_to (embeds_of form) form.darts rest)) more
    ∙ ap (λ (ps : List (Part Role)). inside ++ ps)
    (next_before form.version (spell_listing_to (embeds_of form) form.darts rest) more ∙ ap (spell_next form.version) (listing_before (embeds_of form) form.darts rest more)))

-- the end stands behind a form
pub spelled_to_end : (form : MapForm) → spelling form ≡ spell_to form [] ++ the_end Fixed ∷ []
spelled_to_end form = sym (map_before form [] (the_end Fixed ∷ []))

-- ---- what the symbols tell

-- parts with the symbols of a form, its end aside, lead to where its darts' numbers are taken
pub led_to_end : (form : MapForm) (parts : List (Part Role)) (end : Part Role) (last : Whole) → IsForm form → symbols_in (parts ++ end ∷ []) ≡ symbols_in (spelling form) → end.symbol ≡ End → Led start parts last
    → last ≡ among (head_of form) (all_form_numbers form.darts) []
led_to_end form parts end last good same ends led =
    let symbol : Part Role → Symbol = λ (part : Part Role). part.symbol in
    let left : symbols_in (parts ++ end ∷ []) ≡ symbols_in parts ++ End ∷ [] = map-append symbol parts (end ∷ []) ∙ ap (λ (s : Symbol). symbols_in parts ++ s ∷ []) ends in
    let right : symbols_in (spelling form) ≡ symbols_in (spell_to form []) ++ End ∷ [] = ap symbols_in (spelled_to_end form) ∙ map-append symbol (spell_to form []) (the_end Fixed ∷ []) in
    let front : symbols_in parts ≡ symbols_in (spell_to form []) = append_cancel_right (symbols_in parts) (symbols_in (spell_to form [])) (End ∷ []) (sym left ∙ same ∙ right) in
    one_state start last (among (head_of form) (all_form_numbers form.darts) []) parts (spell_to form []) front led (led_map (among (head_of form) (all_form_numbers form.darts) []) form [] good refl)

pub record AreAlike (head other : Head) (numbers others : List ℤ) : Type 0 where
  pub heads : head ≡ other
  pub numbers_are : numbers ≡ others

pub alike : (head other : Head) (numbers others : List ℤ) → among head numbers [] ≡ among other others [] → AreAlike head other numbers others
alike head other numbers others same = record { heads = cc same; numbers_are = cc same }

pub same_forms : (form other : MapForm) → IsForm form → IsForm other → symbols_in (spelling form) ≡ symbols_in (spelling other) → AreAlike (head_of form) (head_of other) (all_form_numbers form.darts) (all_form_numbers other.darts)
same_forms form other good good' same =
    let end = among (head_of form) (all_form_numbers form.darts) [] in
    alike (head_of form) (head_of other) (all_form_numbers form.darts) (all_form_numbers other.darts)
    (led_to_end other (spell_to form []) (the_end Fixed) end good' (ap symbols_in (sym (spelled_to_end form)) ∙ same) refl (led_map end form [] good refl))
