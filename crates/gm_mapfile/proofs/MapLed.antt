-- What a map's form is spelled as leads through the states, and the numbers of its darts are taken on the way.
use Rattle.std.proofs.Common.{◌≡◌, ℕ, ◌+◌, Bool, true, false, ℤ, pos, List, [], ◌∷◌, ◌++◌, length, map, replicate, refl, sym, ap, subst, ◌∙◌, append_assoc, codes, arith}
use Rattle.std.proofs.lemmas.List.{append-nil}
use Rattle.std.specs.List.{flat_map, AllByRecursion}
use Rattle.gm_model.specs.declared.schema.Embed.{Embed}
use Rattle.gm_model.specs.declared.schema.Schema.{Schema}
use Rattle.gm_model.specs.declared.value.Kind.{Kind}
use Rattle.gm_model.specs.declared.value.Kind.TheVariants as kinds
use Rattle.gm_model.specs.Reading.{Part, sign}
use Rattle.gm_text.specs.inner.Machine.{Leads}
use Rattle.gm_text.specs.inner.Nested as nested
use Rattle.gm_text.specs.ValueText.{Signed, integer, spell_signed, signed}
use Rattle.gm_mapfile.specs.MapText.{DartForm, Role, Fixed, DartName, passed_of, width, size_role, spell_components, spell_value, spell_values, spell_dart, spell_darts, IsShaped}
use Rattle.gm_mapfile.proofs.Zipped.{spell_names, AreWide}
use Rattle.gm_mapfile.specs.MapReading.{Want, TheNumber, Component, TheSign, value_wants, values_wants, dart_wants, darts_wants, Head, Whole, number_in, nesting, never, among}
use Rattle.gm_mapfile.proofs.MapMoves.{sign_moves}

abbrev pub Led : Whole → List (Part Role) → Whole → Type 0
Led state parts last = Leads passed_of never (nested.role_at nesting) (nested.move nesting) state parts last

-- the numbers that a dart's form has, in the order of the text
abbrev pub form_numbers : DartForm → List ℤ
form_numbers dart = map pos (dart.name ∷ dart.alphas) ++ flat_map (map integer) dart.values

abbrev pub all_form_numbers : List DartForm → List ℤ
all_form_numbers darts = flat_map form_numbers darts

pub minus_number : (colour : Bool) (n : ℕ) → number_in (size_role colour true) n ≡ signed true n
minus_number true n = refl
minus_number false n = refl

module _ (head : Head) where
  -- from these numbers on, where these are wanted
  abbrev From : List ℤ → List Want → List (Part Role) → Whole → Type 0
  From taken wants parts last = Led (among head taken wants) parts last

  pub taken_as : (taken other : List ℤ) (wants : List Want) (rest : List (Part Role)) (last : Whole) → taken ≡ other → From taken wants rest last → From other wants rest last
  taken_as taken other wants rest last same led = subst (λ (ns : List ℤ). From ns wants rest last) same led

  pub wanted_as : (taken : List ℤ) (wants other : List Want) (rest : List (Part Role)) (last : Whole) → wants ≡ other → From taken wants rest last → From taken other rest last
  wanted_as taken wants other rest last same led = subst (λ (ws : List Want). From taken ws rest last) same led

  led_names : (taken : List ℤ) (wants : List Want) (names : List ℕ) (rest : List (Part Role)) (last : Whole) → From (taken ++ map pos names) wants rest last
      → From taken (replicate (length names) (TheNumber DartName) ++ wants) (spell_names names rest) last
  led_names taken wants [] rest last led = taken_as (taken ++ []) taken wants rest last (append-nil taken) led
  led_names taken wants (n ∷ names) rest last led =
      let behind = taken_as (taken ++ map pos (n ∷ names)) ((taken ++ pos n ∷ []) ++ map pos names) wants rest last (sym (append_assoc taken (pos n ∷ []) (map pos names))) led in
      (0, among head (taken ++ pos n ∷ []) (replicate (length names) (TheNumber DartName) ++ wants), refl, refl, led_names (taken ++ pos n ∷ []) wants names rest last behind)

  led_signed : (colour minus : Bool) (size : ℕ) (taken : List ℤ) (wants : List Want) (rest : List (Part Role)) (last : Whole) → From (taken ++ signed minus size ∷ []) wants rest last
      → From taken (Component colour ∷ wants) (spell_signed Fixed (size_role colour) (record { minus = minus; size = size }) rest) last
  led_signed colour false size taken wants rest last led = (0, among head (taken ++ pos size ∷ []) wants, refl, refl, led)
  led_signed colour true size taken wants rest last led =
      let behind = taken_as (taken ++ signed true size ∷ []) (taken ++ number_in (size_role colour true) size ∷ []) wants rest last (ap (λ (x : ℤ). taken ++ x ∷ []) (sym (minus_number colour size))) led in
      (0, among head taken (TheNumber (size_role colour true) ∷ wants), refl, refl, (0, among head (taken ++ number_in (size_role colour true) size ∷ []) wants, refl, refl, behind))

  led_components : (colour : Bool) (taken : List ℤ) (wants : List Want) (xs : List Signed) (rest : List (Part Role)) (last : Whole) → From (taken ++ map integer xs) wants rest last
      → From taken (replicate (length xs) (Component colour) ++ wants) (spell_components colour xs rest) last
  led_components colour taken wants [] rest last led = taken_as (taken ++ []) taken wants rest last (append-nil taken) led
  led_components colour taken wants (x ∷ xs) rest last led =
      let behind = taken_as (taken ++ map integer (x ∷ xs)) ((taken ++ integer x ∷ []) ++ map integer xs) wants rest last (sym (append_assoc taken (integer x ∷ []) (map integer xs))) led in
      led_signed colour x.minus x.size taken (replicate (length xs) (Component colour) ++ wants) (spell_components colour xs rest) last (led_components colour (taken ++ integer x ∷ []) wants xs rest last behind)

  -- a vector or a colour
  led_bracketed : (colour : Bool) (count : ℕ) (taken : List ℤ) (wants : List Want) (xs : List Signed) (rest : List (Part Role)) (last : Whole) → length xs ≡ count → From (taken ++ map integer xs) wants rest last
      → From taken (TheSign (codes "(") ∷ (replicate count (Component colour) ++ TheSign (codes ")") ∷ []) ++ wants) (sign Fixed (codes "(") ∷ spell_components colour xs (sign Fixed (codes ")") ∷ rest)) last
  led_bracketed colour count taken wants xs rest last long led =
      let close : From (taken ++ map integer xs) (TheSign (codes ")") ∷ wants) (sign Fixed (codes ")") ∷ rest) last = (0, among head (taken ++ map integer xs) wants, refl, sign_moves head (taken ++ map integer xs) (codes ")") wants, led) in
      let inner = led_components colour taken (TheSign (codes ")") ∷ wants) xs (sign Fixed (codes ")") ∷ rest) last close in
      let same : replicate (length xs) (Component colour) ++ TheSign (codes ")") ∷ wants ≡ (replicate count (Component colour) ++ TheSign (codes ")") ∷ []) ++ wants =
      ap (λ (k : ℕ). replicate k (Component colour) ++ TheSign (codes ")") ∷ wants) long ∙ sym (append_assoc (replicate count (Component colour)) (TheSign (codes ")") ∷ []) wants) in (
        0,
        among head taken ((replicate count (Component colour) ++ TheSign (codes ")") ∷ []) ++ wants),
        refl,
        sign_moves head taken (codes "(") _,
        wanted_as taken (replicate (length xs) (Component colour) ++ TheSign (codes ")") ∷ wants) ((replicate count (Component colour) ++ TheSign (codes ")") ∷ []) ++ wants) (spell_components colour xs (sign Fixed (codes ")") ∷ rest)) last same inner,
      )

  led_value : (kind : Kind) (taken : List ℤ) (wants : List Want) (xs : List Signed) (rest : List (Part Role)) (last : Whole) → length xs ≡ width kind → From (taken ++ map integer xs) wants rest last
      → From taken (value_wants kind ++ wants) (spell_value kind xs rest) last
  led_value kinds.Int taken wants xs rest last long led =
      wanted_as taken (replicate (length xs) (Component false) ++ wants) (Component false ∷ wants) (spell_components false xs rest) last (ap (λ (k : ℕ). replicate k (Component false) ++ wants) long)
      (led_components false taken wants xs rest last led)
  led_value kinds.Bool taken wants xs rest last long led = led_bracketed false 0 taken wants xs rest last long led
  led_value kinds.Vec2 taken wants xs rest last long led = led_bracketed false 2 taken wants xs rest last long led
  led_value kinds.Vec3 taken wants xs rest last long led = led_bracketed false 3 taken wants xs rest last long led
  led_value kinds.Rgb taken wants xs rest last long led = led_bracketed true 3 taken wants xs rest last long led

  led_values : (embeds : List Embed) (taken : List ℤ) (wants : List Want) (values : List (List Signed)) (rest : List (Part Role)) (last : Whole) → AreWide embeds values → From (taken ++ flat_map (map integer) values) wants rest last
      → From taken (values_wants embeds ++ wants) (spell_values embeds values rest) last
  led_values [] taken wants [] rest last wide led = taken_as (taken ++ []) taken wants rest last (append-nil taken) led
  led_values [] taken wants (value ∷ values) rest last wide led = absurd wide
  led_values (embed ∷ embeds) taken wants [] rest last wide led = absurd wide
  led_values (embed ∷ embeds) taken wants (value ∷ values) rest last wide led =
      let behind = taken_as (taken ++ flat_map (map integer) (value ∷ values)) ((taken ++ map integer value) ++ flat_map (map integer) values) wants rest last
      (sym (append_assoc taken (map integer value) (flat_map (map integer) values))) led in
      let others = led_values embeds (taken ++ map integer value) wants values rest last wide.1 behind in
      wanted_as taken (value_wants embed.kind ++ (values_wants embeds ++ wants)) ((value_wants embed.kind ++ values_wants embeds) ++ wants) (spell_values (embed ∷ embeds) (value ∷ values) rest) last
      (sym (append_assoc (value_wants embed.kind) (values_wants embeds) wants))
      (led_value embed.kind taken (values_wants embeds ++ wants) value (spell_values embeds values rest) last wide.0 others)

  led_dart : (schema : Schema) (taken : List ℤ) (wants : List Want) (dart : DartForm) (rest : List (Part Role)) (last : Whole) → IsShaped schema.dim schema.embeds dart → From (taken ++ form_numbers dart) wants rest last
      → From taken (dart_wants schema ++ wants) (spell_dart schema.embeds dart rest) last
  led_dart schema taken wants dart rest last shaped led =
      let line = dart.name ∷ dart.alphas in
      let long : length line ≡ schema.dim + 2 = omega (arith, shaped.0) in
      let behind = taken_as (taken ++ form_numbers dart) ((taken ++ map pos line) ++ flat_map (map integer) dart.values) wants rest last (sym (append_assoc taken (map pos line) (flat_map (map integer) dart.values))) led in
      let values = led_values schema.embeds (taken ++ map pos line) wants dart.values rest last shaped.1 behind in
      let numbers = led_names taken (values_wants schema.embeds ++ wants) line (spell_values schema.embeds dart.values rest) last values in
      let same : replicate (length line) (TheNumber DartName) ++ (values_wants schema.embeds ++ wants) ≡ dart_wants schema ++ wants =
      ap (λ (k : ℕ). replicate k (TheNumber DartName) ++ (values_wants schema.embeds ++ wants)) long ∙ sym (append_assoc (replicate (schema.dim + 2) (TheNumber DartName)) (values_wants schema.embeds) wants) in
      wanted_as taken (replicate (length line) (TheNumber DartName) ++ (values_wants schema.embeds ++ wants)) (dart_wants schema ++ wants) (spell_dart schema.embeds dart rest) last same numbers

  pub led_darts : (schema : Schema) (taken : List ℤ) (darts : List DartForm) (rest : List (Part Role)) (last : Whole) → AllByRecursion (IsShaped schema.dim schema.embeds) darts → From (taken ++ all_form_numbers darts) [] rest last
      → From taken (darts_wants schema (length darts)) (spell_darts schema.embeds darts rest) last
  led_darts schema taken [] rest last shaped led = taken_as (taken ++ []) taken [] rest last (append-nil taken) led
  led_darts schema taken (dart ∷ darts) rest last shaped led =
      let behind = taken_as (taken ++ all_form_numbers (dart ∷ darts)) ((taken ++ form_numbers dart) ++ all_form_numbers darts) [] rest last (sym (append_assoc taken (form_numbers dart) (all_form_numbers darts))) led in
      led_dart schema taken (darts_wants schema (length darts)) dart (spell_darts schema.embeds darts rest) last shaped.0 (led_darts schema (taken ++ form_numbers dart) darts rest last shaped.1 behind)
