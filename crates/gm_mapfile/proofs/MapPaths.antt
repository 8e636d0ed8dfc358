-- Each path through the states of a map's darts is the spelling of forms.
use Rattle.std.proofs.Common.{◌≡◌, ℕ, zero, suc, ◌+◌, Bool, true, false, ℤ, pos, List, [], ◌∷◌, ◌++◌, length, replicate, refl, sym, ap, subst, ◌∙◌, append_assoc, codes, arith}
use Rattle.std.specs.List.{AllByRecursion}
use Rattle.gm_model.specs.declared.schema.Embed.{Embed}
use Rattle.gm_model.specs.declared.schema.Schema.{Schema}
use Rattle.gm_model.specs.declared.value.Kind.{Kind}
use Rattle.gm_model.specs.declared.value.Kind.TheVariants as kinds
use Rattle.gm_model.specs.Symbols.{Symbol, Word, Numeral, Sign, End}
use Rattle.gm_model.specs.Reading.{Part, word, number, sign, the_end}
use Rattle.gm_text.specs.inner.Nested.{Outside}
use Rattle.gm_text.specs.ValueText.{Signed, spell_signed}
use Rattle.gm_mapfile.specs.MapText.{DartForm, Role, Fixed, DartName, Count, width, size_role, spell_components, spell_value, spell_values, spell_dart, spell_darts, spell_listing, IsShaped}
use Rattle.gm_mapfile.proofs.Zipped.{spell_names, AreWide}
use Rattle.gm_mapfile.specs.MapReading.{Want, TheNumber, Component, TheSign, value_wants, values_wants, dart_wants, darts_wants, Head, AtDarts, AtCount, Done, Whole, number_in, among}
use Rattle.gm_mapfile.proofs.MapMoves.{end_moved, number_moved, component_moved, AtNumber, AtMinus, sign_moved, darts_moved, count_moved}
use Rattle.gm_mapfile.proofs.MapLed.{Led}

pub the_part : (part : Part Role) (symbol : Symbol) (role : Role) → part.symbol ≡ symbol → part.role ≡ role → part ≡ record { symbol = symbol; role = role }
the_part part symbol role one two = ap (λ (s : Symbol). let p : Part Role = record { symbol = s; role = part.role } in p) one ∙ ap (λ (r : Role). let p : Part Role = record { symbol = symbol; role = r } in p) two

-- the part, and what the parts behind it are
pub both : (part one : Part Role) (parts rest : List (Part Role)) → part ≡ one → parts ≡ rest → part ∷ parts ≡ one ∷ rest
both part one parts rest e f = ap (λ (p : Part Role). p ∷ parts) e ∙ ap (λ (ps : List (Part Role)). one ∷ ps) f

-- behind the end nothing follows
pub done_is : (parts : List (Part Role)) → Led (Outside Done) parts (Outside Done) → parts ≡ []
done_is [] led = refl
done_is (part ∷ parts) (place, next, is, moves, led) = absurd cc

module _ (head : Head) where
  abbrev ToEnd : List ℤ → List Want → List (Part Role) → Type 0
  ToEnd taken wants parts = Led (among head taken wants) parts (Outside Done)

  to_end_as : (state other : Whole) (parts : List (Part Role)) → state ≡ other → Led state parts (Outside Done) → Led other parts (Outside Done)
  to_end_as state other parts same led = subst (λ (s : Whole). Led s parts (Outside Done)) same led

  pub end_is : (taken : List ℤ) (parts : List (Part Role)) → ToEnd taken [] parts → parts ≡ the_end Fixed ∷ []
  end_is taken [] led = let no_way : among head taken [] ≡ Outside Done = led in absurd cc
  end_is taken (part ∷ parts) (place, next, is, moves, led) =
      let at = end_moved head taken part.symbol next moves in
      both part (the_end Fixed) parts [] (the_part part End Fixed at.0 is) (done_is parts (to_end_as next (Outside Done) parts at.1 led))

  -- ---- a name, a sign, a number of a value

  record IsNumberFirst (role : Role) (taken : List ℤ) (wants : List Want) (parts : List (Part Role)) : Type 0 where
    n : ℕ
    rest : List (Part Role)
    spelled : parts ≡ number role n ∷ rest
    behind : ToEnd (taken ++ number_in role n ∷ []) wants rest

  number_is : (role : Role) (taken : List ℤ) (wants : List Want) (parts : List (Part Role)) → ToEnd taken (TheNumber role ∷ wants) parts → IsNumberFirst role taken wants parts
  number_is role taken wants [] led = let no_way : among head taken (TheNumber role ∷ wants) ≡ Outside Done = led in absurd cc
  number_is role taken wants (part ∷ parts) (place, next, is, moves, led) =
      let (n, symbol, at) = number_moved head taken role wants part.symbol next moves in
      record { n = n; rest = parts; spelled = ap (λ (p : Part Role). p ∷ parts) (the_part part (Numeral n) role symbol is); behind = to_end_as next (among head (taken ++ number_in role n ∷ []) wants) parts at led }

  record IsSignFirst (wanted : List ℕ) (taken : List ℤ) (wants : List Want) (parts : List (Part Role)) : Type 0 where
    rest : List (Part Role)
    spelled : parts ≡ sign Fixed wanted ∷ rest
    behind : ToEnd taken wants rest

  sign_is : (wanted : List ℕ) (taken : List ℤ) (wants : List Want) (parts : List (Part Role)) → ToEnd taken (TheSign wanted ∷ wants) parts → IsSignFirst wanted taken wants parts
  sign_is wanted taken wants [] led = let no_way : among head taken (TheSign wanted ∷ wants) ≡ Outside Done = led in absurd cc
  sign_is wanted taken wants (part ∷ parts) (place, next, is, moves, led) =
      let at = sign_moved head taken wanted wants part.symbol next moves in
      record { rest = parts; spelled = ap (λ (p : Part Role). p ∷ parts) (the_part part (Sign wanted) Fixed at.0 is); behind = to_end_as next (among head taken wants) parts at.1 led }

  -- whatever was taken
  abbrev ToEndOf : List Want → List (Part Role) → Type 0
  ToEndOf wants parts = (taken : List ℤ) × ToEnd taken wants parts

  record IsComponentFirst (colour : Bool) (wants : List Want) (parts : List (Part Role)) : Type 0 where
    x : Signed
    rest : List (Part Role)
    spelled : parts ≡ spell_signed Fixed (size_role colour) x rest
    behind : ToEndOf wants rest

  component_is : (colour : Bool) (taken : List ℤ) (wants : List Want) (parts : List (Part Role)) → ToEnd taken (Component colour ∷ wants) parts → IsComponentFirst colour wants parts
  component_is colour taken wants [] led = let no_way : among head taken (Component colour ∷ wants) ≡ Outside Done = led in absurd cc
  component_is colour taken wants (part ∷ parts) (place, next, is, moves, led) =
      elim (component_moved head taken colour wants part.symbol next moves) [
        | AtNumber n symbol at ↦
            let x : Signed = record { minus = false; size = n } in
            let role : part.role ≡ size_role colour false = rw symbol at is in
            record {
              x = x;
              rest = parts;
              spelled = ap (λ (p : Part Role). p ∷ parts) (the_part part (Numeral n) (size_role colour false) symbol role);
              behind = (taken ++ pos n ∷ [], to_end_as next (among head (taken ++ pos n ∷ []) wants) parts at led);
            }
        | AtMinus symbol at ↦
            let size = number_is (size_role colour true) taken wants parts (to_end_as next (among head taken (TheNumber (size_role colour true) ∷ wants)) parts at led) in
            let x : Signed = record { minus = true; size = size.n } in
            let role : part.role ≡ Fixed = rw symbol at is in
            record {
              x = x;
              rest = size.rest;
              spelled = both part (sign Fixed (codes "-")) parts (number (size_role colour true) size.n ∷ size.rest) (the_part part (Sign (codes "-")) Fixed symbol role) size.spelled;
              behind = (taken ++ number_in (size_role colour true) size.n ∷ [], size.behind);
            }
      ]

  -- ---- lists of them

  record AreNamesFirst (count : ℕ) (wants : List Want) (parts : List (Part Role)) : Type 0 where
    names : List ℕ
    long : length names ≡ count
    rest : List (Part Role)
    spelled : parts ≡ spell_names names rest
    behind : ToEndOf wants rest

  names_are : (count : ℕ) (taken : List ℤ) (wants : List Want) (parts : List (Part Role)) → ToEnd taken (replicate count (TheNumber DartName) ++ wants) parts → AreNamesFirst count wants parts
  names_are zero taken wants parts led = record { names = []; long = refl; rest = parts; spelled = refl; behind = (taken, led) }
  names_are (suc count) taken wants parts led =
      let first = number_is DartName taken (replicate count (TheNumber DartName) ++ wants) parts led in
      let others = names_are count (taken ++ pos first.n ∷ []) wants first.rest first.behind in
      record { names = first.n ∷ others.names; long = ap suc others.long; rest = others.rest; spelled = first.spelled ∙ ap (λ (ps : List (Part Role)). number DartName first.n ∷ ps) others.spelled; behind = others.behind }

  record AreComponentsFirst (colour : Bool) (count : ℕ) (wants : List Want) (parts : List (Part Role)) : Type 0 where
    xs : List Signed
    long : length xs ≡ count
    rest : List (Part Role)
    spelled : parts ≡ spell_components colour xs rest
    behind : ToEndOf wants rest

  components_are : (colour : Bool) (count : ℕ) (taken : List ℤ) (wants : List Want) (parts : List (Part Role)) → ToEnd taken (replicate count (Component colour) ++ wants) parts → AreComponentsFirst colour count wants parts
  components_are colour zero taken wants parts led = record { xs = []; long = refl; rest = parts; spelled = refl; behind = (taken, led) }
  components_are colour (suc count) taken wants parts led =
      let first = component_is colour taken (replicate count (Component colour) ++ wants) parts led in
      let others = components_are colour count first.behind.0 wants first.rest first.behind.1 in
      record {
        xs = first.x ∷ others.xs;
        long = ap suc others.long;
        rest = others.rest;
        spelled = first.spelled ∙ ap (λ (ps : List (Part Role)). spell_signed Fixed (size_role colour) first.x ps) others.spelled;
        behind = others.behind;
      }

  -- ---- values

  record IsValueFirst (kind : Kind) (wants : List Want) (parts : List (Part Role)) : Type 0 where
    xs : List Signed
    long : length xs ≡ width kind
    rest : List (Part Role)
    spelled : parts ≡ spell_value kind xs rest
    behind : ToEndOf wants rest

  record IsBracketedFirst (colour : Bool) (count : ℕ) (wants : List Want) (parts : List (Part Role)) : Type 0 where
    xs : List Signed
    long : length xs ≡ count
    rest : List (Part Role)
    spelled : parts ≡ sign Fixed (codes "(") ∷ spell_components colour xs (sign Fixed (codes ")") ∷ rest)
    behind : ToEndOf wants rest

  bracketed_is : (colour : Bool) (count : ℕ) (taken : List ℤ) (wants : List Want) (parts : List (Part Role))
      → ToEnd taken (TheSign (codes "(") ∷ (replicate count (Component colour) ++ TheSign (codes ")") ∷ []) ++ wants) parts → IsBracketedFirst colour count wants parts
  bracketed_is colour count taken wants parts led =
      let opening = sign_is (codes "(") taken ((replicate count (Component colour) ++ TheSign (codes ")") ∷ []) ++ wants) parts led in
      let inner = components_are colour count taken (TheSign (codes ")") ∷ wants) opening.rest
      (subst (λ (ws : List Want). ToEnd taken ws opening.rest) (append_assoc (replicate count (Component colour)) (TheSign (codes ")") ∷ []) wants) opening.behind) in
      let close = sign_is (codes ")") inner.behind.0 wants inner.rest inner.behind.1 in
      record {
        xs = inner.xs;
        long = inner.long;
        rest = close.rest;
        spelled = opening.spelled ∙ ap (λ (ps : List (Part Role)). sign Fixed (codes "(") ∷ ps) (inner.spelled ∙ ap (λ (ps : List (Part Role)). spell_components colour inner.xs ps) close.spelled);
        behind = (inner.behind.0, close.behind);
      }

  value_is : (kind : Kind) (taken : List ℤ) (wants : List Want) (parts : List (Part Role)) → ToEnd taken (value_wants kind ++ wants) parts → IsValueFirst kind wants parts
  value_is kinds.Int taken wants parts led = let is = components_are false 1 taken wants parts led in record { xs = is.xs; long = is.long; rest = is.rest; spelled = is.spelled; behind = is.behind }
  value_is kinds.Bool taken wants parts led = let is = bracketed_is false 0 taken wants parts led in record { xs = is.xs; long = is.long; rest = is.rest; spelled = is.spelled; behind = is.behind }
  value_is kinds.Vec2 taken wants parts led = let is = bracketed_is false 2 taken wants parts led in record { xs = is.xs; long = is.long; rest = is.rest; spelled = is.spelled; behind = is.behind }
  value_is kinds.Vec3 taken wants parts led = let is = bracketed_is false 3 taken wants parts led in record { xs = is.xs; long = is.long; rest = is.rest; spelled = is.spelled; behind = is.behind }
  value_is kinds.Rgb taken wants parts led = let is = bracketed_is true 3 taken wants parts led in record { xs = is.xs; long = is.long; rest = is.rest; spelled = is.spelled; behind = is.behind }

  record AreValuesFirst (embeds : List Embed) (wants : List Want) (parts : List (Part Role)) : Type 0 where
    values : List (List Signed)
    wide : AreWide embeds values
    rest : List (Part Role)
    spelled : parts ≡ spell_values embeds values rest
    behind : ToEndOf wants rest

  values_are : (embeds : List Embed) (taken : List ℤ) (wants : List Want) (parts : List (Part Role)) → ToEnd taken (values_wants embeds ++ wants) parts → AreValuesFirst embeds wants parts
  values_are [] taken wants parts led = record { values = []; wide = tt; rest = parts; spelled = refl; behind = (taken, led) }
  values_are (embed ∷ embeds) taken wants parts led =
      let first = value_is embed.kind taken (values_wants embeds ++ wants) parts (subst (λ (ws : List Want). ToEnd taken ws parts) (append_assoc (value_wants embed.kind) (values_wants embeds) wants) led) in
      let others = values_are embeds first.behind.0 wants first.rest first.behind.1 in
      record {
        values = first.xs ∷ others.values;
        wide = (first.long, others.wide);
        rest = others.rest;
        spelled = first.spelled ∙ ap (λ (ps : List (Part Role)). spell_value embed.kind first.xs ps) others.spelled;
        behind = others.behind;
      }

  -- ---- darts

  record IsDartFirst (schema : Schema) (wants : List Want) (parts : List (Part Role)) : Type 0 where
    dart : DartForm
    shaped : IsShaped schema.dim schema.embeds dart
    rest : List (Part Role)
    spelled : parts ≡ spell_dart schema.embeds dart rest
    behind : ToEndOf wants rest

  dart_is : (schema : Schema) (taken : List ℤ) (wants : List Want) (parts : List (Part Role)) → ToEnd taken (dart_wants schema ++ wants) parts → IsDartFirst schema wants parts
  dart_is schema taken wants parts led =
      let more : schema.dim + 2 ≡ suc (schema.dim + 1) = omega arith in
      let same : dart_wants schema ++ wants ≡ TheNumber DartName ∷ (replicate (schema.dim + 1) (TheNumber DartName) ++ (values_wants schema.embeds ++ wants)) =
      append_assoc (replicate (schema.dim + 2) (TheNumber DartName)) (values_wants schema.embeds) wants ∙ ap (λ (k : ℕ). replicate k (TheNumber DartName) ++ (values_wants schema.embeds ++ wants)) more in
      let wants_behind = values_wants schema.embeds ++ wants in
      let first = number_is DartName taken (replicate (schema.dim + 1) (TheNumber DartName) ++ wants_behind) parts (subst (λ (ws : List Want). ToEnd taken ws parts) same led) in
      let names = names_are (schema.dim + 1) (taken ++ pos first.n ∷ []) wants_behind first.rest first.behind in
      let values = values_are schema.embeds names.behind.0 wants names.rest names.behind.1 in
      record {
        dart = record { name = first.n; alphas = names.names; values = values.values };
        shaped = (names.long, values.wide);
        rest = values.rest;
        spelled = first.spelled ∙ ap (λ (ps : List (Part Role)). number DartName first.n ∷ ps) (names.spelled ∙ ap (λ (ps : List (Part Role)). spell_names names.names ps) values.spelled);
        behind = values.behind;
      }

  record AreDartsOf (schema : Schema) (count : ℕ) (parts : List (Part Role)) : Type 0 where
    darts : List DartForm
    shaped : AllByRecursion (IsShaped schema.dim schema.embeds) darts
    long : length darts ≡ count
    spelled : parts ≡ spell_darts schema.embeds darts (the_end Fixed ∷ [])

  darts_are : (schema : Schema) (count : ℕ) (taken : List ℤ) (parts : List (Part Role)) → ToEnd taken (darts_wants schema count) parts → AreDartsOf schema count parts
  darts_are schema zero taken parts led = record { darts = []; shaped = tt; long = refl; spelled = end_is taken parts led }
  darts_are schema (suc count) taken parts led =
      let first = dart_is schema taken (darts_wants schema count) parts led in
      let others = darts_are schema count first.behind.0 first.rest first.behind.1 in
      record {
        darts = first.dart ∷ others.darts;
        shaped = (first.shaped, others.shaped);
        long = ap suc others.long;
        spelled = first.spelled ∙ ap (λ (ps : List (Part Role)). spell_dart schema.embeds first.dart ps) others.spelled;
      }

  -- ---- the listing

  pub record IsListingOf (parts : List (Part Role)) : Type 0 where
    pub darts : List DartForm
    pub shaped : AllByRecursion (IsShaped head.schema.dim head.schema.embeds) darts
    pub spelled : parts ≡ spell_listing head.schema.embeds darts

  count_is : (parts : List (Part Role)) → Led (Outside (AtCount head)) parts (Outside Done) → (darts : List DartForm) × AllByRecursion (IsShaped head.schema.dim head.schema.embeds) darts × (parts ≡ number Count (length darts) ∷ spell_darts head.schema.embeds darts (the_end Fixed ∷ []))
  count_is [] led = let no_way : Outside (AtCount head) ≡ Outside Done = led in absurd cc
  count_is (part ∷ parts) (place, next, is, moves, led) =
      let (n, symbol, at) = count_moved head part.symbol next moves in
      let darts = darts_are head.schema n [] parts (to_end_as next (among head [] (darts_wants head.schema n)) parts at led) in
      let first = the_part part (Numeral n) Count symbol is ∙ ap (λ (k : ℕ). number Count k) (sym darts.long) in
      (darts.darts, darts.shaped, both part (number Count (length darts.darts)) parts (spell_darts head.schema.embeds darts.darts (the_end Fixed ∷ [])) first darts.spelled)

  pub listing_is : (parts : List (Part Role)) → Led (Outside (AtDarts head)) parts (Outside Done) → IsListingOf parts
  listing_is [] led = let no_way : Outside (AtDarts head) ≡ Outside Done = led in absurd cc
  listing_is (part ∷ parts) (place, next, is, moves, led) =
      let at = darts_moved head part.symbol next moves in
      let (darts, shaped, spelled) = count_is parts (to_end_as next (Outside (AtCount head)) parts at.1 led) in
      record {
        darts = darts;
        shaped = shaped;
        spelled = both part (word Fixed (codes "darts")) parts (number Count (length darts) ∷ spell_darts head.schema.embeds darts (the_end Fixed ∷ [])) (the_part part (Word (codes "darts")) Fixed at.0 is) spelled;
      }
