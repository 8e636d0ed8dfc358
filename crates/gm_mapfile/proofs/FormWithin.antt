-- What a map's form within its limits is: its schema passes nothing, and neither do its next name, its count and its darts.
use Rattle.std.proofs.Common.{◌≡◌, ℕ, ◌≤◌, Bool, true, false, cond, List, [], ◌∷◌, ◌++◌, length, map, Some, None, refl, arith}
use Rattle.std.specs.Prelude.{nat_lt}
use Rattle.std.specs.List.{AllByRecursion}
use Rattle.std.specs.Option.{option_map}
use Rattle.std.proofs.lemmas.Bool.Decides.{nat_tests}
use Rattle.gm_model.specs.declared.limit.LimitKind.{LimitKind}
use Rattle.gm_model.specs.declared.limit.LimitKind.TheVariants as limits
use Rattle.gm_model.specs.Limits.{most_darts, most_names}
use Rattle.gm_model.specs.Reading.{Part, IsWithin, the_end, in_role}
use Rattle.gm_text.specs.SchemaText.{LimitOf}
use Rattle.gm_text.specs.SchemaText as text
use Rattle.gm_mapfile.specs.MapText.{Version, First, Second, MapForm, Role, Fixed, InSchema, spell_listing, spell_next, embeds_of, spelling}
use Rattle.gm_mapfile.proofs.GoodListing.{IsStatedSmall}
use Rattle.gm_mapfile.proofs.MapWithin.{AreWithin, IsGoodForm, darts_within}

-- what is written of a limit isn't passed
low : (most n : ℕ) (what : LimitKind) → option_map LimitOf (cond (nat_lt most n) (Some what) None) ≡ None → n ≤ most
low most n what e = go (nat_lt most n) refl e
  where
    go : (b : Bool) → nat_lt most n ≡ b → option_map LimitOf (cond b (Some what) None) ≡ None → n ≤ most
    go true f e = absurd cc
    go false f e = grind (arith, nat_tests, f)

abbrev SchemaWithin : List (Part text.Role) → Type 0
SchemaWithin parts = IsWithin text.IsSentence text.passed_of parts

schema_within : (parts : List (Part text.Role)) (rest : List (Part Role)) → AreWithin (map (in_role InSchema) parts ++ rest) → SchemaWithin parts × AreWithin rest
schema_within [] rest within = (tt, within)
schema_within (part ∷ parts) rest within = let behind = schema_within parts rest within.1 in ((within.0, behind.0), behind.1)

next_within : (version : Version) (rest : List (Part Role)) → AreWithin (spell_next version rest) → IsStatedSmall version × AreWithin rest
next_within First rest within = (tt, within)
next_within (Second next) rest within = (low most_names next limits.DartName within.1.0, within.1.1)

pub record IsFormWithin (form : MapForm) : Type 0 where
  pub schema : SchemaWithin (text.spell form.schema [])
  pub next : IsStatedSmall form.version
  pub few : length form.darts ≤ most_darts
  pub darts : AllByRecursion (IsGoodForm (embeds_of form)) form.darts

pub form_good : (form : MapForm) → AreWithin (spelling form) → IsFormWithin form
form_good form within =
    let inside = schema_within (text.spell form.schema []) (spell_next form.version (spell_listing (embeds_of form) form.darts)) within.1.1 in
    let behind = next_within form.version (spell_listing (embeds_of form) form.darts) inside.1 in
    record {
      schema = inside.0;
      next = behind.0;
      few = low most_darts (length form.darts) limits.Darts behind.1.1.0;
      darts = (darts_within (embeds_of form) form.darts (the_end Fixed ∷ []) behind.1.1.1).0;
    }
