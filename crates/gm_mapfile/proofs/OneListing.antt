-- A text lists the darts of one map at most, in one version.
use Rattle.std.proofs.Common.{◌≡◌, ℕ, List, sym, ap, subst, ◌∙◌}
use Rattle.std.specs.List.{AllByRecursion}
use Rattle.gm_model.specs.declared.schema.Schema.{Schema}
use Rattle.gm_mapfile.specs.MapText.{Version, DartRow, IsShaped, IsListed}
use Rattle.gm_mapfile.proofs.Zipped.{AreRows}
use Rattle.gm_mapfile.specs.MapReading.{Head}
use Rattle.gm_mapfile.proofs.DartNumbers.{same_darts}
use Rattle.gm_mapfile.proofs.MapStates.{same_forms}

-- the shapes of the forms, by the schema that the text has
pub shaped_in : (text : List ℕ) (version : Version) (schema : Schema) (darts : List DartRow) → (listed : IsListed text version schema darts) → AllByRecursion (IsShaped schema.dim schema.embeds) listed.form.darts
shaped_in text version schema darts listed =
    subst (λ (s : Schema). AllByRecursion (IsShaped s.dim s.embeds) listed.form.darts) (sym listed.schema_is) listed.written.good.1

pub one_listing : (text : List ℕ) (version version' : Version) (schema schema' : Schema) (darts darts' : List DartRow) → IsListed text version schema darts → IsListed text version' schema' darts' → (version ≡ version') × (schema ≡ schema') × (darts ≡ darts')
one_listing text version version' schema schema' darts darts' listed again =
    let same = same_forms listed.form again.form listed.written.good again.written.good (sym listed.written.read.spelled ∙ again.written.read.spelled) in
    let versions : version ≡ version' = sym listed.version_is ∙ ap (λ (h : Head). h.version) same.heads ∙ again.version_is in
    let schemas : schema ≡ schema' = listed.schema_is ∙ ap (λ (h : Head). h.schema) same.heads ∙ sym again.schema_is in
    let shaped' = subst (λ (s : Schema). AllByRecursion (IsShaped s.dim s.embeds) again.form.darts) (sym schemas) (shaped_in text version' schema' darts' again) in
    let rows' = subst (λ (s : Schema). AreRows s.embeds again.form.darts darts') (sym schemas) again.rows in
    (versions, schemas, same_darts schema.dim schema.embeds listed.form.darts again.form.darts darts darts' (shaped_in text version schema darts listed) shaped' listed.rows rows' same.numbers_are)
