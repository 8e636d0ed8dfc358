-- The names of embeddings that a text gives without a fault: good ones, of which no two are the same.
use Rattle.std.proofs.Common.{◌≡◌, ℕ, zero, suc, ◌<◌, List, [], ◌∷◌, ◌++◌, length, map, Some, refl, subst, arith}
use Rattle.std.specs.Prelude.{slice_get}
use Rattle.std.specs.List.{AllByRecursion}
use Rattle.std.proofs.lemmas.List.{map-append}
use Rattle.gm_model.specs.declared.schema.Embed.{Embed}
use Rattle.gm_model.specs.declared.word.Mask.{Mask}
use Rattle.gm_model.specs.Reading.{Part, IsWithin, word}
use Rattle.gm_text.specs.SchemaText as schemas
use Rattle.gm_text.specs.SchemaText.{LabelForm, EmbedForm, SchemaForm, Role, passed_of, is_again, no_labels, with_label, embed_of, schema_of, names_in, spell, spell_labels, spell_embeds}
use Rattle.gm_text.specs.inner.SchemaPrinting.{AreParts}
use Rattle.gm_text.proofs.SchemaSound.{nothing_passed}
use Rattle.gm_expr.specs.ExprText.{embed_name}
use Rattle.gm_book.proofs.CanonicalForm.{AreNew, IsGoodName}

pub record AreGoodEmbeds (embeds : List Embed) : Type 0 where
  pub good : AllByRecursion (λ (embed : Embed). IsGoodName embed.name) embeds
  pub differ : AreNew [] (map (λ (embed : Embed). embed.name) embeds)

-- the name of the embedding with the number
pub embed_there : (embeds : List Embed) (e : ℕ) → e < length embeds → slice_get (map (λ (embed : Embed). embed.name) embeds) e ≡ Some (embed_name embeds e)
embed_there [] e low = absurd (omega (arith, low))
embed_there (embed ∷ embeds) zero low = refl
embed_there (embed ∷ embeds) (suc e) low = embed_there embeds e (omega (arith, low))

abbrev PassNothing : List (Part Role) → Type 0
PassNothing parts = IsWithin schemas.IsSentence passed_of parts

each_good : (forms : List EmbedForm) → AllByRecursion schemas.IsEmbed forms → AreParts (map embed_of forms) → AllByRecursion (λ (embed : Embed). IsGoodName embed.name) (map embed_of forms)
each_good [] free parts = tt
each_good (form ∷ forms) free parts = ((parts.0.0, free.0.0), each_good forms free.1 parts.1)

behind_labels : (n : ℕ) (mask : Mask) (labels : List LabelForm) (rest : List (Part Role)) → PassNothing (spell_labels n mask labels rest) → PassNothing rest
behind_labels n mask [] rest none = none
behind_labels n mask (label ∷ labels) rest none = behind_labels n (with_label mask label.label) labels rest none.1

all_differ : (n : ℕ) (declared : List Embed) (forms : List EmbedForm) → PassNothing (spell_embeds n declared forms []) → AreNew (names_in declared) (names_in (map embed_of forms))
all_differ n declared [] none = tt
all_differ n declared (form ∷ forms) none =
    let new = (nothing_passed (schemas.limit_of (schemas.NameAt (names_in declared) form.name.place) (word (schemas.NameAt (names_in declared) form.name.place) form.name.name).symbol)
    (is_again (schemas.NameAt (names_in declared) form.name.place) (word (schemas.NameAt (names_in declared) form.name.place) form.name.name).symbol) none.1.0).1 in
    let later = behind_labels n no_labels form.labels _ none.1.1.1 in
    (new, subst (λ seen. AreNew seen (names_in (map embed_of forms))) (map-append (λ (embed : Embed). embed.name) declared (embed_of form ∷ [])) (all_differ n (declared ++ embed_of form ∷ []) forms later.1.1))

pub embeds_good : (form : SchemaForm) → schemas.IsForm form → IsWithin schemas.IsSentence passed_of (spell form []) → AreParts (schema_of form).embeds → AreGoodEmbeds (schema_of form).embeds
embeds_good form free none parts = record { good = each_good form.embeds free parts; differ = all_differ form.dim [] form.embeds none.1.1 }
