-- The canonical text of what a text stands for stands for it too.
use Rattle.std.proofs.Common.{ℕ, List, sym, subst}
use Rattle.std.specs.List.{AllByRecursion}
use Rattle.gm_model.specs.declared.schema.Schema.{Schema}
use Rattle.gm_model.specs.Rules.{Rule}
use Rattle.gm_text.specs.SchemaText.{SchemaForm, schema_of}
use Rattle.gm_text.specs.inner.SchemaPrinting.{AreParts}
use Rattle.gm_text.proofs.SchemaSound.{form_parts}
use Rattle.gm_forms.specs.BookText.{BookText}
use Rattle.gm_book.specs.Canonical.{canonical}
use Rattle.gm_book.proofs.CanonicalBook.{AreWritable, written_again}
use Rattle.gm_book.proofs.CanonicalForm.{HasGoodExprs}
use Rattle.gm_book.proofs.CanonicalText.{each}
use Rattle.gm_book.proofs.GoodEmbeds.{AreGoodEmbeds, embeds_good}
use Rattle.gm_book.proofs.ReadExprs.{exprs_read}
use Rattle.gm_book.proofs.ReadRules.{book_read, schema_passes, each_of_text, writable_from_text}

module _ (whole : List ℕ) (version : ℕ) (schema : Schema) (rules : List Rule) (stands : BookText whole version schema rules) where
  abbrev form : SchemaForm
  form = stands.book.schema

  parts_read : AreParts (schema_of form).embeds
  parts_read = form_parts form (schema_passes whole version schema rules stands) (book_read whole version schema rules stands).sound

  pub embeds_from_text : AreGoodEmbeds schema.embeds
  embeds_from_text = subst (λ (s : Schema). AreGoodEmbeds s.embeds) (sym stands.means) (embeds_good form stands.written.form.1 (schema_passes whole version schema rules stands) parts_read)

  pub exprs_from_text : AllByRecursion (HasGoodExprs schema) rules
  exprs_from_text = each (λ rule. AreGoodEmbeds schema.embeds → HasGoodExprs schema rule) (HasGoodExprs schema) (λ rule gives. gives embeds_from_text) rules
      (each_of_text whole version schema rules stands (λ s rule. AreGoodEmbeds s.embeds → HasGoodExprs s rule) (λ s form rule is low means ok sound embeds. exprs_read s form rule embeds low means ok sound))

  pub read_again : BookText (canonical version schema rules) version schema rules
  read_again =
      let writable = subst (λ (s : Schema). AreWritable version s.dim rules) stands.means (writable_from_text whole version schema rules stands) in
      let exprs = subst (λ (s : Schema). AllByRecursion (HasGoodExprs s) rules) stands.means exprs_from_text in
      subst (λ (s : Schema). BookText (canonical version s rules) version s rules) (sym stands.means)
      (written_again version form rules stands.written.form.1 (schema_passes whole version schema rules stands) parts_read writable exprs)
