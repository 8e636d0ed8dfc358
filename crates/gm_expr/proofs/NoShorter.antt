-- The canonical text of a tree has no more tokens than a text that gave the tree.
use Rattle.std.proofs.Common.{◌≡◌, ℕ, ◌+◌, ◌≤◌, List, [], ◌∷◌, length, sym, ap, ◌∙◌, append-nil, arith}
use Rattle.std.proofs.lemmas.List.{length-append, length-map}
use Rattle.gm_model.specs.declared.schema.Schema.{Schema}
use Rattle.gm_model.specs.Reading.{Part, symbols_in}
use Rattle.gm_model.specs.Rules.{Rule}
use Rattle.gm_model.specs.Symbols.{Symbol, End, Mark, marks_of, symbols, symbols_of}
use Rattle.gm_model.specs.Trees.{Tree}
use Rattle.gm_text.specs.inner.Cursor.{Cursor}
use Rattle.gm_text.specs.inner.SchemaAnswers.{marks_left}
use Rattle.gm_text.proofs.Printed.{symbols_from, symbols_from-end, symbols_of-from}
use Rattle.gm_parse.specs.inner.Answers.{IsExprRead}
use Rattle.gm_parse.specs.Forms.{Form}
use Rattle.gm_parse.specs.Meaning.{Names}
use Rattle.gm_parse.specs.Spelling.{Role, Fixed, spell}
use Rattle.gm_expr.specs.ExprText.{expr_text}
use Rattle.gm_expr.specs.inner.Writable.{AreGoodNames, IsWritable}
use Rattle.gm_expr.proofs.Canonical.{form_at}
use Rattle.gm_expr.proofs.CanonicalLength.{spell_length, no_form_is_shorter}
use Rattle.gm_expr.proofs.CanonicalSymbols.{behind_none, tree_symbols}

symbols_many : (marks : List Mark) → length (symbols marks) ≡ length marks
symbols_many marks = length-map marks (λ (mark : Mark). mark.symbol)

parts_many : (parts : List (Part Role)) → length (symbols_in parts) ≡ length parts
parts_many parts = length-map parts (λ (part : Part Role). part.symbol)

-- the end of a text
abbrev last : List (Part Role)
last = record { symbol = End; role = Fixed } ∷ []

module _ (schema : Schema) (rule : Rule) (n : ℕ) (top : n ≤ 7) (good : AreGoodNames schema.embeds rule.params rule.nodes) (tree : Tree) (writable : IsWritable schema.embeds rule.params rule.nodes n tree) where
  abbrev canon : Form
  canon = form_at schema.embeds rule.params rule.nodes [] tree

  -- the end of the text, and a mark for each part of the canonical form
  pub text_many : length (marks_of (expr_text schema rule tree)) ≡ length (spell n (form_at schema.embeds rule.params rule.nodes [] tree) []) + 1
  text_many =
      let text = expr_text schema rule tree in
      let is : symbols_of text ≡ symbols_in (spell n canon last) =
      symbols_of-from text ∙ ap symbols_from (sym (append-nil text)) ∙ tree_symbols schema.embeds rule.params rule.nodes n top good tree writable [] [] last behind_none symbols_from-end in
      let many : length (marks_of text) ≡ length (symbols_in (spell n canon last)) = sym (symbols_many (marks_of text)) ∙ ap (λ (ss : List Symbol). length ss) is in
      let parts = parts_many (spell n canon last) in
      let whole = spell_length n canon last in
      let alone = spell_length n canon [] in
      omega (arith, many, parts, whole, alone)

  pub no_shorter : (names : Names) (old new : Cursor) → IsExprRead n names old new tree → length (marks_of (expr_text schema rule tree)) + length (marks_left new) ≤ length (marks_left old) + 1
  no_shorter names old new read =
      let gone : length (marks_left old) ≡ length read.stands.before + length (marks_left new) = ap (λ (marks : List Mark). length marks) read.stands.split ∙ length-append read.stands.before (marks_left new) in
      let spelled : length read.stands.before ≡ length (spell n read.form []) = sym (symbols_many read.stands.before) ∙ ap (λ (ss : List Symbol). length ss) read.stands.spelled ∙ parts_many (spell n read.form []) in
      let fewer = no_form_is_shorter schema.embeds rule.params rule.nodes n names read.form tree read.stands.good read.means [] in
      omega (arith, text_many, gone, spelled, fewer)
