-- The canonical tokens of an expression are one, pass no limit, and mean its tree where names differ.
use Rattle.std.proofs.Common.{◌≡◌, ◌≤◌, List, [], ◌∷◌, map, Option, None, ◌∙◌}
use Rattle.std.specs.List.{AllByRecursion}
use Rattle.gm_model.specs.declared.schema.Embed.{Embed}
use Rattle.gm_model.specs.declared.schema.Schema.{Schema}
use Rattle.gm_model.specs.declared.rule.Param.{Param}
use Rattle.gm_model.specs.declared.value.Kind.{Kind}
use Rattle.gm_model.specs.Reading.{Part, IsWithin}
use Rattle.gm_model.specs.Rules.{Rule}
use Rattle.gm_model.specs.Symbols.{Mark}
use Rattle.gm_model.specs.Trees.{Tree}
use Rattle.gm_parse.specs.Forms.{Form}
use Rattle.gm_parse.specs.Meaning.{Names, faults_in, tree_in}
use Rattle.gm_parse.specs.Spelling.{Counted, limit_in, parts_of}
use Rattle.gm_expr.proofs.Canonical.{behind}
use Rattle.gm_expr.proofs.CanonicalMeaning.{tree_good, tree_means, tree_faultless}
use Rattle.gm_expr.specs.inner.Writable.{AreGoodNames, left_name_of}
use Rattle.gm_forms.specs.BookText.{ExprToken, Role, IsSentence, IsValue, limit_of, spell_value}
use Rattle.gm_book.proofs.CanonicalForm.{tokens_from, expr_at, value_at, IsGoodValue}
use Rattle.gm_book.proofs.OneValue.{AreWithin, no_fault_of_other, one_tree}
use Rattle.gm_book.proofs.SpelledValues.{tokens_spell, value_placed}

within_tokens : (marks : List Mark) (parts : List (Part Counted)) → AllByRecursion (λ (part : Part Counted). limit_in part.role part.symbol ≡ None) parts → AreWithin (tokens_from marks parts)
within_tokens marks [] within = tt
within_tokens marks (part ∷ parts) within = (within.0, within_tokens (behind marks) parts within.1)

-- within the limits of the book too
pub value_within : (tokens : List ExprToken) (rest : List (Part Role)) → AreWithin tokens → IsWithin IsSentence limit_of rest → IsWithin IsSentence limit_of (spell_value tokens rest)
value_within [] rest within later = later
value_within (token ∷ tokens) rest within later = (within.0, value_within tokens rest within.1 later)

module _ (schema : Schema) (rule : Rule) (good : AreGoodNames schema.embeds rule.params rule.nodes) (tree : Tree) (kind : Option Kind) (ok : IsGoodValue schema rule tree kind) (marks : List Mark) where
  pub value_is : IsValue schema.dim (value_at schema rule marks tree) (expr_at schema rule marks tree)
  value_is = record {
    good = tree_good schema.embeds rule.params rule.nodes good schema.dim tree ok.can marks;
    spelled = tokens_spell marks (parts_of schema.dim (expr_at schema rule marks tree));
    placed = value_placed schema.embeds rule.params rule.nodes schema.dim marks tree;
  }

  pub value_short : AreWithin (value_at schema rule marks tree)
  value_short = within_tokens marks (parts_of schema.dim (expr_at schema rule marks tree)) (ok.short marks)

  module _ (low : schema.dim ≤ 7) (names : Names) (embeds : names.embeds ≡ map (λ (embed : Embed). embed.name) schema.embeds) (params : names.params ≡ map (λ (param : Param). param.name) rule.params) (nodes : names.nodes ≡ map left_name_of rule.nodes) where
    pub value_means : tree_in names (expr_at schema rule marks tree) ≡ tree
    value_means = tree_means schema.embeds rule.params rule.nodes names embeds params nodes schema.dim low tree ok.can marks

    -- whatever form the tokens are read as
    pub value_tree : (form : Form) → IsValue schema.dim (value_at schema rule marks tree) form → tree_in names form ≡ tree
    value_tree form value = one_tree schema.dim names low (value_at schema rule marks tree) value_short form (expr_at schema rule marks tree) value value_is ∙ value_means

    pub value_known : (form : Form) → IsValue schema.dim (value_at schema rule marks tree) form → faults_in names form ≡ []
    value_known form value = no_fault_of_other schema.dim names low (value_at schema rule marks tree) value_short (expr_at schema rule marks tree) form value_is value
        (tree_faultless schema.embeds rule.params rule.nodes names embeds params nodes schema.dim low tree ok.can marks)
