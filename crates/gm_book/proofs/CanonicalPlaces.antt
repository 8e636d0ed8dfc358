-- Each name and each symbol of an expression of the canonical form has the place of its mark.
use Rattle.std.proofs.Common.{ℕ, ◌+◌, Bool, true, false, List, [], ◌∷◌, Option, Some, None, refl}
use Rattle.gm_model.specs.declared.word.Letter.{Letter}
use Rattle.gm_model.specs.declared.word.Letter.TheVariants as letters
use Rattle.gm_model.specs.declared.rule.Side.TheVariants.{Left, Right}
use Rattle.gm_model.specs.declared.schema.Schema.{Schema}
use Rattle.gm_model.specs.Symbols.{Mark}
use Rattle.gm_model.specs.Reading.{Part, the_end, ArePlaced}
use Rattle.gm_model.specs.declared.rule.Param.{Param}
use Rattle.gm_model.specs.Rules.{Rule, Assignment}
use Rattle.gm_model.specs.Trees.{Tree}
use Rattle.gm_parse.specs.Spelling.{Counted, parts_of}
use Rattle.gm_expr.proofs.Canonical.{behind, place_in}
use Rattle.gm_forms.specs.BookText.{Role, Fixed, LetterAt, Count, no_count, count_after, count_across, counted, letter, spell_letters, spell_hook, spell_value, spell_sets, spell_item, spell_items, spell_pre, spell_more_params, spell_params, spell_rule, spell_rules, IsPlacedAt}
use Rattle.gm_book.proofs.CanonicalForm.{Line, NodeLine, LinkLine, params_at, behind_param, behind_more_params, behind_params, behind_letters, behind_hook, behind_word, tokens_from, behind_tokens, expr_at, sets_at, behind_set, behind_sets, behind_line, behind_lines, item_at, items_at, lines_of, pre_at, behind_pre, left_marks, right_marks, pre_marks, behind_rule, form_at, forms_at}

-- one part more in front
first : (marks : List Mark) (part : Part Role) (parts : List (Part Role)) → IsPlacedAt (place_in marks) part.role → ArePlaced IsPlacedAt (behind marks) parts → ArePlaced IsPlacedAt marks (part ∷ parts)
first [] part parts here later = tt
first (mark ∷ marks) part parts here later = (here, later)

module _ (n : ℕ) where
  letter_placed : (k place : ℕ) (x : Letter) → IsPlacedAt place (letter (LetterAt n k) x).role
  letter_placed k place (letters.At i) = tt
  letter_placed k place letters.Gone = tt

  letters_placed : (k : ℕ) (word : List Letter) (marks : List Mark) (parts : List (Part Role)) → ArePlaced IsPlacedAt (behind_letters word marks) parts → ArePlaced IsPlacedAt marks (spell_letters n k word parts)
  letters_placed k [] marks parts later = later
  letters_placed k (x ∷ word) marks parts later = first marks (letter (LetterAt n (k + 1)) x) _ (letter_placed (k + 1) (place_in marks) x) (letters_placed (k + 1) word (behind marks) parts later)

  hook_placed : (hook : Bool) (marks : List Mark) (parts : List (Part Role)) → ArePlaced IsPlacedAt (behind_hook hook marks) parts → ArePlaced IsPlacedAt marks (spell_hook hook parts)
  hook_placed true marks parts later = first marks _ parts tt later
  hook_placed false marks parts later = later

value_placed : (marks : List Mark) (counted : List (Part Counted)) (parts : List (Part Role)) → ArePlaced IsPlacedAt (behind_tokens (tokens_from marks counted) marks) parts → ArePlaced IsPlacedAt marks (spell_value (tokens_from marks counted) parts)
value_placed marks [] parts later = later
value_placed marks (part ∷ counted) parts later = first marks _ _ refl (value_placed (behind marks) counted parts later)

module _ (schema : Schema) (rule : Rule) where
  sets_placed : (sets : List Assignment) (marks : List Mark) (parts : List (Part Role)) → ArePlaced IsPlacedAt (behind_sets schema rule sets marks) parts → ArePlaced IsPlacedAt marks (spell_sets (sets_at schema rule marks sets) parts)
  sets_placed [] marks parts later = later
  sets_placed (set ∷ sets) marks parts later =
      let inside = behind (behind (behind marks)) in
      let value = parts_of schema.dim (expr_at schema rule inside set.tree) in
      let last = spell_sets (sets_at schema rule (behind_set schema rule set marks) sets) parts in
      first marks _ _ tt (first (behind marks) _ _ refl (first (behind (behind marks)) _ _ tt (value_placed inside value last (sets_placed sets (behind_set schema rule set marks) parts later))))

  line_placed : (line : Line) (count : Count) (marks : List Mark) (parts : List (Part Role)) → ArePlaced IsPlacedAt (behind_line schema rule line marks) parts → ArePlaced IsPlacedAt marks (spell_item schema.dim count (item_at schema rule marks line) parts)
  line_placed (NodeLine name word hook sets) count marks parts later =
      first marks _ _ refl (first (behind marks) _ _ tt (letters_placed schema.dim 0 word (behind (behind marks)) _
      (first (behind_letters word (behind (behind marks))) _ _ tt (hook_placed schema.dim hook (behind (behind_letters word (behind (behind marks)))) _
      (sets_placed sets (behind_word word hook marks) parts later)))))
  line_placed (LinkLine from label to) count marks parts later =
      first marks _ _ refl (first (behind marks) _ _ tt (first (behind (behind marks)) _ _ tt (first (behind (behind (behind marks))) _ _ tt (first (behind (behind (behind (behind marks)))) _ _ refl later))))

  lines_placed : (lines : List Line) (count : Count) (marks : List Mark) (parts : List (Part Role)) → ArePlaced IsPlacedAt (behind_lines schema rule lines marks) parts → ArePlaced IsPlacedAt marks (spell_items schema.dim count (items_at schema rule marks lines) parts)
  lines_placed [] count marks parts later = later
  lines_placed (line ∷ lines) count marks parts later = line_placed line count marks _ (lines_placed lines (count_after count (item_at schema rule marks line)) (behind_line schema rule line marks) parts later)

  pre_placed : (pre : Option Tree) (marks : List Mark) (parts : List (Part Role)) → ArePlaced IsPlacedAt (behind_pre schema rule pre marks) parts → ArePlaced IsPlacedAt marks (spell_pre (pre_at schema rule marks pre) parts)
  pre_placed None marks parts later = later
  pre_placed (Some tree) marks parts later = first marks _ _ tt (value_placed (behind marks) (parts_of schema.dim (expr_at schema rule (behind marks) tree)) parts later)

more_params_placed : (k : ℕ) (params : List Param) (marks : List Mark) (parts : List (Part Role)) → ArePlaced IsPlacedAt (behind_more_params params marks) parts → ArePlaced IsPlacedAt marks (spell_more_params k (params_at marks params) parts)
more_params_placed k [] marks parts later = first marks _ _ tt later
more_params_placed k (param ∷ params) marks parts later =
    first marks _ _ tt (first (behind marks) _ _ refl (first (behind (behind marks)) _ _ tt (first (behind (behind (behind marks))) _ _ tt (more_params_placed (k + 1) params (behind_param marks) parts later))))

params_placed : (params : List Param) (marks : List Mark) (parts : List (Part Role)) → ArePlaced IsPlacedAt (behind_params params marks) parts → ArePlaced IsPlacedAt marks (spell_params (params_at marks params) parts)
params_placed [] marks parts later = later
params_placed (param ∷ params) marks parts later =
    first marks _ _ tt (first (behind marks) _ _ refl (first (behind (behind marks)) _ _ tt (first (behind (behind (behind marks))) _ _ tt (more_params_placed 1 params (behind_param marks) parts later))))

module _ (schema : Schema) where
  rule_placed : (k : ℕ) (rule : Rule) (marks : List Mark) (parts : List (Part Role)) → ArePlaced IsPlacedAt (behind_rule schema rule marks) parts → ArePlaced IsPlacedAt marks (spell_rule schema.dim k (form_at schema marks rule) parts)
  rule_placed k rule marks parts later =
      first marks _ _ tt (first (behind marks) _ _ refl (params_placed rule.params (behind (behind marks)) _
      (first (behind_params rule.params (behind (behind marks))) _ _ tt (lines_placed schema rule (lines_of rule Left) no_count (left_marks rule marks) _
      (first (behind_lines schema rule (lines_of rule Left) (left_marks rule marks)) _ _ tt
      (lines_placed schema rule (lines_of rule Right) (count_across (counted no_count (form_at schema marks rule).left)) (right_marks schema rule marks) _
      (pre_placed schema rule rule.pre (pre_marks schema rule marks) parts later)))))))

  pub rules_placed : (k : ℕ) (rules : List Rule) (marks : List Mark) → ArePlaced IsPlacedAt marks (spell_rules schema.dim k (forms_at schema marks rules) (the_end Fixed ∷ []))
  rules_placed k [] marks = first marks (the_end Fixed) [] tt (none (behind marks))
    where
      none : (marks : List Mark) → ArePlaced IsPlacedAt marks []
      none [] = tt
      none (mark ∷ marks) = tt
  rules_placed k (rule ∷ rules) marks = rule_placed (k + 1) rule marks _ (rules_placed (k + 1) rules (behind_rule schema rule marks))
