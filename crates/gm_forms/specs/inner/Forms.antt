-- What the tokens of a rule's form say in its text: names with their places.
use Rattle.std.specs.Prelude.{◌≤◌, ◌<◌, ℕ, List, [], ◌∷◌, Option, Some, None, length, map, take_while, nat_lt}
use Rattle.std.specs.List.{AllByRecursion}
use Rattle.std.specs.Option.{option_map, option_map_or}
use Rattle.gm_model.specs.declared.token.Token.{Token}
use Rattle.gm_model.specs.Names.{IsName, Mention}
use Rattle.gm_model.specs.Tokens.{bytes_of}
use Rattle.gm_model.specs.Symbols.{Mark, marks_at}
use Rattle.gm_parse.specs.Forms.{Form}
use Rattle.gm_parse.specs.inner.Reading.{Spot, first_spot, spot_move, spot_role}
use Rattle.gm_parse.specs.Spelling.{Stands}
use Rattle.gm_forms.specs.BookText.{NodeItem, LinkItem, ExprToken, IsValue}
use Rattle.gm_forms.specs.BookText as text
use Rattle.gm_forms.specs.declared.form.Item.{Item}
use Rattle.gm_forms.specs.declared.form.Item.TheVariants.{Node, Link}
use Rattle.gm_forms.specs.declared.form.ParamForm.{ParamForm}
use Rattle.gm_forms.specs.declared.form.RuleForm.{RuleForm}
use Rattle.gm_forms.specs.declared.form.SetForm.{SetForm}
use Rattle.gm_forms.specs.declared.form.Span.{Span}

abbrev pub mention_of : List ℕ → Token → Mention
mention_of bytes token = record { name = bytes_of bytes token; place = token.start }

-- ---- expressions

-- marks as tokens, in the roles that they have from the spot on
abbrev pub tokens_from : ℕ → Spot → List Mark → List ExprToken
tokens_from n spot [] = []
tokens_from n spot (mark ∷ marks) =
    record { symbol = mark.symbol; place = mark.place; role = spot_role n spot mark.symbol mark.place } ∷ option_map_or (λ (next : Spot). tokens_from n next marks) (spot_move spot mark.symbol) []

-- the marks that begin in the span
abbrev pub marks_in : List ℕ → Span → List Mark
marks_in bytes span = take_while (λ (mark : Mark). nat_lt mark.place span.end) (marks_at bytes span.start)

abbrev pub value_of : List ℕ → Span → List ExprToken
value_of bytes span = tokens_from span.dim first_spot (marks_in bytes span)

abbrev pub set_form_of : List ℕ → SetForm → text.SetForm
set_form_of bytes set = record { embed = mention_of bytes set.embed; value = value_of bytes set.value }

-- ---- items and rules

abbrev pub item_of : List ℕ → Item → text.Item
item_of bytes (Node name word hook sets) = NodeItem (mention_of bytes name) word hook (map (set_form_of bytes) sets.items)
item_of bytes (Link from label to) = LinkItem (mention_of bytes from) label (mention_of bytes to)

abbrev pub param_form_of : List ℕ → ParamForm → text.ParamForm
param_form_of bytes param = record { name = mention_of bytes param.name; kind = param.kind }

abbrev pub rule_form_of : List ℕ → RuleForm → text.RuleForm
rule_form_of bytes rule = record { name = mention_of bytes rule.name; params = map (param_form_of bytes) rule.params.items; left = map (item_of bytes) rule.left.items; right = map (item_of bytes) rule.right.items; pre = option_map (value_of bytes) rule.pre }

abbrev pub forms_of : List ℕ → List RuleForm → List text.RuleForm
forms_of bytes rules = map (rule_form_of bytes) rules

-- the token lies in the text, and is a name that isn't too long
abbrev pub IsIn : List ℕ → Token → Type 0
IsIn bytes token = (token.start < token.end) × (token.end ≤ length bytes) × IsName (bytes_of bytes token)

-- an expression stands there, in which labels go up to the span's dimension
pub record IsSpanIn (bytes : List ℕ) (span : Span) : Type 0 where
  pub inside : span.start ≤ length bytes
  pub form : Form
  pub rest : List Mark
  pub stands : Stands span.dim form (marks_at bytes span.start) rest
  pub value : IsValue span.dim (value_of bytes span) form

abbrev pub IsSetIn : List ℕ → SetForm → Type 0
IsSetIn bytes set = IsIn bytes set.embed × IsSpanIn bytes set.value

abbrev pub IsItemIn : List ℕ → Item → Type 0
IsItemIn bytes (Node name word hook sets) = IsIn bytes name × AllByRecursion (IsSetIn bytes) sets.items
IsItemIn bytes (Link from label to) = IsIn bytes from × IsIn bytes to

abbrev pub IsParamIn : List ℕ → ParamForm → Type 0
IsParamIn bytes param = IsIn bytes param.name

abbrev pub IsPreIn : List ℕ → Option Span → Type 0
IsPreIn bytes None = Unit {0}
IsPreIn bytes (Some span) = IsSpanIn bytes span

abbrev pub IsRuleIn : List ℕ → RuleForm → Type 0
IsRuleIn bytes rule = IsIn bytes rule.name × AllByRecursion (IsParamIn bytes) rule.params.items × AllByRecursion (IsItemIn bytes) rule.left.items × AllByRecursion (IsItemIn bytes) rule.right.items × IsPreIn bytes rule.pre

-- each token of the rules is a name in the text
abbrev pub AreRulesIn : List ℕ → List RuleForm → Type 0
AreRulesIn bytes rules = AllByRecursion (IsRuleIn bytes) rules
