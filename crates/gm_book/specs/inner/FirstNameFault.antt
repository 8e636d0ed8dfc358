-- The fault of the rules' names that stands first, and the least fault of each of their parts.
use Rattle.std.specs.Prelude.{◌≡◌, ◌≢◌, ℕ, ◌⊎◌, Bool, true, ◌||◌, ◌&&◌, nat_lt, nat_eq, if◌then◌else◌, List, [], ◌∷◌, ◌++◌, map, Option, Some, None}
use Rattle.std.specs.List.{Contains}
use Rattle.gm_model.specs.declared.rule.Param.{Param}
use Rattle.gm_model.specs.declared.schema.Embed.{Embed}
use Rattle.gm_model.specs.declared.schema.Schema.{Schema}
use Rattle.gm_model.specs.declared.value.Kind.{Kind}
use Rattle.gm_model.specs.declared.value.Kind.TheVariants.{Bool as Truth}
use Rattle.gm_model.specs.Kinds.{tree_kind, param_kinds}
use Rattle.gm_model.specs.Names.{Mention, is_among}
use Rattle.gm_parse.specs.Forms.{Form}
use Rattle.gm_parse.specs.Meaning.{Names, faults_in, tree_in}
use Rattle.gm_parse.specs.Meaning as meaning
use Rattle.gm_forms.specs.BookText.{ExprToken, SetForm, Item, NodeItem, LinkItem, ParamForm, RuleForm, IsValue, IsFaultInRules, IsNotAfter, fault_in_value, first_place, kind_of_embed, assignments_in, names_for, names_of, param_of, with_name}
use Rattle.gm_forms.specs.BookText as text
use Rattle.gm_book.specs.declared.names.NameFault.{NameFault}
use Rattle.gm_book.specs.declared.names.NameFault.TheVariants.{Twice, Unknown, WrongKind}

abbrev pub place_at : NameFault → ℕ
place_at (Twice place) = place
place_at (Unknown place) = place
place_at (WrongKind place) = place

abbrev pub rank_at : NameFault → ℕ
rank_at (Twice place) = 0
rank_at (Unknown place) = 1
rank_at (WrongKind place) = 2

abbrev pub is_before : NameFault → NameFault → Bool
is_before fault other = nat_lt (place_at fault) (place_at other) || (nat_eq (place_at fault) (place_at other) && nat_lt (rank_at fault) (rank_at other))

abbrev pub fault_of : NameFault → text.NameFault
fault_of (Twice place) = text.TwiceAt place
fault_of (Unknown place) = text.UnknownAt place
fault_of (WrongKind place) = text.WrongKindAt place

-- a fault, and no other counts before it; none where there is no fault
abbrev pub IsLeast : (NameFault → Type 0) → Option NameFault → Type 0
IsLeast IsFault None = (fault : NameFault) → IsFault fault → ⊥
IsLeast IsFault (Some least) = IsFault least × ((fault : NameFault) → IsFault fault → IsNotAfter (fault_of least) (fault_of fault))

abbrev pub IsLeastFault : ℕ → List Embed → List RuleForm → Option NameFault → Type 0
IsLeastFault n embeds rules = IsLeast (λ fault. IsFaultInRules n embeds rules (fault_of fault))

-- ---- the least fault of each part

abbrev pub least_of : Option NameFault → Option NameFault → Option NameFault
least_of None other = other
least_of (Some fault) None = Some fault
least_of (Some fault) (Some other) = if is_before other fault then Some other else Some fault

-- the mention of a name that is among these
abbrev pub again_at : List (List ℕ) → Mention → Option NameFault
again_at names mention = if is_among names mention.name then Some (Twice mention.place) else None

-- the names, and that of the item where it is a node
abbrev pub with_item : List (List ℕ) → Item → List (List ℕ)
with_item names (NodeItem node word hook sets) = with_name names node.name
with_item names (LinkItem from label to) = names

abbrev pub with_items : List (List ℕ) → List Item → List (List ℕ)
with_items names [] = names
with_items names (item ∷ items) = with_items (with_item names item) items

abbrev pub again_in : List (List ℕ) → Item → Option NameFault
again_in names (NodeItem node word hook sets) = again_at names node
again_in names (LinkItem from label to) = None

-- of the nodes whose names are among these or are those of nodes before
abbrev pub least_again : List (List ℕ) → List Item → Option NameFault
least_again names [] = None
least_again names (item ∷ items) = least_of (again_in names item) (least_again (with_item names item) items)

-- the mention of a name that is not among these
abbrev pub unknown_at : List (List ℕ) → Mention → Option NameFault
unknown_at names mention = if is_among names mention.name then None else Some (Unknown mention.place)

abbrev pub unknown_in : List (List ℕ) → Item → Option NameFault
unknown_in names (NodeItem node word hook sets) = None
unknown_in names (LinkItem from label to) = least_of (unknown_at names from) (unknown_at names to)

-- of the links' ends
abbrev pub least_unknown : List (List ℕ) → List Item → Option NameFault
least_unknown names [] = None
least_unknown names (item ∷ items) = least_of (unknown_in names item) (least_unknown names items)

abbrev pub side_least : List Item → Option NameFault
side_least items = least_of (least_again [] items) (least_unknown (with_items [] items) items)

-- of the parameters whose names are among these or are those of parameters before
abbrev pub least_param : List (List ℕ) → List ParamForm → Option NameFault
least_param names [] = None
least_param names (param ∷ params) = least_of (again_at names param.name) (least_param (with_name names param.name.name) params)

-- of the embeddings that are assigned, after assignments of these, where those are known
abbrev pub least_set : List (List ℕ) → List (List ℕ) → List SetForm → Option NameFault
least_set known names [] = None
least_set known names (set ∷ sets) = least_of (least_of (again_at names set.embed) (unknown_at known set.embed)) (least_set known (with_name names set.embed.name) sets)

abbrev pub set_in : List (List ℕ) → Item → Option NameFault
set_in known (NodeItem node word hook sets) = least_set known [] sets
set_in known (LinkItem from label to) = None

abbrev pub least_assigned : List (List ℕ) → List Item → Option NameFault
least_assigned known [] = None
least_assigned known (item ∷ items) = least_of (set_in known item) (least_assigned known items)

abbrev pub embed_names : Schema → List (List ℕ)
embed_names schema = map (λ (embed : Embed). embed.name) schema.embeds

-- of the names outside of expressions, where these embeddings are known
unfoldable pub rule_least : List (List ℕ) → RuleForm → Option NameFault
rule_least known rule = least_of (least_param [] rule.params) (least_of (least_assigned known rule.right) (least_of (side_least rule.left) (side_least rule.right)))

-- ---- the faults of parts

-- a name is mentioned that is among these or was mentioned before
abbrev pub IsAgainBehind : List (List ℕ) → List Mention → NameFault → Type 0
IsAgainBehind names mentions fault = (front : List Mention) × (mention : Mention) × (behind : List Mention) × (mentions ≡ front ++ mention ∷ behind) × (Twice mention.place ≡ fault) × ((is_among names mention.name || is_among (names_of front) mention.name) ≡ true)

-- a fault of an expression's names
abbrev pub IsFaultOfExpr : ℕ → Names → List ExprToken → NameFault → Type 0
IsFaultOfExpr n names tokens fault = (form : Form) × IsValue n tokens form × (found : meaning.NameFault) × Contains (faults_in names form) found × (fault_of fault ≡ fault_in_value found)

-- the expression's names are known, and it hasn't the kind that is needed
pub record IsOtherKind (n : ℕ) (embeds : List Embed) (params : List Param) (names : Names) (tokens : List ExprToken) (kind : Option Kind) (fault : NameFault) : Type 0 where
  pub needed : Kind
  pub asked : kind ≡ Some needed
  pub form : Form
  pub value : IsValue n tokens form
  pub known : faults_in names form ≡ []
  pub other : tree_kind embeds (param_kinds params) (tree_in names form) ≢ Some needed
  pub here : fault ≡ WrongKind (first_place tokens)

abbrev pub IsValueFault : ℕ → List Embed → List Param → Names → List ExprToken → Option Kind → NameFault → Type 0
IsValueFault n embeds params names tokens kind fault = IsFaultOfExpr n names tokens fault ⊎ IsOtherKind n embeds params names tokens kind fault

module _ (n : ℕ) (embeds : List Embed) (params : List Param) (names : Names) where
  abbrev pub IsSetFault : List SetForm → NameFault → Type 0
  IsSetFault sets fault = (set : SetForm) × Contains sets set × IsValueFault n embeds params names set.value (kind_of_embed embeds set.embed.name) fault

  abbrev pub IsPreFault : Option (List ExprToken) → NameFault → Type 0
  IsPreFault None fault = ⊥
  IsPreFault (Some tokens) fault = IsValueFault n embeds params names tokens (Some Truth) fault

  abbrev pub IsAssignedFault : List Item → NameFault → Type 0
  IsAssignedFault items fault = IsSetFault (assignments_in items) fault

module _ (n : ℕ) (embeds : List Embed) where
  abbrev pub IsFaultOfValues : RuleForm → NameFault → Type 0
  IsFaultOfValues rule fault = IsAssignedFault n embeds (map param_of rule.params) (names_for embeds rule) rule.right fault ⊎ IsPreFault n embeds (map param_of rule.params) (names_for embeds rule) rule.pre fault

  abbrev pub IsFaultInRule : RuleForm → NameFault → Type 0
  IsFaultInRule rule fault = IsFaultInRules n embeds (rule ∷ []) (fault_of fault)

  -- the rule has one of these names, or there is a fault in it
  abbrev pub IsRuleFault : List (List ℕ) → RuleForm → NameFault → Type 0
  IsRuleFault names rule fault = ((Twice rule.name.place ≡ fault) × (is_among names rule.name.name ≡ true)) ⊎ IsFaultInRule rule fault

  -- the same of one of the rules, after rules with these names
  abbrev pub IsFaultBehind : List (List ℕ) → List RuleForm → NameFault → Type 0
  IsFaultBehind names rules fault = IsAgainBehind names (map (λ (rule : RuleForm). rule.name) rules) fault ⊎ ((rule : RuleForm) × Contains rules rule × IsFaultInRule rule fault)
