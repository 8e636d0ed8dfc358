-- How a book of rules is written: the grammar of its texts with their limits and faults, and the schema and the rules that a text stands for.
use Rattle.std.specs.Prelude.{◌≡◌, ◌≢◌, ℕ, ◌+◌, ◌<◌, ◌≤◌, ◌⊎◌, Bool, true, false, nat_lt, if◌then◌else◌, List, [], ◌∷◌, ◌++◌, length, map, Option, Some, None, is_some, slice_get, codes, IsTrue}
use Rattle.std.specs.List.{flat_map, position, position_or_len, AllByRecursion, AllZip, Contains}
use Rattle.std.specs.Option.{option_map, option_and_then}
use Rattle.std.specs.Str.{bytes_eq}
use Rattle.gm_model.specs.declared.limit.TheConstants.{MOST_LETTERS, MOST_LINKS, MOST_NAME_BYTES, MOST_NODES, MOST_PARAMS, MOST_RULES}
use Rattle.gm_model.specs.declared.limit.LimitKind.{LimitKind}
use Rattle.gm_model.specs.declared.limit.LimitKind.TheVariants as limits
use Rattle.gm_model.specs.declared.word.Letter.{Letter}
use Rattle.gm_model.specs.declared.word.Letter.TheVariants as letters
use Rattle.gm_model.specs.declared.rule.Link.{Link}
use Rattle.gm_model.specs.declared.rule.Param.{Param}
use Rattle.gm_model.specs.declared.rule.Side.{Side}
use Rattle.gm_model.specs.declared.rule.Side.TheVariants.{Left, Right}
use Rattle.gm_model.specs.declared.schema.Embed.{Embed}
use Rattle.gm_model.specs.declared.schema.Schema.{Schema}
use Rattle.gm_model.specs.declared.value.Kind.{Kind}
use Rattle.gm_model.specs.declared.value.Kind.TheVariants.{Bool as Truth}
use Rattle.gm_model.specs.Kinds.{param_kinds, tree_kind}
use Rattle.gm_model.specs.Symbols.{Symbol, Word, Numeral, Sign, Gone, marks_of}
use Rattle.gm_model.specs.Names.{Mention, IsFree, is_among}
use Rattle.gm_model.specs.Rules.{Rule, RuleNode, Assignment}
use Rattle.gm_model.specs.Reading.{Part, word, number, sign, the_end, in_role, ArePlaced, IsReadAs, TextEndsAt, LimitStandsAt}
use Rattle.gm_model.specs.Trees.{Tree}
use Rattle.gm_text.specs.SchemaText as schemas
use Rattle.gm_text.specs.SchemaText.{SchemaForm, schema_of, names_in, spell, is_again, kind_word}
use Rattle.gm_parse.specs.Forms.{Form, IsGood}
use Rattle.gm_parse.specs.Meaning as meaning
use Rattle.gm_parse.specs.Meaning.{Names, embed_number, faults_in, tree_in}
use Rattle.gm_parse.specs.Spelling as exprs
use Rattle.gm_parse.specs.Spelling.{Counted, limit_in, parts_of}

-- ---- what is written in a book

-- a symbol of an expression, with its place and with its role there
pub record ExprToken : Type 0 where
  pub symbol : Symbol
  pub place : ℕ
  pub role : Counted

-- an assignment: the name of an embedding, and the expression of its value
pub record SetForm : Type 0 where
  pub embed : Mention
  pub value : List ExprToken

-- what a side of a rule lists
pub data Item : Type 0 where
  -- a node with its word, whether it is a hook, and its assignments
  NodeItem : Mention → List Letter → Bool → List SetForm → Item
  -- a link from a node with a label to a node
  LinkItem : Mention → ℕ → Mention → Item

-- a parameter as it is declared
pub record ParamForm : Type 0 where
  pub name : Mention
  pub kind : Kind

-- a rule as it is written, before its names are looked up
pub record RuleForm : Type 0 where
  pub name : Mention
  pub params : List ParamForm
  pub left : List Item
  pub right : List Item
  pub pre : Option (List ExprToken)

pub record BookForm : Type 0 where
  pub version : ℕ
  pub schema : SchemaForm
  pub rules : List RuleForm

abbrev pub items_on : RuleForm → Side → List Item
items_on rule Left = rule.left
items_on rule Right = rule.right

-- ---- expressions in it

abbrev pub part_of : ExprToken → Part Counted
part_of token = record { symbol = token.symbol; role = token.role }

-- a name and a label of an orbit have the place of their token
abbrev pub IsTokenPlaced : ExprToken → Type 0
IsTokenPlaced token = exprs.IsPlacedAt token.place token.role.role

-- the tokens spell an expression of this form, in which labels go up to n
pub record IsValue (n : ℕ) (tokens : List ExprToken) (form : Form) : Type 0 where
  pub good : IsGood form
  pub spelled : map part_of tokens ≡ parts_of n form
  pub placed : AllByRecursion IsTokenPlaced tokens

abbrev pub IsExpr : ℕ → List ExprToken → Type 0
IsExpr n tokens = (form : Form) × IsValue n tokens form

abbrev pub first_place : List ExprToken → ℕ
first_place [] = 0
first_place (token ∷ tokens) = token.place

-- the assignments of each node
abbrev pub sets_of : List Item → List (List SetForm)
sets_of [] = []
sets_of (NodeItem node word hook sets ∷ items) = sets ∷ sets_of items
sets_of (LinkItem from label to ∷ items) = sets_of items

abbrev pub assignments_in : List Item → List SetForm
assignments_in items = flat_map (λ (sets : List SetForm). sets) (sets_of items)

-- ---- names in it

-- the names, and this one if it is new
abbrev pub with_name : List (List ℕ) → List ℕ → List (List ℕ)
with_name names name = if is_among names name then names else names ++ name ∷ []

abbrev pub names_of : List Mention → List (List ℕ)
names_of mentions = map (λ (mention : Mention). mention.name) mentions

-- the names that are declared as parameters, in order
abbrev pub params_in : RuleForm → List Mention
params_in rule = map (λ (param : ParamForm). param.name) rule.params

-- the names of embeddings that are assigned, in order
abbrev pub embeds_in : List SetForm → List Mention
embeds_in sets = map (λ (set : SetForm). set.embed) sets

-- the names that are mentioned as nodes, in order
abbrev pub nodes_in : List Item → List Mention
nodes_in [] = []
nodes_in (NodeItem node word hook sets ∷ items) = node ∷ nodes_in items
nodes_in (LinkItem from label to ∷ items) = nodes_in items

-- the names that links mention, in order
abbrev pub ends_in : List Item → List Mention
ends_in [] = []
ends_in (NodeItem node word hook sets ∷ items) = ends_in items
ends_in (LinkItem from label to ∷ items) = from ∷ to ∷ ends_in items

-- how many of the items are hooks
abbrev pub hook_count : List Item → ℕ
hook_count [] = 0
hook_count (NodeItem node word hook sets ∷ items) = if hook then hook_count items + 1 else hook_count items
hook_count (LinkItem from label to ∷ items) = hook_count items

-- How many there are so far: the different names that the rule mentions as nodes, and the links of the side.
pub record Count : Type 0 where
  pub nodes : List (List ℕ)
  pub links : ℕ

abbrev pub no_count : Count
no_count = record { nodes = []; links = 0 }

abbrev pub count_after : Count → Item → Count
count_after count (NodeItem node word hook sets) = record count { nodes = with_name count.nodes node.name }
count_after count (LinkItem from label to) = record count { links = count.links + 1 }

abbrev pub counted : Count → List Item → Count
counted count [] = count
counted count (item ∷ items) = counted (count_after count item) items

-- the right side begins without links
abbrev pub count_across : Count → Count
count_across count = record { nodes = count.nodes; links = 0 }

-- ---- the grammar

-- What a symbol of a book's text is there for. An ordinal counts from 1, the symbol included.
pub data Role : Type 0 where
  -- a word or sign of the format, its version, or the end
  Fixed : Role
  -- a role within the schema
  InSchema : schemas.Role → Role
  -- the word `rule` of the rule with this ordinal
  RuleWord : ℕ → Role
  -- a name, at this place
  NameAt : ℕ → Role
  -- the name of the parameter with this ordinal of its rule, at this place
  ParamName : ℕ → ℕ → Role
  -- the sign after a name that makes it a node, where the rule then has this many different nodes
  NodeSign : ℕ → Role
  -- the sign after a name that makes it the beginning of a link, the one with this ordinal of its side
  LinkSign : ℕ → Role
  -- a letter of a word, with this ordinal; labels go up to the number before it
  LetterAt : ℕ → ℕ → Role
  -- the label of a link; labels go up to the number
  LabelAt : ℕ → Role
  -- a role within an expression, of a symbol at this place
  InExpr : ℕ → Counted → Role

-- The limit that a symbol passes in a role; of two the one that stands first in the list of limits. A name that is declared again passes none.
abbrev pub limit_of : Role → Symbol → Option LimitKind
limit_of (InSchema role) symbol = schemas.limit_of role symbol
limit_of (InExpr place role) symbol = limit_in role symbol
limit_of (LabelAt n) (Numeral i) = if nat_lt n i then Some limits.Label else None
limit_of (LetterAt n k) (Numeral i) = if nat_lt n i then Some limits.Label else (if nat_lt MOST_LETTERS k then Some limits.Word else None)
limit_of (LetterAt n k) Gone = if nat_lt MOST_LETTERS k then Some limits.Word else None
limit_of (NameAt place) (Word name) = if nat_lt MOST_NAME_BYTES (length name) then Some limits.Name else None
limit_of (ParamName k place) (Word name) = if nat_lt MOST_NAME_BYTES (length name) then Some limits.Name else (if nat_lt MOST_PARAMS k then Some limits.Parameters else None)
limit_of (RuleWord k) (Word word) = if nat_lt MOST_RULES k then Some limits.Rules else None
limit_of (NodeSign k) (Sign sign) = if nat_lt MOST_NODES k then Some limits.Nodes else None
limit_of (LinkSign k) (Sign sign) = if nat_lt MOST_LINKS k then Some limits.Links else None
limit_of _ _ = None

-- The sign after a name tells whether it is a node or a link's. The limits on nodes and links stand at the name.
abbrev pub stands_before : Role → Bool
stands_before (NodeSign k) = true
stands_before (LinkSign k) = true
stands_before _ = false

abbrev pub named : Mention → Part Role
named mention = word (NameAt mention.place) mention.name

abbrev pub letter : Role → Letter → Part Role
letter role (letters.At i) = number role i
letter role letters.Gone = record { symbol = Gone; role = role }

-- Each spelling takes what stands after it.

-- letters up to label n, after k of them
abbrev pub spell_letters : ℕ → ℕ → List Letter → List (Part Role) → List (Part Role)
spell_letters n k [] rest = rest
spell_letters n k (x ∷ word) rest = letter (LetterAt n (k + 1)) x ∷ spell_letters n (k + 1) word rest

abbrev pub spell_hook : Bool → List (Part Role) → List (Part Role)
spell_hook true rest = word Fixed (codes "hook") ∷ rest
spell_hook false rest = rest

-- a token of an expression as a part of the book
abbrev pub in_expr : ExprToken → Part Role
in_expr token = record { symbol = token.symbol; role = InExpr token.place token.role }

abbrev pub spell_value : List ExprToken → List (Part Role) → List (Part Role)
spell_value tokens rest = map in_expr tokens ++ rest

-- with pos = a.pos
abbrev pub spell_sets : List SetForm → List (Part Role) → List (Part Role)
spell_sets [] rest = rest
spell_sets (set ∷ sets) rest = word Fixed (codes "with") ∷ named set.embed ∷ sign Fixed (codes "=") ∷ spell_value set.value (spell_sets sets rest)

-- a <0 1> hook, a <0 1> with pos = a.pos, or a -1- b
abbrev pub spell_item : ℕ → Count → Item → List (Part Role) → List (Part Role)
spell_item n count (NodeItem node word hook sets) rest =
    named node ∷ sign (NodeSign (length (with_name count.nodes node.name))) (codes "<")
    ∷ spell_letters n 0 word (sign Fixed (codes ">") ∷ spell_hook hook (spell_sets sets rest))
spell_item n count (LinkItem from label to) rest =
    named from ∷ sign (LinkSign (count.links + 1)) (codes "-") ∷ number (LabelAt n) label ∷ sign Fixed (codes "-") ∷ named to ∷ rest

abbrev pub spell_items : ℕ → Count → List Item → List (Part Role) → List (Part Role)
spell_items n count [] rest = rest
spell_items n count (item ∷ items) rest = spell_item n count item (spell_items n (count_after count item) items rest)

-- pre a.pos == a@0.pos
abbrev pub spell_pre : Option (List ExprToken) → List (Part Role) → List (Part Role)
spell_pre None rest = rest
spell_pre (Some tokens) rest = word Fixed (codes "pre") ∷ spell_value tokens rest

-- v: vec3, the parameter with this ordinal
abbrev pub spell_param : ℕ → ParamForm → List (Part Role) → List (Part Role)
spell_param k param rest = word (ParamName k param.name.place) param.name.name ∷ sign Fixed (codes ":") ∷ word Fixed (kind_word param.kind) ∷ rest

-- what stands after k parameters: these ones and the sign that ends them
abbrev pub spell_more_params : ℕ → List ParamForm → List (Part Role) → List (Part Role)
spell_more_params k [] rest = sign Fixed (codes ")") ∷ rest
spell_more_params k (param ∷ params) rest = sign Fixed (codes ",") ∷ spell_param (k + 1) param (spell_more_params (k + 1) params rest)

-- (v: vec3, w: int), and nothing where there is no parameter
abbrev pub spell_params : List ParamForm → List (Part Role) → List (Part Role)
spell_params [] rest = rest
spell_params (param ∷ params) rest = sign Fixed (codes "(") ∷ spell_param 1 param (spell_more_params 1 params rest)

-- rule r(v: vec3) left .. right .. pre ..
abbrev pub spell_rule : ℕ → ℕ → RuleForm → List (Part Role) → List (Part Role)
spell_rule n k rule rest =
    word (RuleWord k) (codes "rule") ∷ named rule.name
    ∷ spell_params rule.params (word Fixed (codes "left")
    ∷ spell_items n no_count rule.left (word Fixed (codes "right") ∷ spell_items n (count_across (counted no_count rule.left)) rule.right (spell_pre rule.pre rest)))

-- rules after k of them
abbrev pub spell_rules : ℕ → ℕ → List RuleForm → List (Part Role) → List (Part Role)
spell_rules n k [] rest = rest
spell_rules n k (rule ∷ rules) rest = spell_rule n (k + 1) rule (spell_rules n (k + 1) rules rest)

-- book 2 dim 3 embed ..
abbrev pub header : ℕ → SchemaForm → List (Part Role) → List (Part Role)
header version schema rest = word Fixed (codes "book") ∷ number Fixed version ∷ (map (in_role InSchema) (spell schema []) ++ rest)

abbrev pub spelling : BookForm → List (Part Role)
spelling book = header book.version book.schema (spell_rules book.schema.dim 0 book.rules (the_end Fixed ∷ []))

abbrev pub IsSet : ℕ → SetForm → Type 0
IsSet n set = IsFree set.embed × IsExpr n set.value

-- only a left node can be a hook, and only a right one can have assignments
abbrev pub IsItem : ℕ → Side → Item → Type 0
IsItem n Left (NodeItem node word hook sets) = IsFree node × (sets ≡ [])
IsItem n Right (NodeItem node word hook sets) = IsFree node × (hook ≡ false) × AllByRecursion (IsSet n) sets
IsItem n side (LinkItem from label to) = IsFree from × IsFree to

abbrev pub IsParam : ParamForm → Type 0
IsParam param = IsFree param.name

abbrev pub IsPre : ℕ → Option (List ExprToken) → Type 0
IsPre n None = Unit {0}
IsPre n (Some tokens) = IsExpr n tokens

-- in version 1 a rule has one hook at most
pub record IsRule (version n : ℕ) (rule : RuleForm) : Type 0 where
  pub name : IsFree rule.name
  pub params : AllByRecursion IsParam rule.params
  pub left : AllByRecursion (IsItem n Left) rule.left
  pub right : AllByRecursion (IsItem n Right) rule.right
  pub pre : IsPre n rule.pre
  pub few_hooks : version ≡ 1 → hook_count rule.left ≤ 1

abbrev pub IsForm : BookForm → Type 0
IsForm book = ((book.version ≡ 1) ⊎ (book.version ≡ 2)) × schemas.IsForm book.schema × AllByRecursion (IsRule book.version book.schema.dim) book.rules

abbrev pub IsSentence : List (Part Role) → Type 0
IsSentence parts = (book : BookForm) × IsForm book × (parts ≡ spelling book)

-- ---- how a text is read

-- each name, each label of an orbit and each symbol of an expression knows its place
abbrev pub IsPlacedAt : ℕ → Role → Type 0
IsPlacedAt place (NameAt named) = named ≡ place
IsPlacedAt place (ParamName k named) = named ≡ place
IsPlacedAt place (InSchema role) = schemas.IsPlacedAt place role
IsPlacedAt place (InExpr named role) = named ≡ place
IsPlacedAt place _ = Unit {0}

-- this is written in the text, and passes no limit
pub record IsWritten (text : List ℕ) (book : BookForm) : Type 0 where
  pub form : IsForm book
  pub read : IsReadAs IsSentence limit_of (marks_of text) (spelling book)
  pub placed : ArePlaced IsPlacedAt (marks_of text) (spelling book)

-- the first fault of a text by the grammar and its limits
abbrev pub IsTextFault : List ℕ → ℕ → Type 0
IsTextFault text place = TextEndsAt IsSentence limit_of (marks_of text) place

abbrev pub IsLimitFault : List ℕ → LimitKind → ℕ → Type 0
IsLimitFault text what place = LimitStandsAt IsSentence limit_of stands_before (marks_of text) what place

-- ---- what names an expression can use

-- the different nodes of a rule in the order of their first mention, left nodes first
abbrev pub nodes_of : RuleForm → List (List ℕ)
nodes_of rule = (counted (counted no_count rule.left) rule.right).nodes

-- the word with which the items mention the name as a node
abbrev pub word_in : List Item → List ℕ → Option (List Letter)
word_in [] name = None
word_in (NodeItem node word hook sets ∷ items) name = if bytes_eq name node.name then Some word else word_in items name
word_in (LinkItem from label to ∷ items) name = word_in items name

-- the assignments of the node that the items mention with the name
abbrev pub sets_in : List Item → List ℕ → List SetForm
sets_in [] name = []
sets_in (NodeItem node word hook sets ∷ items) name = if bytes_eq name node.name then sets else sets_in items name
sets_in (LinkItem from label to ∷ items) name = sets_in items name

abbrev pub name_if_left : RuleForm → List ℕ → Option (List ℕ)
name_if_left rule name = if is_some (word_in rule.left name) then Some name else None

-- the embeddings, the rule's parameters and its left nodes, by their numbers
abbrev pub names_for : List Embed → RuleForm → Names
names_for embeds rule = record {
  embeds = map (λ (embed : Embed). embed.name) embeds;
  params = map (λ (param : ParamForm). param.name.name) rule.params;
  nodes = map (name_if_left rule) (nodes_of rule);
}

abbrev pub param_of : ParamForm → Param
param_of param = record { name = param.name.name; kind = param.kind }

-- the kind that a tree has in the rule, where it has one
abbrev pub kind_in : List Embed → RuleForm → Tree → Option Kind
kind_in embeds rule tree = tree_kind embeds (param_kinds (map param_of rule.params)) tree

-- the kind of the embedding with the name
abbrev pub kind_of_embed : List Embed → List ℕ → Option Kind
kind_of_embed embeds name = option_and_then (λ e. option_map (λ (embed : Embed). embed.kind) (slice_get embeds e)) (position (bytes_eq name) (names_in embeds))

-- ---- faults of names

-- at this place a name is mentioned that was mentioned before
pub record IsAgain (mentions : List Mention) (place : ℕ) : Type 0 where
  pub front : List Mention
  pub mention : Mention
  pub behind : List Mention
  pub split : mentions ≡ front ++ mention ∷ behind
  pub here : mention.place ≡ place
  pub again : IsTrue (is_among (names_of front) mention.name)

-- at this place a link mentions a name that no node of its side has
pub record IsStranger (items : List Item) (place : ℕ) : Type 0 where
  pub mention : Mention
  pub among : Contains (ends_in items) mention
  pub here : mention.place ≡ place
  pub stranger : is_among (names_of (nodes_in items)) mention.name ≡ false

-- a name that is declared, or an embedding that is assigned, again, or a label that is mentioned again in its orbit; a name that stands for nothing; or an expression of another kind than its place needs
pub data NameFault : Type 0 where
  TwiceAt : ℕ → NameFault
  UnknownAt : ℕ → NameFault
  WrongKindAt : ℕ → NameFault

abbrev pub place_of : NameFault → ℕ
place_of (TwiceAt place) = place
place_of (UnknownAt place) = place
place_of (WrongKindAt place) = place

-- at one place they count in this order
abbrev pub rank_of : NameFault → ℕ
rank_of (TwiceAt place) = 0
rank_of (UnknownAt place) = 1
rank_of (WrongKindAt place) = 2

-- the first stands at a lesser place, or at the same one and counts no later
abbrev pub IsNotAfter : NameFault → NameFault → Type 0
IsNotAfter fault other = (place_of fault < place_of other) ⊎ ((place_of fault ≡ place_of other) × (rank_of fault ≤ rank_of other))

-- a fault of an expression's names as one of the book
abbrev pub fault_in_value : meaning.NameFault → NameFault
fault_in_value (meaning.UnknownAt place) = UnknownAt place
fault_in_value (meaning.TwiceAt place) = TwiceAt place

-- an expression of the rule
pub data IsValueIn (rule : RuleForm) (tokens : List ExprToken) : Type 0 where
  SetValue : (set : SetForm) → Contains (assignments_in rule.right) set → set.value ≡ tokens → IsValueIn rule tokens
  PreValue : rule.pre ≡ Some tokens → IsValueIn rule tokens

-- the expression's names are known, and it hasn't the kind
pub record HasOtherKind (n : ℕ) (embeds : List Embed) (rule : RuleForm) (tokens : List ExprToken) (kind : Kind) : Type 0 where
  pub form : Form
  pub value : IsValue n tokens form
  pub known : faults_in (names_for embeds rule) form ≡ []
  pub other : kind_in embeds rule (tree_in (names_for embeds rule) form) ≢ Some kind

-- Labels go up to the number, and embeddings are those of the schema.
-- Two rules of one name; or in one rule two parameters of one name, or on one side of it two nodes of one name, or a link with a name that is no node;
-- or on one node two assignments of an embedding, or an assignment of a name that is no embedding; or a fault of an expression's names, or of its kind
pub data IsFaultInRules (n : ℕ) (embeds : List Embed) (rules : List RuleForm) : NameFault → Type 0 where
  RuleTwice : (place : ℕ) → IsAgain (map (λ (rule : RuleForm). rule.name) rules) place → IsFaultInRules n embeds rules (TwiceAt place)
  ParamTwice : (rule : RuleForm) (place : ℕ) → Contains rules rule → IsAgain (params_in rule) place → IsFaultInRules n embeds rules (TwiceAt place)
  NodeTwice : (rule : RuleForm) (side : Side) (place : ℕ) → Contains rules rule → IsAgain (nodes_in (items_on rule side)) place → IsFaultInRules n embeds rules (TwiceAt place)
  NodeUnknown : (rule : RuleForm) (side : Side) (place : ℕ) → Contains rules rule → IsStranger (items_on rule side) place → IsFaultInRules n embeds rules (UnknownAt place)
  SetTwice : (rule : RuleForm) (sets : List SetForm) (place : ℕ) → Contains rules rule → Contains (sets_of rule.right) sets → IsAgain (embeds_in sets) place → IsFaultInRules n embeds rules (TwiceAt place)
  SetUnknown : (rule : RuleForm) (set : SetForm) → Contains rules rule → Contains (assignments_in rule.right) set → is_among (names_in embeds) set.embed.name ≡ false → IsFaultInRules n embeds rules (UnknownAt set.embed.place)
  ValueFault : (rule : RuleForm) (tokens : List ExprToken) (form : Form) (fault : meaning.NameFault) → Contains rules rule → IsValueIn rule tokens → IsValue n tokens form
      → Contains (faults_in (names_for embeds rule) form) fault → IsFaultInRules n embeds rules (fault_in_value fault)
  SetKind : (rule : RuleForm) (set : SetForm) (kind : Kind) → Contains rules rule → Contains (assignments_in rule.right) set → kind_of_embed embeds set.embed.name ≡ Some kind
      → HasOtherKind n embeds rule set.value kind → IsFaultInRules n embeds rules (WrongKindAt (first_place set.value))
  PreKind : (rule : RuleForm) (tokens : List ExprToken) → Contains rules rule → rule.pre ≡ Some tokens → HasOtherKind n embeds rule tokens Truth → IsFaultInRules n embeds rules (WrongKindAt (first_place tokens))

-- two embeddings of one name or a label twice in one orbit, or such a fault in the rules
pub data IsNameFault (book : BookForm) : NameFault → Type 0 where
  SchemaTwice : (place : ℕ) (part : Part schemas.Role) → Contains (spell book.schema []) part → IsTrue (is_again part.role part.symbol) → schemas.IsPlacedAt place part.role → IsNameFault book (TwiceAt place)
  RulesFault : (fault : NameFault) → IsFaultInRules book.schema.dim (schema_of book.schema).embeds book.rules fault → IsNameFault book fault

-- The text is read whole before its names are. Of their faults the one at the least place counts.
pub record IsFirstNameFault (text : List ℕ) (fault : NameFault) : Type 0 where
  pub book : BookForm
  pub written : IsWritten text book
  pub found : IsNameFault book fault
  pub first : (other : NameFault) → IsNameFault book other → IsNotAfter fault other

-- ---- what a text stands for

abbrev pub number_of : List (List ℕ) → Mention → ℕ
number_of nodes mention = position_or_len (bytes_eq mention.name) nodes

-- the links, by the numbers of their nodes
abbrev pub links_in : List (List ℕ) → List Item → List Link
links_in nodes [] = []
links_in nodes (NodeItem node word hook sets ∷ items) = links_in nodes items
links_in nodes (LinkItem from label to ∷ items) = record { from = number_of nodes from; label = label; to = number_of nodes to } ∷ links_in nodes items

-- the hooks, by their numbers
abbrev pub hooks_in : List (List ℕ) → List Item → List ℕ
hooks_in nodes [] = []
hooks_in nodes (NodeItem node word true sets ∷ items) = number_of nodes node ∷ hooks_in nodes items
hooks_in nodes (NodeItem node word false sets ∷ items) = hooks_in nodes items
hooks_in nodes (LinkItem from label to ∷ items) = hooks_in nodes items

abbrev pub node_in : RuleForm → (List ℕ → List Assignment) → List ℕ → RuleNode
node_in rule sets name = record { name = name; left = word_in rule.left name; right = word_in rule.right name; sets = sets name }

-- the rule of a form, with the assignments of its nodes by their names, and with its precondition
abbrev pub rule_in : (List ℕ → List Assignment) → Option Tree → RuleForm → Rule
rule_in sets pre rule = record {
  name = rule.name.name;
  params = map param_of rule.params;
  nodes = map (node_in rule sets) (nodes_of rule);
  left_links = links_in (nodes_of rule) rule.left;
  right_links = links_in (nodes_of rule) rule.right;
  hooks = hooks_in (nodes_of rule) rule.left;
  pre = pre;
}

-- the expression means the tree
pub record MeansTree (n : ℕ) (names : Names) (tokens : List ExprToken) (tree : Tree) : Type 0 where
  pub form : Form
  pub value : IsValue n tokens form
  pub means : tree ≡ tree_in names form

pub record MeansSet (n : ℕ) (names : Names) (set : SetForm) (assignment : Assignment) : Type 0 where
  pub embed : embed_number names set.embed ≡ Some assignment.embed
  pub tree : MeansTree n names set.value assignment.tree

abbrev pub MeansPre : ℕ → Names → Option (List ExprToken) → Option Tree → Type 0
MeansPre n names None pre = pre ≡ None
MeansPre n names (Some tokens) pre = (tree : Tree) × (pre ≡ Some tree) × MeansTree n names tokens tree

-- labels go up to the number, and embeddings are those of the schema
pub record MeansRule (n : ℕ) (embeds : List Embed) (form : RuleForm) (rule : Rule) : Type 0 where
  pub sets : List ℕ → List Assignment
  pub pre : Option Tree
  pub each : (name : List ℕ) → IsTrue (is_among (nodes_of form) name) → AllZip (MeansSet n (names_for embeds form)) (sets_in form.right name) (sets name)
  pub holds : MeansPre n (names_for embeds form) form.pre pre
  pub same : rule ≡ rule_in sets pre form

-- the text is one of this version, and stands for the schema and these rules over it
pub record BookText (text : List ℕ) (version : ℕ) (schema : Schema) (rules : List Rule) : Type 0 where
  pub book : BookForm
  pub written : IsWritten text book
  pub sound : (fault : NameFault) → IsNameFault book fault → ⊥
  pub versions : version ≡ book.version
  pub means : schema ≡ schema_of book.schema
  pub same : AllZip (MeansRule book.schema.dim (schema_of book.schema).embeds) book.rules rules

abbrev pub StandsForNoBook : List ℕ → Type 0
StandsForNoBook text = (version : ℕ) (schema : Schema) (rules : List Rule) → BookText text version schema rules → ⊥
