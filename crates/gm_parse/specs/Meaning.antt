-- What a form of an expression means where names are known: its tree, and the faults of its names.
use Rattle.std.specs.Prelude.{◌≡◌, ℕ, ◌<◌, ◌≤◌, ◌⊎◌, pos, Bool, false, if◌then◌else◌, List, [], ◌∷◌, ◌++◌, map, Option, Some, None, is_some, nat_eq, codes}
use Rattle.std.specs.List.{Contains, position}
use Rattle.std.specs.Option.{unwrap_or}
use Rattle.std.specs.Str.{bytes_eq}
use Rattle.gm_model.specs.declared.expr.DartTerm.{DartTerm}
use Rattle.gm_model.specs.declared.expr.UnOp.TheVariants as unary
use Rattle.gm_model.specs.declared.rule.Node.{Node}
use Rattle.gm_model.specs.declared.rule.Param.{Param}
use Rattle.gm_model.specs.declared.schema.Embed.{Embed}
use Rattle.gm_model.specs.declared.schema.Schema.{Schema}
use Rattle.gm_model.specs.declared.word.Mask.{Mask}
use Rattle.gm_model.specs.Labels.{has}
use Rattle.gm_model.specs.Names.{Mention}
use Rattle.gm_model.specs.Trees.{Tree, Number, Truth, Param as Parameter, Field, Same, Count, Sum, Least, Greatest, Unary, Binary, If, MakeVec2, MakeVec3, MakeRgb}
use Rattle.gm_text.specs.SchemaText.{LabelForm, no_labels, with_label, with_labels}
use Rattle.gm_parse.specs.declared.function.Function.{Function}
use Rattle.gm_parse.specs.declared.function.Function.TheVariants as functions
use Rattle.gm_parse.specs.declared.key.Collector.{Collector}
use Rattle.gm_parse.specs.declared.key.Collector.TheVariants as collectors
use Rattle.gm_parse.specs.Forms.{TermForm, Form, NumberForm, TruthForm, ParamForm, FieldForm, SameForm, CountForm, CollectForm, CallForm, ParenForm, MinusForm, NotForm, BinaryForm, IfForm, Arguments, First, Further, count_of}

-- ---- names

-- The names that an expression can use. A node that isn't a left one has none here.
pub record Names : Type 0 where
  pub embeds : List (List ℕ)
  pub params : List (List ℕ)
  pub nodes : List (Option (List ℕ))

abbrev pub left_name : Node → Option (List ℕ)
left_name node = if is_some node.left then Some node.name else None

-- those of a schema, and of a rule's parameters and nodes
abbrev pub names_in : Schema → List Param → List Node → Names
names_in schema params nodes = record {
  embeds = map (λ (embed : Embed). embed.name) schema.embeds;
  params = map (λ (param : Param). param.name) params;
  nodes = map left_name nodes;
}

abbrev pub number_of : List (List ℕ) → List ℕ → Option ℕ
number_of names name = position (bytes_eq name) names

abbrev pub is_named : List ℕ → Option (List ℕ) → Bool
is_named name (Some other) = bytes_eq name other
is_named name None = false

abbrev pub embed_number : Names → Mention → Option ℕ
embed_number names mention = number_of names.embeds mention.name

abbrev pub param_number : Names → Mention → Option ℕ
param_number names mention = number_of names.params mention.name

abbrev pub node_number : Names → Mention → Option ℕ
node_number names mention = position (is_named mention.name) names.nodes

-- ---- functions

abbrev pub function_named : List ℕ → Option Function
function_named name =
    if bytes_eq name (codes "vec2") then Some functions.Vec2
    else (if bytes_eq name (codes "vec3") then Some functions.Vec3
    else (if bytes_eq name (codes "rgb") then Some functions.Rgb
    else (if bytes_eq name (codes "x") then Some (functions.Part unary.X)
    else (if bytes_eq name (codes "y") then Some (functions.Part unary.Y)
    else (if bytes_eq name (codes "z") then Some (functions.Part unary.Z)
    else (if bytes_eq name (codes "red") then Some (functions.Part unary.Red)
    else (if bytes_eq name (codes "green") then Some (functions.Part unary.Green)
    else (if bytes_eq name (codes "blue") then Some (functions.Part unary.Blue)
    else None))))))))

-- how many arguments it takes
abbrev pub arity : Function → ℕ
arity functions.Vec2 = 2
arity functions.Vec3 = 3
arity functions.Rgb = 3
arity (functions.Part op) = 1

abbrev pub with_arity : Option Function → ℕ → Option Function
with_arity None count = None
with_arity (Some function) count = if nat_eq (arity function) count then Some function else None

-- the function with this name and this many arguments
abbrev pub function_of : List ℕ → ℕ → Option Function
function_of name count = with_arity (function_named name) count

-- ---- faults of names

pub data NameFault : Type 0 where
  -- what is named at the place isn't known
  UnknownAt : ℕ → NameFault
  -- the label at the place was mentioned before in its orbit
  TwiceAt : ℕ → NameFault

abbrev pub fault_place : NameFault → ℕ
fault_place (UnknownAt place) = place
fault_place (TwiceAt place) = place

-- at one place they count in this order
abbrev pub fault_rank : NameFault → ℕ
fault_rank (TwiceAt place) = 0
fault_rank (UnknownAt place) = 1

-- the first stands at a lesser place, or at the same one and counts no later
abbrev pub IsNotAfter : NameFault → NameFault → Type 0
IsNotAfter fault other = (fault_place fault < fault_place other) ⊎ ((fault_place fault ≡ fault_place other) × (fault_rank fault ≤ fault_rank other))

-- of a mention that names what was found
abbrev pub unknown : {A : Type 0} → Mention → Option A → List NameFault
unknown mention (Some found) = []
unknown mention None = UnknownAt mention.place ∷ []

-- of the labels of an orbit, after those of the mask
abbrev pub again_in : Mask → List LabelForm → List NameFault
again_in mask [] = []
again_in mask (form ∷ forms) = (if has mask form.label then TwiceAt form.place ∷ [] else []) ++ again_in (with_label mask form.label) forms

abbrev pub orbit_faults : List LabelForm → List NameFault
orbit_faults orbit = again_in no_labels orbit

module _ (names : Names) where
  abbrev pub term_faults : TermForm → List NameFault
  term_faults term = unknown term.node (node_number names term.node)

  abbrev pub field_faults : TermForm → Mention → List NameFault
  field_faults term embed = term_faults term ++ unknown embed (embed_number names embed)

  abbrev mutual
    -- each fault of a name in the form
    pub faults_in : Form → List NameFault
    faults_in (NumberForm n) = []
    faults_in (TruthForm b) = []
    faults_in (ParamForm name) = unknown name (param_number names name)
    faults_in (FieldForm term embed) = field_faults term embed
    faults_in (SameForm left right) = term_faults left ++ term_faults right
    faults_in (CountForm orbit term) = orbit_faults orbit ++ term_faults term
    faults_in (CollectForm collector orbit term embed) = orbit_faults orbit ++ field_faults term embed
    faults_in (CallForm name arguments) = argument_faults arguments ++ unknown name (function_of name.name (count_of arguments))
    faults_in (ParenForm part) = faults_in part
    faults_in (MinusForm part) = faults_in part
    faults_in (NotForm part) = faults_in part
    faults_in (BinaryForm op left right) = faults_in left ++ faults_in right
    faults_in (IfForm c a b) = faults_in c ++ faults_in a ++ faults_in b

    pub argument_faults : Arguments → List NameFault
    argument_faults (First form) = faults_in form
    argument_faults (Further arguments form) = argument_faults arguments ++ faults_in form

  -- no other counts before it
  pub record IsFirstFault (form : Form) (fault : NameFault) : Type 0 where
    pub there : Contains (faults_in form) fault
    pub least : (other : NameFault) → Contains (faults_in form) other → IsNotAfter fault other

-- ---- trees

abbrev pub mask_of : List LabelForm → Mask
mask_of orbit = with_labels no_labels orbit

abbrev pub collect : Collector → Mask → DartTerm → ℕ → Tree
collect collectors.Sum = Sum
collect collectors.Least = Least
collect collectors.Greatest = Greatest

-- the function of its arguments; where their number isn't the function's, no tree is meant
abbrev pub call_of : Option Function → List Tree → Tree
call_of (Some functions.Vec2) (a ∷ b ∷ []) = MakeVec2 a b
call_of (Some functions.Vec3) (a ∷ b ∷ c ∷ []) = MakeVec3 a b c
call_of (Some functions.Rgb) (a ∷ b ∷ c ∷ []) = MakeRgb a b c
call_of (Some (functions.Part op)) (a ∷ []) = Unary op a
call_of _ _ = Truth false

-- The tree that a form without faults means. Parentheses leave no trace.
module _ (names : Names) where
  abbrev pub term_in : TermForm → DartTerm
  term_in term = record { node = unwrap_or (node_number names term.node) 0; path = term.path }

  abbrev pub embed_in : Mention → ℕ
  embed_in mention = unwrap_or (embed_number names mention) 0

  abbrev mutual
    pub tree_in : Form → Tree
    tree_in (NumberForm n) = Number (pos n)
    tree_in (TruthForm b) = Truth b
    tree_in (ParamForm name) = Parameter (unwrap_or (param_number names name) 0)
    tree_in (FieldForm term embed) = Field (term_in term) (embed_in embed)
    tree_in (SameForm left right) = Same (term_in left) (term_in right)
    tree_in (CountForm orbit term) = Count (mask_of orbit) (term_in term)
    tree_in (CollectForm collector orbit term embed) = collect collector (mask_of orbit) (term_in term) (embed_in embed)
    tree_in (CallForm name arguments) = call_of (function_named name.name) (trees_in arguments)
    tree_in (ParenForm part) = tree_in part
    tree_in (MinusForm part) = Unary unary.Neg (tree_in part)
    tree_in (NotForm part) = Unary unary.Not (tree_in part)
    tree_in (BinaryForm op left right) = Binary op (tree_in left) (tree_in right)
    tree_in (IfForm c a b) = If (tree_in c) (tree_in a) (tree_in b)

    pub trees_in : Arguments → List Tree
    trees_in (First form) = tree_in form ∷ []
    trees_in (Further arguments form) = trees_in arguments ++ tree_in form ∷ []

-- ---- what is read

-- each number of the tree is one that can be written
abbrev pub IsUnsigned : Tree → Type 0
IsUnsigned (Number n) = (k : ℕ) × (n ≡ pos k)
IsUnsigned (Unary op a) = IsUnsigned a
IsUnsigned (Binary op a b) = IsUnsigned a × IsUnsigned b
IsUnsigned (If c a b) = IsUnsigned c × IsUnsigned a × IsUnsigned b
IsUnsigned (MakeVec2 a b) = IsUnsigned a × IsUnsigned b
IsUnsigned (MakeVec3 a b c) = IsUnsigned a × IsUnsigned b × IsUnsigned c
IsUnsigned (MakeRgb a b c) = IsUnsigned a × IsUnsigned b × IsUnsigned c
IsUnsigned _ = Unit {0}
