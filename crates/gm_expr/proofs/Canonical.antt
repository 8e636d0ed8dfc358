-- The canonical form of a tree: the form that its canonical text spells, with names and labels at the places of marks.
use Rattle.std.proofs.Common.{ℕ, pos, ℤ, negsuc, Bool, true, false, List, [], ◌∷◌, codes}
use Rattle.std.specs.Prelude.{nat_lt}
use Rattle.gm_model.specs.declared.expr.DartTerm.{DartTerm}
use Rattle.gm_model.specs.declared.expr.UnOp.{UnOp}
use Rattle.gm_model.specs.declared.expr.UnOp.TheVariants as unary
use Rattle.gm_model.specs.declared.rule.Param.{Param}
use Rattle.gm_model.specs.declared.schema.Embed.{Embed}
use Rattle.gm_model.specs.declared.word.Mask.{Mask}
use Rattle.gm_model.specs.Names.{Mention}
use Rattle.gm_model.specs.Rules.{RuleNode, name_at}
use Rattle.gm_model.specs.Symbols.{Mark}
use Rattle.gm_model.specs.Trees.{Tree, Number, Truth, Param as Parameter, Field, Same, Count, Sum, Least, Greatest, Unary, Binary, If, MakeVec2, MakeVec3, MakeRgb}
use Rattle.gm_text.specs.SchemaText.{LabelForm, labels_in}
use Rattle.gm_parse.specs.declared.key.Collector.{Collector}
use Rattle.gm_parse.specs.declared.key.Collector.TheVariants as collectors
use Rattle.gm_parse.specs.Forms.{TermForm, Form, NumberForm, TruthForm, ParamForm, FieldForm, SameForm, CountForm, CollectForm, CallForm, ParenForm, MinusForm, NotForm, BinaryForm, IfForm, First, Further}
use Rattle.gm_parse.specs.Levels.{least_of_part, least_on_left, least_on_right}
use Rattle.gm_expr.specs.ExprText.{level, param_name, embed_name}

-- ---- marks gone past

abbrev pub behind : List Mark → List Mark
behind [] = []
behind (mark ∷ marks) = marks

abbrev pub place_in : List Mark → ℕ
place_in [] = 0
place_in (mark ∷ marks) = mark.place

abbrev pub at : List Mark → List ℕ → Mention
at marks name = record { name = name; place = place_in marks }

-- ---- orbits and terms

abbrev pub behind_labels : List ℕ → List Mark → List Mark
behind_labels [] marks = marks
behind_labels (label ∷ labels) marks = behind_labels labels (behind marks)

abbrev pub labels_at : List Mark → List ℕ → List LabelForm
labels_at marks [] = []
labels_at marks (label ∷ labels) = record { label = label; place = place_in marks } ∷ labels_at (behind marks) labels

-- behind < 0 1 >, from the first sign on
abbrev pub behind_orbit : Mask → List Mark → List Mark
behind_orbit mask marks = behind (behind_labels (labels_in mask) (behind marks))

abbrev pub orbit_at : List Mark → Mask → List LabelForm
orbit_at marks mask = labels_at (behind marks) (labels_in mask)

abbrev pub behind_path : List ℕ → List Mark → List Mark
behind_path [] marks = marks
behind_path (label ∷ path) marks = behind_path path (behind (behind marks))

abbrev pub behind_term : DartTerm → List Mark → List Mark
behind_term term marks = behind_path term.path (behind marks)

-- behind a.pos
abbrev pub behind_field : DartTerm → List Mark → List Mark
behind_field term marks = behind (behind (behind_term term marks))

-- ---- trees

-- the number that is written, which isn't below 0
abbrev pub written : ℤ → ℕ
written (pos n) = n
written (negsuc n) = 0

abbrev pub function_name : UnOp → List ℕ
function_name unary.Neg = codes "-"
function_name unary.Not = codes "not"
function_name unary.X = codes "x"
function_name unary.Y = codes "y"
function_name unary.Z = codes "z"
function_name unary.Red = codes "red"
function_name unary.Green = codes "green"
function_name unary.Blue = codes "blue"

-- with a function and parentheses, an operator before its part, or one between its parts
abbrev pub unary_form : UnOp → Mention → Form → Form
unary_form unary.Neg name part = MinusForm part
unary_form unary.Not name part = NotForm part
unary_form _ name part = CallForm name (First part)

-- the marks at the part behind the operator, or behind the function's name and parenthesis
abbrev pub within_unary : UnOp → List Mark → List Mark
within_unary unary.Neg marks = behind marks
within_unary unary.Not marks = behind marks
within_unary _ marks = behind (behind marks)

abbrev pub behind_unary : UnOp → List Mark → List Mark
behind_unary unary.Neg marks = marks
behind_unary unary.Not marks = marks
behind_unary _ marks = behind marks

-- in parentheses exactly where the tree binds less than its place asks for
abbrev pub is_wrapped : ℕ → Tree → Bool
is_wrapped least tree = nat_lt (level tree) least

abbrev pub enclosed : Bool → Form → Form
enclosed true form = ParenForm form
enclosed false form = form

abbrev pub within : Bool → List Mark → List Mark
within true marks = behind marks
within false marks = marks

-- the marks left behind the tree's canonical text
abbrev pub behind_tree : Tree → List Mark → List Mark
behind_tree (Number n) marks = behind marks
behind_tree (Truth b) marks = behind marks
behind_tree (Parameter k) marks = behind marks
behind_tree (Field d e) marks = behind_field d marks
behind_tree (Same d d') marks = behind (behind_term d' (behind (behind_term d (behind (behind marks)))))
behind_tree (Count o d) marks = behind (behind_term d (behind (behind_orbit o (behind marks))))
behind_tree (Sum o d e) marks = behind (behind_field d (behind (behind_orbit o (behind marks))))
behind_tree (Least o d e) marks = behind (behind_field d (behind (behind_orbit o (behind marks))))
behind_tree (Greatest o d e) marks = behind (behind_field d (behind (behind_orbit o (behind marks))))
behind_tree (Unary op a) marks = let b = is_wrapped (least_of_part op) a in behind_unary op (within b (behind_tree a (within b (within_unary op marks))))
behind_tree (Binary op a b) marks =
    let left = is_wrapped (least_on_left op) a in
    let right = is_wrapped (least_on_right op) b in
    within right (behind_tree b (within right (behind (within left (behind_tree a (within left marks))))))
behind_tree (If c a b) marks = behind_tree b (behind (behind_tree a (behind (behind_tree c (behind marks)))))
behind_tree (MakeVec2 a b) marks = behind (behind_tree b (behind (behind_tree a (behind (behind marks)))))
behind_tree (MakeVec3 a b c) marks = behind (behind_tree c (behind (behind_tree b (behind (behind_tree a (behind (behind marks)))))))
behind_tree (MakeRgb a b c) marks = behind (behind_tree c (behind (behind_tree b (behind (behind_tree a (behind (behind marks)))))))

-- over the embeddings of a schema, and the parameters and nodes of a rule
module _ (embeds : List Embed) (params : List Param) (nodes : List RuleNode) where
  abbrev pub term_at : List Mark → DartTerm → TermForm
  term_at marks term = record { node = at marks (name_at nodes term.node); path = term.path }

  abbrev pub embed_at : List Mark → ℕ → Mention
  embed_at marks e = at marks (embed_name embeds e)

  abbrev pub collect_at : List Mark → Collector → Mask → DartTerm → ℕ → Form
  collect_at marks collector mask term e =
      let inside = behind (behind_orbit mask (behind marks)) in
      CollectForm collector (orbit_at (behind marks) mask) (term_at inside term) (embed_at (behind (behind_term term inside)) e)

  abbrev pub form_at : List Mark → Tree → Form
  form_at marks (Number n) = NumberForm (written n)
  form_at marks (Truth b) = TruthForm b
  form_at marks (Parameter k) = ParamForm (at marks (param_name params k))
  form_at marks (Field d e) = FieldForm (term_at marks d) (embed_at (behind (behind_term d marks)) e)
  form_at marks (Same d d') = SameForm (term_at (behind (behind marks)) d) (term_at (behind (behind_term d (behind (behind marks)))) d')
  form_at marks (Count o d) = CountForm (orbit_at (behind marks) o) (term_at (behind (behind_orbit o (behind marks))) d)
  form_at marks (Sum o d e) = collect_at marks collectors.Sum o d e
  form_at marks (Least o d e) = collect_at marks collectors.Least o d e
  form_at marks (Greatest o d e) = collect_at marks collectors.Greatest o d e
  form_at marks (Unary op a) = let b = is_wrapped (least_of_part op) a in unary_form op (at marks (function_name op)) (enclosed b (form_at (within b (within_unary op marks)) a))
  form_at marks (Binary op a b) =
      let left = is_wrapped (least_on_left op) a in
      let right = is_wrapped (least_on_right op) b in
      let middle = behind (within left (behind_tree a (within left marks))) in
      BinaryForm op (enclosed left (form_at (within left marks) a)) (enclosed right (form_at (within right middle) b))
  form_at marks (If c a b) =
      let second = behind (behind_tree c (behind marks)) in
      let third = behind (behind_tree a second) in
      IfForm (form_at (behind marks) c) (form_at second a) (form_at third b)
  form_at marks (MakeVec2 a b) =
      let first = behind (behind marks) in
      CallForm (at marks (codes "vec2")) (Further (First (form_at first a)) (form_at (behind (behind_tree a first)) b))
  form_at marks (MakeVec3 a b c) =
      let first = behind (behind marks) in
      let second = behind (behind_tree a first) in
      CallForm (at marks (codes "vec3")) (Further (Further (First (form_at first a)) (form_at second b)) (form_at (behind (behind_tree b second)) c))
  form_at marks (MakeRgb a b c) =
      let first = behind (behind marks) in
      let second = behind (behind_tree a first) in
      CallForm (at marks (codes "rgb")) (Further (Further (First (form_at first a)) (form_at second b)) (form_at (behind (behind_tree b second)) c))
