-- Worked expressions: their canonical texts, by computation, and one that is read again.
use Rattle.std.proofs.Common.{◌≡◌, ℕ, List, [], ◌∷◌, Some, None, length, codes, refl, pos, arith}
use Rattle.std.proofs.lemmas.Fmt.{decimal_digit}
use Rattle.gm_model.specs.declared.expr.BinOp.TheVariants.{Add, Sub, Mul, Div, Eq, Lt}
use Rattle.gm_model.specs.declared.expr.DartTerm.{DartTerm}
use Rattle.gm_model.specs.declared.expr.UnOp.TheVariants.{Neg, Not}
use Rattle.gm_model.specs.declared.rule.Param.{Param}
use Rattle.gm_model.specs.declared.schema.Embed.{Embed}
use Rattle.gm_model.specs.declared.value.Kind.TheVariants.{Vec2, Int, Bool, Vec3, Rgb}
use Rattle.gm_model.specs.declared.value.Kind.{Kind}
use Rattle.gm_model.specs.declared.word.Mask.{Mask}
use Rattle.gm_model.specs.Rules.{RuleNode}
use Rattle.gm_model.specs.Kinds.{tree_kind}
use Rattle.gm_model.specs.Symbols.{marks_of}
use Rattle.gm_model.specs.Trees.{Tree, Number, Param as Parameter, Field, Same, Count, Sum, Unary, Binary, If}
use Rattle.gm_parse.specs.Meaning.{Names}
use Rattle.gm_text.specs.SchemaText.{labels_in}
use Rattle.gm_expr.specs.ExprText.{tree_text}
use Rattle.gm_expr.specs.inner.Whole.{IsReadWhole}
use Rattle.gm_expr.specs.inner.Writable.{AreGoodNames, names_of}
use Rattle.gm_expr.proofs.CanonicalRead.{short_read}

abbrev face : Mask
face = record { bits = 3 }

-- pos and colour
abbrev embeds : List Embed
embeds = record { name = codes "pos"; mask = face; kind = Vec2 } ∷ record { name = codes "colour"; mask = face; kind = Rgb } ∷ []

-- a, b, c and v, and the truth x
abbrev params : List Param
params = record { name = codes "a"; kind = Int } ∷ record { name = codes "b"; kind = Int } ∷ record { name = codes "c"; kind = Int } ∷ record { name = codes "v"; kind = Vec2 } ∷ record { name = codes "x"; kind = Bool } ∷ []

abbrev node_a : RuleNode
node_a = record { name = codes "a"; left = Some []; right = None; sets = [] }

abbrev text : Tree → List ℕ
text tree = tree_text embeds params (node_a ∷ []) tree

abbrev dart : List ℕ → DartTerm
dart path = record { node = 0; path = path }

abbrev pos_at_a : Tree
pos_at_a = Field (dart []) 0

abbrev number : ℕ → Tree
number n = Number (pos n)

abbrev a : Tree
a = Parameter 0

abbrev b : Tree
b = Parameter 1

abbrev c : Tree
c = Parameter 2

-- ---- parentheses where a part binds less than its place asks for

middle : text (Binary Div (Binary Add pos_at_a (Binary Mul (Parameter 3) (number 2))) (number 2)) ≡ codes "(a.pos + v * 2) / 2"
middle = rw (decimal_digit 2 (omega arith)) refl

minus_of_minus : text (Binary Sub (number 1) (Unary Neg (number 2))) ≡ codes "1 - -2"
minus_of_minus = rw (decimal_digit 1 (omega arith), decimal_digit 2 (omega arith)) refl

twice_minus : text (Unary Neg (Unary Neg (number 2))) ≡ codes "--2"
twice_minus = rw (decimal_digit 2 (omega arith)) refl

minus_of_product : text (Unary Neg (Binary Mul a b)) ≡ codes "-(a * b)"
minus_of_product = refl

product_with_minus : text (Binary Mul (Unary Neg a) b) ≡ codes "-a * b"
product_with_minus = refl

difference_on_right : text (Binary Sub a (Binary Sub b c)) ≡ codes "a - (b - c)"
difference_on_right = refl

difference_on_left : text (Binary Sub (Binary Sub a b) c) ≡ codes "a - b - c"
difference_on_left = refl

comparison_on_left : text (Binary Eq (Binary Eq a b) c) ≡ codes "(a == b) == c"
comparison_on_left = refl

not_on_right : text (Binary Eq (number 1) (Unary Not (Parameter 4))) ≡ codes "1 == (not x)"
not_on_right = rw (decimal_digit 1 (omega arith)) refl

choice_in_sum : text (Binary Add (If (Parameter 4) a b) (number 1)) ≡ codes "(if x then a else b) + 1"
choice_in_sum = rw (decimal_digit 1 (omega arith)) refl

-- ---- what is read at darts

barycentre : text (Binary Div (Sum face (dart []) 0) (Count face (dart []))) ≡ codes "sum<0 1>(a.pos) / count<0 1>(a)"
unfolding labels_in
barycentre = rw (decimal_digit 0 (omega arith), decimal_digit 1 (omega arith)) refl

along_a_path : text (Same (dart (0 ∷ 1 ∷ [])) (dart [])) ≡ codes "same(a@0@1, a)"
along_a_path = rw (decimal_digit 0 (omega arith), decimal_digit 1 (omega arith)) refl

-- ---- kinds

abbrev kinds : List Kind
kinds = Int ∷ Int ∷ Int ∷ Vec2 ∷ Bool ∷ []

sum_of_colours : tree_kind embeds kinds (Sum face (dart []) 1) ≡ Some Vec3
sum_of_colours = refl

colours_have_no_order : tree_kind embeds kinds (Binary Lt (Field (dart []) 1) (Field (dart []) 1)) ≡ None
colours_have_no_order = refl

scaled : tree_kind embeds kinds (Binary Mul (Parameter 3) (number 2)) ≡ Some Vec2
scaled = refl

-- ---- read again

abbrev names : Names
names = names_of embeds params (node_a ∷ [])

good : AreGoodNames embeds params (node_a ∷ [])
good = record {
  embeds_are = (((omega arith, (refl, refl)), refl), (((omega arith, (refl, refl)), refl), tt));
  params_are = (((omega arith, (refl, refl)), refl), (((omega arith, (refl, refl)), refl), (((omega arith, (refl, refl)), refl), (((omega arith, (refl, refl)), refl), (((omega arith, (refl, refl)), refl), tt)))));
  nodes_are = (((omega arith, (refl, refl)), refl), tt);
}

-- a name can be a node's and a parameter's
read_again : IsReadWhole 2 names (codes "a.pos - (a - b)") (Binary Sub pos_at_a (Binary Sub a b))
read_again =
    let many : length (marks_of (codes "a.pos - (a - b)")) ≡ 10 = refl in
    short_read embeds params (node_a ∷ []) good 2 (omega arith) (Binary Sub pos_at_a (Binary Sub a b)) (((refl, tt), refl), (refl, refl)) names refl refl refl (omega (arith, many))
