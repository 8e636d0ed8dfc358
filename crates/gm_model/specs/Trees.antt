-- What an expression is, whichever boxes hold it: a tree.
use Rattle.std.specs.Prelude.{ℕ, ℤ, Bool}
use Rattle.gm_model.specs.declared.expr.DartTerm.{DartTerm}
use Rattle.gm_model.specs.declared.expr.UnOp.{UnOp}
use Rattle.gm_model.specs.declared.expr.BinOp.{BinOp}
use Rattle.gm_model.specs.declared.expr.Expr.{Expr}
use Rattle.gm_model.specs.declared.expr.Expr.TheVariants as expr
use Rattle.gm_model.specs.declared.word.Mask.{Mask}

-- Its leaves are as those of `Expr`, a number and a truth excepted: a dart term and a mask hold no box.
pub data Tree : Type 0 where
  Number : ℤ → Tree
  Truth : Bool → Tree
  Param : ℕ → Tree
  Field : DartTerm → ℕ → Tree
  Same : DartTerm → DartTerm → Tree
  Count : Mask → DartTerm → Tree
  Sum : Mask → DartTerm → ℕ → Tree
  Least : Mask → DartTerm → ℕ → Tree
  Greatest : Mask → DartTerm → ℕ → Tree
  Unary : UnOp → Tree → Tree
  Binary : BinOp → Tree → Tree → Tree
  If : Tree → Tree → Tree → Tree
  MakeVec2 : Tree → Tree → Tree
  MakeVec3 : Tree → Tree → Tree → Tree
  MakeRgb : Tree → Tree → Tree → Tree

-- A variant with boxes shows each box's place before what it holds.
abbrev pub tree_of : Expr → Tree
tree_of (expr.Int n) = Number n
tree_of (expr.Bool b) = Truth b
tree_of (expr.Param at) = Param at
tree_of (expr.Field d e) = Field d e
tree_of (expr.Same d d') = Same d d'
tree_of (expr.Count mask d) = Count mask d
tree_of (expr.Sum mask d e) = Sum mask d e
tree_of (expr.Least mask d e) = Least mask d e
tree_of (expr.Greatest mask d e) = Greatest mask d e
tree_of (expr.Unary' op p a) = Unary op (tree_of a)
tree_of (expr.Binary' op p a q b) = Binary op (tree_of a) (tree_of b)
tree_of (expr.If' p c q a r b) = If (tree_of c) (tree_of a) (tree_of b)
tree_of (expr.MakeVec2' p a q b) = MakeVec2 (tree_of a) (tree_of b)
tree_of (expr.MakeVec3' p a q b r c) = MakeVec3 (tree_of a) (tree_of b) (tree_of c)
tree_of (expr.MakeRgb' p a q b r c) = MakeRgb (tree_of a) (tree_of b) (tree_of c)
