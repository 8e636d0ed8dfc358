-- From the squares at each node to those of a rule, and from the first bad one at a node to the first of all.
use Rattle.std.proofs.Common.{ℕ, ◌+◌, ◌<◌, ◌≤◌, inl, inr, sym, subst, arith}
use Rattle.gm_model.specs.declared.rule.RuleFault.{RuleFault}
use Rattle.gm_model.specs.Rules.{Rule}
use Rattle.gm_model.specs.Squares.{IsSquareGood, IsSquareBefore, IsSquareFault, OpenSquare}
use Rattle.gm_cycle.specs.inner.NodeSquares.{HasNodeSquares, IsNodeFault}

-- the squares at x of labels up to n are good
abbrev pub HasSquaresAt : ℕ → Rule → ℕ → Type 0
HasSquaresAt n rule x = (i j : ℕ) → i + 2 ≤ j → j ≤ n → IsSquareGood rule x i j

pub squares_at : (n : ℕ) (rule : Rule) (x : ℕ) → HasNodeSquares rule x (n + 1) (n + 1) → HasSquaresAt n rule x
squares_at n rule x h i j a l = h i (omega arith) j a (omega arith)

module _ (n : ℕ) (rule : Rule) (x : ℕ) (fault : RuleFault) (earlier : (y : ℕ) → y < x → HasSquaresAt n rule y) (h : IsNodeFault rule x (n + 1) fault) where
  before : (y i j : ℕ) → IsSquareBefore y i j x h.i h.here.j → i + 2 ≤ j → j ≤ n → IsSquareGood rule y i j
  before y i j (inl b) a l = earlier y b i j a l
  before y i j (inr (inl p)) a l = subst (λ z. IsSquareGood rule z i j) (sym p.0) (h.before i p.1 j a (omega arith))
  before y i j (inr (inr p)) a l =
      let a' : h.i + 2 ≤ j = subst (λ k. k + 2 ≤ j) p.1 a in
      subst (λ z. IsSquareGood rule z i j) (sym p.0) (subst (λ k. IsSquareGood rule x k j) (sym p.1) (h.here.before j a' p.2))

  pub node_fault : IsSquareFault n rule fault
  node_fault = subst (IsSquareFault n rule) (sym h.here.is) (OpenSquare x h.i h.here.j record {
    apart = h.here.apart;
    label = (let b = h.here.label in omega arith);
    open_here = h.here.open_here;
    before = before;
  })
