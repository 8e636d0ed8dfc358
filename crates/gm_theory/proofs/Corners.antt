-- A square that closes at one node closes at its other corners, and a closed square commutes in the result.
use Rattle.std.proofs.Common.{◌≡◌, ℕ, refl, subst, inl, inr}
use Rattle.gm_model.specs.declared.step.Step.{Step}
use Rattle.gm_model.specs.declared.step.Step.TheVariants.{Absent, Exp, Imp}
use Rattle.gm_model.specs.Squares.{IsApart, ClosesBy, Closes}

pub apart_swap : (i j : ℕ) → IsApart i j → IsApart j i
apart_swap i j (inl h) = inr h
apart_swap i j (inr h) = inl h

module _ (steps : ℕ → ℕ → Step) (label : ℕ → ℕ) where
  -- the order of the two labels is no part of it
  pub closes_swap : (x i j : ℕ) → Closes steps label x i j → Closes steps label x j i
  closes_swap x i j h = go (steps x i) (steps x j) h
    where
      go : (s t : Step) → ClosesBy steps label i j s t → ClosesBy steps label j i t s
      go (Exp y) (Exp z) (w, a, b) = (w, b, a)
      go (Exp y) (Imp m) h = h
      go (Imp m) (Exp z) h = h
      go (Imp m) (Imp m') h = apart_swap (label m) (label m') h
      go Absent t h = elim h [ ]
      go (Exp y) Absent h = elim h [ ]
      go (Imp m) Absent h = elim h [ ]

  -- a square that closes has both its steps
  pub closes_absent : (x i j : ℕ) → steps x i ≡ Absent → Closes steps label x i j → ⊥
  closes_absent x i j e h = go (steps x j) (subst (λ s. ClosesBy steps label i j s (steps x j)) e h)
    where
      go : (t : Step) → ClosesBy steps label i j Absent t → ⊥
      go t h = h

  -- Where the square of the i-neighbour y of x closes, that of x does: with that the square of x closes at its other corners.
  pub corner : (IsNode : ℕ → Type 0) (x y i j : ℕ) → ((z k : ℕ) → IsNode z → steps z i ≡ Exp k → steps k i ≡ Exp z) → ((z k : ℕ) → IsNode z → steps z j ≡ Exp k → IsNode k) →
      IsNode y → steps x i ≡ Exp y → steps y i ≡ Exp x → Closes steps label y i j → Closes steps label x i j
  corner IsNode x y i j back on node e f h = go (steps y j) refl (subst (λ s. ClosesBy steps label i j s (steps y j)) f h)
    where
      at_x : (t : Step) → steps x j ≡ t → ClosesBy steps label i j (Exp y) t → Closes steps label x i j
      at_x t g c = rw (e, g) c

      go : (t : Step) → steps y j ≡ t → ClosesBy steps label i j (Exp x) t → Closes steps label x i j
      go (Exp w) g (v, a, b) = at_x (Exp v) a (w, g, back w v (on y w node g) b)
      go (Imp m) g a = at_x (Imp m) a g
      go Absent g a = elim a [ ]
