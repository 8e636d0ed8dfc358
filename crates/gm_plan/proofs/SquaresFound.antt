-- The squares of a rule are all good, or there is a first that is not.
use Rattle.std.proofs.Common.{◌≡◌, ℕ, ◌+◌, ◌<◌, ◌≤◌, ◌⊎◌, IsTrue, length, refl, sym, ◌∙◌, ap, subst, inl, inr, arith}
use Rattle.std.proofs.lemmas.Bool.{cases_eq}
use Rattle.gm_model.specs.declared.rule.RuleFault.{RuleFault}
use Rattle.gm_model.specs.declared.rule.RuleFault.TheVariants as faults
use Rattle.gm_model.specs.declared.rule.Side.TheVariants.{Left, Right}
use Rattle.gm_model.specs.declared.step.Step.{Step}
use Rattle.gm_model.specs.declared.step.Step.TheVariants.{Absent, Exp, Imp}
use Rattle.gm_model.specs.Rules.{Rule, has_word, is_preserved, step, hook_label}
use Rattle.gm_model.specs.Squares.{IsApart, ClosesBy, IsSameStep, IsExcused, IsSquareGood, HasSquares, IsSquareBefore, IsSquareFault, OpenSquare}
use Rattle.gm_plan.proofs.Decided.{decide_true, decide_at_most, decide_three, decide_either, decide_where, decide_not, stable}
use Rattle.gm_theory.proofs.FirstFound.{IsFirstPair, first_pair}
use Rattle.gm_theory.proofs.RuleSteps.{word_below}
use Rattle.gm_theory.proofs.ValuesFound.{IsLeast, least_below}
use Rattle.gm_theory.proofs.ValuesReach.{IsDecided}

decide_step : (s t : Step) → IsDecided (s ≡ t)
decide_step Absent Absent = inl refl
decide_step Absent (Exp z) = inr (λ e. cc)
decide_step Absent (Imp m') = inr (λ e. cc)
decide_step (Exp y) Absent = inr (λ e. cc)
decide_step (Exp y) (Exp z) = go (cases_eq y z)
  where
    node : Exp y ≡ Exp z → y ≡ z
    node e = cc

    go : (y ≡ z) ⊎ (y ≡ z → ⊥) → IsDecided (Exp y ≡ Exp z)
    go (inl e) = inl (ap Exp e)
    go (inr apart) = inr (λ e. apart (node e))
decide_step (Exp y) (Imp m') = inr (λ e. cc)
decide_step (Imp m) Absent = inr (λ e. cc)
decide_step (Imp m) (Exp z) = inr (λ e. cc)
decide_step (Imp m) (Imp m') = go (cases_eq m m')
  where
    place : Imp m ≡ Imp m' → m ≡ m'
    place e = cc

    go : (m ≡ m') ⊎ (m ≡ m' → ⊥) → IsDecided (Imp m ≡ Imp m')
    go (inl e) = inl (ap Imp e)
    go (inr apart) = inr (λ e. apart (place e))

-- both steps lead to one node
decide_meet : (s t : Step) → IsDecided ((w : ℕ) × (s ≡ Exp w) × (t ≡ Exp w))
decide_meet Absent t = inr (λ h. (let e = h.1 in cc))
decide_meet (Imp m) t = inr (λ h. (let e = h.1 in cc))
decide_meet (Exp w) t = go (decide_step t (Exp w))
  where
    node : (v : ℕ) → Exp w ≡ Exp v → v ≡ w
    node v e = cc

    go : IsDecided (t ≡ Exp w) → IsDecided ((v : ℕ) × (Exp w ≡ Exp v) × (t ≡ Exp v))
    go (inl e) = inl (w, refl, e)
    go (inr apart) = inr (λ h. apart (h.2 ∙ ap Exp (node h.0 h.1)))

decide_apart : (i j : ℕ) → IsDecided (IsApart i j)
decide_apart i j = decide_either (decide_at_most (i + 2) j) (decide_at_most (j + 2) i)

decide_closes : (steps : ℕ → ℕ → Step) (label : ℕ → ℕ) (i j : ℕ) (s t : Step) → IsDecided (ClosesBy steps label i j s t)
decide_closes steps label i j (Exp y) (Exp z) = decide_meet (steps y j) (steps z i)
decide_closes steps label i j (Exp y) (Imp m) = decide_step (steps y j) (Imp m)
decide_closes steps label i j (Imp m) (Exp z) = decide_step (steps z i) (Imp m)
decide_closes steps label i j (Imp m) (Imp m') = decide_apart (label m) (label m')
decide_closes steps label i j Absent t = inr (λ h. h)
decide_closes steps label i j (Exp y) Absent = inr (λ h. h)
decide_closes steps label i j (Imp m) Absent = inr (λ h. h)

module _ (rule : Rule) where
  decide_excused : (x i j : ℕ) → IsDecided (IsExcused rule x i j)
  decide_excused x i j = go (decide_true (is_preserved rule x)) (same i) (same j)
    where
      same : (k : ℕ) → IsDecided (IsSameStep rule x k)
      same k = decide_step (step rule Left x k) (step rule Right x k)

      go : IsDecided (IsTrue (is_preserved rule x)) → IsDecided (IsSameStep rule x i) → IsDecided (IsSameStep rule x j) → IsDecided (IsExcused rule x i j)
      go (inl preserved) (inl same_i) (inl same_j) = inl (record { preserved = preserved; same_i = same_i; same_j = same_j })
      go (inr none) second third = inr (λ e. none e.preserved)
      go first (inr none) third = inr (λ e. none e.same_i)
      go first second (inr none) = inr (λ e. none e.same_j)

  decide_square : (x i j : ℕ) → IsDecided (IsSquareGood rule x i j)
  decide_square x i j = decide_where (decide_true (has_word rule Right x))
      (decide_either (decide_excused x i j) (decide_closes (step rule Right) (hook_label rule) i j (step rule Right x i) (step rule Right x j)))

  module _ (n : ℕ) where
    -- the square of i and j at x must close, and doesn't
    abbrev IsOpen : ℕ → ℕ → ℕ → Type 0
    IsOpen x i j = (i + 2 ≤ j) × (j ≤ n) × (IsSquareGood rule x i j → ⊥)

    decide_open : (x i j : ℕ) → IsDecided (IsOpen x i j)
    decide_open x i j = decide_three (decide_at_most (i + 2) j) (decide_at_most j n) (decide_not (decide_square x i j))

    abbrev HasOpen : ℕ → Type 0
    HasOpen x = (i : ℕ) × (j : ℕ) × (i < n + 1) × IsFirstPair (IsOpen x) (decide_open x) (n + 1) i j

    abbrev HasNoOpen : ℕ → Type 0
    HasNoOpen x = (i j : ℕ) → i < n + 1 → j < n + 1 → IsOpen x i j → ⊥

    open_or_none : (x : ℕ) → HasOpen x ⊎ HasNoOpen x
    open_or_none x = first_pair (IsOpen x) (decide_open x) (n + 1) (n + 1)

    decide_node : (x : ℕ) → IsDecided (HasOpen x)
    decide_node x = go (open_or_none x)
      where
        go : HasOpen x ⊎ HasNoOpen x → IsDecided (HasOpen x)
        go (inl first) = inl first
        go (inr none) = inr (λ first. none first.0 first.1 first.2 first.3.within first.3.here)

    -- where a node has no first open square it has none
    closed : (x i j : ℕ) → (HasOpen x → ⊥) → i + 2 ≤ j → j ≤ n → IsSquareGood rule x i j
    closed x i j none apart low = stable (decide_square x i j) (λ fails. go fails (open_or_none x))
      where
        go : (IsSquareGood rule x i j → ⊥) → HasOpen x ⊎ HasNoOpen x → ⊥
        go fails (inl first) = none first
        go fails (inr nowhere) = nowhere i j (omega (arith, apart, low)) (omega (arith, low)) (apart, low, fails)

    fault_at : (x i j : ℕ) → i < n + 1 → IsFirstPair (IsOpen x) (decide_open x) (n + 1) i j → ((y : ℕ) → y < x → HasOpen y → ⊥) → IsSquareFault n rule (faults.Square x i j)
    fault_at x i j b first earlier = OpenSquare x i j (record { apart = first.here.0; label = first.here.1; open_here = first.here.2; before = before })
      where
        before : (y i' j' : ℕ) → IsSquareBefore y i' j' x i j → i' + 2 ≤ j' → j' ≤ n → IsSquareGood rule y i' j'
        before y i' j' (inl less) apart low = closed y i' j' (earlier y less) apart low
        before y i' j' (inr (inl (same, less))) apart low = subst (λ z. IsSquareGood rule z i' j') (sym same)
            (stable (decide_square x i' j') (λ fails. first.before i' j' (inl less) (omega (arith, low)) (apart, low, fails)))
        before y i' j' (inr (inr (same, again, less))) apart low = subst (λ z. IsSquareGood rule z i' j') (sym same)
            (stable (decide_square x i' j') (λ fails. first.before i' j' (inr (again, less)) (omega (arith, low)) (apart, low, fails)))

    pub squares_or_fault : HasSquares n rule ⊎ ((fault : RuleFault) × IsSquareFault n rule fault)
    squares_or_fault = go (least_below HasOpen decide_node (length rule.nodes))
      where
        go : ((x : ℕ) × (x < length rule.nodes) × IsLeast HasOpen x) ⊎ ((x : ℕ) → x < length rule.nodes → HasOpen x → ⊥) → HasSquares n rule ⊎ ((fault : RuleFault) × IsSquareFault n rule fault)
        go (inl (x, b, ((i, j, c, first), earlier))) = inr (faults.Square x i j, fault_at x i j c first earlier)
        go (inr none) = inl (λ x i j apart low on_right. closed x i j (none x (word_below rule Right x on_right)) apart low on_right)
