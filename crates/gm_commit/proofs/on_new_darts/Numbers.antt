-- The numbers of new darts: one below their count for each added node and position.
use Rattle.std.proofs.Common.{◌≡◌, ℕ, zero, suc, ◌+◌, ◌-◌, ◌*◌, ◌<◌, ◌⊎◌, false, length, IsTrue, ap, ◌∙◌, subst, inl, inr, arith, mul_comm}
use Rattle.std.proofs.lemmas.Bool.{cases_lt}
use Rattle.gm_model.specs.Rules.{Rule, is_added}
use Rattle.gm_model.specs.Unfolding.{added_before, added_nodes}
use Rattle.gm_theory.proofs.NewNames.{added_step, added_earlier, block_below}
use Rattle.gm_theory.proofs.Tests.{true_or_false}

module _ (rule : Rule) (k : ℕ) where
  -- the number stands for an added node and a position
  pub record IsNumbered (number : ℕ) : Type 0 where
    pub node : ℕ
    pub position : ℕ
    pub added : IsTrue (is_added rule node)
    pub within : position < k
    pub is : number ≡ added_before rule node * k + position

  pub numbered : (x number : ℕ) → number < added_before rule x * k → IsNumbered number
  numbered zero number h = absurd (omega arith)
  numbered (suc x) number h = go (true_or_false (is_added rule x)) (λ l. numbered x number l)
    where
      go : IsTrue (is_added rule x) ⊎ (is_added rule x ≡ false) → (number < added_before rule x * k → IsNumbered number) → IsNumbered number
      go (inr none) earlier = earlier (subst (λ n. number < n * k) (let e : added_before rule (suc x) ≡ added_before rule x = rw none (omega arith) in e) h)
      go (inl a) earlier = elim (cases_lt number (added_before rule x * k)) [
        | inl l ↦ earlier l
        | inr l ↦
            let more : added_before rule (suc x) * k ≡ added_before rule x * k + k = ap (λ n. n * k) (added_step rule x a) ∙ omega arith in
            record { node = x; position = number - added_before rule x * k; added = a; within = omega (arith, more); is = omega arith }
      ]

  pub number_below : (x p : ℕ) → IsTrue (is_added rule x) → x < length rule.nodes → p < k → added_before rule x * k + p < k * added_nodes rule
  number_below x p a h b =
      let block : added_before rule x * k + p < added_nodes rule * k + 0 = block_below (added_before rule x) (added_nodes rule) k p 0 (added_earlier rule x (length rule.nodes) a h) b in
      omega (arith, mul_comm (added_nodes rule) k)
