-- The turns of an `each`: one more at a time, what they are and cost, and that nothing else is.
use Rattle.std.proofs.Common.{◌≡◌, ℕ, ◌+◌, ◌≤◌, cond, List, [], ◌∷◌, ◌++◌, refl, sym, ap, subst, ◌∙◌, arith}
use Rattle.std.specs.List.{count_by}
use Rattle.std.proofs.lemmas.List.Sums.{sum_by-append}
use Rattle.gm_model.specs.Statements.{Line}
use Rattle.gm_model.specs.declared.value.Value.{Value}
use Rattle.gm_model.specs.Budgets.{IsLineBudget, TurnCosts, AreTurnCosts, changed_darts, done_part}
use Rattle.gm_model.specs.Maps.{Map, IsDart}
use Rattle.gm_model.specs.Rules.{Rule}
use Rattle.gm_model.specs.Runs.{Turn, Taken, Passed, IsLineOutcome, AreTurns, is_done_turn, line_at}
use Rattle.gm_model.specs.Runs as runs
use Rattle.gm_model.specs.declared.schema.Schema.{Schema}
use Rattle.gm_theory.specs.inner.Outcomes.{IsGoodLine, IsSoundOf}
use Rattle.gm_theory.specs.inner.Suited.{IsRuleOf}
use Rattle.gm_theory.proofs.TurnsFound.{line_costs}
use Rattle.gm_run.specs.inner.Alike.{AreAlike}
use Rattle.gm_run.specs.inner.Turns.{AreTallied}
use Rattle.gm_run.proofs.OneRun.{budget_alike, moved, one_line, one_line_budget}

abbrev pub no_costs : TurnCosts
no_costs = record { least = 0; most = 0; done = 0 }

abbrev pub costs_together : TurnCosts → TurnCosts → TurnCosts
costs_together first rest = record { least = first.least + rest.least; most = first.most + rest.most; done = first.done + rest.done }

abbrev pub cost_of : runs.Outcome → ℕ → TurnCosts
cost_of outcome most = record { least = changed_darts outcome; most = most; done = done_part outcome most }

costs_same : (a b c d e f : ℕ) → a ≡ b → c ≡ d → e ≡ f → Path TurnCosts (record { least = a; most = c; done = e }) (record { least = b; most = d; done = f })
costs_same a b c d e f p q r = ap (λ x. record { least = x; most = c; done = e }) p ∙ ap (λ x. record { least = b; most = x; done = e }) q ∙ ap (λ x. record { least = b; most = d; done = x }) r

costs_on : (first rest last : TurnCosts) → costs_together (costs_together first rest) last ≡ costs_together first (costs_together rest last)
costs_on first rest last = costs_same _ _ _ _ _ _ (omega arith) (omega arith) (omega arith)

costs_first : (costs : TurnCosts) → costs_together no_costs costs ≡ costs
costs_first costs = costs_same _ _ _ _ _ _ (omega arith) (omega arith) (omega arith)

costs_last : (costs : TurnCosts) → costs_together costs no_costs ≡ costs
costs_last costs = costs_same _ _ _ _ _ _ (omega arith) (omega arith) (omega arith)

module _ (rules : List Rule) (index : ℕ) (params : List Value) where
  -- where nothing was done, the map is as it was
  pub unchanged : (before after : Map) (leads : List ℕ) (turns : List Turn) → AreTurns rules index params before leads turns after → count_by is_done_turn turns ≡ 0 → after ≡ before
  unchanged before after [] [] e none = e
  unchanged before after [] (turn ∷ turns) h none = absurd h
  unchanged before after (d ∷ leads) [] h none = absurd h
  unchanged before after (d ∷ leads) (Taken map line (runs.Done added removed) ∷ turns) (live, same, asks, between, is, are) none = absurd (let one = sum_by-append (λ (t : Turn). cond (is_done_turn t) 1 0) (Taken map line (runs.Done added removed) ∷ []) turns in omega (arith, one, none))
  unchanged before after (d ∷ leads) (Taken map line (runs.Refused cause) ∷ turns) (live, same, asks, between, is, are) none =
      unchanged between after leads turns are (let one = sum_by-append (λ (t : Turn). cond (is_done_turn t) 1 0) (Taken map line (runs.Refused cause) ∷ []) turns in omega (arith, one, none)) ∙ is.outcome_is.1
  unchanged before after (d ∷ leads) (Taken map line outcome ∷ turns) (live, same, asks, between, is, are) none = absurd is.outcome_is
  unchanged before after (d ∷ leads) (Passed ∷ turns) (dead, are) none = unchanged before after leads turns are (let one = sum_by-append (λ (t : Turn). cond (is_done_turn t) 1 0) (Passed ∷ []) turns in omega (arith, one, none))

  -- ---- one more

  turn_on : (before between after : Map) (leads : List ℕ) (turns : List Turn) (d : ℕ) (outcome : runs.Outcome) → AreTurns rules index params before leads turns between → IsDart between d → IsLineOutcome rules between (line_at index params d) outcome after
      → AreTurns rules index params before (leads ++ d ∷ []) (turns ++ Taken between (line_at index params d) outcome ∷ []) after
  turn_on before between after [] [] d outcome e live is = (subst (λ m. IsDart m d) e live, e, refl, after, subst (λ m. IsLineOutcome rules m (line_at index params d) outcome after) e is, refl)
  turn_on before between after [] (turn ∷ turns) d outcome h live is = absurd h
  turn_on before between after (x ∷ leads) [] d outcome h live is = absurd h
  turn_on before between after (x ∷ leads) (Taken map line o ∷ turns) d outcome (here, same, asks, m, was, are) live is = (here, same, asks, m, was, turn_on m between after leads turns d outcome are live is)
  turn_on before between after (x ∷ leads) (Passed ∷ turns) d outcome (dead, are) live is = (dead, turn_on before between after leads turns d outcome are live is)

  cost_on : (turns : List Turn) (costs : TurnCosts) (map : Map) (line : Line) (outcome : runs.Outcome) (most : ℕ) → AreTurnCosts rules turns costs → IsLineBudget rules map line most
      → AreTurnCosts rules (turns ++ Taken map line outcome ∷ []) (costs_together costs (cost_of outcome most))
  cost_on [] costs map line outcome most e budget = (most, no_costs, budget, refl, ap (λ (c : TurnCosts). costs_together c (cost_of outcome most)) e ∙ costs_first (cost_of outcome most) ∙ sym (costs_last (cost_of outcome most)))
  cost_on (Taken m l o ∷ turns) costs map line outcome most (first, rest, of, are, e) budget =
      (first, costs_together rest (cost_of outcome most), of, cost_on turns rest map line outcome most are budget, ap (λ (c : TurnCosts). costs_together c (cost_of outcome most)) e ∙ costs_on (cost_of o first) rest (cost_of outcome most))
  cost_on (Passed ∷ turns) costs map line outcome most are budget = cost_on turns costs map line outcome most are budget

  pub taken_on : (before between after : Map) (leads : List ℕ) (turns : List Turn) (costs : TurnCosts) (d : ℕ) (outcome : runs.Outcome) (most : ℕ) → AreTallied rules index params before leads turns costs between
      → IsDart between d → IsLineOutcome rules between (line_at index params d) outcome after → IsLineBudget rules between (line_at index params d) most
      → AreTallied rules index params before (leads ++ d ∷ []) (turns ++ Taken between (line_at index params d) outcome ∷ []) (costs_together costs (cost_of outcome most)) after
  taken_on before between after leads turns costs d outcome most (are, cost) live is budget = (turn_on before between after leads turns d outcome are live is, cost_on turns costs between (line_at index params d) outcome most cost budget)

  pass_on : (before after : Map) (leads : List ℕ) (turns : List Turn) (d : ℕ) → AreTurns rules index params before leads turns after → (IsDart after d → ⊥) → AreTurns rules index params before (leads ++ d ∷ []) (turns ++ Passed ∷ []) after
  pass_on before after [] [] d e dead = (λ live. dead (subst (λ m. IsDart m d) (sym e) live), e)
  pass_on before after [] (turn ∷ turns) d h dead = absurd h
  pass_on before after (x ∷ leads) [] d h dead = absurd h
  pass_on before after (x ∷ leads) (Taken map line o ∷ turns) d (here, same, asks, m, was, are) dead = (here, same, asks, m, was, pass_on m after leads turns d are dead)
  pass_on before after (x ∷ leads) (Passed ∷ turns) d (gone, are) dead = (gone, pass_on before after leads turns d are dead)

  pass_cost : (turns : List Turn) (costs : TurnCosts) → AreTurnCosts rules turns costs → AreTurnCosts rules (turns ++ Passed ∷ []) costs
  pass_cost [] costs e = e
  pass_cost (Taken map line o ∷ turns) costs (most, rest, budget, are, e) = (most, rest, budget, pass_cost turns rest are, e)
  pass_cost (Passed ∷ turns) costs are = pass_cost turns costs are

  pub passed_on : (before after : Map) (leads : List ℕ) (turns : List Turn) (costs : TurnCosts) (d : ℕ) → AreTallied rules index params before leads turns costs after → (IsDart after d → ⊥) → AreTallied rules index params before (leads ++ d ∷ []) (turns ++ Passed ∷ []) costs after
  passed_on before after leads turns costs d (are, cost) dead = (pass_on before after leads turns d are dead, pass_cost turns costs cost)

  -- ---- within what all turns cost

  module _ (schema : Schema) (of : IsRuleOf schema rules index) (good : (d : ℕ) → IsGoodLine rules (line_at index params d)) where
    sound_on : (before between : Map) (d : ℕ) (outcome : runs.Outcome) → IsSoundOf schema before → IsLineOutcome rules before (line_at index params d) outcome between → IsSoundOf schema between
    sound_on before between d outcome sound is = (line_costs schema rules before (line_at index params d) of sound (good d) outcome between is).sound

    pub turns_sound : (before after : Map) (leads : List ℕ) (turns : List Turn) → IsSoundOf schema before → AreTurns rules index params before leads turns after → IsSoundOf schema after
    turns_sound before after [] [] sound e = subst (IsSoundOf schema) (sym e) sound
    turns_sound before after [] (turn ∷ turns) sound h = absurd h
    turns_sound before after (d ∷ leads) [] sound h = absurd h
    turns_sound before after (d ∷ leads) (Taken map line outcome ∷ turns) sound (live, same, asks, m, is, are) = turns_sound m after leads turns (sound_on before m d outcome sound is) are
    turns_sound before after (d ∷ leads) (Passed ∷ turns) sound (dead, are) = turns_sound before after leads turns sound are

    -- The turns that were taken, and the one behind them, cost no more than all of them do at a map alike.
    pub within_all : (leads : List ℕ) (d : ℕ) (behind : List ℕ) (before between other end : Map) (turns others : List Turn) (costs all : TurnCosts) (extra : ℕ) → IsSoundOf schema before → AreAlike other before → AreTallied rules index params before leads turns costs between
        → AreTallied rules index params other (leads ++ d ∷ behind) others all end → IsDart between d → ((most : ℕ) → IsLineBudget rules between (line_at index params d) most → extra ≤ most) → costs.most + extra ≤ all.most
    within_all [] d behind before between other end [] [] costs all extra sound alike (e, f) (h, g) live within = absurd h
    within_all [] d behind before between other end [] (Taken map line o ∷ others) costs all extra sound alike (e, f) ((live', same, asks, m, is, are), (most, rest, budget, cost, g)) live within =
        let there : IsLineBudget rules other (line_at index params d) most = moved rules map other line (line_at index params d) most same asks budget in
        let here : IsLineBudget rules before (line_at index params d) most = budget_alike schema rules other before (line_at index params d) of sound alike most there in
        let first : extra ≤ most = within most (subst (λ k. IsLineBudget rules k (line_at index params d) most) (sym e) here) in
        omega (arith, first, ap (λ (c : TurnCosts). c.most) f, ap (λ (c : TurnCosts). c.most) g)
    within_all [] d behind before between other end [] (Passed ∷ others) costs all extra sound alike (e, f) ((dead, are), g) live within = absurd (dead ((alike.same.darts d).1 (subst (λ m. IsDart m d) e live)))
    within_all [] d behind before between other end (turn ∷ turns) others costs all extra sound alike (h, f) all_are live within = absurd h
    within_all (x ∷ leads) d behind before between other end [] others costs all extra sound alike (h, f) all_are live within = absurd h
    within_all (x ∷ leads) d behind before between other end (turn ∷ turns) [] costs all extra sound alike tallied (h, g) live within = absurd h
    within_all (x ∷ leads) d behind before between other end (Taken map line o ∷ turns) (Taken map' line' p ∷ others) costs all extra sound alike ((here, at, asks, m, is, are), (most, rest, budget, cost, e)) ((here', at', asks', n, is', are'), (most', rest', budget', cost', f)) live within =
        let one : (p ≡ o) × AreAlike n m = one_line schema rules other before (line_at index params x) of sound alike p o n m is' is in
        let same : most' ≡ most = one_line_budget schema rules other before (line_at index params x) of (good x) sound alike most' most (moved rules map' other line' (line_at index params x) most' at' asks' budget') (moved rules map before line (line_at index params x) most at asks budget) in
        let further : rest.most + extra ≤ rest'.most = within_all leads d behind m between n end turns others rest rest' extra (sound_on before m x o sound is) one.1 (are, cost) (are', cost') live within in
        omega (arith, further, same, ap (λ (c : TurnCosts). c.most) e, ap (λ (c : TurnCosts). c.most) f)
    within_all (x ∷ leads) d behind before between other end (Taken map line o ∷ turns) (Passed ∷ others) costs all extra sound alike ((here, at, asks, m, is, are), cost) ((dead, are'), g) live within = absurd (dead ((alike.same.darts x).1 here))
    within_all (x ∷ leads) d behind before between other end (Passed ∷ turns) (Taken map line p ∷ others) costs all extra sound alike ((dead, are), f) ((here, at, asks, n, is, are'), cost) live within = absurd (dead ((alike.same.darts x).0 here))
    within_all (x ∷ leads) d behind before between other end (Passed ∷ turns) (Passed ∷ others) costs all extra sound alike ((dead, are), cost) ((dead', are'), cost') live within = within_all leads d behind before between other end turns others costs all extra sound alike (are, cost) (are', cost') live within
