-- The new darts of the added nodes, node by node and position by position: their numbers and their names.
use Rattle.std.proofs.Common.{◌≡◌, ℕ, ◌+◌, ◌-◌, ◌*◌, ◌<◌, ◌≤◌, not, length, IsTrue, ap, inl, inr, ◌∙◌, arith, mul_comm}
use Rattle.std.proofs.lemmas.Bool.{cases_lt}
use Rattle.std.proofs.lemmas.Nat.{mul-le}
use Rattle.gm_model.specs.declared.rule.Side.TheVariants.{Left, Right}
use Rattle.gm_model.specs.Rules.{has_word, is_added}
use Rattle.gm_model.specs.Unfolding.{added_nodes}
use Rattle.gm_arena.specs.inner.ArenaAsMap.{as_map}
use Rattle.gm_theory.proofs.NewNames.{new_name}
use Rattle.gm_theory.proofs.RuleSteps.{word_below}
use Rattle.gm_theory.proofs.Tests.{both_true, not_both}
use Rattle.gm_walk.specs.declared.at.At.TheVariants.{New}
use Rattle.gm_commit.specs.inner.NewDartValues.{new_number}
use Rattle.gm_pending.specs.inner.Results.{PendingOf, IsPrepared, name_of, rule_in, place_in}
use Rattle.gm_commit.proofs.on_rewrite.EndsOfInstances.{added_number, left_not_added}

module _ (app : PendingOf) where
  pub first_dart : new_number app app.placed.nodes 0 ≡ 0
  first_dart = let none : app.placed.nodes - app.placed.nodes ≡ 0 = omega arith in rw none (omega arith)

  pub next_node : (x : ℕ) → app.placed.nodes ≤ x → new_number app (x + 1) 0 ≡ new_number app x app.placed.positions
  next_node x h =
      let more : x + 1 - app.placed.nodes ≡ x - app.placed.nodes + 1 = omega arith in
      rw more (grind arith)

  module _ (prepared : IsPrepared app) where
    pub all_darts : new_number app (length (rule_in app).nodes) 0 ≡ app.placed.positions * added_nodes (rule_in app)
    all_darts =
        let all : added_nodes (rule_in app) ≡ length (rule_in app).nodes - app.placed.nodes = added_number app prepared (length (rule_in app).nodes) (omega arith) in
        rw (← all) (omega (arith, mul_comm (added_nodes (rule_in app)) app.placed.positions))

    pub few_darts : (x : ℕ) → x ≤ length (rule_in app).nodes → new_number app x 0 ≤ app.placed.positions * added_nodes (rule_in app)
    few_darts x h = omega (arith, all_darts, mul-le (x - app.placed.nodes) app.placed.positions (length (rule_in app).nodes - app.placed.nodes) app.placed.positions (omega arith) (omega arith))

    pub added_after_left : (x : ℕ) → IsTrue (is_added (rule_in app) x) → app.placed.nodes ≤ x
    added_after_left x a = elim (cases_lt x app.placed.nodes) [
      | inl h ↦ not_both (is_added (rule_in app) x) a (left_not_added app prepared x h)
      | inr h ↦ h
    ]

    added_below : (x : ℕ) → IsTrue (is_added (rule_in app) x) → x < length (rule_in app).nodes
    added_below x a = word_below (rule_in app) Right x (both_true (not (has_word (rule_in app) Left x)) (has_word (rule_in app) Right x) a).1

    pub new_dart_below : (x p : ℕ) → IsTrue (is_added (rule_in app) x) → p < app.placed.positions → new_number app x p < app.placed.positions * added_nodes (rule_in app)
    new_dart_below x p a b = omega (arith, next_node x (added_after_left x a), few_darts (x + 1) (let h = added_below x a in omega arith))

    pub new_dart_name : (x p : ℕ) → IsTrue (is_added (rule_in app) x) → name_of app (New x p) ≡ app.map.next + new_number app x p
    new_dart_name x p a =
        let below : x < length (rule_in app).nodes = added_below x a in
        new_name (as_map app.map) (rule_in app) (place_in app) x p a
        ∙ ap (λ b. app.map.next + b * app.placed.positions + p) (added_number app prepared x (omega arith)) ∙ omega arith
