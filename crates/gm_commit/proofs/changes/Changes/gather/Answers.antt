use Rattle.std.proofs.Common.{◌≡◌, ℕ, ◌+◌, ◌*◌, ◌<◌, ◌≤◌, length, subst, sym, ap, ap₂, ◌∙◌, arith, mul_comm}
use Rattle.std.proofs.lemmas.Nat.{mul-le}
use Rattle.gm_model.specs.declared.rule.RuleTable.{RuleTable}
use Rattle.gm_model.specs.Rules.{rule_of}
use Rattle.gm_model.specs.Unfolding.{added_nodes}
use Rattle.gm_commit.specs.declared.rewrite.Arcs.TheVariants.{Freed, Made}
use Rattle.gm_pending.specs.inner.Results.{rule_in}
use Rattle.gm_plan.specs.inner.Placed.{Placed}
use Rattle.gm_commit.specs.inner.EditLists.{AreDistinct}
use Rattle.gm_commit.proofs.on_old_darts.ValuesOfOrbits.{few_orbits, orbits_told}
use Rattle.gm_commit.proofs.on_rewrite.EditsOfRule.{are_edits, few_added, left_distinct}
use Rattle.gm_commit.proofs.on_rewrite.RowsOfPlan.{same_arcs, same_left, same_removed}
use Rattle.gm_model.proofs.Exits.{unless_ok}
use Rattle.gm_commit.proofs.changes.Changes.gather.Goals as goal

-- where there are 8 embeddings at most and 2 labels at least, the values of added darts take few steps
few_reads : (start after dim width adds count k added reached : ℕ) → 0 < dim → width ≤ 8 → adds ≤ count → added ≡ k * adds → after ≤ start + added * width + reached → after ≤ start + 6 * (dim + 1) * (count * k + reached + 1)
few_reads start after dim width adds count k added reached some few fewer is cost =
    let come : k * adds ≤ count * k = grind arith in
    let once : added * width ≤ count * k * 8 = mul-le added width (count * k) 8 (omega (arith, is, come)) few in
    let labels : 12 * (count * k + reached + 1) ≤ 6 * (dim + 1) * (count * k + reached + 1) = mul-le 12 (count * k + reached + 1) (6 * (dim + 1)) (count * k + reached + 1) (omega arith) (omega arith) in
    omega (arith, once, labels, cost)

pub returns-in_err-added_values : goal.returns-in_err-added_values
returns-in_err-added_values g c =
    record {
      edits = unless_ok _ c.from_residual-in_err-added_values.result c.from_residual-in_err-added_values.ensures.0;
      cost = let app = c.args.pending in
          let added : c.added-new_nodes.result * c.positions.result ≡ app.placed.positions * added_nodes (rule_in app) =
          ap₂ (λ a b. a * b) (c.added-new_nodes.ensures ∙ ap (λ (t : RuleTable). added_nodes (rule_of t)) c.plan.ensures.rule) c.positions.ensures.positions ∙ mul_comm (added_nodes (rule_in app)) app.placed.positions in
          λ reached sum.
          few_reads c.args.steps.now c.added_values.new.steps app.map.schema.dim (length app.map.schema.embeds) (added_nodes (rule_in app)) (length (rule_in app).nodes) app.placed.positions (c.added-new_nodes.result * c.positions.result) reached
          c.positions.ensures.prepared.lawful.dim.0 c.positions.ensures.prepared.lawful.schema.count (few_added app c.positions.ensures.prepared (length (rule_in app).nodes)) added (omega (arith, c.added_values.ensures.cost));
      least = c.added_values.ensures.least;
    }

pub returns : goal.returns
returns g c =
    record {
      edits = let app = c.args.pending in
          let prepared = c.positions.ensures.prepared in
          let added : c.added-new_nodes.result * c.positions.result ≡ app.placed.positions * added_nodes (rule_in app) =
          ap₂ (λ a b. a * b) (c.added-new_nodes.ensures ∙ ap (λ (t : RuleTable). added_nodes (rule_of t)) c.plan.ensures.rule) c.positions.ensures.positions ∙ mul_comm (added_nodes (rule_in app)) app.placed.positions in
          let alike = c.rewrite_of-rewrite.ensures in
          are_edits app prepared _ c.in_ok-added_values.ensures.values (orbits_told app _ prepared c.requires.given c.into_orbits-orbits.ensures) (same_left _ _ alike) (same_arcs _ _ alike Freed) (same_removed _ _ alike) (same_arcs _ _ alike Made) added;
      cost = let app = c.args.pending in
          let added : c.added-new_nodes.result * c.positions.result ≡ app.placed.positions * added_nodes (rule_in app) =
          ap₂ (λ a b. a * b) (c.added-new_nodes.ensures ∙ ap (λ (t : RuleTable). added_nodes (rule_of t)) c.plan.ensures.rule) c.positions.ensures.positions ∙ mul_comm (added_nodes (rule_in app)) app.placed.positions in
          λ reached sum.
          few_reads c.args.steps.now c.added_values.new.steps app.map.schema.dim (length app.map.schema.embeds) (added_nodes (rule_in app)) (length (rule_in app).nodes) app.placed.positions (c.added-new_nodes.result * c.positions.result) reached
          c.positions.ensures.prepared.lawful.dim.0 c.positions.ensures.prepared.lawful.schema.count (few_added app c.positions.ensures.prepared (length (rule_in app).nodes)) added (omega (arith, c.added_values.ensures.cost));
      least = c.added_values.ensures.least;
    }

pub returns-in_err-left_slots : goal.returns-in_err-left_slots
returns-in_err-left_slots g c =
    record {
      edits = unless_ok _ c.from_residual.result c.from_residual.ensures.0;
      cost = λ reached sum. omega arith;
      least = omega arith;
    }

pub added_values-requires : goal.added_values-requires
added_values-requires g c =
    record {
      added = let app = c.args.pending in
          ap₂ (λ a b. a * b) (c.added-new_nodes.ensures ∙ ap (λ (t : RuleTable). added_nodes (rule_of t)) c.plan.ensures.rule) c.positions.ensures.positions ∙ mul_comm (added_nodes (rule_in app)) app.placed.positions;
      given = c.requires.given;
    }

pub overflow_mul-added : goal.overflow_mul-added
overflow_mul-added g c = omega (arith, mul-le c.added-new_nodes.result c.positions.result 255 4294967295 (omega arith) (omega arith))

pub left_slots-requires : goal.left_slots-requires
left_slots-requires g c = c.left_nodes.ensures.left ∙ sym (ap (λ (p : Placed). p.nodes) c.rewrite_of-rewrite.ensures.placed)

pub invariant_of-result : goal.invariant_of-result
invariant_of-result g c =
    let positions : c.positions.result ≡ c.rewrite_of-rewrite.result.placed.positions = c.positions.ensures.positions ∙ sym (ap (λ (p : Placed). p.positions) c.rewrite_of-rewrite.ensures.placed) in
    let app = c.args.pending in
    let left = c.in_ok-left_slots.ensures.slots ∙ same_left _ _ c.rewrite_of-rewrite.ensures in
    (c.in_ok-left_slots.ensures.slots, rw positions c.in_ok-left_slots.ensures.room, subst AreDistinct (sym left) (left_distinct app c.positions.ensures.prepared), few_orbits app _ c.positions.ensures.prepared c.into_orbits-orbits.ensures)
