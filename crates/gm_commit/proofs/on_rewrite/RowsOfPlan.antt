-- Edits that are told by rows of steps are those that the rule tells.
use Rattle.std.proofs.Common.{◌≡◌, ℕ, zero, suc, ◌<◌, ◌≤◌, false, nat_lt, not, Bool, if◌then◌else◌, Some, None, List, [], ◌∷◌, ◌++◌, length, refl, sym, ap, ap₂, ◌∙◌, subst, arith, IsTrue}
use Rattle.std.proofs.lemmas.Bool.{lt-ltb, false≢true}
use Rattle.gm_model.specs.declared.rule.Side.TheVariants.{Left, Right}
use Rattle.gm_model.specs.declared.step.Step.TheVariants.{Imp}
use Rattle.gm_model.specs.Rules.{has_word, is_removed}
use Rattle.gm_plan.proofs.Rows.{row_step_is}
use Rattle.gm_plan.specs.inner.Changes.{freed_step, has_bit, made_step}
use Rattle.gm_plan.specs.inner.Counts.{removed_nodes}
use Rattle.gm_plan.specs.inner.Placed.{Placed}
use Rattle.gm_plan.specs.inner.Plans.{AreRows}
use Rattle.gm_plan.specs.inner.Searches.{row_step}
use Rattle.gm_theory.proofs.RuleSteps.{step_within}
use Rattle.gm_theory.proofs.Tests.{both_true}
use Rattle.gm_commit.specs.declared.rewrite.Arcs.{Arcs}
use Rattle.gm_commit.specs.declared.rewrite.Arcs.TheVariants.{Freed, Made}
use Rattle.gm_commit.specs.inner.InstanceEdits.{RewriteOf, RewriteRows, IsFitted, AreAlike, told_by, rewrite_of, as_list, concat_below, slot_in, left_slots, labels, written_step, arc_by, arcs_at, arcs_in, all_arcs, removed_in, all_removed}
use Rattle.gm_pending.specs.inner.Results.{PendingOf, IsPrepared, rule_in}
use Rattle.gm_commit.proofs.on_rewrite.EndsOfInstances.{made_turn}
use Rattle.gm_commit.proofs.on_rewrite.NothingRemoved.{stays, unfreed}

concat_alike : {A : Type 0} (f g : ℕ → List A) (n : ℕ) → ((k : ℕ) → k < n → f k ≡ g k) → concat_below f n ≡ concat_below g n
concat_alike f g zero same = refl
concat_alike f g (suc n) same = ap₂ (λ xs ys. xs ++ ys) (concat_alike f g n (λ k h. same k (omega arith))) (same n (omega arith))

-- ---- what tells the same has the same edits

-- over one placement, and with one number of nodes and labels
module _ (a b : RewriteOf) (alike : AreAlike a b) where
  -- the first with the steps of the second
  abbrev mixed : RewriteOf
  mixed = record { dim = a.dim; nodes = a.nodes; goes = b.goes; freed_step = b.freed_step; made_step = b.made_step; placed = a.placed }

  whole : mixed ≡ b
  whole = λ i. record { dim = alike.dim i; nodes = alike.nodes i; goes = b.goes; freed_step = b.freed_step; made_step = b.made_step; placed = alike.placed i }

  pub same_left : left_slots a ≡ left_slots b
  same_left = ap (λ (p : Placed). concat_below (λ x. concat_below (λ q. slot_in p x q ∷ []) p.positions) p.nodes) alike.placed

  pub same_arcs : (arcs : Arcs) → all_arcs a arcs ≡ all_arcs b arcs
  same_arcs arcs =
      concat_alike (arcs_in a arcs) (arcs_in mixed arcs) a.nodes (λ x h.
      concat_alike (arcs_at a arcs x) (arcs_at mixed arcs x) (labels a) (λ i l.
      ap (λ s. concat_below (λ p. as_list (arc_by a arcs x p i s)) a.placed.positions) (mixed_step arcs x i h (omega arith))))
      ∙ ap (λ r. all_arcs r arcs) whole
    where
      mixed_step : (arcs : Arcs) (x i : ℕ) → x < a.nodes → i ≤ a.dim → written_step a arcs x i ≡ written_step mixed arcs x i
      mixed_step Freed x i h l = alike.freed x i h l
      mixed_step Made x i h l = alike.made x i h l

  pub same_removed : all_removed a ≡ all_removed b
  same_removed =
      concat_alike (removed_in a) (removed_in mixed) a.nodes (λ x h. ap (λ (g : Bool). concat_below (λ p. as_list (if g then Some (slot_in a.placed x p) else None)) a.placed.positions) (alike.goes x h))
      ∙ ap all_removed whole

-- ---- the rows of a plan

pub none_more : (n : ℕ) → nat_lt 0 n ≡ false → n ≡ 0
none_more zero e = refl
none_more (suc n) e = absurd (false≢true (sym e ∙ lt-ltb 0 (suc n) (omega arith)))

pub record ArePlanRows (app : PendingOf) (rows : RewriteRows) : Type 0 where
  pub dim : rows.dim ≡ app.map.schema.dim
  pub placed : rows.placed ≡ app.placed
  pub goes : (x : ℕ) → x < length (rule_in app).nodes → has_bit rows.goes x ≡ is_removed (rule_in app) x
  pub freed : AreRows (freed_step (rule_in app)) (length (rule_in app).nodes) rows.freed
  pub made : AreRows (made_step (rule_in app)) (length (rule_in app).nodes) rows.made
  pub removes : rows.removes ≡ false → removed_nodes (rule_in app) ≡ 0

module _ (app : PendingOf) (prepared : IsPrepared app) (rows : RewriteRows) (plan : ArePlanRows app rows) where
  within : (x : ℕ) → x < length rows.made → x < length (rule_in app).nodes
  within x h = subst (λ n. x < n) plan.made.long h

  few : app.map.schema.dim ≤ 7
  few = prepared.lawful.dim.1

  freed_is : (x i : ℕ) → x < length rows.made → i ≤ rows.dim → row_step rows.freed x i ≡ freed_step (rule_in app) x i
  freed_is x i h l = row_step_is (freed_step (rule_in app)) (length (rule_in app).nodes) rows.freed plan.freed x i (within x h) (omega (arith, l, plan.dim, few))

  made_is : (x i : ℕ) → x < length rows.made → i ≤ rows.dim → row_step rows.made x i ≡ made_step (rule_in app) x i
  made_is x i h l = row_step_is (made_step (rule_in app)) (length (rule_in app).nodes) rows.made plan.made x i (within x h) (omega (arith, l, plan.dim, few))

  pub rows_alike : AreAlike (told_by rows) (rewrite_of app)
  rows_alike = record {
    dim = plan.dim;
    nodes = plan.made.long;
    placed = plan.placed;
    goes = λ x h. plan.goes x (within x h);
    freed = freed_is;
    made = made_is;
  }

  left_node : (x : ℕ) → IsTrue (is_removed (rule_in app) x) → x < rows.placed.nodes
  left_node x r = subst (λ (p : Placed). x < p.nodes) (sym plan.placed) ((prepared.matched.nodes x).0 (both_true (has_word (rule_in app) Left x) (not (has_word (rule_in app) Right x)) r).0)

  turned_place : (x i m : ℕ) → made_step (rule_in app) x i ≡ Imp m → m < rows.placed.places
  turned_place x i m e =
      let turn = made_turn (rule_in app) x i m e in
      subst (λ n. m < n) (sym (ap (λ (p : Placed). p.places) plan.placed ∙ prepared.matched.places)) (step_within app.map.schema (rule_in app) prepared.planned.accepted.in_range prepared.planned.accepted.incidence Right x i m turn.0 turn.1)

  pub rows_fitted : IsFitted rows
  rows_fitted = record {
    few = omega (arith, plan.dim, few);
    few_nodes = omega (arith, plan.made.long, prepared.planned.within.nodes);
    freed_long = plan.freed.long ∙ sym plan.made.long;
    freed_rows = plan.freed.row_long;
    made_rows = plan.made.row_long;
    left = λ x h g. left_node x (sym (plan.goes x (within x h)) ∙ g);
    places = λ x i m h l e. turned_place x i m (sym (made_is x i h l) ∙ e);
    none_goes = λ none x h. plan.goes x (within x h) ∙ stays (rule_in app) (plan.removes none) x;
    none_freed = λ none x i h l. freed_is x i h l ∙ unfreed (rule_in app) (plan.removes none) x i;
  }
