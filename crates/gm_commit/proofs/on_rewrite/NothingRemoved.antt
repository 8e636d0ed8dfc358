-- A rule that removes no node frees no arc and removes no dart.
use Rattle.std.proofs.Common.{◌≡◌, ℕ, zero, suc, ◌+◌, ◌<◌, false, not, List, [], length, refl, inl, inr, arith}
use Rattle.std.proofs.lemmas.Bool.{cases_eq}
use Rattle.gm_model.specs.declared.rule.Side.TheVariants.{Left, Right}
use Rattle.gm_model.specs.declared.step.Step.{Step}
use Rattle.gm_model.specs.declared.step.Step.TheVariants.{Absent, Exp, Imp}
use Rattle.gm_model.specs.Rules.{Rule, has_word, is_removed, step}
use Rattle.gm_plan.specs.inner.Changes.{freed_by, freed_step}
use Rattle.gm_plan.specs.inner.Counts.{removed_before, removed_nodes}
use Rattle.gm_plan.specs.inner.Searches.{row_step}
use Rattle.gm_theory.proofs.RuleSteps.{word_below}
use Rattle.gm_theory.proofs.Tests.{both_true, true_or_false}
use Rattle.gm_commit.specs.declared.rewrite.Arcs.TheVariants.{Freed}
use Rattle.gm_commit.specs.inner.InstanceEdits.{RewriteRows, IsFitted, told_by, concat_below, labels, arcs_at, arcs_in, all_arcs, removed_in, all_removed}
use Rattle.gm_commit.proofs.on_rewrite.EndsOfInstances.{no_arcs, none_removed}

module _ {A : Type 0} where
  concat_none : (f : ℕ → List A) (n : ℕ) → ((k : ℕ) → k < n → f k ≡ []) → concat_below f n ≡ []
  concat_none f zero none = refl
  concat_none f (suc n) none = rw (concat_none f n (λ k h. none k (omega arith)), none n (omega arith)) refl

stays_before : (rule : Rule) (n : ℕ) → removed_before rule n ≡ 0 → (x : ℕ) → x < n → is_removed rule x ≡ false
stays_before rule zero e x h = absurd (omega arith)
stays_before rule (suc n) e x h = elim (true_or_false (is_removed rule n)) [
  | inl r ↦ absurd (let more : removed_before rule n + 1 ≡ 0 = rw r at e in omega (arith, more))
  | inr a ↦ elim (cases_eq x n) [
    | inl last ↦ rw last a
    | inr earlier ↦ stays_before rule n (let same : removed_before rule n + 0 ≡ 0 = rw a at e in omega (arith, same)) x (omega arith)
  ]
]

module _ (rule : Rule) (none : removed_nodes rule ≡ 0) where
  pub stays : (x : ℕ) → is_removed rule x ≡ false
  stays x = elim (true_or_false (is_removed rule x)) [
    | inl r ↦ stays_before rule (length rule.nodes) none x (word_below rule Left x (both_true (has_word rule Left x) (not (has_word rule Right x)) r).0)
    | inr a ↦ a
  ]

  by : (x : ℕ) (s : Step) → freed_by rule x s ≡ Absent
  by x Absent = refl
  by x (Exp y) = rw (stays y) refl
  by x (Imp m) = rw (stays x) refl

  pub unfreed : (x i : ℕ) → freed_step rule x i ≡ Absent
  unfreed x i = elim (true_or_false (has_word rule Left x)) [
    | inl l ↦ rw l (by x (step rule Left x i))
    | inr a ↦ rw a refl
  ]

module _ (rows : RewriteRows) (fitted : IsFitted rows) (none : rows.removes ≡ false) where
  pub nothing_freed : all_arcs (told_by rows) Freed ≡ []
  nothing_freed = concat_none (arcs_in (told_by rows) Freed) (length rows.made) (λ x h. concat_none (arcs_at (told_by rows) Freed x) (labels (told_by rows)) (λ i l. no_arcs (told_by rows) Freed x i (row_step rows.freed x i) refl (fitted.none_freed none x i h (omega arith))))

  pub nothing_removed : all_removed (told_by rows) ≡ []
  nothing_removed = concat_none (removed_in (told_by rows)) (length rows.made) (λ x h. none_removed (told_by rows) x (fitted.none_goes none x h))
