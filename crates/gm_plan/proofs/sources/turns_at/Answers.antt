use Rattle.std.proofs.Common.{◌≡◌, ℕ, ◌+◌, ◌*◌, ◌<◌, ◌≤◌, Fits, w8, w64, true, slice_index_or, sym, ◌∙◌, below_more, below_none, falls, arith}
use Rattle.std.proofs.lemmas.Bool.{false≢true}
use Rattle.gm_model.specs.declared.step.Step.TheVariants.{Absent, Imp}
use Rattle.gm_model.specs.Labels.{has}
use Rattle.gm_plan.proofs.sources.turns_at.Goals.{else-has-via-then-has+else-not-matches, in-Imp, in_default, else-has-via-else-has}
use Rattle.gm_plan.proofs.sources.turns_at.Goals as goal

below_eight : (label top : ℕ) → label < top + 1 → top ≤ 7 → label < 8
below_eight label top below few = omega arith

pub overflow_add-label-end : goal.overflow_add-label-end
overflow_add-label-end c = end_fits c.args.top c.requires
  where
    end_fits : (top : ℕ) → top ≤ 7 → Fits w8 (top + 1)
    end_fits top few = record { fits = omega arith }

pub overflow_cast-label : goal.overflow_cast-label
overflow_cast-label c = label_fits c.loop-label.label (below_eight c.loop-label.label c.args.top c.loop-label-test.true c.requires)
  where
    label_fits : (label : ℕ) → label < 8 → Fits w64 label
    label_fits label few = record { fits = omega arith }

pub offset_bounds-steps-label : goal.offset_bounds-steps-label
offset_bounds-steps-label c = start_fits c.loop-label.label (below_eight c.loop-label.label c.args.top c.loop-label-test.true c.requires)
  where
    start_fits : (label : ℕ) → label < 8 → Fits w64 (label * 2)
    start_fits label few = record { fits = omega arith }

pub bounds : goal.bounds
bounds c = below_eight c.loop-label.label c.args.top c.loop-label-test.true c.requires

pub returns-then-not-matches : goal.returns-then-not-matches
returns-then-not-matches c = λ e i below labelled. absurd (false≢true e)

pub loop-label-init : goal.loop-label-init
loop-label-init c = below_none (λ i. has c.args.labels i ≡ true → (m : ℕ) × (slice_index_or c.args.steps.now i Absent ≡ Imp m))

pub loop-label-smaller : goal.loop-label-smaller
loop-label-smaller c = falls _ _ c.loop-label-test.true

pub loop-label-preserved : goal.loop-label-preserved
loop-label-preserved c =
    let turned : has c.args.labels c.loop-label.label ≡ true → (m : ℕ) × (slice_index_or c.args.steps.now c.loop-label.label Absent ≡ Imp m) = elim c.else-has.branch [
      | else-has-via-then-has+else-not-matches w ↦ elim w.match-matches.branch [
        | in-Imp w' ↦ λ labelled. (w'.in-Imp.field-0, w'.in-Imp.is)
        | in_default w' ↦ absurd (false≢true (sym w'.matches-is ∙ w.if-not-matches.false))
      ]
      | else-has-via-else-has w ↦ λ labelled. absurd (false≢true (sym w.if-has.false ∙ c.has.ensures ∙ labelled))
    ] in
    below_more (λ i. has c.args.labels i ≡ true → (m : ℕ) × (slice_index_or c.args.steps.now i Absent ≡ Imp m)) c.loop-label.label c.loop-label.invariant turned

pub returns : goal.returns
returns c = λ e i below. c.loop-label.invariant i (past c.loop-label.label c.args.top i c.loop-label-test.false below)
  where
    past : (label top i : ℕ) → top + 1 ≤ label → i ≤ top → i < label
    past label top i behind below = omega arith
