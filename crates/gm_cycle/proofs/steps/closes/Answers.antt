use Rattle.std.proofs.Common.{◌≡◌, ℕ, ◌↔◌, IsTrue, sym, subst, ◌∙◌, lt_of_lt_of_le}
use Rattle.std.proofs.lemmas.Bool.{false≢true}
use Rattle.gm_model.specs.declared.step.Step.{Step}
use Rattle.gm_model.specs.declared.step.Step.TheVariants.{Absent, Exp, Imp}
use Rattle.gm_model.specs.Rules.{rule_of, hook_label}
use Rattle.gm_model.specs.Squares.{ClosesBy, Closes, IsApart}
use Rattle.gm_cycle.specs.inner.StepRows.{step_of}
use Rattle.gm_cycle.proofs.SameSteps.{same_step}
use Rattle.gm_cycle.proofs.steps.closes.Goals as goal
use Rattle.gm_cycle.proofs.steps.closes.Goals.{in-Exp, in_default-matches}

module _ (steps : ℕ → ℕ → Step) (label : ℕ → ℕ) (x i j : ℕ) where
  -- where the two steps of x are known
  closes_with : {P : Type 0} (s t : Step) → steps x i ≡ s → steps x j ≡ t → P ↔ ClosesBy steps label i j s t → P ↔ Closes steps label x i j
  closes_with s t p q h = rw (p, q) h

pub returns-else-matches : goal.returns-else-matches
returns-else-matches c =
    closes_with (step_of c.args.rows.now) (hook_label (rule_of c.args.rule.now)) c.args.node c.args.i c.args.j (Exp c.in-Exp-Exp.y) (Exp c.in-Exp-Exp.z) (sym c.step_at.ensures ∙ c.in-Exp-Exp.is-0) (sym c.step_at-2.ensures ∙ c.in-Exp-Exp.is-1) (
      (λ p. absurd (false≢true (sym c.if-matches.false ∙ p))),
      (λ h. absurd (elim c.match-matches.branch [
        | in-Exp w ↦ false≢true (sym c.if-matches.false ∙ w.matches-is)
        | in_default-matches w ↦ w.in_default-matches.not-Exp h.0 (c.step_at-end.ensures ∙ h.1)
      ])),
    )

pub returns-in_default : goal.returns-in_default
returns-in_default c =
    closes_with (step_of c.args.rows.now) (hook_label (rule_of c.args.rule.now)) c.args.node c.args.i c.args.j (Exp c.in_default.field-0-0) Absent (sym c.step_at.ensures ∙ c.in_default.is-0) (sym c.step_at-2.ensures ∙ c.in_default.is-1)
    ((λ f. absurd (false≢true f)), (λ h. absurd h))

pub step_at-requires : goal.step_at-requires
step_at-requires c = record { node = lt_of_lt_of_le c.requires.node c.requires.nodes; label = c.requires.i }

pub step_at-requires-2 : goal.step_at-requires-2
step_at-requires-2 c = record { node = lt_of_lt_of_le c.requires.node c.requires.nodes; label = c.requires.j }

-- the node to which a link leads is one of the rule

pub step_at-end-requires : goal.step_at-end-requires
step_at-end-requires c = record {
  node = lt_of_lt_of_le (c.requires.ends c.args.node c.args.i c.in-Exp-Exp.y c.requires.node c.requires.i (sym c.step_at.ensures ∙ c.in-Exp-Exp.is-0)) c.requires.nodes;
  label = c.requires.j;
}

pub step_at-requires-then-matches : goal.step_at-requires-then-matches
step_at-requires-then-matches c = record {
  node = lt_of_lt_of_le (c.requires.ends c.args.node c.args.j c.in-Exp-Exp.z c.requires.node c.requires.j (sym c.step_at-2.ensures ∙ c.in-Exp-Exp.is-1)) c.requires.nodes;
  label = c.requires.i;
}

pub step_at-requires-in-Exp-Imp : goal.step_at-requires-in-Exp-Imp
step_at-requires-in-Exp-Imp c = record {
  node = lt_of_lt_of_le (c.requires.ends c.args.node c.args.i c.in-Exp-Imp.y c.requires.node c.requires.i (sym c.step_at.ensures ∙ c.in-Exp-Imp.is-0)) c.requires.nodes;
  label = c.requires.j;
}

pub step_at-requires-in-Imp-Exp : goal.step_at-requires-in-Imp-Exp
step_at-requires-in-Imp-Exp c = record {
  node = lt_of_lt_of_le (c.requires.ends c.args.node c.args.j c.in-Imp-Exp.z c.requires.node c.requires.j (sym c.step_at-2.ensures ∙ c.in-Imp-Exp.is-1)) c.requires.nodes;
  label = c.requires.i;
}

pub returns-in-Exp-Imp : goal.returns-in-Exp-Imp
returns-in-Exp-Imp c =
    let steps = step_of c.args.rows.now in
    let end = same_step c.eq-in-Exp-Imp.result c.step_at-in-Exp-Imp.result (Imp c.in-Exp-Imp.place) c.eq-in-Exp-Imp.ensures in
    closes_with steps (hook_label (rule_of c.args.rule.now)) c.args.node c.args.i c.args.j (Exp c.in-Exp-Imp.y) (Imp c.in-Exp-Imp.place) (sym c.step_at.ensures ∙ c.in-Exp-Imp.is-0) (sym c.step_at-2.ensures ∙ c.in-Exp-Imp.is-1)
    (subst (λ s. IsTrue c.eq-in-Exp-Imp.result ↔ (s ≡ Imp c.in-Exp-Imp.place)) c.step_at-in-Exp-Imp.ensures end)

pub returns-in-Imp-Exp : goal.returns-in-Imp-Exp
returns-in-Imp-Exp c =
    let steps = step_of c.args.rows.now in
    let end = same_step c.eq-in-Imp-Exp.result c.step_at-in-Imp-Exp.result (Imp c.in-Imp-Exp.place) c.eq-in-Imp-Exp.ensures in
    closes_with steps (hook_label (rule_of c.args.rule.now)) c.args.node c.args.i c.args.j (Imp c.in-Imp-Exp.place) (Exp c.in-Imp-Exp.z) (sym c.step_at.ensures ∙ c.in-Imp-Exp.is-0) (sym c.step_at-2.ensures ∙ c.in-Imp-Exp.is-1)
    (subst (λ s. IsTrue c.eq-in-Imp-Exp.result ↔ (s ≡ Imp c.in-Imp-Exp.place)) c.step_at-in-Imp-Exp.ensures end)

pub returns-in-Imp-Imp : goal.returns-in-Imp-Imp
returns-in-Imp-Imp c =
    let label = hook_label (rule_of c.args.rule.now) in
    closes_with (step_of c.args.rows.now) label c.args.node c.args.i c.args.j (Imp c.in-Imp-Imp.place) (Imp c.in-Imp-Imp.other) (sym c.step_at.ensures ∙ c.in-Imp-Imp.is-0) (sym c.step_at-2.ensures ∙ c.in-Imp-Imp.is-1)
    (subst (λ m. IsTrue c.are_apart.result ↔ IsApart (label c.in-Imp-Imp.place) m) c.label_at-in-Imp-Imp.ensures (subst (λ l. IsTrue c.are_apart.result ↔ IsApart l c.label_at-in-Imp-Imp.result) c.label_at.ensures c.are_apart.ensures))

pub returns-then-matches : goal.returns-then-matches
returns-then-matches c =
    let end = same_step c.eq.result c.step_at-end.result c.step_at-then-matches.result c.eq.ensures in
    closes_with (step_of c.args.rows.now) (hook_label (rule_of c.args.rule.now)) c.args.node c.args.i c.args.j (Exp c.in-Exp-Exp.y) (Exp c.in-Exp-Exp.z) (sym c.step_at.ensures ∙ c.in-Exp-Exp.is-0) (sym c.step_at-2.ensures ∙ c.in-Exp-Exp.is-1) (
      (λ yes. elim c.match-matches.branch [
        | in-Exp w ↦ (w.in-Exp.field-0, sym c.step_at-end.ensures ∙ w.in-Exp.is, sym c.step_at-then-matches.ensures ∙ (sym (end.0 yes) ∙ w.in-Exp.is))
        | in_default-matches w ↦ absurd (false≢true (sym w.matches-is ∙ c.if-matches.true))
      ]),
      (λ h. end.1 (c.step_at-end.ensures ∙ (h.1 ∙ sym (c.step_at-then-matches.ensures ∙ h.2)))),
    )
