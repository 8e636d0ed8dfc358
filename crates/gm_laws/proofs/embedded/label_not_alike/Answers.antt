use Rattle.std.proofs.Common.{ℕ, IsTrue, sym, ◌∙◌, arith, below_more}
use Rattle.std.proofs.lemmas.Bool.{false≢true}
use Rattle.gm_arena.specs.inner.ArenaMap.{name_at}
use Rattle.gm_model.specs.Labels.{has}
use Rattle.gm_laws.specs.inner.Darts.{HasSame}
use Rattle.gm_laws.proofs.embedded.label_not_alike.Goals as goal
use Rattle.gm_laws.proofs.embedded.label_not_alike.Goals.{else-has-via-then-has+else-not-has_same, else-has-via-else-has}

pub loop-label-preserved : goal.loop-label-preserved
loop-label-preserved g c =
    let m = c.args.arena.now in
    let d = name_at m c.args.slot.at in
    let IsGood : ℕ → Type 0 = λ i. IsTrue (has c.args.mask i) → HasSame m c.args.embed d i in
    elim c.else-has.branch [
      | else-has-via-then-has+else-not-has_same w ↦ record {
        same = below_more IsGood c.loop-label.label c.loop-label.invariant.same (λ _. w.has_same.ensures.same.0 w.if-not-has_same.false);
        cost = omega (arith, c.loop-label.invariant.cost, w.steps-is, w.has_same.ensures.cost);
        least = omega (arith, c.loop-label.invariant.least, w.steps-is, w.has_same.ensures.cost);
      }
      | else-has-via-else-has w ↦ record {
        same = below_more IsGood c.loop-label.label c.loop-label.invariant.same (λ has_it. absurd (false≢true (sym w.if-has.false ∙ (c.has.ensures ∙ has_it))));
        cost = omega (arith, c.loop-label.invariant.cost, w.steps-is);
        least = omega (arith, c.loop-label.invariant.least, w.steps-is);
      }
    ]
