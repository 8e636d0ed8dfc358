-- Two steps that the test calls the same are one.
use Rattle.std.proofs.Common.{◌≡◌, true, false, IsTrue, refl, ap}
use Rattle.std.proofs.lemmas.Bool.{eqb-true}
use Rattle.gm_model.specs.declared.step.Step.{Step}
use Rattle.gm_model.specs.declared.step.Step.TheVariants.{Absent, Exp, Imp}
use Rattle.gm_plan.specs.inner.Changes.{is_same}

pub same_step : (a b : Step) → IsTrue (is_same a b) → a ≡ b
same_step Absent Absent h = refl
same_step Absent (Exp z) h = absurd (let e : false ≡ true = h in cc)
same_step Absent (Imp k) h = absurd (let e : false ≡ true = h in cc)
same_step (Exp y) Absent h = absurd (let e : false ≡ true = h in cc)
same_step (Exp y) (Exp z) h = ap Exp (eqb-true y z h)
same_step (Exp y) (Imp k) h = absurd (let e : false ≡ true = h in cc)
same_step (Imp m) Absent h = absurd (let e : false ≡ true = h in cc)
same_step (Imp m) (Exp z) h = absurd (let e : false ≡ true = h in cc)
same_step (Imp m) (Imp k) h = ap Imp (eqb-true m k h)
