-- What the derived equality of steps tells.
use Rattle.std.proofs.Common.{◌≡◌, ◌↔◌, Bool, true, IsTrue, refl, sym, ◌∙◌, rules}
use Rattle.std.proofs.lemmas.Bool.{false≢true}
use Rattle.gm_model.specs.declared.step.Step.{Step}
use Rattle.gm_model.specs.declared.step.Step.TheVariants.{Absent, Exp, Imp}
use Rattle.gm_model.specs.contracts.step.StepPartialEq.TheImpl.{ghosts}

same : (a b : Step) → ghosts.eq a b ≡ true → a ≡ b
same Absent Absent e = refl
same Absent (Exp y) e = absurd (false≢true e)
same Absent (Imp m) e = absurd (false≢true e)
same (Exp x) Absent e = absurd (false≢true e)
same (Exp x) (Exp y) e = search rules
same (Exp x) (Imp m) e = absurd (false≢true e)
same (Imp l) Absent e = absurd (false≢true e)
same (Imp l) (Exp y) e = absurd (false≢true e)
same (Imp l) (Imp m) e = search rules

told : (a b : Step) → a ≡ b → ghosts.eq a b ≡ true
told a b e = search rules

pub same_step : (told_by : Bool) (a b : Step) → told_by ≡ ghosts.eq a b → IsTrue told_by ↔ (a ≡ b)
same_step told_by a b is = ((λ yes. same a b (sym is ∙ yes)), (λ e. is ∙ told a b e))
