use Rattle.std.proofs.Common.{◌∙◌, [], ◌∷◌, ◌++◌, None, ap, replicate, arith}
use Rattle.std.proofs.lemmas.List.{replicate_more}
use Rattle.gm_model.proofs.Exits.{unless_ok}
use Rattle.gm_pending.proofs.decided_orbits.no_orbits.Goals as goal

pub returns-in_err-orbits : goal.returns-in_err-orbits
returns-in_err-orbits c = unless_ok _ c.from_residual.result c.from_residual.ensures.0

pub loop-init : goal.loop-init
loop-init c = c.in_ok-orbits.ensures.items

pub returns-in_err-push : goal.returns-in_err-push
returns-in_err-push c = unless_ok _ c.from_residual-in_err-push.result c.from_residual-in_err-push.ensures.0

pub loop-preserved : goal.loop-preserved
loop-preserved c = c.in_ok-push.ensures.items ∙ ap (λ items. items ++ None ∷ []) c.loop.invariant ∙ replicate_more c.loop.counter None

pub returns : goal.returns
returns c = c.loop.invariant ∙ ap (λ n. replicate n None) (omega (arith, c.loop-test.false, c.loop.auto.counter-end))
