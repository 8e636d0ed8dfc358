use Rattle.std.proofs.Common.{ℕ, ◌++◌, ◌∷◌, [], map, sym, ap, ◌∙◌, arith}
use Rattle.std.proofs.lemmas.List.{map-append}
use Rattle.gm_mapfile.specs.inner.Ordering.{counted_from}
use Rattle.gm_mapfile.specs.declared.ordering.Line.{Line}
use Rattle.gm_model.proofs.Exits.{unless_ok}
use Rattle.gm_mapfile.proofs.Reordered.{counted_push}
use Rattle.gm_mapfile.proofs.ordering.lines_of.Goals as goal

pub loop-at-preserved : goal.loop-at-preserved
loop-at-preserved c =
    let l = c.loop-at in
    let place : Line → ℕ = λ line. line.at in
    ap (map place) c.in_ok-push.ensures.items
    ∙ (map-append place l.lines.items _
    ∙ (ap (λ xs. xs ++ l.at ∷ []) l.invariant ∙ ap (λ x. counted_from 0 l.at ++ x ∷ []) (omega arith)
    ∙ sym (counted_push 0 l.at)))

pub returns-in_err-lines : goal.returns-in_err-lines
returns-in_err-lines c = unless_ok _ c.from_residual.result c.from_residual.ensures.0

pub returns-in_err-push : goal.returns-in_err-push
returns-in_err-push c = unless_ok _ c.from_residual-in_err-push.result c.from_residual-in_err-push.ensures.0

pub loop-at-init : goal.loop-at-init
loop-at-init c = ap (map (λ (line : Line). line.at)) c.in_ok-lines.ensures.items

pub returns : goal.returns
returns c = c.loop-at.invariant ∙ ap (counted_from 0) (omega (arith, c.loop-at-test.false, c.loop-at.auto.at-end))
