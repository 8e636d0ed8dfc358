use Rattle.std.proofs.Common.{◌≡◌, ◌≢◌, Some, refl, ap, sym, ◌∙◌, arith}
use Rattle.std.specs.List.{slice_get}
use Rattle.std.proofs.lemmas.Bool.{false≢true}
use Rattle.std.proofs.lemmas.Option.{slice_get-get_or, slice_get_within}
use Rattle.gm_model.specs.declared.rule.Set.{Set}
use Rattle.gm_embcheck.proofs.Each.{each_more}
use Rattle.gm_embcheck.proofs.assignments.sets_embed.Goals as goal

pub loop-set-init : goal.loop-set-init
loop-set-init c = λ k s b e. absurd (omega arith)

pub returns-then-set-embed : goal.returns-then-set-embed
returns-then-set-embed c =
    let x : Set = c.set-item.result in
    let here : slice_get c.args.sets.now c.loop-set.set-index ≡ Some x = slice_get-get_or c.args.sets.now c.loop-set.set-index x c.loop-set-test.true ∙ ap Some (sym c.set-item.is) in
    ((λ _. (c.loop-set.set-index, x, here, c.if-set-embed.true)), (λ _. refl))

pub loop-set-preserved : goal.loop-set-preserved
loop-set-preserved c =
    let x : Set = c.set-item.result in
    let here : slice_get c.args.sets.now c.loop-set.set-index ≡ Some x = slice_get-get_or c.args.sets.now c.loop-set.set-index x c.loop-set-test.true ∙ ap Some (sym c.set-item.is) in
    each_more c.args.sets.now c.loop-set.set-index x here (λ s. s.embed ≢ c.args.embed) c.loop-set.invariant c.if-set-embed.false

pub returns : goal.returns
returns c = (
  (λ f. absurd (false≢true f)),
  (λ h. absurd (c.loop-set.invariant h.0 h.1 (let b = slice_get_within c.args.sets.now h.0 h.1 h.2 in omega (arith, b, c.loop-set-test.false)) h.2 h.3)),
)
