use Rattle.std.proofs.Common.{◌≡◌, ◌+◌, subst, arith}
use Rattle.gm_cells.proofs.MaskLemmas.{AreSet, none_set, one_set, none_more, has_others}
use Rattle.gm_cells.proofs.masks.mask_without.Goals as goal
use Rattle.gm_cells.proofs.masks.mask_without.Goals.{then-other-label, else-other-label}

pub loop-other-init : goal.loop-other-init
loop-other-init c = none_set c.args.label

pub loop-other-preserved : goal.loop-other-preserved
loop-other-preserved c =
    let l = c.loop-other in
    elim c.if-other-label.branch [
      | then-other-label w ↦ rw w.bits-is (one_set c.args.label l.other l.bits (omega (arith, c.loop-other-test.true, c.requires)) w.if-other-label.true l.invariant)
      | else-other-label w ↦ rw w.bits-is (none_more c.args.label l.other l.bits w.if-other-label.false l.invariant)
    ]

pub returns : goal.returns
returns c =
    let l = c.loop-other in
    let end : l.other ≡ c.args.top + 1 = omega (arith, c.loop-other-test.false, l.auto.other-end) in
    has_others c.args.top c.args.label l.bits (subst (λ n. AreSet c.args.label n l.bits) end l.invariant)
