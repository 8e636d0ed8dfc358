use Rattle.std.proofs.Common.{◌≡◌, ℕ, ◌-◌, ◌<◌, ◌≤◌, Bool, true, false, refl, ap, ◌∙◌, arith}
use mir.Val.{bool_byte}
use Rattle.std.proofs.Math.Pow.{pow_mono}
use Rattle.gm_model.specs.Labels.{has}
use Rattle.gm_dual.specs.Duals.{bits_from}
use Rattle.gm_dual.specs.Duals as duals
use Rattle.gm_dual.proofs.MaskLemmas.{bits_few, bits_more}
use Rattle.gm_dual.proofs.labels.dual_mask.Goals as goal

few : (f : ℕ → Bool) (bits k : ℕ) → k < 8 → bits ≡ bits_from f k (8 - k) → bits < 128
few f bits k low is = let below = bits_few f k (8 - k) in let most = pow_mono {i = k} {j = 7} (omega (arith, low)) in omega (arith, is, below, most)

small : (b : Bool) → bool_byte b ≤ 1
small true = omega arith
small false = omega arith

whole : (f : ℕ → Bool) (k : ℕ) → k ≡ 8 → bits_from f k (8 - k) ≡ bits_from f 8 0
whole f k e = ap (λ j. bits_from f j (8 - j)) e

pub loop-step-init : goal.loop-step-init
loop-step-init c = refl

pub overflow_mul-bits : goal.overflow_mul-bits
overflow_mul-bits c = let h = few _ c.loop-step.bits c.loop-step.step c.loop-step-test.true c.loop-step.invariant in omega (arith, h)

pub overflow_add-bits : goal.overflow_add-bits
overflow_add-bits c = let h = few _ c.loop-step.bits c.loop-step.step c.loop-step-test.true c.loop-step.invariant in let b = small c.has-has.result in omega (arith, h, b)

pub loop-step-preserved : goal.loop-step-preserved
loop-step-preserved c = bits_more (λ i. has c.args.mask (duals.dual_label c.args.top i)) c.loop-step.bits c.loop-step.step c.has-has.result c.loop-step-test.true c.loop-step.invariant (c.has-has.ensures ∙ ap (has c.args.mask) c.dual_label.ensures)

pub returns : goal.returns
returns c = ap (λ bits. record { bits = bits }) (c.loop-step.invariant ∙ whole (λ i. has c.args.mask (duals.dual_label c.args.top i)) c.loop-step.step (omega (arith, c.loop-step-test.false, c.loop-step.auto.step-end)))
