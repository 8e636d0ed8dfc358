use Rattle.std.proofs.Common.{◌<◌, ◌==◌, w8, ap, arith}
use Rattle.std.proofs.lemmas.Bool.{eq-eqb}
use Rattle.std.proofs.lemmas.Nat.Bits.{bit_at-trailing_zeros}
use Rattle.gm_pending.proofs.deciding.lowest.Goals as goal

pub returns : goal.returns
returns c =
    let some : 0 < c.args.labels.bits = omega (arith, c.if-labels-eq0.false) in
    let lowest = bit_at-trailing_zeros w8 c.args.labels.bits some (omega arith) in
    (lowest.0, eq-eqb _ 1 lowest.1, λ i h. ap (λ b. b == 1) (lowest.2 i h))
