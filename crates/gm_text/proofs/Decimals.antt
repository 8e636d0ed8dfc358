-- How many digits a number has.
use Rattle.std.proofs.Common.{◌^◌, ◌<◌, ◌≤◌, ℕ, length, arith}
use Rattle.std.specs.Prelude.{decimal}
use Rattle.std.proofs.lemmas.Fmt.{length-decimal-le}

pub ten_digits : (n : ℕ) → n < 2 ^ 32 → length (decimal n) ≤ 10
ten_digits n small = length-decimal-le 10 n (omega arith) (omega (arith, small)) (omega (arith, small))
