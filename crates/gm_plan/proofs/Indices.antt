-- What stands under the numbers of darts, in a table and beside it.
use Rattle.std.proofs.Common.{◌≡◌, ◌≢◌, ℕ, Some, arith}
use Rattle.std.specs.HashMap.{HashMap, Updates, get}
use Rattle.std.specs.Prelude.{nat_eq}

-- another key has what it had
pub other_key : {X S : Type 0} (old new : HashMap ℕ X S) (key : ℕ) (x : X) → Updates nat_eq old new key (Some x) → (q : ℕ) → q ≢ key → get nat_eq new q ≡ get nat_eq old q
other_key old new key x put q apart = put.2 q (grind (arith, apart))
