-- The pieces of the line of an application that is done.
use Rattle.std.proofs.Common.{◌≡◌, ◌^◌, ◌<◌, ◌≤◌, ◌++◌, ℕ, List, length, append_assoc, sym, ◌∙◌, arith}
use Rattle.std.specs.Prelude.{decimal}
use Rattle.std.proofs.lemmas.Fmt.{length-decimal-le}

-- the number of a line has twenty digits at most
pub short_number : (n : ℕ) → n < 2 ^ 64 → length (decimal n) ≤ 20
short_number n small = length-decimal-le 20 n (omega arith) (omega (arith, small)) (omega (arith, small))

-- pieces that are put before one another
pub joined : (number blank name space done feed : List ℕ) → number ++ (blank ++ (name ++ (space ++ (done ++ feed)))) ≡ number ++ blank ++ name ++ space ++ done ++ feed
joined number blank name space done feed =
    sym (append_assoc (number ++ blank ++ name ++ space) done feed ∙ append_assoc (number ++ blank ++ name) space (done ++ feed)
    ∙ append_assoc (number ++ blank) name (space ++ (done ++ feed)) ∙ append_assoc number blank (name ++ (space ++ (done ++ feed))))
