-- How many steps the dual of a map takes: one for each name, three to add each dart, and three for each neighbour of it and six more to link it.
use Rattle.std.proofs.Common.{◌≡◌, ℕ, ◌+◌, ◌*◌, ◌≤◌, ap, ◌∙◌, arith}
use Rattle.std.proofs.lemmas.Nat.{mul-le}

-- 3n + 10 and so many darts more are below the bound
within : (n count : ℕ) → (3 * n + 10) * count ≤ 16 * ((n + 1) * (n + 1)) * (count + 1)
within n count =
    let square : 3 * n + 10 ≤ 16 * ((n + 1) * (n + 1)) = omega arith in
    let grown : (3 * n + 10) * (count + 1) ≤ 16 * ((n + 1) * (n + 1)) * (count + 1) = mul-le (3 * n + 10) (count + 1) (16 * ((n + 1) * (n + 1))) (count + 1) square (omega arith) in
    omega (arith, grown)

module _ (n count old : ℕ) where
  pub names_within : (new : ℕ) → new ≡ old + count → new ≤ old + 16 * ((n + 1) * (n + 1)) * (count + 1)
  names_within new is = let all = within n count in omega (arith, is, all)

  pub dual_within : (k l named added new : ℕ) → k ≡ count → l ≡ count → named ≡ old + count → added ≡ named + 3 * k → new ≡ added + l * (3 * n + 6) → new ≤ old + 16 * ((n + 1) * (n + 1)) * (count + 1)
  dual_within k l named added new e f one two three =
      let all = within n count in
      let linked : new ≡ added + count * (3 * n + 6) = three ∙ ap (λ x. added + x * (3 * n + 6)) f in
      omega (arith, e, one, two, linked, all)
