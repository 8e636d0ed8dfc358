-- Units of a reading, and the steps that they allow.
use Rattle.std.proofs.Common.{ℕ, ◌+◌, ◌*◌, ◌≤◌, arith}

-- one for each label, a walk, and a field at each of its darts and at one more
pub walk_within : (n path count x : ℕ) → 1 ≤ count → x ≤ path + 4 * (n + 1) * count + count + 1 → x ≤ 6 * (n + 1) * (path + count)
walk_within n path count x some h = omega arith

-- two parts, one after another
pub both_within : (n s t old mid new : ℕ) → mid ≤ old + 6 * (n + 1) * s → new ≤ mid + 6 * (n + 1) * t → new ≤ old + 6 * (n + 1) * (s + t)
both_within n s t old mid new h k = omega arith

-- a part, where another wasn't read
pub one_within : (n s t old new : ℕ) → new ≤ old + 6 * (n + 1) * s → new ≤ old + 6 * (n + 1) * (s + t)
one_within n s t old new h = omega arith
