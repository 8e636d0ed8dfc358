-- The steps that listing the leads takes, as sums of numbers.
use Rattle.std.proofs.Common.{◌≡◌, ℕ, ◌+◌, ◌*◌, ◌<◌, ◌≤◌, arith}
use Rattle.std.proofs.Math.Nat.{le_trans}
use Rattle.gm_walk.proofs.MetLemmas.{steps_in_all, steps_most}

pub none_taken : (start most : ℕ) → start ≤ start + most
none_taken start most = omega arith

pub one_taken : (start before after : ℕ) → start ≤ before → after ≡ before + 1 → start ≤ after
one_taken start before after so_far one = omega arith

-- where the names alone were taken
pub named_only : (n start named darts : ℕ) → named ≡ start + darts → named ≤ start + 8 * (n + 1) * darts
named_only n start named darts at = steps_in_all n start named named darts at (none_taken named ((4 * (n + 1) + 1) * darts))

pub named_least : (start named darts : ℕ) → named ≡ start + darts → start ≤ named
named_least start named darts at = omega arith

-- where no turn was taken yet
pub before_turns : (start seen : ℕ) → start ≤ start + 0 + seen
before_turns start seen = omega arith

-- a turn that only looks its slot up
pub turn_passed : (start i before after seen : ℕ) → before ≤ start + i + seen → after ≡ before + 1 → after ≤ start + (i + 1) + seen
turn_passed start i before after seen was one = omega arith

-- so many turns are the names at most
pub turns_most : (k start turns after seen darts names count : ℕ) → after ≤ start + turns + k * seen → turns ≤ names → names ≡ count → darts ≤ names → seen ≡ darts → after ≤ start + (k + 1) * count
turns_most k start turns after seen darts names count so_far within counted few same = steps_most k start after seen count seen_few (le_trans so_far turns_few)
  where
    seen_few : seen ≤ count
    seen_few = omega arith

    turns_few : start + turns + k * seen ≤ start + count + k * seen
    turns_few = omega arith

pub turn_least : (start before found after : ℕ) → start ≤ before → found ≡ before + 1 → found ≤ after → start ≤ after
turn_least start before found after so_far one more = omega arith

pub next_within : (index end : ℕ) → index < end → index + 1 ≤ end
next_within index end less = omega arith
