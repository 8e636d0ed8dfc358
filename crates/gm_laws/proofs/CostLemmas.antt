-- How many steps a loop takes in all, where each turn takes so many at most.
use Rattle.std.proofs.Common.{◌≡◌, ℕ, List, length, ◌+◌, ◌*◌, ◌<◌, ◌≤◌, arith}
use Rattle.std.specs.FinMap.{keys}
use Rattle.std.proofs.Math.Nat.{mul-le-mul_left, mul-le-mul_right}
use Rattle.gm_arena.specs.inner.ArenaMap.{ArenaMap}
use Rattle.gm_arena.specs.inner.Lawful.{IsLawful}
use Rattle.gm_laws.proofs.NameLemmas.{as_many}

pub one_more : (start steps after turns each : ℕ) → steps ≤ start + turns * each → after ≤ steps + each → after ≤ start + (turns + 1) * each
one_more start steps after turns each before turn = omega arith

pub in_all : (start steps turns most each : ℕ) → steps ≤ start + turns * each → turns ≤ most → steps ≤ start + most * each
in_all start steps turns most each before few = omega (arith, mul-le-mul_right each few, before)

-- the same, with what a turn takes in front
pub more_each : (start steps after each turns : ℕ) → steps ≤ start + each * turns → after ≤ steps + each → after ≤ start + each * (turns + 1)
more_each start steps after each turns before turn = omega arith

pub all_each : (start steps each turns most : ℕ) → steps ≤ start + each * turns → turns ≤ most → steps ≤ start + each * most
all_each start steps each turns most before few = omega (arith, mul-le-mul_left each few, before)

-- the quick pass, the names and three passes over as many, of at least two labels
spent : (labels count start after : ℕ) → 2 ≤ labels
    → after ≤ start + (labels * labels + 1) * count + count + (2 * labels + 1) * count + (labels * (3 * labels + 1) + 1) * count + 8 * ((2 * labels + 2) * count + 2)
    → after ≤ start + 20 * (labels * labels) * (count + 1)
spent labels count start after two cost =
    let more : 2 * labels ≤ labels * labels = mul-le-mul_right labels two in
    let some : 4 ≤ labels * labels = omega (arith, more, two) in
    omega (arith, cost, some, mul-le-mul_right count more, mul-le-mul_right count some)

pub within_budget : (m : ArenaMap) (first second third : List ℕ) (start after : ℕ) → IsLawful m → first ≡ keys m.darts → second ≡ keys m.darts → third ≡ keys m.darts
    → let labels = m.schema.dim + 1 in after ≤ start + (labels * labels + 1) * m.count + m.count + (2 * labels + 1) * length first + (labels * (3 * labels + 1) + 1) * length second + 8 * ((2 * labels + 2) * length third + 2)
    → after ≤ start + 20 * (labels * labels) * (m.count + 1)
within_budget m first second third start after lawful one two three cost =
    spent (m.schema.dim + 1) m.count start after (omega (arith, lawful.dim.0)) (rw (as_many m first lawful one, as_many m second lawful two, as_many m third lawful three) at cost)

-- the quick pass alone, and the names besides
quickly : (labels count start after : ℕ) → 2 ≤ labels → after ≤ start + (labels * labels + 1) * count + count → after ≤ start + 20 * (labels * labels) * (count + 1)
quickly labels count start after two cost =
    let some : 4 ≤ labels * labels = omega (arith, mul-le-mul_right labels two, two) in
    omega (arith, cost, some, mul-le-mul_right count some)

pub within_few : (m : ArenaMap) (start after : ℕ) → IsLawful m → let labels = m.schema.dim + 1 in after ≤ start + (labels * labels + 1) * m.count + m.count → after ≤ start + 20 * (labels * labels) * (m.count + 1)
within_few m start after lawful cost = quickly (m.schema.dim + 1) m.count start after (omega (arith, lawful.dim.0)) cost

-- ---- over names, with a look-up for each

pub two_more : (before one two : ℕ) → one ≡ before + 1 → two ≡ one + 1 → before ≤ two
two_more before one two e f = omega arith

pub next_name : (k start before looked after p : ℕ) → before ≤ start + (k + 2) * p → looked ≡ before + 1 → after ≤ looked + (k + 1) → after ≤ start + (k + 2) * (p + 1)
next_name k start before looked after p was step more = omega arith

-- the neighbour that differs is looked up, and its name
pub found_at : (k start before looked after one two p names : ℕ) → before ≤ start + (k + 2) * p → looked ≡ before + 1 → after ≤ looked + (k + 1) → one ≡ after + 1 → two ≡ one + 1 → p < names → two ≤ start + ((k + 2) * names + 2)
found_at k start before looked after one two p names was step more e f low =
    let turns = mul-le-mul_left (k + 2) low in
    omega (arith, next_name k start before looked after p was step more, turns)

pub none_found : (each start after p names : ℕ) → after ≤ start + each * p → p ≤ names → after ≤ start + (each * names + 2)
none_found each start after p names was few = omega (arith, mul-le-mul_left each few)
