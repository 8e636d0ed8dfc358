use Rattle.std.proofs.Common.{◌≡◌, ℕ, ◌+◌, ◌-◌, ◌<◌, ◌≤◌, ◌∙◌, sym, arith}
use Rattle.std.proofs.lemmas.Bool.Decides.{nat_tests}
use Rattle.gm_grid.specs.GridMap.{across, dart, facing}
use Rattle.gm_grid.proofs.pattern.across_at.Goals as goal
use Rattle.gm_grid.proofs.pattern.across_at.Goals.{in_default-via-in-0+else-row-gt0, in_default-via-in-2+else-column-m, in_default-via-in-4+else-row-m, in_default-via-in-6+else-column-gt0, in_default-via-else-number-lt2+else-number-lt4+else-number-lt6+else-number-lt8}

facing_below : (k : ℕ) → k < 8 → facing k < 8
facing_below k below = search arith

less : (k m : ℕ) → k < m → k - 1 < m
less k m below = omega (arith, below)

above : (m row column k : ℕ) → k < 2 → 0 < row → across m row column k ≡ dart m (row - 1) column (facing k)
above m row column k low some = grind (arith, nat_tests, low, some)

right : (m row column k : ℕ) → 2 ≤ k → k < 4 → column + 1 < m → across m row column k ≡ dart m row (column + 1) (facing k)
right m row column k low high some = grind (arith, nat_tests, low, high, some)

below : (m row column k : ℕ) → 4 ≤ k → k < 6 → row + 1 < m → across m row column k ≡ dart m (row + 1) column (facing k)
below m row column k low high some = grind (arith, nat_tests, low, high, some)

left : (m row column k : ℕ) → 6 ≤ k → 0 < column → across m row column k ≡ dart m row (column - 1) (facing k)
left m row column k low some = grind (arith, nat_tests, low, some)

no_above : (m row column k : ℕ) → k < 2 → row ≤ 0 → across m row column k ≡ dart m row column k
no_above m row column k low none = grind (arith, nat_tests, low, none)

no_right : (m row column k : ℕ) → 2 ≤ k → k < 4 → m ≤ column + 1 → across m row column k ≡ dart m row column k
no_right m row column k low high none = grind (arith, nat_tests, low, high, none)

no_below : (m row column k : ℕ) → 4 ≤ k → k < 6 → m ≤ row + 1 → across m row column k ≡ dart m row column k
no_below m row column k low high none = grind (arith, nat_tests, low, high, none)

no_left : (m row column k : ℕ) → 6 ≤ k → column ≤ 0 → across m row column k ≡ dart m row column k
no_left m row column k low none = grind (arith, nat_tests, low, none)

pub name_of-requires-clause-most : goal.name_of-requires-clause-most
name_of-requires-clause-most c = c.requires.most

pub name_of-requires-clause-column : goal.name_of-requires-clause-column
name_of-requires-clause-column c = c.requires.within.1

pub returns-in-0-clause-below : goal.returns-in-0-clause-below
returns-in-0-clause-below c = c.name_of.ensures.below

pub name_of-requires-in-2-clause-most : goal.name_of-requires-in-2-clause-most
name_of-requires-in-2-clause-most c = c.requires.most

pub name_of-requires-in-2-clause-row : goal.name_of-requires-in-2-clause-row
name_of-requires-in-2-clause-row c = c.requires.within.0

pub name_of-requires-in-2-clause-column : goal.name_of-requires-in-2-clause-column
name_of-requires-in-2-clause-column c = c.if-column-m.true

pub returns-in-2-clause-below : goal.returns-in-2-clause-below
returns-in-2-clause-below c = c.name_of-in-2.ensures.below

pub name_of-requires-in-4-clause-most : goal.name_of-requires-in-4-clause-most
name_of-requires-in-4-clause-most c = c.requires.most

pub name_of-requires-in-4-clause-row : goal.name_of-requires-in-4-clause-row
name_of-requires-in-4-clause-row c = c.if-row-m.true

pub name_of-requires-in-4-clause-column : goal.name_of-requires-in-4-clause-column
name_of-requires-in-4-clause-column c = c.requires.within.1

pub returns-in-4-clause-below : goal.returns-in-4-clause-below
returns-in-4-clause-below c = c.name_of-in-4.ensures.below

pub name_of-requires-in-6-clause-most : goal.name_of-requires-in-6-clause-most
name_of-requires-in-6-clause-most c = c.requires.most

pub name_of-requires-in-6-clause-row : goal.name_of-requires-in-6-clause-row
name_of-requires-in-6-clause-row c = c.requires.within.0

pub returns-in-6-clause-below : goal.returns-in-6-clause-below
returns-in-6-clause-below c = c.name_of-in-6.ensures.below

pub name_of-requires-in_default-clause-most : goal.name_of-requires-in_default-clause-most
name_of-requires-in_default-clause-most c = c.requires.most

pub name_of-requires-in_default-clause-row : goal.name_of-requires-in_default-clause-row
name_of-requires-in_default-clause-row c = c.requires.within.0

pub name_of-requires-in_default-clause-column : goal.name_of-requires-in_default-clause-column
name_of-requires-in_default-clause-column c = c.requires.within.1

pub name_of-requires-in_default-clause-number : goal.name_of-requires-in_default-clause-number
name_of-requires-in_default-clause-number c = c.requires.within.2

pub returns-in_default-clause-below : goal.returns-in_default-clause-below
returns-in_default-clause-below c = c.name_of-in_default.ensures.below

pub name_of-requires-clause-row : goal.name_of-requires-clause-row
name_of-requires-clause-row c = less c.args.place.row c.args.m c.requires.within.0

pub name_of-requires-in-6-clause-column : goal.name_of-requires-in-6-clause-column
name_of-requires-in-6-clause-column c = less c.args.place.column c.args.m c.requires.within.1

pub name_of-requires-clause-number : goal.name_of-requires-clause-number
name_of-requires-clause-number c = facing_below c.args.place.number c.requires.within.2

pub name_of-requires-in-2-clause-number : goal.name_of-requires-in-2-clause-number
name_of-requires-in-2-clause-number c = facing_below c.args.place.number c.requires.within.2

pub name_of-requires-in-4-clause-number : goal.name_of-requires-in-4-clause-number
name_of-requires-in-4-clause-number c = facing_below c.args.place.number c.requires.within.2

pub name_of-requires-in-6-clause-number : goal.name_of-requires-in-6-clause-number
name_of-requires-in-6-clause-number c = facing_below c.args.place.number c.requires.within.2

pub returns-in-0-clause-name : goal.returns-in-0-clause-name
returns-in-0-clause-name c = c.name_of.ensures.name ∙ sym (above c.args.m c.args.place.row c.args.place.column c.args.place.number c.in-0.is c.if-row-gt0.true)

pub returns-in-2-clause-name : goal.returns-in-2-clause-name
returns-in-2-clause-name c = c.name_of-in-2.ensures.name ∙ sym (right c.args.m c.args.place.row c.args.place.column c.args.place.number (omega arith) (omega arith) c.if-column-m.true)

pub returns-in-4-clause-name : goal.returns-in-4-clause-name
returns-in-4-clause-name c = c.name_of-in-4.ensures.name ∙ sym (below c.args.m c.args.place.row c.args.place.column c.args.place.number (omega arith) (omega arith) c.if-row-m.true)

pub returns-in-6-clause-name : goal.returns-in-6-clause-name
returns-in-6-clause-name c = c.name_of-in-6.ensures.name ∙ sym (left c.args.m c.args.place.row c.args.place.column c.args.place.number (omega arith) c.if-column-gt0.true)

pub returns-in_default-clause-name : goal.returns-in_default-clause-name
returns-in_default-clause-name c = c.name_of-in_default.ensures.name ∙ sym (elim c.in_default.branch [
  | in_default-via-in-0+else-row-gt0 w ↦ no_above c.args.m c.args.place.row c.args.place.column c.args.place.number w.in-0.is w.if-row-gt0.false
  | in_default-via-in-2+else-column-m w ↦ no_right c.args.m c.args.place.row c.args.place.column c.args.place.number (omega arith) (omega arith) w.if-column-m.false
  | in_default-via-in-4+else-row-m w ↦ no_below c.args.m c.args.place.row c.args.place.column c.args.place.number (omega arith) (omega arith) w.if-row-m.false
  | in_default-via-in-6+else-column-gt0 w ↦ no_left c.args.m c.args.place.row c.args.place.column c.args.place.number (omega arith) w.if-column-gt0.false
  | in_default-via-else-number-lt2+else-number-lt4+else-number-lt6+else-number-lt8 w ↦ absurd (omega arith)
])
