-- The steps of the parts of matching, put together.
use Rattle.std.proofs.Common.{◌≡◌, ℕ, ◌+◌, ◌*◌, ◌<◌, ◌≤◌, subst, arith}
use Rattle.std.proofs.Math.Nat.{mul-le-mul_left, mul-le-mul_right}

-- of the walk, and of a part of what follows it: `labels` is the number of labels, `nodes` that of the rule's nodes
module _ (labels nodes k places : ℕ) (some : 1 ≤ nodes) (label : 1 ≤ labels) (few : places ≤ labels) where
  all : k ≤ nodes * k
  all = omega (arith, mul-le-mul_right k some)

  walk_part : labels * k ≤ labels * (nodes * k)
  walk_part = mul-le-mul_left labels all

  turn_part : k * places ≤ labels * k
  turn_part = omega (arith, mul-le-mul_right k few)

  slot_part : nodes * k ≤ labels * (nodes * k)
  slot_part = omega (arith, mul-le-mul_right (nodes * k) label)

  pub candidate_cost : (start walked placed : ℕ) → walked ≤ start + k * places → placed ≤ walked + k * nodes → placed ≤ start + 5 * labels * (nodes * k)
  candidate_cost start walked placed a b = omega (arith, walk_part, turn_part, slot_part)

look_part : (labels nodes k : ℕ) → 1 ≤ labels → 1 ≤ k → nodes ≤ labels * (nodes * k)
look_part labels nodes k label some = omega (arith, mul-le-mul_left nodes some, mul-le-mul_right (nodes * k) label)

-- the look-ups of the hooks, and the candidate
pub found_cost : (labels nodes k start looked found : ℕ) → 1 ≤ labels → 1 ≤ k → looked ≤ start + nodes → found ≤ looked + 5 * labels * (nodes * k) → found ≤ start + 8 * labels * (nodes * k + 1)
found_cost labels nodes k start looked found label some a b = omega (arith, look_part labels nodes k label some, b)

-- and the tests
pub met_cost : (labels nodes k start looked found met : ℕ) → 1 ≤ labels → 1 ≤ k → looked ≤ start + nodes → found ≤ looked + 5 * labels * (nodes * k) → met ≤ found + 2 * labels * (nodes * k) → met ≤ start + 8 * labels * (nodes * k + 1)
met_cost labels nodes k start looked found met label some a b c = omega (arith, look_part labels nodes k label some, b, c)

-- without a hook nothing is looked up
pub no_cost : (start looked hooks more : ℕ) → looked ≤ start + hooks → hooks ≡ 0 → looked ≤ start + more
no_cost start looked hooks more cost none = omega arith

-- ---- rows

pub some_node : {darts hooks nodes : ℕ} → 0 < darts → darts ≡ hooks → hooks ≤ nodes → 1 ≤ nodes
some_node some count few = omega (arith, some, count, few)

pub row_cost : (start rows nodes : ℕ) → 1 ≤ nodes → start + rows ≤ start + rows * nodes
row_cost start rows nodes some = omega (arith, mul-le-mul_left rows some)

pub row_room : (rows nodes most : ℕ) → rows ≤ 4294967295 → nodes ≤ most → most ≤ 32 → rows * nodes < 18446744073709551616
row_room rows nodes most few less low = omega (arith, mul-le-mul_right nodes few, less, low)

pub few_slots : (rows nodes most : ℕ) → rows ≤ 4294967295 → nodes ≤ most → most ≤ 32 → rows * nodes ≤ 4294967295 * 32
few_slots rows nodes most few less low = omega (arith, mul-le-mul_right nodes few, less, low)

-- with one hook
pub one_each : (rows hooks more start after : ℕ) → hooks ≡ 1 → after + rows * hooks ≤ start + more → after + rows ≤ start + more
one_each rows hooks more start after one cost = let each : after + rows * 1 ≤ start + more = subst (λ n. after + rows * n ≤ start + more) one cost in omega (arith, each)

-- ---- tests, node by node

pub nothing_below : {k : ℕ} → k < 0 → ⊥
nothing_below h = omega (arith, h)

pub part_cost : (labels positions node left nodes start before after : ℕ) → node < left → left ≤ nodes → before ≤ start + labels * (node * positions) → after ≤ before + labels * positions → after ≤ start + labels * (nodes * positions)
part_cost labels positions node left nodes start before after within most a b =
    let part : (node + 1) * positions ≤ nodes * positions = mul-le-mul_right positions (omega (arith, within, most)) in
    omega (arith, mul-le-mul_left labels part, a, b)

pub whole_cost : (labels positions node left nodes start after : ℕ) → node ≤ left → left ≤ nodes → after ≤ start + labels * (node * positions) → after ≤ start + labels * (nodes * positions)
whole_cost labels positions node left nodes start after within most a =
    let part : node * positions ≤ nodes * positions = mul-le-mul_right positions (omega (arith, within, most)) in
    omega (arith, mul-le-mul_left labels part, a)

-- ---- labels

pub label_most : {label top own dim : ℕ} → label < top + 1 → top ≡ own → own ≡ dim → label ≤ dim
label_most less e f = omega (arith, less, e, f)

-- ---- one hook after another

pub none_between : {t : ℕ} → 0 < t → t < 1 → ⊥
none_between some less = omega (arith, some, less)

pub hooks_cost : (index hooks nodes start before after : ℕ) → index ≤ hooks → before + 1 ≡ start + index → after + hooks ≤ before + nodes → after + 1 ≤ start + nodes
hooks_cost index hooks nodes start before after most a b = omega (arith, most, a, b)

pub hooks_least : (index start before after : ℕ) → 1 ≤ index → before + 1 ≡ start + index → before ≤ after → start ≤ after
hooks_least index start before after some a b = omega (arith, some, a, b)
