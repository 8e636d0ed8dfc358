-- What the steps, rows and counts of a history come to, as sums.
use Rattle.std.proofs.Common.{◌≡◌, ℕ, ◌+◌, ◌-◌, ◌*◌, ◌<◌, ◌≤◌, ap, subst, arith}
use Rattle.std.proofs.Math.Nat.{le_refl}
use Rattle.std.proofs.lemmas.Nat.{mul-le}
use Rattle.gm_model.specs.Limits.{most_darts}
use Rattle.gm_arena.specs.inner.ArenaMap.{ArenaMap}
use Rattle.gm_arena.specs.inner.Lawful.{IsLawful}

-- an arena has no more darts than a map may have
pub never_more : (m : ArenaMap) (n : ℕ) → IsLawful m → n ≡ m.count → most_darts < n → ⊥
never_more m n lawful same over = too_many n m.count m.spare same lawful.few_darts over
  where
    too_many : (n count spare : ℕ) → n ≡ count → count + spare ≤ most_darts → most_darts < n → ⊥
    too_many n count spare same few over = omega arith

-- ---- where entries begin and end

pub starts_low : (start begins made : ℕ) → begins < made → start ≡ begins → start ≤ made
starts_low start begins made some is = omega arith

pub ends_high : (made ends end : ℕ) → made < ends → end ≡ ends → made ≤ end
ends_high made ends end some is = omega arith

pub ends_low : (end ends long : ℕ) → ends ≤ long → end ≡ ends → end ≤ long
ends_low end ends long within is = omega arith

pub low_in : (start made long : ℕ) → start < made → made ≤ long → start ≤ long
low_in start made long less within = omega arith

pub same_start : (start made : ℕ) → made ≤ start → start ≤ made → start ≡ made
same_start start made high low = omega arith

-- ---- what a change keeps

pub room_first : (rows touched added room : ℕ) → rows + (2 * touched + added) ≤ room → rows + touched ≤ room
room_first rows touched added room all = omega arith

pub at_least : (first middle a b : ℕ) → first ≡ a → middle ≡ b → a ≤ b → first ≤ middle
at_least first middle a b e f low = omega arith

pub less_in : (k a b c : ℕ) → k < a → a ≤ b → b ≤ c → k < c
less_in k a b c less low high = omega arith

pub behind_rows : (rows touched first middle : ℕ) → first ≡ rows → middle ≡ rows + touched → middle - first ≡ touched
behind_rows rows touched first middle at long = omega arith

-- behind the touched rows there is room for as many, and behind these for the added ones
pub room_behind : (rows touched added room first middle : ℕ) → rows + (2 * touched + added) ≤ room → first ≡ rows → middle ≡ rows + touched → middle + (middle - first) ≤ room
room_behind rows touched added room first middle all at long = omega arith

pub room_last : (rows touched added room first middle long : ℕ) → rows + (2 * touched + added) ≤ room → first ≡ rows → middle ≡ rows + touched → long ≤ middle + (middle - first) → long + added ≤ room
room_last rows touched added room first middle long all at behind few = omega arith

pub rows_few : (rows touched added first middle staying end : ℕ) → first ≡ rows → middle ≡ rows + touched → staying ≤ middle + (middle - first) → end ≡ staying + added → end ≤ first + (2 * touched + added)
rows_few rows touched added first middle staying end at behind few last = omega arith

pub darts_stay : (count spare added removed count' spare' : ℕ) → count' ≡ count - removed + added → spare' + added ≡ spare + removed → count + spare ≤ count' + spare'
darts_stay count spare added removed count' spare' e f = omega arith

-- a map has a label besides 0, so the rows of a touched dart take no more than four steps for each label
pub kept_cost : (dim touched added commit start kept committed stayed end behind : ℕ) → 0 < dim → kept ≡ start + (dim + 2) * touched → committed ≡ kept + commit → stayed ≤ committed + (dim + 3) * behind → behind ≡ touched → end ≡ stayed + (dim + 3) * added
    → end ≤ start + (commit + 4 * (dim + 1) * touched + 2 * (dim + 1) * added)
kept_cost dim touched added commit start kept committed stayed end behind some first then third same last =
    let once = mul-le 1 touched dim touched some (le_refl touched) in
    let new = mul-le 1 added dim added some (le_refl added) in
    let third' = subst (λ rows. stayed ≤ committed + (dim + 3) * rows) same third in
    omega arith

pub kept_least : (freed removed added arcs values start kept committed stayed end : ℕ) → start ≤ kept → committed ≡ kept + (freed + removed + added + arcs + values) → committed ≤ stayed → stayed ≤ end → start + added + removed ≤ end
kept_least freed removed added arcs values start kept committed stayed end first then third last = omega arith

pub no_less : (start more after : ℕ) → after ≡ start + more → start ≤ after
no_less start more after e = omega arith

-- ---- what an application keeps

-- the rows of a change are no more than were counted for it
pub change_few : (first middle end long before after most : ℕ) → before ≡ middle - first → after ≡ end - middle → first ≤ middle → middle ≤ end → end ≤ first + most → before + after ≤ most
change_few first middle end long before after most e f low high few = omega arith

pub room_left : (long kept more room room' : ℕ) → long ≡ kept → kept + more ≤ room → room' ≡ room → long + more ≤ room'
room_left long kept more room room' e few same = omega arith

pub counted_steps : (start prepared added removed new old after : ℕ) → start ≤ prepared → prepared + new + old ≤ after → added ≡ new → removed ≡ old → start + added + removed ≤ after
counted_steps start prepared added removed new old after h k e f = omega arith

pub least_rises : (start added removed after : ℕ) → start + added + removed ≤ after → start ≤ after
least_rises start added removed after h = omega arith

-- ---- loops

pub one_step : (start index before after : ℕ) → before ≡ start + index → after ≡ before + 1 → after ≡ start + (index + 1)
one_step start index before after so_far one = omega arith

-- ---- room for one row more

pub one_fits : (long old taken index all room room' : ℕ) → long ≡ old + taken → taken ≡ index → index < all → old + all ≤ room → room' ≡ room → long < room'
one_fits long old taken index all room room' is so_far more fits same = omega arith

pub one_stays : (long' long first end index room room' : ℕ) → long' ≡ long → long ≤ end + (index - first) → first ≤ index → index < end → end + (end - first) ≤ room → room' ≡ room → long' < room'
one_stays long' long first end index room room' is few low high fits same = omega arith

-- ---- what is paid for one change more, or one less

pub paid_on : (start before after more first made next : ℕ) → before + first ≤ start + made → after ≤ before + more → next ≡ made + more → after + first ≤ start + next
paid_on start before after more first made next so_far cost is = omega arith

pub paid_back : (start before after wide a b last made next : ℕ) → before + next ≤ start + last → after ≤ before + wide * (b + a) → next ≡ made + wide * (a + b) → after + made ≤ start + last
paid_back start before after wide a b last made next so_far cost is =
    let same : wide * (b + a) ≡ wide * (a + b) = ap (λ n. wide * n) (let e : b + a ≡ a + b = omega arith in e) in
    omega (arith, so_far, cost, is, same)
