-- The darts that were seen are no more than the live darts, and so are their steps.
use Rattle.std.proofs.Common.{◌≡◌, ◌≢◌, ℕ, ◌+◌, ◌*◌, ◌<◌, ◌≤◌, Bool, List, length, ◌∙◌, Fits, w32, arith}
use Rattle.std.specs.Cmp.{nat_eq_equiv}
use Rattle.std.specs.FinMap.{keys}
use Rattle.std.specs.List.{AllPairs, Contains}
use Rattle.std.proofs.Math.Nat.{mul-le-mul_left}
use Rattle.std.proofs.lemmas.Bool.{eqb-true}
use Rattle.std.proofs.lemmas.Bool.Decides.{Decides-eqb}
use Rattle.std.proofs.lemmas.List.{get_or_default}
use Rattle.std.proofs.lemmas.List.Sums.{count_by-le-length}
use Rattle.std.proofs.lemmas.Map.Made.{IsDistinct-from_AllPairs, length-le_from_is_member}
use Rattle.std.proofs.lemmas.Map.Views.{Contains-from_any, list_any-from_Contains}
use Rattle.gm_model.specs.Orbits.{HasNoRepeats}
use Rattle.gm_arena.specs.inner.ArenaMap.{ArenaMap, IsLiveName}
use Rattle.gm_arena.specs.inner.Lawful.{IsLawful}
use Rattle.gm_walk.specs.inner.Seen.{seen_count}
use Rattle.gm_walk.proofs.CountLemmas.{is_named}

-- ---- lists without repeats

pub few_among : (xs ys : List ℕ) → HasNoRepeats xs → ((d : ℕ) → Contains xs d → Contains ys d) → length xs ≤ length ys
few_among xs ys distinct among =
    length-le_from_is_member nat_eq_equiv xs ys (IsDistinct-from_AllPairs Decides-eqb xs differ) (λ d t. list_any-from_Contains nat_eq_equiv d ys (among d (Contains-from_any (λ a b f. eqb-true a b f) d xs t)))
  where
    differ : AllPairs (λ x y. x ≢ y) xs
    differ s t d a b = let within : s < length xs = omega (arith, a, b) in rw (get_or_default xs s d 0 within, get_or_default xs t d 0 b) (distinct s t a b)

-- the darts that were seen are no more than the names
pub few_seen : (m : ArenaMap) (names : List ℕ) → names ≡ keys m.darts → (darts : List ℕ) → HasNoRepeats darts → ((d : ℕ) → Contains darts d → IsLiveName m d) → length darts ≤ length names
few_seen m names e darts distinct lives = few_among darts names distinct (λ d c. let at = is_named (λ d. ℕ) m names e d (lives d c) in (at.0, at.1, get_or_default names at.0 d 0 at.1 ∙ at.2))

-- ---- the steps

pub steps_none : (start seen : ℕ) → start ≤ start + 0 + seen
steps_none start seen = omega arith

pub steps_more : (k start i before looked after old new : ℕ) → before ≤ start + i + k * old → looked ≡ before + 1 → after + k * old ≤ looked + k * new → after ≤ start + (i + 1) + k * new
steps_more k start i before looked after old new was step more = omega arith

pub steps_on : (k start before after old new : ℕ) → before ≤ start + k * old → after + k * old ≤ before + k * new → after ≤ start + k * new
steps_on k start before after old new was more = omega arith

pub not_less : (start before looked after : ℕ) → start ≤ before → looked ≡ before + 1 → looked ≤ after → start ≤ after
not_less start before looked after was step more = omega arith

pub steps_most : (k start after seen darts : ℕ) → seen ≤ darts → after ≤ start + darts + k * seen → after ≤ start + (k + 1) * darts
steps_most k start after seen darts few most = omega (arith, most, mul-le-mul_left k few)

-- where all names were gone over
pub steps_in_names : (k start after place seen darts names count : ℕ) → seen ≡ darts → darts ≤ names → names ≡ count → place ≡ names → after ≤ start + place + k * seen → after ≤ start + (k + 1) * count
steps_in_names k start after place seen darts names count all few counted end most = steps_most k start after seen count (omega arith) (omega arith)

-- where no name was looked up
pub steps_in_slots : (k start after : ℕ) (seen : List Bool) (bound count : ℕ) → length seen ≡ bound → bound ≡ count → after ≤ start + k * seen_count seen → after ≤ start + (k + 1) * count
steps_in_slots k start after seen bound count long counted most =
    let few = count_by-le-length (λ b. b) seen in
    steps_most k start after (seen_count seen) count (omega arith) (omega arith)

-- with a step for each name, and one for each slot
pub steps_in_all : (n start named after darts : ℕ) → named ≡ start + darts → after ≤ named + (4 * (n + 1) + 1) * darts → after ≤ start + 8 * (n + 1) * darts
steps_in_all n start named after darts at most = omega arith

-- ---- the numbers of orbits

pub one_more : (orbits more place : ℕ) → orbits ≤ place → more ≤ 1 → orbits + more ≤ place + 1
one_more orbits more place few one = omega arith

-- each slot below the bound has a dart
pub few_places : (m : ArenaMap) (end : ℕ) → end ≡ m.bound → m.bound ≡ m.count → IsLawful m → end ≤ 1048576
few_places m end e counted lawful = omega (arith, lawful.few_darts)

-- at most one more at each place
pub one_more_fits : (orbits more place places : ℕ) → orbits ≤ place → more ≤ 1 → place < places → places ≤ 1048576 → Fits w32 (orbits + more)
one_more_fits orbits more place places few one within most = omega arith

-- ---- the places that were gone over

pub none_yet : (p : ℕ) → p < 0 → ⊥
none_yet p h = omega arith

pub last_place : (q p : ℕ) → q < p + 1 → p ≤ q → p ≡ q
last_place q p h past = omega arith
