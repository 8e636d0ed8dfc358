-- What an application takes and reserves, and what its arena counts afterwards, as sums.
use Rattle.std.proofs.Common.{◌≡◌, ℕ, ◌+◌, ◌-◌, ◌≤◌, max, arith}
use Rattle.gm_model.specs.Limits.{most_darts, most_names}

pub stays : (n : ℕ) → n ≤ n
stays n = omega arith

pub no_less : (n more : ℕ) → n ≤ n + more
no_less n more = omega arith

pub rises_twice : (a b c : ℕ) → a ≤ b → b ≤ c → a ≤ c
rises_twice a b c h k = omega arith

pub rises_thrice : (a b c d : ℕ) → a ≤ b → b ≤ c → c ≤ d → a ≤ d
rises_thrice a b c d h k l = omega arith

pub rises_to_the_end : (before found read edited after new old : ℕ) → before ≤ found → found ≤ read → read ≤ edited → edited + new + old ≤ after → before ≤ after
rises_to_the_end before found read edited after new old h k l m = omega arith

-- each dart that is added or removed takes a step
pub steps_of_darts : (before found read edited after added removed new old : ℕ) → before ≤ found → found ≤ read → read ≤ edited → edited + new + old ≤ after → new ≡ added → old ≡ removed → before + added + removed ≤ after
steps_of_darts before found read edited after added removed new old h k l m e f = omega arith

-- ---- names

pub names_fit : (at next added more : ℕ) → at + more ≤ most_names → added ≡ more → next ≡ at → next + added ≤ most_names
names_fit at next added more h e f = omega arith

pub names_reserved : (at old added new here reserved : ℕ) → new ≡ added → here ≡ at → reserved ≡ max old (at + added) → here + new ≤ reserved
names_reserved at old added new here reserved e f g = omega arith

pub still_above : (old between after : ℕ) → old ≤ between → after ≡ between → old ≤ after
still_above old between after h e = omega arith

-- ---- darts

pub darts_fit : (count spare added removed more : ℕ) → count + added ≤ most_darts + removed → count + spare ≤ most_darts → more ≡ added - removed → count + more ≤ most_darts
darts_fit count spare added removed more h k e = omega arith

pub room_reserved : (spare added removed new old between : ℕ) → new ≡ added → old ≡ removed → between ≡ max spare (added - removed) → new ≤ between + old
room_reserved spare added removed new old between e f g = omega arith

pub spare_then : (spare added removed new old between after : ℕ) → new ≡ added → old ≡ removed → between ≡ max spare (added - removed) → after + new ≡ between + old → after + added ≡ max spare (added - removed) + removed
spare_then spare added removed new old between after e f g h = omega arith

pub spare_stays : (count spare here between : ℕ) → here ≡ count → spare ≤ between → count + spare ≤ here + between
spare_stays count spare here between e h = omega arith

pub spare_stays_then : (count spare here between after_count after new old : ℕ) → here ≡ count → spare ≤ between → after_count ≡ here - old + new → after + new ≡ between + old → count + spare ≤ after_count + after
spare_stays_then count spare here between after_count after new old e h f g = omega arith
