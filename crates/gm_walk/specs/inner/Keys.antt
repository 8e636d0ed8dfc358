-- A dart of an application's result as one number.
use Rattle.std.specs.Prelude.{◌≡◌, ℕ, zero, suc, ◌+◌, ◌*◌, ◌/◌, ◌%◌, ◌^◌, ◌<◌, Bool, true, false}
use Rattle.gm_walk.specs.declared.at.At.{At}
use Rattle.gm_walk.specs.declared.at.At.TheVariants.{Old, New}

-- the number of a dart
abbrev pub key_of : At → ℕ
key_of (Old slot) = slot.at * 2
key_of (New x p) = p * 64 + x * 2 + 1

-- it is a dart of the old map
abbrev pub is_old : At → Bool
is_old (Old slot) = true
is_old (New x p) = false

-- The dart of a number, by what is left of it after halves: an even one is that of a slot.
abbrev pub at_from : ℕ → ℕ → At
at_from zero key = Old (record { at = key / 2 })
at_from (suc odd) key = New (key / 2 % 32) (key / 64)

abbrev pub at_of : ℕ → At
at_of key = at_from (key % 2) key

-- The number is that of its dart, and its parts are no greater than those of a dart.
pub record IsKey (key : ℕ) : Type 0 where
  pub back : key_of (at_of key) ≡ key
  pub short : key < 2 ^ 38
  pub slot : key % 2 ≡ 0 → key < 2 ^ 33
