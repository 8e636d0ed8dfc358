-- How the counts of a store and of a sink go up.
use Rattle.std.specs.Prelude.{ℕ, ◌≡◌, ◌+◌, ◌-◌, ◌^◌, ◌<◌, ◌⊎◌, min}

-- a count after one more, which stays at the last value that it can have
abbrev pub counted : ℕ → ℕ
counted count = min (count + 1) (2 ^ 64 - 1)

-- a count has risen in a call, or stands at its last value when the call ends
abbrev pub Rises : ℕ → ℕ → Type 0
Rises before after = (before < after) ⊎ (after ≡ 2 ^ 64 - 1)
