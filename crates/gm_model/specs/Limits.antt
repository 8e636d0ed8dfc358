-- The limits of maps that more than one definition speaks of.
use Rattle.std.specs.Prelude.{ℕ}
use Rattle.gm_model.specs.declared.limit.TheConstants.{MOST_DARTS, MOST_NAMES}

-- how many darts a map can have
abbrev pub most_darts : ℕ
most_darts = MOST_DARTS

-- the names of darts are below this number, so the next name is at most this
abbrev pub most_names : ℕ
most_names = MOST_NAMES
