-- What is seen of a store before and after a call.
use Rattle.std.specs.Prelude.{ℕ, List}
use Rattle.gm_host.specs.Store.{Contents}

-- what it holds, where it tells, its counts, and the names of its loads, in order
pub record Seen : Type 0 where
  pub holds : Contents
  pub loads : ℕ
  pub loaded : List (List ℕ)
  pub load_faults : ℕ
  pub saves : ℕ
  pub save_faults : ℕ
