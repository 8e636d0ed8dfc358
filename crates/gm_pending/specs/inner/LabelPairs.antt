-- Sets of two labels. No public clause cites this module.
use Rattle.std.specs.Prelude.{◌≡◌, ◌≢◌, ℕ, ◌<◌, ◌⊎◌, IsTrue}
use Rattle.gm_model.specs.declared.word.Mask.{Mask}
use Rattle.gm_model.specs.Labels.{has}

-- the set has these two labels and no more
pub record IsPair (labels : Mask) (one other : ℕ) : Type 0 where
  pub apart : one ≢ other
  pub has_one : IsTrue (has labels one)
  pub has_other : IsTrue (has labels other)
  pub no_more : (i : ℕ) → i < 8 → IsTrue (has labels i) → (i ≡ one) ⊎ (i ≡ other)
