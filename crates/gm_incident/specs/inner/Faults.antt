-- What the answer of a test of several things in a row says: the first that fails, and the fault made of it.
use Rattle.std.specs.Prelude.{◌≡◌, ℕ}
use Rattle.gm_model.specs.declared.rule.RuleFault.{RuleFault}
use Rattle.gm_model.specs.Structure.{IsFirstBad}

-- the fault is made of the first number below `count` at which the test fails
pub record IsFirstFault (IsGood : ℕ → Type 0) (count : ℕ) (made : ℕ → RuleFault) (fault : RuleFault) : Type 0 where
  pub bad : ℕ
  pub first : IsFirstBad IsGood count bad
  pub is : fault ≡ made bad
