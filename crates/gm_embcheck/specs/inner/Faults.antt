-- What the answers of the tests of one component and of one embedding say.
use Rattle.std.specs.Prelude.{◌≡◌, ℕ, ◌+◌, ◌<◌, List, Bool, IsTrue}
use Rattle.gm_model.specs.declared.rule.RuleFault.{RuleFault}
use Rattle.gm_model.specs.declared.rule.RuleFault.TheVariants as faults
use Rattle.gm_model.specs.declared.rule.Side.TheVariants.{Right}
use Rattle.gm_model.specs.Components.{HasSource, IsLeader, IsComponentFault}
use Rattle.gm_model.specs.Orbits.{Labels}
use Rattle.gm_model.specs.Rules.{Rule, has_word}
use Rattle.gm_embcheck.specs.inner.Firsts.{IsFirstFrom}
use Rattle.gm_embcheck.specs.inner.NodeSets.{IsAssignedIn}

-- the fault names `first` and the next node of the set with an assignment
pub record IsSecondAssigned (rule : Rule) (e : ℕ) (nodes : List Bool) (first : ℕ) (fault : RuleFault) : Type 0 where
  pub other : ℕ
  pub next : IsFirstFrom (IsAssignedIn rule e nodes) (first + 1) other
  pub is : fault ≡ faults.SetTwice e first other

-- the first fault of a component, by its least node
pub record IsFirstComponentFault (rule : Rule) (e : ℕ) (o : Labels) (fault : RuleFault) : Type 0 where
  pub x : ℕ
  pub leader : IsLeader rule o x
  pub here : IsComponentFault rule e o x fault
  pub earlier : (y : ℕ) → y < x → IsTrue (has_word rule Right y) → HasSource rule e o y
