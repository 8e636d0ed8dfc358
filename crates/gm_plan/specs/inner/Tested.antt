-- Which left steps of a rule a match has to test: the candidate meets each other one as it is made.
use Rattle.std.specs.Prelude.{◌≡◌, ◌≢◌, ℕ, ◌+◌, ◌*◌, ◌<◌, ◌≤◌, ◌⊎◌, length, slice_get, if◌then◌else◌, Bool, true, false, ◌&&◌, ◌||◌, ◌==◌, List, [], ◌∷◌, Some}
use Rattle.std.specs.List.{list_any}
use Rattle.gm_model.specs.declared.rule.Link.{Link}
use Rattle.gm_model.specs.declared.rule.Side.TheVariants.{Left}
use Rattle.gm_model.specs.declared.step.Step.{Step}
use Rattle.gm_model.specs.declared.step.Step.TheVariants.{Absent, Exp, Imp}
use Rattle.gm_model.specs.Rules.{Rule, first_hook, link_from, step}
use Rattle.gm_model.specs.Orbits.{IsPairBefore}
use Rattle.gm_plan.specs.declared.tested.Test.{Test}
use Rattle.gm_plan.specs.inner.Paths.{IsLastLink}

-- The candidate meets the left step of node x at label i as it is made.
pub data IsForcedStep (rule : Rule) (x i : ℕ) : Type 0 where
  -- nothing stands there
  Free : step rule Left x i ≡ Absent → IsForcedStep rule x i
  -- or the first hook turns, as the walk does
  Turns : (k : ℕ) → first_hook rule ≡ Some x → step rule Left x i ≡ Imp k → IsForcedStep rule x i
  -- or the step is the last link of the least path to x
  EndsOwn : (y : ℕ) → IsLastLink rule (link_from y i x) → IsForcedStep rule x i
  -- or of that to its other end
  EndsOther : (y : ℕ) → IsLastLink rule (link_from x i y) → IsForcedStep rule x i

-- ---- the table

abbrev pub begins_with : List ℕ → ℕ → Bool
begins_with [] x = false
begins_with (hook ∷ hooks) x = hook == x

-- node x turns at the step, and the walk along its word goes the same way
abbrev pub is_walked : Rule → ℕ → Step → Bool
is_walked rule x Absent = false
is_walked rule x (Exp y) = false
is_walked rule x (Imp k) = begins_with rule.hooks x

-- node x is an end of the link, whose label is i
abbrev pub is_end : ℕ → ℕ → Link → Bool
is_end x i link = link.label == i && (link.from == x || link.to == x)

-- the left step of node x at label i, unless it is walked or one of these links
abbrev pub tested_step : Rule → List Link → ℕ → ℕ → Step
tested_step rule links x i = if is_walked rule x (step rule Left x i) || list_any (is_end x i) links then Absent else step rule Left x i

abbrev pub is_step : Step → Bool
is_step Absent = false
is_step (Exp y) = true
is_step (Imp k) = true

-- ---- the list

abbrev pub test_of : ℕ → ℕ → Step → Test
test_of x i s = record { node = x; label = i; step = s }

-- the test is one of the steps before the pair of node q and label l, at the first labels
pub record IsListed (steps : ℕ → ℕ → Step) (labels q l : ℕ) (test : Test) : Type 0 where
  pub before : IsPairBefore test.node test.label q l
  pub low : test.label < labels
  pub is : steps test.node test.label ≡ test.step
  pub some : test.step ≢ Absent

-- the tests are these steps, but for absent ones
pub record AreListed (steps : ℕ → ℕ → Step) (labels q l : ℕ) (tests : List Test) : Type 0 where
  pub each : (t : ℕ) (test : Test) → slice_get tests t ≡ Some test → IsListed steps labels q l test
  pub all : (x i : ℕ) → IsPairBefore x i q l → i < labels → (steps x i ≡ Absent) ⊎ ((t : ℕ) × (slice_get tests t ≡ Some (test_of x i (steps x i))))
  pub few : length tests ≤ q * labels + l

-- the test is a left step of the rule, at a label up to n
pub record IsTest (n : ℕ) (rule : Rule) (test : Test) : Type 0 where
  pub node : test.node < length rule.nodes
  pub label : test.label ≤ n
  pub is : step rule Left test.node test.label ≡ test.step
  pub some : test.step ≢ Absent

-- so are these tests, and the candidate meets each other left step as it is made
pub record AreTests (n : ℕ) (rule : Rule) (tests : List Test) : Type 0 where
  pub each : (t : ℕ) (test : Test) → slice_get tests t ≡ Some test → IsTest n rule test
  pub all : (x i : ℕ) → x < length rule.nodes → i ≤ n → IsForcedStep rule x i ⊎ ((t : ℕ) × (slice_get tests t ≡ Some (test_of x i (step rule Left x i))))
  pub few : length tests ≤ length rule.nodes * (n + 1)
