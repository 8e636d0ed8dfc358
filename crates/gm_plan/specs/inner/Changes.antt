-- What an application changes: the steps of each node whose arcs it writes, and the nodes that it removes.
use Rattle.std.specs.Prelude.{◌≡◌, ℕ, ◌<◌, ◌↔◌, if◌then◌else◌, Bool, true, false, not, ◌&&◌, ◌==◌, length}
use Rattle.std.specs.Int.{bit_at}
use Rattle.gm_model.specs.declared.rule.Side.TheVariants.{Left, Right}
use Rattle.gm_model.specs.declared.step.Step.{Step}
use Rattle.gm_model.specs.declared.step.Step.TheVariants.{Absent, Exp, Imp}
use Rattle.gm_model.specs.declared.word.Mask.{Mask}
use Rattle.gm_model.specs.Labels.{has}
use Rattle.gm_model.specs.Rules.{Rule, has_word, is_removed, step}

abbrev pub is_same : Step → Step → Bool
is_same Absent Absent = true
is_same Absent (Exp z) = false
is_same Absent (Imp k) = false
is_same (Exp y) Absent = false
is_same (Exp y) (Exp z) = y == z
is_same (Exp y) (Imp k) = false
is_same (Imp m) Absent = false
is_same (Imp m) (Exp z) = false
is_same (Imp m) (Imp k) = m == k

-- whether bit x of the number is set
abbrev pub has_bit : ℕ → ℕ → Bool
has_bit bits x = bit_at bits x == 1

module _ (rule : Rule) where
  -- a left step of node x, where it leads to darts that are removed
  abbrev pub freed_by : ℕ → Step → Step
  freed_by x Absent = Absent
  freed_by x (Exp y) = if is_removed rule y then Exp y else Absent
  freed_by x (Imp m) = if is_removed rule x then Imp m else Absent

  -- the left step, where it leads to darts that are removed
  abbrev pub freed_step : ℕ → ℕ → Step
  freed_step x i = if has_word rule Left x then freed_by x (step rule Left x i) else Absent

  -- the step is the same on both sides
  abbrev pub is_steady : ℕ → ℕ → Bool
  is_steady x i = has_word rule Left x && is_same (step rule Left x i) (step rule Right x i)

  -- the right step, unless it is the same on the left
  abbrev pub made_step : ℕ → ℕ → Step
  made_step x i = if has_word rule Right x && not (is_steady x i) then step rule Right x i else Absent

  -- no node has a made step at the label
  abbrev pub MakesNone : ℕ → Type 0
  MakesNone i = (x : ℕ) → x < length rule.nodes → made_step x i ≡ Absent

  -- the mask has those labels, and no other, at which some node has a made step
  abbrev pub AreMadeLabels : Mask → Type 0
  AreMadeLabels mask = (i : ℕ) → i < 8 → (has mask i ≡ false) ↔ MakesNone i

  -- bit x tells whether node x is removed
  abbrev pub AreRemovedNodes : ℕ → Type 0
  AreRemovedNodes bits = (x : ℕ) → x < length rule.nodes → has_bit bits x ≡ is_removed rule x
