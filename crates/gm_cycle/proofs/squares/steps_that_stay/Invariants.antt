use Rattle.std.proofs.Common.{◌≡◌, ◌<◌, ℕ, ◌↔◌, true, false, length, get_or}
use Rattle.gm_model.specs.Rules.{rule_of}
use Rattle.gm_model.specs.Squares.{IsSameStep}
use Rattle.gm_cycle.proofs.squares.steps_that_stay.Given as goal

abbrev pub invariant-loop-label : goal.invariant-loop-label
invariant-loop-label l = record {
  len : length l.stays ≡ 8;
  tells : (i : ℕ) → i < l.label → (get_or l.stays i false ≡ true) ↔ IsSameStep (rule_of l.rule) l.node i;
}
