use Rattle.std.proofs.Common.{◌+◌, ◌≤◌}
use Rattle.gm_arena.specs.inner.ArenaMap.{alpha}
use Rattle.gm_model.specs.declared.step.Step.TheVariants.{Exp}
use Rattle.gm_model.specs.Matches.{IsStepMet}
use Rattle.gm_model.specs.Structure.{AreGood}
use Rattle.gm_plan.specs.inner.InArena.{placement_in}
use Rattle.gm_match.proofs.arcs.first_unlinked.Given as goal

abbrev pub invariant-loop-position : goal.invariant-loop-position
invariant-loop-position g l = record {
  met : AreGood (λ p. IsStepMet (alpha l.arena) (placement_in l.arena l.found) l.node p l.label (Exp l.other)) l.position;
  cost : l.steps ≤ l.fn.steps + l.position;
  least : l.fn.steps ≤ l.steps;
}
