use Rattle.gm_incident.specs.inner.Words.{StandsBefore}
use Rattle.gm_incident.proofs.structure.stands_before.Given as goal

abbrev pub invariant-loop-earlier : goal.invariant-loop-earlier
invariant-loop-earlier l = StandsBefore l.word l.earlier l.letter → ⊥
