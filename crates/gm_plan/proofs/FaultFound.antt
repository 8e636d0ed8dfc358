-- A typed rule in range is accepted, or it has a first fault.
use Rattle.std.proofs.Common.{◌⊎◌, inl, inr}
use Rattle.gm_model.specs.declared.rule.RuleFault.{RuleFault}
use Rattle.gm_model.specs.declared.schema.Schema.{Schema}
use Rattle.gm_model.specs.Acceptance.{IsAccepted, IsFault, Incidence, Cycle, Embedding}
use Rattle.gm_model.specs.Components.{HasSources, IsEmbedFault}
use Rattle.gm_model.specs.Kinds.{IsTyped}
use Rattle.gm_model.specs.Rules.{Rule}
use Rattle.gm_model.specs.Squares.{HasSquares, IsSquareFault}
use Rattle.gm_model.specs.Structure.{IsInRange, HasIncidence, IsIncidenceFault}
use Rattle.gm_plan.proofs.IncidenceFound.{incidence_or_fault}
use Rattle.gm_plan.proofs.SourcesFound.{sources_or_fault}
use Rattle.gm_plan.proofs.SquaresFound.{squares_or_fault}

module _ (schema : Schema) (rule : Rule) (range : IsInRange schema rule) (typed : IsTyped schema rule) where
  abbrev AcceptedOrFault : Type 0
  AcceptedOrFault = IsAccepted schema rule ⊎ ((fault : RuleFault) × IsFault schema rule fault)

  by_sources : HasIncidence schema.dim rule → HasSquares schema.dim rule → HasSources schema rule ⊎ ((fault : RuleFault) × IsEmbedFault schema rule fault) → AcceptedOrFault
  by_sources incidence squares (inl sources) = inl (record { in_range = range; typed = typed; incidence = incidence; squares = squares; sources = sources })
  by_sources incidence squares (inr (fault, here)) = inr (fault, Embedding incidence squares here)

  by_squares : HasIncidence schema.dim rule → HasSquares schema.dim rule ⊎ ((fault : RuleFault) × IsSquareFault schema.dim rule fault) → AcceptedOrFault
  by_squares incidence (inl squares) = by_sources incidence squares (sources_or_fault rule schema)
  by_squares incidence (inr (fault, here)) = inr (fault, Cycle incidence here)

  by_incidence : HasIncidence schema.dim rule ⊎ ((fault : RuleFault) × IsIncidenceFault schema.dim rule fault) → AcceptedOrFault
  by_incidence (inl incidence) = by_squares incidence (squares_or_fault rule schema.dim)
  by_incidence (inr (fault, here)) = inr (fault, Incidence here)

  pub accepted_or_fault : IsAccepted schema rule ⊎ ((fault : RuleFault) × IsFault schema rule fault)
  accepted_or_fault = by_incidence (incidence_or_fault rule schema.dim)
