-- Which rules are accepted, and what the first fault of a rule is.
use Rattle.gm_model.specs.declared.rule.RuleFault.{RuleFault}
use Rattle.gm_model.specs.declared.schema.Schema.{Schema}
use Rattle.gm_model.specs.Components.{HasSources, IsEmbedFault}
use Rattle.gm_model.specs.Kinds.{IsTyped}
use Rattle.gm_model.specs.Rules.{Rule}
use Rattle.gm_model.specs.Squares.{HasSquares, IsSquareFault}
use Rattle.gm_model.specs.Structure.{IsInRange, HasIncidence, IsIncidenceFault}

-- The conditions on a rule, with that its numbers are in range. They are read off the rule alone, and speak of no map.
pub record IsAccepted (schema : Schema) (rule : Rule) : Type 0 where
  pub in_range : IsInRange schema rule
  pub typed : IsTyped schema rule
  pub incidence : HasIncidence schema.dim rule
  pub squares : HasSquares schema.dim rule
  pub sources : HasSources schema rule

-- the first fault of a rule in range: structure, incident arcs, squares, embeddings
pub data IsFault (schema : Schema) (rule : Rule) (fault : RuleFault) : Type 0 where
  Incidence : IsIncidenceFault schema.dim rule fault → IsFault schema rule fault
  Cycle : HasIncidence schema.dim rule → IsSquareFault schema.dim rule fault → IsFault schema rule fault
  Embedding : HasIncidence schema.dim rule → HasSquares schema.dim rule → IsEmbedFault schema rule fault → IsFault schema rule fault
