use Rattle.std.proofs.Common.{arith}
use Rattle.gm_grid.proofs.GridSchema.{is_schema}
use Rattle.gm_grid.proofs.laws.the_rule_is_accepted.Goals as goal
use Rattle.gm_theory.proofs.ExamplesTriangulation.{accepted}

-- the rule is the worked example of the theory
pub returns : goal.returns
returns c = record {
  declared = is_schema;
  limits = record { nodes = omega arith; left_links = omega arith; right_links = omega arith; params = omega arith };
  accepted = accepted;
}
