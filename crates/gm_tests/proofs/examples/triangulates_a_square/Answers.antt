-- The example is worked out in the lemmas.
use Rattle.gm_theory.proofs.ExamplesCentre.{square_lawful, four_triangles_lawful, triangulated}
use Rattle.gm_theory.proofs.ExamplesDone.{done, budget}
use Rattle.gm_theory.proofs.ExamplesTriangulation.{accepted, found}
use Rattle.gm_tests.proofs.examples.triangulates_a_square.Goals as goal

pub returns : goal.returns
returns c = record { worked = record { lawful = square_lawful; accepted = accepted; found = found; new_values = triangulated }; again = four_triangles_lawful; done = done; budget = budget }
