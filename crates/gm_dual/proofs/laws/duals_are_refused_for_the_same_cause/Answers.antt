use Rattle.std.proofs.Common.{◌⊎◌, subst}
use Rattle.gm_model.specs.Applications.{IsRefused}
use Rattle.gm_dual.specs.Duals.{IsOfMatch, dual_application}
use Rattle.gm_dual.proofs.BookLemmas.{accepted_dual, application_twice}
use Rattle.gm_dual.proofs.RefusedLemmas.{refused_dual}
use Rattle.gm_dual.proofs.SoundLemmas.{schema_dual}
use Rattle.gm_dual.proofs.laws.duals_are_refused_for_the_same_cause.Goals as goal

pub returns-clause-to_dual : goal.returns-clause-to_dual
returns-clause-to_dual c app cause most lawful accepted refused = refused_dual app most lawful accepted cause refused

pub returns-clause-from_dual : goal.returns-clause-from_dual
returns-clause-from_dual c app cause most lawful accepted refused =
    let again = refused_dual (dual_application app) most (schema_dual app.map.schema most lawful) (accepted_dual app.map.schema app.rule most lawful accepted) cause refused in
    subst (λ a. IsOfMatch cause ⊎ IsRefused a cause) (application_twice app most lawful accepted.in_range accepted.typed) again
