-- The candidates at the same hook darts are like: where one is a match the other is.
use Rattle.std.proofs.Common.{ℕ, ◌<◌, sym, subst, ◌∙◌}
use Rattle.gm_model.specs.Applications.{Application, MeetsSteps, IsRepeat}
use Rattle.gm_model.specs.Matches.{Placement, IsCandidate, IsInstance}
use Rattle.gm_model.specs.Structure.{IsInRange, HasIncidence}
use Rattle.gm_theory.specs.inner.OneMatch.{IsLike}
use Rattle.gm_theory.proofs.Agreement.{candidates_agree, met_alike}
use Rattle.gm_theory.proofs.Found.{IsFound}

module _ (app : Application) (place other : Placement) (like : IsLike app.rule place other) where
  pub instance_there : (x p : ℕ) → IsInstance app.rule place x p → IsInstance app.rule other x p
  instance_there x p at = (at.0, subst (λ n. p < n) like.positions at.1)

  pub repeat_like : (x p y q : ℕ) → IsRepeat app place x p y q → IsRepeat app other x p y q
  repeat_like x p y q r = record {
    first = instance_there x p r.first;
    second = instance_there y q r.second;
    later = r.later;
    same = sym (like.darts x p r.first) ∙ r.same ∙ like.darts y q r.second;
  }

module _ (app : Application) (in_range : IsInRange app.map.schema app.rule) (incidence : HasIncidence app.map.schema.dim app.rule) where
  pub candidates_like : (place other : Placement) → IsCandidate app.map app.rule app.hooks place → IsCandidate app.map app.rule app.hooks other → IsLike app.rule place other
  candidates_like = candidates_agree app.map app.rule app.hooks in_range incidence

  pub steps_like : (place other : Placement) → IsLike app.rule place other → IsLike app.rule other place → MeetsSteps app place → MeetsSteps app other
  steps_like place other like back steps x p i at h = met_alike app.map app.rule app.hooks in_range incidence other place back x p i at h (steps x p i (instance_there app other place back x p at) h)

  -- one candidate is a match where another is
  pub found_like : (place other : Placement) → IsCandidate app.map app.rule app.hooks other → IsFound app place → IsFound app other
  found_like place other candidate found =
      let like = candidates_like place other found.candidate candidate in
      let back = candidates_like other place candidate found.candidate in
      record {
        darts = found.darts;
        candidate = candidate;
        steps = steps_like place other like back found.steps;
        distinct = λ x p y q r. found.distinct x p y q (repeat_like app other place back x p y q r);
      }
