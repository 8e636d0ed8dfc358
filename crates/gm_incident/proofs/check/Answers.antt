use Rattle.std.proofs.Common.{◌≤◌, arith, subst, MatchResult}
use Rattle.std.proofs.lemmas.Result.{MatchResult-weaker}
use Rattle.gm_model.specs.declared.rule.Side.TheVariants.{Left}
use Rattle.gm_model.specs.Rules.{rule_of}
use Rattle.gm_model.specs.Structure.{OfArcs, HasIncidence, IsIncidenceFault}
use Rattle.gm_incident.proofs.InRange.{hooks_below, ends_below, labels_below}
use Rattle.gm_incident.proofs.check.Goals as goal

pub check_structure-requires-clause-hooks : goal.check_structure-requires-clause-hooks
check_structure-requires-clause-hooks c = hooks_below c.args.schema.now (rule_of c.args.rule.now) c.requires.in_range c.requires.within

pub check_structure-requires-clause-ends : goal.check_structure-requires-clause-ends
check_structure-requires-clause-ends c = ends_below c.args.schema.now (rule_of c.args.rule.now) c.requires.in_range c.requires.within Left

pub check_arcs-requires-clause-labels : goal.check_arcs-requires-clause-labels
check_arcs-requires-clause-labels c =
    let few : c.args.schema.now.dim ≤ 7 = omega arith in
    labels_below c.args.schema.now (rule_of c.args.rule.now) few c.requires.in_range c.requires.within

pub returns : goal.returns
returns c = subst (λ n. MatchResult c.check_arcs.result (λ _. HasIncidence n (rule_of c.args.rule.now)) (λ fault. IsIncidenceFault n (rule_of c.args.rule.now) fault)) c.top.ensures.value
    (MatchResult-weaker c.check_arcs.result c.check_arcs.ensures
    (λ _ h. record { structured = c.in_ok-check_structure.ensures; arcs = h })
    (λ fault. OfArcs c.in_ok-check_structure.ensures))
