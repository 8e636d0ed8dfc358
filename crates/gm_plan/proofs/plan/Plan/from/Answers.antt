use Rattle.std.proofs.Common.{sym}
use Rattle.gm_model.specs.Rules.{rule_of}
use Rattle.gm_plan.proofs.PathLinks.{unlinked, linked}
use Rattle.gm_plan.proofs.plan.Plan.from.Goals as goal

pub returns-in_err-link : goal.returns-in_err-link
returns-in_err-link c = rw (c.from_residual.ensures, ← c.self.view_is)
    (unlinked (rule_of c.self.inside.rule.now) c.self.inside.paths.items c.self.invariant.are_paths c.args.node
    (rw (← c.self.view_is) at c.requires)
    (sym (rw (c.in_err-link.was, c.as_slice.ensures) at c.link_to.ensures)))

pub returns : goal.returns
returns c = rw (← c.self.view_is)
    (linked (rule_of c.self.inside.rule.now) c.self.inside.paths.items c.self.invariant.are_paths c.args.node
    c.in_ok-link.link.now
    (sym (rw (c.in_ok-link.was, c.as_slice.ensures) at c.link_to.ensures)))
