use Rattle.std.proofs.Common.{map, Ok, sym, ap, ◌∙◌}
use Rattle.gm_model.specs.Rules.{rule_of}
use Rattle.gm_model.specs.Statements.{stat_of}
use Rattle.gm_script.proofs.Loop.{stays, stat_added, fault_added}
use Rattle.gm_script.proofs.comparing.Compared.add.Goals as goal

pub returns-then-is_some-clause-ok : goal.returns-then-is_some-clause-ok
returns-then-is_some-clause-ok c = λ before holds.
    rw (← c.self.view_is) (stays c.args.bytes.now (map rule_of c.args.rules.now) before c.args.draft.now c.self.inside.fault c.self.inside.stats.stats (sym c.is_some.ensures ∙ c.if-is_some.true) (rw (← c.self.view_is) at holds))

pub returns-in_ok-push-in-Ok-clause-ok : goal.returns-in_ok-push-in-Ok-clause-ok
returns-in_ok-push-in-Ok-clause-ok c = λ before holds.
    rw c.in_ok-push-in-Ok.ensures.ok
    (stat_added c.args.bytes.now (map rule_of c.args.rules.now) before c.args.draft.now c.self.inside.fault c.self.inside.stats.stats (stat_of c.as_stat.result) (sym c.is_some.ensures ∙ c.if-is_some.false) (rw (← c.self.view_is) at holds) (c.in-Ok.ensures ∙ ap Ok (sym c.as_stat.ensures)))

pub returns-in-Err-clause-ok : goal.returns-in-Err-clause-ok
returns-in-Err-clause-ok c = λ before holds.
    (fault_added c.args.bytes.now (map rule_of c.args.rules.now) before c.args.draft.now c.self.inside.fault c.self.inside.stats.stats c.in-Err.fault (sym c.is_some.ensures ∙ c.if-is_some.false) (rw (← c.self.view_is) at holds) c.in-Err.ensures)
