use Rattle.std.proofs.Common.{Ok, subst}
use Rattle.gm_forms.specs.inner.Standing.{IsStateIn}
use Rattle.gm_forms.proofs.Behind.{ends_at, assigned_ends, rule_ends}
use Rattle.gm_forms.proofs.reader.Reader.end.Goals as goal

pub returns-in-Item-clause-ends : goal.returns-in-Item-clause-ends
returns-in-Item-clause-ends c text = ends_at text c.args.self.now.nodes c.args.self.now.draft c.args.place c.end_item.result c.end_item.new.self.draft c.in-Item.is (c.end_item.ensures.ends text)

pub returns-in-Item-clause-within : goal.returns-in-Item-clause-within
returns-in-Item-clause-within c text draft_in state_in = c.end_item.ensures.within text draft_in

pub returns-in-Behind-clause-ends : goal.returns-in-Behind-clause-ends
returns-in-Behind-clause-ends c text = ends_at text c.args.self.now.nodes c.args.self.now.draft c.args.place c.end_behind.result c.end_behind.new.self.draft c.in-Behind.is (c.end_behind.ensures.ends text)

pub returns-in-Behind-clause-within : goal.returns-in-Behind-clause-within
returns-in-Behind-clause-within c text draft_in state_in = c.end_behind.ensures.within text draft_in (subst (IsStateIn text) c.in-Behind.is state_in)

pub returns-in-Assigned-clause-ends : goal.returns-in-Assigned-clause-ends
returns-in-Assigned-clause-ends c text =
    ends_at text c.args.self.now.nodes c.args.self.now.draft c.args.place c.end_item-in-Assigned.result c.end_item-in-Assigned.new.self.draft c.in-Assigned.is
    (assigned_ends text c.args.self.now.nodes c.args.self.now.draft c.in-Assigned.spot c.on_right.result c.args.place c.end_item-in-Assigned.result c.end_item-in-Assigned.new.self.draft c.on_right.ensures (c.end_item-in-Assigned.ensures.ends text))

pub returns-in-Assigned-clause-within : goal.returns-in-Assigned-clause-within
returns-in-Assigned-clause-within c text draft_in state_in = c.end_item-in-Assigned.ensures.within text draft_in

pub returns-in_ok-close-in-RuleEnd-clause-within : goal.returns-in_ok-close-in-RuleEnd-clause-within
returns-in_ok-close-in-RuleEnd-clause-within c text draft_in state_in = (c.in_ok-close-in-RuleEnd.ensures.within text draft_in).0

pub returns-in_ok-close-in-RuleEnd-clause-ends : goal.returns-in_ok-close-in-RuleEnd-clause-ends
returns-in_ok-close-in-RuleEnd-clause-ends c text =
    ends_at {X = Unit {0}} text c.args.self.now.nodes c.args.self.now.draft c.args.place (Ok tt) c.close.new.self c.in-RuleEnd.is
    (rule_ends {X = Unit {0}} text c.args.self.now.nodes c.args.self.now.draft c.close.new.self c.in-RuleEnd.field-0 c.in-RuleEnd.field-1 c.args.place tt (c.in_ok-close-in-RuleEnd.ensures.rules text) c.in_ok-close-in-RuleEnd.ensures.current)
