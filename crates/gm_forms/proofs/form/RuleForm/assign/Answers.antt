use Rattle.std.proofs.Common.{List, ap}
use Rattle.gm_forms.specs.BookText.{Item, RuleForm}
use Rattle.gm_forms.specs.inner.Forms.{IsItemIn, rule_form_of, set_form_of}
use Rattle.gm_forms.proofs.Drafts.{last_kept, assigned_in}
use Rattle.gm_model.proofs.Exits.{never_ok}
use Rattle.gm_forms.proofs.Stops.{memory_fault}
use Rattle.gm_forms.proofs.form.RuleForm.assign.Goals as goal

pub returns-clause-within : goal.returns-clause-within
returns-clause-within c text set_in rule_in = (
  rule_in.0,
  rule_in.1,
  rule_in.2,
  last_kept (IsItemIn text) c.args.self.now.right.items c.pop.new.self.items c.push.new.self.items c.in-Some.item c.in_ok-item.item c.in-Some.ensures.items c.in_ok-push.ensures.items (c.in_ok-item.ensures.within text set_in) rule_in.3,
  rule_in.4,
)

pub returns-clause-listed : goal.returns-clause-listed
returns-clause-listed c text =
    ap (λ (right : List Item). let rule : RuleForm = record (rule_form_of text c.args.self.now) { right = right } in rule)
    (assigned_in text (set_form_of text c.args.set) c.args.self.now.right.items c.pop.new.self.items c.push.new.self.items c.in-Some.item c.in_ok-item.item c.in-Some.ensures.items c.in_ok-push.ensures.items (c.in_ok-item.ensures.assigned text))

pub returns-in_err-item-clause-memory : goal.returns-in_err-item-clause-memory
returns-in_err-item-clause-memory c = memory_fault c.from_residual.result c.from_residual.ensures.1

pub returns-in_err-item-clause-within : goal.returns-in_err-item-clause-within
returns-in_err-item-clause-within c text set_in rule_in = never_ok _ c.from_residual.result c.from_residual.ensures.0

pub returns-in_err-item-clause-listed : goal.returns-in_err-item-clause-listed
returns-in_err-item-clause-listed c text = never_ok _ c.from_residual.result c.from_residual.ensures.0

pub returns-in_err-push-clause-memory : goal.returns-in_err-push-clause-memory
returns-in_err-push-clause-memory c = memory_fault c.from_residual-in_err-push.result c.from_residual-in_err-push.ensures.1

pub returns-in_err-push-clause-within : goal.returns-in_err-push-clause-within
returns-in_err-push-clause-within c text set_in rule_in = never_ok _ c.from_residual-in_err-push.result c.from_residual-in_err-push.ensures.0

pub returns-in_err-push-clause-listed : goal.returns-in_err-push-clause-listed
returns-in_err-push-clause-listed c text = never_ok _ c.from_residual-in_err-push.result c.from_residual-in_err-push.ensures.0
