use Rattle.std.proofs.Common.{ap, map}
use Rattle.gm_forms.specs.inner.Forms.{rule_form_of}
use Rattle.gm_forms.proofs.Behind.{behind_ends}
use Rattle.gm_model.proofs.Exits.{unless_ok}
use Rattle.gm_forms.proofs.Stops.{memory_wanting}
use Rattle.gm_forms.proofs.reader.Reader.end_behind.Goals as goal

pub returns-clause-ends : goal.returns-clause-ends
returns-clause-ends c text =
    behind_ends text c.args.self.now.nodes c.args.self.now.draft c.put_node.new.self c.args.spot c.args.name c.args.word c.args.place c.end_item.result c.end_item.new.self.draft
    (ap (λ rs. map (rule_form_of text) rs.items) c.in_ok-put_node.ensures.rules) (c.in_ok-put_node.ensures.current text) (c.end_item.ensures.ends text)

pub returns-clause-within : goal.returns-clause-within
returns-clause-within c text draft_in name_in = c.end_item.ensures.within text (c.in_ok-put_node.ensures.within text name_in draft_in)

pub returns-in_err-put_node-clause-ends : goal.returns-in_err-put_node-clause-ends
returns-in_err-put_node-clause-ends c text last = memory_wanting _ c.from_residual.result _ c.from_residual.ensures.1

pub returns-in_err-put_node-clause-within : goal.returns-in_err-put_node-clause-within
returns-in_err-put_node-clause-within c text draft_in name_in = unless_ok _ c.from_residual.result c.from_residual.ensures.0
