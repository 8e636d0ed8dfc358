use Rattle.std.proofs.Common.{◌≡◌, [], map, sym, ap, subst, ◌∙◌}
use Rattle.std.specs.List.{AllByRecursion}
use Rattle.gm_model.specs.Names.{IsName}
use Rattle.gm_forms.specs.inner.Forms.{item_of, rule_form_of}
use Rattle.gm_book.specs.inner.FirstNameFault.{with_items}
use Rattle.gm_forms.specs.inner.Held.{names_held}
use Rattle.gm_book.proofs.RuleNames.{rule_names_counted, good_items}
use Rattle.gm_model.proofs.Exits.{never_ok}
use Rattle.gm_book.proofs.table.take_in_rule.Goals as goal

module _ (c : goal.In_ok-take_in_nodes-2) where
  all_taken : names_held c.take_in_nodes-2.new.table ≡ with_items (with_items [] (map (item_of c.args.text.now) c.args.rule.now.left.items)) (map (item_of c.args.text.now) c.args.rule.now.right.items)
  all_taken =
      c.in_ok-take_in_nodes-2.ensures.held
      ∙ (ap (λ items. with_items (names_held c.take_in_nodes.new.table) (map (item_of c.args.text.now) items)) c.as_slice-2.ensures.value
      ∙ ap (λ names. with_items names (map (item_of c.args.text.now) c.args.rule.now.right.items))
      (c.in_ok-take_in_nodes.ensures.held
      ∙ (ap (λ items. with_items (names_held c.args.names.now) (map (item_of c.args.text.now) items)) c.as_slice.ensures.value
      ∙ ap (λ names. with_items names (map (item_of c.args.text.now) c.args.rule.now.left.items)) c.requires.empty)))

pub returns-clause-nodes : goal.returns-clause-nodes
returns-clause-nodes c = all_taken c ∙ rule_names_counted (rule_form_of c.args.text.now c.args.rule.now)

pub returns-clause-good : goal.returns-clause-good
returns-clause-good c =
    let text = c.args.text.now in
    let rule = c.args.rule.now in
    subst (AllByRecursion IsName) (sym (all_taken c))
    (good_items text rule.right.items _ (good_items text rule.left.items [] tt c.requires.within.2) c.requires.within.3)

pub returns-in_err-take_in_nodes-clause-nodes : goal.returns-in_err-take_in_nodes-clause-nodes
returns-in_err-take_in_nodes-clause-nodes c = never_ok _ c.from_residual.result c.from_residual.ensures.0

pub returns-in_err-take_in_nodes-clause-good : goal.returns-in_err-take_in_nodes-clause-good
returns-in_err-take_in_nodes-clause-good c = never_ok _ c.from_residual.result c.from_residual.ensures.0

pub returns-in_err-take_in_nodes-2-clause-nodes : goal.returns-in_err-take_in_nodes-2-clause-nodes
returns-in_err-take_in_nodes-2-clause-nodes c = never_ok _ c.from_residual-in_err-take_in_nodes-2.result c.from_residual-in_err-take_in_nodes-2.ensures.0

pub returns-in_err-take_in_nodes-2-clause-good : goal.returns-in_err-take_in_nodes-2-clause-good
returns-in_err-take_in_nodes-2-clause-good c = never_ok _ c.from_residual-in_err-take_in_nodes-2.result c.from_residual-in_err-take_in_nodes-2.ensures.0
