use Rattle.std.proofs.Common.{[], map, refl, ap, ◌∙◌}
use Rattle.std.proofs.lemmas.List.{take_all}
use Rattle.gm_model.specs.Rules.{node_of}
use Rattle.gm_forms.specs.declared.key.NameKey.{NameKey}
use Rattle.gm_forms.specs.BookText.{node_in}
use Rattle.gm_forms.specs.inner.Forms.{rule_form_of}
use Rattle.gm_forms.specs.inner.Held.{names_at}
use Rattle.gm_book.proofs.Mapped.{seen_more}
use Rattle.gm_book.proofs.RuleNames.{good_at}
use Rattle.gm_model.proofs.Exits.{unless_ok}
use Rattle.gm_book.proofs.table.nodes.Goals as goal

pub node-requires-clause-good : goal.node-requires-clause-good
node-requires-clause-good c = good_at c.args.names.now c.loop-name.name-index _ c.requires.good c.loop-name-test.true

pub loop-name-preserved : goal.loop-name-preserved
loop-name-preserved c =
    seen_more (λ (key : NameKey). key.bytes.now) (node_in (rule_form_of c.args.text.now c.args.rule.now) (λ node. [])) c.args.names.now c.loop-name.name-index _ _ c.loop-name-test.true refl
    node_of c.loop-name.nodes.items c.push.new.self.items c.node.result c.loop-name.invariant
    (rw c.new.ensures.items at c.node.ensures) c.in_ok-push.ensures.items

pub returns : goal.returns
returns c = c.loop-name.invariant ∙ ap (λ names. map (node_in (rule_form_of c.args.text.now c.args.rule.now) (λ node. [])) (names_at names)) (take_all c.loop-name.name-index c.args.names.now c.loop-name-test.false)

pub returns-in_err-push : goal.returns-in_err-push
returns-in_err-push c = unless_ok _ c.from_residual.result c.from_residual.ensures.0
