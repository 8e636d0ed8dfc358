use Rattle.gm_model.proofs.Exits.{unless_ok}
use Rattle.std.proofs.Common.{◌≡◌, ℕ, List, [], map, sym, ap, subst, ◌∙◌}
use Rattle.std.specs.List.{AllByRecursion}
use Rattle.std.specs.Prelude.{IfOk}
use Rattle.gm_model.specs.Names.{IsName}
use Rattle.gm_model.specs.Rules.{node_of}
use Rattle.gm_forms.specs.declared.key.NameKey.{NameKey}
use Rattle.gm_forms.specs.BookText.{node_in}
use Rattle.gm_forms.specs.inner.Forms.{rule_form_of}
use Rattle.gm_forms.specs.inner.Held.{names_at}
use Rattle.gm_book.specs.declared.table.Parts.{Parts}
use Rattle.gm_book.proofs.table.parts_of.Goals as goal

pub returns-in_err-take_in_rule-clause-params : goal.returns-in_err-take_in_rule-clause-params
returns-in_err-take_in_rule-clause-params c = unless_ok _ c.from_residual.result c.from_residual.ensures.0

pub returns-in_err-take_in_rule-clause-nodes : goal.returns-in_err-take_in_rule-clause-nodes
returns-in_err-take_in_rule-clause-nodes c = unless_ok _ c.from_residual.result c.from_residual.ensures.0

pub numbered_parts-requires-clause-good : goal.numbered_parts-requires-clause-good
numbered_parts-requires-clause-good c = subst (λ (keys : List NameKey). AllByRecursion IsName (names_at keys)) (sym c.as_slice.ensures.keys) c.in_ok-take_in_rule.ensures.good

pub returns-clause-params : goal.returns-clause-params
returns-clause-params c = c.numbered_parts.ensures.params

pub returns-clause-nodes : goal.returns-clause-nodes
returns-clause-nodes c =
    let form = rule_form_of c.args.text.now c.args.rule.now in
    let same = ap names_at c.as_slice.ensures.keys ∙ c.in_ok-take_in_rule.ensures.nodes in
    subst (λ (names : List (List ℕ)). IfOk c.numbered_parts.result (λ (parts : Parts). map node_of parts.nodes.items ≡ map (node_in form (λ _. [])) names)) same c.numbered_parts.ensures.nodes
