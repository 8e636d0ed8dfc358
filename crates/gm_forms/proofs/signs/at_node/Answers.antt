use Rattle.gm_model.proofs.Exits.{unless_ok}
use Rattle.gm_forms.proofs.Stops.{memory_wanting}
use Rattle.std.proofs.Common.{ℕ, length, nat_lt, sym, ap, ◌∙◌}
use Rattle.std.proofs.lemmas.Bool.{lt-ltb}
use Rattle.gm_forms.specs.BookText.{with_name}
use Rattle.gm_forms.proofs.OneToken.{node, many_nodes}
use Rattle.gm_forms.proofs.signs.at_node.Goals as goal

pub returns-in_err-add-clause-within : goal.returns-in_err-add-clause-within
returns-in_err-add-clause-within c state_in = unless_ok _ c.from_residual.result c.from_residual.ensures.0

pub returns-in_err-add-clause-leads : goal.returns-in_err-add-clause-leads
returns-in_err-add-clause-leads c rules current = memory_wanting _ c.from_residual.result _ c.from_residual.ensures.1

pub returns-then-len-gt-MOST_NODES-clause-leads : goal.returns-then-len-gt-MOST_NODES-clause-leads
returns-then-len-gt-MOST_NODES-clause-leads c rules current =
    let text = c.args.lexer.now.text in
    let counted = c.len.ensures ∙ ap length (c.in_ok-add.ensures ∙ ap (with_name c.args.nodes.now) c.text.ensures) in
    many_nodes text c.args.token c.args.nodes.now c.args.spot c.args.name c.requires.sign (sym (ap (λ (count : ℕ). nat_lt 32 count) counted) ∙ lt-ltb 32 c.len.result c.if-len-gt-MOST_NODES.true) rules current c.args.last

pub returns-then-len-gt-MOST_NODES-clause-within : goal.returns-then-len-gt-MOST_NODES-clause-within
returns-then-len-gt-MOST_NODES-clause-within c state_in = tt

pub returns-clause-within : goal.returns-clause-within
returns-clause-within c state_in = state_in

pub returns-clause-leads : goal.returns-clause-leads
returns-clause-leads c rules current = node c.args.lexer.now.text c.args.token c.args.nodes.now c.add.new.self c.args.spot c.args.name c.no_letters.result c.requires.sign (c.in_ok-add.ensures ∙ ap (with_name c.args.nodes.now) c.text.ensures) c.no_letters.ensures c.len.result c.len.ensures c.if-len-gt-MOST_NODES.false rules current c.args.last
