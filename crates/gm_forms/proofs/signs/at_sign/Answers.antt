use Rattle.std.proofs.Common.{sym, ◌∙◌}
use Rattle.gm_forms.proofs.OneToken.{link, many_links, no_sign}
use Rattle.gm_forms.proofs.signs.at_sign.Goals as goal

pub returns-then-reads-clause-within : goal.returns-then-reads-clause-within
returns-then-reads-clause-within c = c.at_node.ensures.within

pub returns-then-reads-clause-leads : goal.returns-then-reads-clause-leads
returns-then-reads-clause-leads c = c.at_node.ensures.leads

pub returns-in-Some-clause-within : goal.returns-in-Some-clause-within
returns-in-Some-clause-within c state_in = state_in

pub returns-in-Some-clause-leads : goal.returns-in-Some-clause-leads
returns-in-Some-clause-leads c rules current = link c.args.lexer.now.text c.args.token c.args.spot c.args.name c.in-Some.links (sym c.reads.ensures ∙ c.if-reads.false) (sym c.reads-2.ensures ∙ c.if-reads-2.true) c.in-Some.ensures c.args.nodes.now rules current c.args.last

pub returns-in-None-clause-within : goal.returns-in-None-clause-within
returns-in-None-clause-within c state_in = tt

pub returns-in-None-clause-leads : goal.returns-in-None-clause-leads
returns-in-None-clause-leads c rules current = many_links c.args.lexer.now.text c.args.token c.args.spot c.args.name (sym c.reads.ensures ∙ c.if-reads.false) (sym c.reads-2.ensures ∙ c.if-reads-2.true) c.in-None.ensures c.args.nodes.now rules current c.args.last

pub returns-clause-within : goal.returns-clause-within
returns-clause-within c state_in = tt

pub returns-clause-leads : goal.returns-clause-leads
returns-clause-leads c rules current = no_sign c.args.lexer.now.text c.args.token c.args.spot c.args.name (sym c.reads.ensures ∙ c.if-reads.false) (sym c.reads-2.ensures ∙ c.if-reads-2.false) c.args.nodes.now rules current c.args.last

pub at_node-requires-clause-sign : goal.at_node-requires-clause-sign
at_node-requires-clause-sign c = sym c.reads.ensures ∙ c.if-reads.true

pub at_node-requires-clause-name : goal.at_node-requires-clause-name
at_node-requires-clause-name c = c.requires.name
