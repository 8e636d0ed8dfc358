use Rattle.gm_model.proofs.Exits.{unless_ok}
use Rattle.gm_forms.proofs.Stops.{memory_wanting}
use Rattle.std.proofs.Common.{sym, ◌∙◌}
use Rattle.gm_forms.specs.inner.Standing.{rules_of, current_of}
use Rattle.gm_forms.proofs.OneToken.{no_rule_end}
use Rattle.gm_forms.proofs.reader.Reader.at_rule_end.Goals as goal

pub returns-clause-within : goal.returns-clause-within
returns-clause-within c state_in draft_in = (tt, c.in_ok-close.ensures.within c.args.lexer.now.text draft_in)

pub returns-in_err-close-clause-moves : goal.returns-in_err-close-clause-moves
returns-in_err-close-clause-moves c last = memory_wanting _ c.from_residual.result _ c.from_residual.ensures.1

pub returns-in_err-close-clause-within : goal.returns-in_err-close-clause-within
returns-in_err-close-clause-within c state_in draft_in = unless_ok _ c.from_residual.result c.from_residual.ensures.0

pub returns-then-not-reads-clause-moves : goal.returns-then-not-reads-clause-moves
returns-then-not-reads-clause-moves c last = let text = c.args.lexer.now.text in let draft = c.args.self.now.draft in no_rule_end text c.args.token c.args.heading c.args.rules (sym c.reads.ensures ∙ c.if-not-reads.true) c.args.self.now.nodes (rules_of text draft) (current_of text draft) last

pub returns-then-not-reads-clause-within : goal.returns-then-not-reads-clause-within
returns-then-not-reads-clause-within c state_in draft_in = tt

pub returns-in_default-clause-within : goal.returns-in_default-clause-within
returns-in_default-clause-within c state_in draft_in = tt
