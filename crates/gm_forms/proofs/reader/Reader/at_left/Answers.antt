use Rattle.std.proofs.Common.{sym, ◌∙◌}
use Rattle.gm_forms.specs.inner.Standing.{rules_of, current_of}
use Rattle.gm_forms.proofs.OneToken.{no_left, no_body}
use Rattle.gm_forms.proofs.reader.Reader.at_left.Goals as goal

pub returns-then-not-reads-clause-moves : goal.returns-then-not-reads-clause-moves
returns-then-not-reads-clause-moves c last = let text = c.args.lexer.now.text in let draft = c.args.self.now.draft in no_left text c.args.token c.args.heading c.args.rules (sym c.reads.ensures ∙ c.if-not-reads.true) c.args.self.now.nodes (rules_of text draft) (current_of text draft) last

pub returns-then-not-reads-clause-within : goal.returns-then-not-reads-clause-within
returns-then-not-reads-clause-within c state_in draft_in = tt

pub returns-then-not-reads-clause-body_moves : goal.returns-then-not-reads-clause-body_moves
returns-then-not-reads-clause-body_moves c last = let text = c.args.lexer.now.text in let draft = c.args.self.now.draft in no_body text c.args.token c.args.heading c.args.rules (sym c.reads.ensures ∙ c.if-not-reads.true) c.args.self.now.nodes (rules_of text draft) (current_of text draft) last

pub returns-then-not-reads-clause-body_within : goal.returns-then-not-reads-clause-body_within
returns-then-not-reads-clause-body_within c state_in draft_in = tt

pub returns-clause-within : goal.returns-clause-within
returns-clause-within c state_in draft_in = (tt, draft_in)

pub returns-clause-body_within : goal.returns-clause-body_within
returns-clause-body_within c state_in draft_in = (tt, draft_in)
