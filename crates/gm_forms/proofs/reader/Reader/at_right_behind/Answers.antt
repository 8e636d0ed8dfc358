use Rattle.std.proofs.Common.{◌≡◌, true, false, codes, refl, sym, ap, map, ◌∙◌}
use Rattle.std.specs.Str.{bytes_eq}
use Rattle.gm_model.specs.Tokens.{bytes_of}
use Rattle.gm_forms.specs.inner.Forms.{rule_form_of}
use Rattle.gm_forms.proofs.Behind.{behind_moves, with_moves}
use Rattle.gm_model.proofs.Exits.{unless_ok}
use Rattle.gm_forms.proofs.Stops.{memory_wanting}
use Rattle.gm_forms.proofs.reader.Reader.at_right_behind.Goals as goal

pub returns-clause-moves : goal.returns-clause-moves
returns-clause-moves c =
    let text = c.args.lexer.now.text in
    let plain : bytes_eq (bytes_of text c.args.token) (codes "with") ≡ false = sym c.reads.ensures ∙ c.if-reads.false in
    behind_moves text c.args.self.now.nodes c.args.self.now.draft c.put_node.new.self c.args.spot c.args.name c.args.word (bytes_of text c.args.token) c.args.token.start c.at_right_item.result c.at_right_item.new.self.nodes c.at_right_item.new.self.draft
    (ap (λ rs. map (rule_form_of text) rs.items) c.in_ok-put_node.ensures.rules) (rw c.requires.side (c.in_ok-put_node.ensures.current text)) (rw c.requires.side refl) (rw (c.requires.side) plain)
    c.at_right_item.ensures.moves

pub returns-then-reads-clause-moves : goal.returns-then-reads-clause-moves
returns-then-reads-clause-moves c =
    let text = c.args.lexer.now.text in
    let set : bytes_eq (bytes_of text c.args.token) (codes "with") ≡ true = sym c.reads.ensures ∙ c.if-reads.true in
    with_moves text c.args.self.now.nodes c.args.self.now.draft c.put_node.new.self c.args.spot c.args.name c.args.word (bytes_of text c.args.token) c.args.token.start
    (ap (λ rs. map (rule_form_of text) rs.items) c.in_ok-put_node.ensures.rules) (rw c.requires.side (c.in_ok-put_node.ensures.current text)) c.requires.side set

pub returns-in_err-put_node-clause-moves : goal.returns-in_err-put_node-clause-moves
returns-in_err-put_node-clause-moves c last = memory_wanting _ c.from_residual.result _ c.from_residual.ensures.1

pub returns-in_err-put_node-clause-within : goal.returns-in_err-put_node-clause-within
returns-in_err-put_node-clause-within c state_in draft_in = unless_ok _ c.from_residual.result c.from_residual.ensures.0

pub returns-then-reads-clause-within : goal.returns-then-reads-clause-within
returns-then-reads-clause-within c state_in draft_in = (tt, c.in_ok-put_node.ensures.within c.args.lexer.now.text state_in draft_in)

pub returns-clause-within : goal.returns-clause-within
returns-clause-within c state_in draft_in = c.at_right_item.ensures.within tt (c.in_ok-put_node.ensures.within c.args.lexer.now.text state_in draft_in)
