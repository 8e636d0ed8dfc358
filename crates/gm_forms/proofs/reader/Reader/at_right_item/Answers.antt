use Rattle.std.proofs.Common.{sym, ◌∙◌}
use Rattle.gm_model.specs.Names.{reserved, is_among}
use Rattle.gm_model.specs.Tokens.{bytes_of}
use Rattle.gm_forms.specs.inner.Standing.{rules_of, current_of}
use Rattle.gm_forms.proofs.NameWords.{told, is_long, is_short, name_in, right_reserved, right_long, right_named, right_pre}
use Rattle.gm_model.proofs.Exits.{unless_ok}
use Rattle.gm_forms.proofs.Stops.{memory_wanting}
use Rattle.gm_forms.proofs.reader.Reader.at_right_item.Goals as goal

pub returns-then-reads-clause-within : goal.returns-then-reads-clause-within
returns-then-reads-clause-within c state_in draft_in = (tt, c.in_ok-close.ensures.within c.args.lexer.now.text draft_in)

pub returns-then-reads-2-clause-moves : goal.returns-then-reads-2-clause-moves
returns-then-reads-2-clause-moves c last =
    let text = c.args.lexer.now.text in
    right_pre text c.args.token c.args.spot c.requires.side (sym c.reads.ensures ∙ c.if-reads.false) (sym c.reads-2.ensures ∙ c.if-reads-2.true) c.args.self.now.nodes (rules_of text c.args.self.now.draft) (current_of text c.args.self.now.draft) last

pub returns-then-is_reserved-clause-moves : goal.returns-then-is_reserved-clause-moves
returns-then-is_reserved-clause-moves c last =
    let text = c.args.lexer.now.text in
    right_reserved text c.args.token (told (is_among reserved) c.is_reserved.result _ c.text-word.result.now (bytes_of text c.args.token) c.is_reserved.ensures c.text-word.ensures c.if-is_reserved.true) c.args.spot c.requires.side (sym c.reads.ensures ∙ c.if-reads.false) (sym c.reads-2.ensures ∙ c.if-reads-2.false) c.args.self.now.nodes (rules_of text c.args.self.now.draft) (current_of text c.args.self.now.draft) last

pub returns-then-word-gt-MOST_NAME_BYTES-clause-moves : goal.returns-then-word-gt-MOST_NAME_BYTES-clause-moves
returns-then-word-gt-MOST_NAME_BYTES-clause-moves c last =
    let text = c.args.lexer.now.text in
    right_long text c.args.token (told (is_among reserved) c.is_reserved.result _ c.text-word.result.now (bytes_of text c.args.token) c.is_reserved.ensures c.text-word.ensures c.if-is_reserved.false) (is_long c.text-word.result.now (bytes_of text c.args.token) c.text-word.ensures c.if-word-gt-MOST_NAME_BYTES.true) c.args.spot c.requires.side (sym c.reads.ensures ∙ c.if-reads.false) (sym c.reads-2.ensures ∙ c.if-reads-2.false) c.args.self.now.nodes (rules_of text c.args.self.now.draft) (current_of text c.args.self.now.draft) last

pub returns-clause-moves : goal.returns-clause-moves
returns-clause-moves c last =
    let text = c.args.lexer.now.text in
    right_named text c.args.token (told (is_among reserved) c.is_reserved.result _ c.text-word.result.now (bytes_of text c.args.token) c.is_reserved.ensures c.text-word.ensures c.if-is_reserved.false) (is_short c.text-word.result.now (bytes_of text c.args.token) c.text-word.ensures c.if-word-gt-MOST_NAME_BYTES.false) c.args.spot c.requires.side (sym c.reads.ensures ∙ c.if-reads.false) (sym c.reads-2.ensures ∙ c.if-reads-2.false) c.args.self.now.nodes (rules_of text c.args.self.now.draft) (current_of text c.args.self.now.draft) last

pub returns-clause-within : goal.returns-clause-within
returns-clause-within c state_in draft_in = let text = c.args.lexer.now.text in (name_in text c.args.token c.text-word.result.now c.requires.token c.requires.kind c.text-word.ensures c.if-word-gt-MOST_NAME_BYTES.false, draft_in)

pub returns-in_err-close-clause-moves : goal.returns-in_err-close-clause-moves
returns-in_err-close-clause-moves c last = memory_wanting _ c.from_residual.result _ c.from_residual.ensures.1

pub returns-in_err-close-clause-within : goal.returns-in_err-close-clause-within
returns-in_err-close-clause-within c state_in draft_in = unless_ok _ c.from_residual.result c.from_residual.ensures.0

pub returns-in_default-clause-within : goal.returns-in_default-clause-within
returns-in_default-clause-within c state_in draft_in = tt

pub returns-then-reads-2-clause-within : goal.returns-then-reads-2-clause-within
returns-then-reads-2-clause-within c state_in draft_in = (tt, draft_in)

pub returns-then-is_reserved-clause-within : goal.returns-then-is_reserved-clause-within
returns-then-is_reserved-clause-within c state_in draft_in = tt

pub returns-then-word-gt-MOST_NAME_BYTES-clause-within : goal.returns-then-word-gt-MOST_NAME_BYTES-clause-within
returns-then-word-gt-MOST_NAME_BYTES-clause-within c state_in draft_in = tt
