use Rattle.std.proofs.Common.{ap, map}
use Rattle.gm_model.specs.Names.{reserved, is_among}
use Rattle.gm_model.specs.Tokens.{bytes_of}
use Rattle.gm_forms.specs.inner.Forms.{rule_form_of}
use Rattle.gm_forms.specs.inner.Standing.{rules_of, current_of}
use Rattle.gm_forms.proofs.NameWords.{told, is_long, is_short, name_in, name_reserved, name_long, name_named}
use Rattle.gm_forms.proofs.reader.Reader.at_name.Goals as goal

pub returns-then-is_reserved-clause-moves : goal.returns-then-is_reserved-clause-moves
returns-then-is_reserved-clause-moves c last =
    let text = c.args.lexer.now.text in
    name_reserved text c.args.token (told (is_among reserved) c.is_reserved.result _ c.text-word.result.now (bytes_of text c.args.token) c.is_reserved.ensures c.text-word.ensures c.if-is_reserved.true) c.args.heading c.args.rules c.args.self.now.nodes (rules_of text c.args.self.now.draft) (current_of text c.args.self.now.draft) last

pub returns-then-word-gt-MOST_NAME_BYTES-clause-moves : goal.returns-then-word-gt-MOST_NAME_BYTES-clause-moves
returns-then-word-gt-MOST_NAME_BYTES-clause-moves c last =
    let text = c.args.lexer.now.text in
    name_long text c.args.token (told (is_among reserved) c.is_reserved.result _ c.text-word.result.now (bytes_of text c.args.token) c.is_reserved.ensures c.text-word.ensures c.if-is_reserved.false) (is_long c.text-word.result.now (bytes_of text c.args.token) c.text-word.ensures c.if-word-gt-MOST_NAME_BYTES.true) c.args.heading c.args.rules c.args.self.now.nodes (rules_of text c.args.self.now.draft) (current_of text c.args.self.now.draft) last

pub returns-clause-moves : goal.returns-clause-moves
returns-clause-moves c =
    let text = c.args.lexer.now.text in
    name_named text c.args.token (told (is_among reserved) c.is_reserved.result _ c.text-word.result.now (bytes_of text c.args.token) c.is_reserved.ensures c.text-word.ensures c.if-is_reserved.false) (is_short c.text-word.result.now (bytes_of text c.args.token) c.text-word.ensures c.if-word-gt-MOST_NAME_BYTES.false) c.args.heading c.args.rules c.args.self.now.nodes c.args.self.now.draft c.open.new.self (ap (λ rules. map (rule_form_of text) rules.items) c.open.ensures.rules) (c.open.ensures.current text)

pub returns-clause-within : goal.returns-clause-within
returns-clause-within c state_in draft_in = let text = c.args.lexer.now.text in (tt, c.open.ensures.within text (name_in text c.args.token c.text-word.result.now c.requires.token c.requires.kind c.text-word.ensures c.if-word-gt-MOST_NAME_BYTES.false) draft_in)
