use Rattle.std.proofs.Common.{◌≡◌, false, length, nat_lt, ap, map}
use Rattle.gm_model.specs.Names.{reserved, is_among}
use Rattle.gm_model.specs.Tokens.{bytes_of}
use Rattle.gm_forms.specs.inner.Forms.{rule_form_of, IsIn}
use Rattle.gm_forms.specs.inner.Standing.{rules_of, current_of}
use Rattle.gm_forms.proofs.Behind.{to_moves}
use Rattle.gm_forms.proofs.NameWords.{told, is_long, is_short, name_in, to_reserved, to_long}
use Rattle.gm_model.proofs.Exits.{unless_ok}
use Rattle.gm_forms.proofs.Stops.{memory_wanting}
use Rattle.gm_forms.proofs.reader.Reader.at_to.Goals as goal

pub returns-clause-moves : goal.returns-clause-moves
returns-clause-moves c =
    let text = c.args.lexer.now.text in
    let word = c.text-word.result.now in
    let free : is_among reserved (bytes_of text c.args.token) ≡ false = told (is_among reserved) c.is_reserved.result false word (bytes_of text c.args.token) c.is_reserved.ensures c.text-word.ensures c.if-is_reserved.false in
    let short : nat_lt 32 (length (bytes_of text c.args.token)) ≡ false = is_short word (bytes_of text c.args.token) c.text-word.ensures c.if-word-gt-MOST_NAME_BYTES.false in
    to_moves text c.args.self.now.nodes c.args.self.now.draft c.put.new.self c.args.spot c.args.from c.args.label c.args.token free short
    (ap (λ rs. map (rule_form_of text) rs.items) c.in_ok-put.ensures.rules) (c.in_ok-put.ensures.current text)

pub returns-clause-within : goal.returns-clause-within
returns-clause-within c from_in draft_in =
    let text = c.args.lexer.now.text in
    let to_in : IsIn text c.args.token = name_in text c.args.token c.text-word.result.now c.requires.token c.requires.kind c.text-word.ensures c.if-word-gt-MOST_NAME_BYTES.false in
    (tt, c.in_ok-put.ensures.within text (from_in, to_in) draft_in)

pub returns-then-is_reserved-clause-moves : goal.returns-then-is_reserved-clause-moves
returns-then-is_reserved-clause-moves c last =
    let text = c.args.lexer.now.text in
    to_reserved text c.args.token (told (is_among reserved) c.is_reserved.result _ c.text-word.result.now (bytes_of text c.args.token) c.is_reserved.ensures c.text-word.ensures c.if-is_reserved.true)
    c.args.spot c.args.from c.args.label c.args.self.now.nodes (rules_of text c.args.self.now.draft) (current_of text c.args.self.now.draft) last

pub returns-then-word-gt-MOST_NAME_BYTES-clause-moves : goal.returns-then-word-gt-MOST_NAME_BYTES-clause-moves
returns-then-word-gt-MOST_NAME_BYTES-clause-moves c last =
    let text = c.args.lexer.now.text in
    to_long text c.args.token (told (is_among reserved) c.is_reserved.result _ c.text-word.result.now (bytes_of text c.args.token) c.is_reserved.ensures c.text-word.ensures c.if-is_reserved.false)
    (is_long c.text-word.result.now (bytes_of text c.args.token) c.text-word.ensures c.if-word-gt-MOST_NAME_BYTES.true)
    c.args.spot c.args.from c.args.label c.args.self.now.nodes (rules_of text c.args.self.now.draft) (current_of text c.args.self.now.draft) last

pub returns-in_err-put-clause-moves : goal.returns-in_err-put-clause-moves
returns-in_err-put-clause-moves c last = memory_wanting _ c.from_residual.result _ c.from_residual.ensures.1

pub returns-in_err-put-clause-within : goal.returns-in_err-put-clause-within
returns-in_err-put-clause-within c state_in draft_in = unless_ok _ c.from_residual.result c.from_residual.ensures.0
