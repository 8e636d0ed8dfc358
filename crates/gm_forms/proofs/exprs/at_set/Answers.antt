use Rattle.gm_model.specs.Names.{reserved, is_among}
use Rattle.gm_model.specs.Tokens.{bytes_of}
use Rattle.gm_forms.proofs.NameWords.{told, is_long, is_short, name_in, set_reserved, set_long, set_named}
use Rattle.gm_forms.proofs.exprs.at_set.Goals as goal

pub returns-then-is_reserved-clause-leads : goal.returns-then-is_reserved-clause-leads
returns-then-is_reserved-clause-leads c =
    let text = c.args.lexer.now.text in
    set_reserved text c.args.token (told (is_among reserved) c.is_reserved.result _ c.text-word.result.now (bytes_of text c.args.token) c.is_reserved.ensures c.text-word.ensures c.if-is_reserved.true) c.args.spot

pub returns-then-word-gt-MOST_NAME_BYTES-clause-leads : goal.returns-then-word-gt-MOST_NAME_BYTES-clause-leads
returns-then-word-gt-MOST_NAME_BYTES-clause-leads c =
    let text = c.args.lexer.now.text in
    let word = c.text-word.result.now in
    set_long text c.args.token (told (is_among reserved) c.is_reserved.result _ word (bytes_of text c.args.token) c.is_reserved.ensures c.text-word.ensures c.if-is_reserved.false)
    (is_long word (bytes_of text c.args.token) c.text-word.ensures c.if-word-gt-MOST_NAME_BYTES.true) c.args.spot

pub returns-clause-leads : goal.returns-clause-leads
returns-clause-leads c =
    let text = c.args.lexer.now.text in
    let word = c.text-word.result.now in
    set_named text c.args.token (told (is_among reserved) c.is_reserved.result _ word (bytes_of text c.args.token) c.is_reserved.ensures c.text-word.ensures c.if-is_reserved.false)
    (is_short word (bytes_of text c.args.token) c.text-word.ensures c.if-word-gt-MOST_NAME_BYTES.false) c.args.spot

pub returns-clause-within : goal.returns-clause-within
returns-clause-within c state_in = name_in c.args.lexer.now.text c.args.token c.text-word.result.now c.requires.token c.requires.kind c.text-word.ensures c.if-word-gt-MOST_NAME_BYTES.false
