use Rattle.gm_model.specs.Names.{reserved, is_among}
use Rattle.gm_model.specs.Tokens.{bytes_of}
use Rattle.gm_forms.proofs.NameWords.{told, is_long, name_in, param_reserved, param_long}
use Rattle.gm_forms.proofs.params.at_param.Goals as goal

pub returns-then-is_reserved-clause-leads : goal.returns-then-is_reserved-clause-leads
returns-then-is_reserved-clause-leads c =
    let text = c.args.lexer.now.text in
    param_reserved text c.args.token (told (is_among reserved) c.is_reserved.result _ c.text-word.result.now (bytes_of text c.args.token) c.is_reserved.ensures c.text-word.ensures c.if-is_reserved.true) c.args.heading c.args.rules c.args.count

pub returns-then-word-gt-MOST_NAME_BYTES-clause-leads : goal.returns-then-word-gt-MOST_NAME_BYTES-clause-leads
returns-then-word-gt-MOST_NAME_BYTES-clause-leads c =
    let text = c.args.lexer.now.text in
    param_long text c.args.token (told (is_among reserved) c.is_reserved.result _ c.text-word.result.now (bytes_of text c.args.token) c.is_reserved.ensures c.text-word.ensures c.if-is_reserved.false) (is_long c.text-word.result.now (bytes_of text c.args.token) c.text-word.ensures c.if-word-gt-MOST_NAME_BYTES.true) c.args.heading c.args.rules c.args.count

pub returns-clause-within : goal.returns-clause-within
returns-clause-within c state_in = let text = c.args.lexer.now.text in name_in text c.args.token c.text-word.result.now c.requires.token c.requires.kind c.text-word.ensures c.if-word-gt-MOST_NAME_BYTES.false
