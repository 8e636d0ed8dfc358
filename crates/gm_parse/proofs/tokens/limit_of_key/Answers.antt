use Rattle.std.proofs.Common.{sym, ◌∙◌}
use Rattle.gm_model.specs.Symbols.{value_of}
use Rattle.gm_model.specs.Tokens.{bytes_of}
use Rattle.gm_parse.proofs.Keys.{kind_of_number}
use Rattle.gm_parse.proofs.tokens.limit_of_key.Goals as goal

pub value-requires-clause-kind : goal.value-requires-clause-kind
value-requires-clause-kind c = kind_of_number c.args.token.now.kind (bytes_of c.args.lexer.now.text c.args.token.now) (sym c.requires.key ∙ c.in-Number.is)

pub returns-in-Number : goal.returns-in-Number
returns-in-Number c =
    let bytes = bytes_of c.args.lexer.now.text c.args.token.now in
    let kind = kind_of_number c.args.token.now.kind bytes (sym c.requires.key ∙ c.in-Number.is) in
    rw (c.in-Number.is, kind) (c.limit_of_number.ensures (value_of bytes) c.args.token.now.start c.value.ensures)
