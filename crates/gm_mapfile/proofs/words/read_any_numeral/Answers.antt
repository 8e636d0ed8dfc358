use Rattle.std.proofs.Common.{rules, ◌≡◌, ◌≢◌}
use Rattle.gm_model.specs.declared.token.TokenKind.TheVariants as tokens
use Rattle.gm_model.proofs.Exits.{unless_ok}
use Rattle.gm_mapfile.proofs.WordTokens.{no_number, number_stands}
use Rattle.gm_mapfile.proofs.words.read_any_numeral.Goals as goal

pub returns-then-ne-clause-none : goal.returns-then-ne-clause-none
returns-then-ne-clause-none c =
    let other : c.in_ok-token.token.kind ≢ tokens.Number = search rules in
    no_number c.args.lexer.now c.next_token.new.lexer c.in_ok-token.token c.in_ok-token.ensures.next other

pub returns-clause-next : goal.returns-clause-next
returns-clause-next c =
    let kind : c.in_ok-token.token.kind ≡ tokens.Number = search rules in
    number_stands c.args.lexer.now c.next_token.new.lexer c.in_ok-token.token c.in_ok-token.ensures.next kind c.value.result c.value.ensures

pub returns-in_err-token-clause-next : goal.returns-in_err-token-clause-next
returns-in_err-token-clause-next c = unless_ok _ c.from_residual.result c.from_residual.ensures.0
