use Rattle.std.proofs.Common.{rules, ◌≡◌, ◌≢◌}
use Rattle.gm_model.specs.declared.token.TokenKind.TheVariants as tokens
use Rattle.gm_model.specs.Symbols.{Sign}
use Rattle.gm_model.specs.Tokens.{bytes_of}
use Rattle.gm_model.proofs.Exits.{unless_ok}
use Rattle.gm_mapfile.proofs.WordTokens.{sign_symbol, is_other, sign_stands}
use Rattle.gm_mapfile.proofs.words.read_longest_sign.Goals.{then-ne-via-then-ne, then-ne-via-else-ne+then-ne-2}
use Rattle.gm_mapfile.proofs.words.read_longest_sign.Goals as goal

pub returns-then-ne-clause-other : goal.returns-then-ne-clause-other
returns-then-ne-clause-other c =
    is_other c.args.lexer.now c.next_token.new.lexer c.in_ok-token.token c.in_ok-token.ensures.next (Sign c.args.sign.now) (λ e.
    let said = sign_symbol c.in_ok-token.token.kind (bytes_of c.next_token.new.lexer.text c.in_ok-token.token) c.args.sign.now e in
    elim c.then-ne.branch [
      | then-ne-via-then-ne w ↦ let other : c.in_ok-token.token.kind ≢ tokens.Sign = search rules in absurd (other said.0)
      | then-ne-via-else-ne+then-ne-2 w ↦ let other : bytes_of c.next_token.new.lexer.text c.in_ok-token.token ≢ c.args.sign.now = search rules in absurd (other said.1)
    ])

pub returns-clause-next : goal.returns-clause-next
returns-clause-next c =
    let kind : c.in_ok-token.token.kind ≡ tokens.Sign = search rules in
    let is : bytes_of c.next_token.new.lexer.text c.in_ok-token.token ≡ c.args.sign.now = search rules in
    (c.in_ok-token.token.start, sign_stands c.args.lexer.now c.next_token.new.lexer c.in_ok-token.token c.in_ok-token.ensures.next c.args.sign.now kind is)

pub returns-in_err-token-clause-next : goal.returns-in_err-token-clause-next
returns-in_err-token-clause-next c = unless_ok _ c.from_residual.result c.from_residual.ensures.0
