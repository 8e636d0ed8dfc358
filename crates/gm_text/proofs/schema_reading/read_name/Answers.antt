use Rattle.std.proofs.Common.{◌≡◌, ℕ, List, true, false, refl, sym, ap, subst, ◌∙◌}
use Rattle.std.proofs.lemmas.Result.{err_from_is_err_and}
use Rattle.gm_model.specs.declared.token.TokenKind.TheVariants as tokens
use Rattle.gm_model.specs.Names.{IsName, is_among, reserved}
use Rattle.gm_model.specs.Tokens.{bytes_of}
use Rattle.gm_text.specs.inner.SchemaReading.{AtName, AtOrbit}
use Rattle.gm_text.specs.inner.SchemaAnswers.{Reads}
use Rattle.gm_model.proofs.Exits.{unless_ok}
use Rattle.gm_text.proofs.SchemaMoves.{kind_is, kind_other, no_name}
use Rattle.gm_text.proofs.SchemaReaders.{has_name, name_reserved, name_long, name_again, name_read}
use Rattle.gm_text.proofs.SchemaSteps.{stops_none, stops_token}
use Rattle.gm_text.proofs.schema_reading.read_name.Goals.{else-strict-via-then-strict+else-is_declared, else-strict-via-else-strict}
use Rattle.gm_text.proofs.schema_reading.read_name.Goals as goal

pub returns-in_err-token-clause-stops : goal.returns-in_err-token-clause-stops
returns-in_err-token-clause-stops c =
    let p = err_from_is_err_and c.from_residual.result c.from_residual.ensures.1 in
    rw (p.1, p.2) (λ n declared known. stops_none c.args.strict (AtName n declared) c.args.lexer.now _ refl c.in_err-token.ensures.none)

pub returns-then-ne-clause-stops : goal.returns-then-ne-clause-stops
returns-then-ne-clause-stops c =
    let other = kind_other c.in_ok-token.token.kind tokens.Name c.ne.result c.ne.ensures c.if-ne.true in
    λ n declared known. stops_token c.args.strict (AtName n declared) c.args.lexer.now c.next_token.new.lexer c.in_ok-token.token refl c.in_ok-token.ensures.next (no_name n declared _ _ other)

pub returns-then-is_reserved-clause-stops : goal.returns-then-is_reserved-clause-stops
returns-then-is_reserved-clause-stops c =
    let word = kind_is c.in_ok-token.token.kind tokens.Name c.ne.result c.ne.ensures c.if-ne.false in
    let taken : is_among reserved (bytes_of c.next_token.new.lexer.text c.in_ok-token.token) ≡ true = ap (is_among reserved) (sym c.text-word.ensures) ∙ sym c.is_reserved.ensures ∙ c.if-is_reserved.true in
    λ n declared known. name_reserved c.args.strict c.args.known.now declared known n c.args.lexer.now c.next_token.new.lexer c.in_ok-token.token c.in_ok-token.ensures.next word taken

pub returns-in_default-clause-stops : goal.returns-in_default-clause-stops
returns-in_default-clause-stops c =
    let word = kind_is c.in_ok-token.token.kind tokens.Name c.ne.result c.ne.ensures c.if-ne.false in
    let free : is_among reserved (bytes_of c.next_token.new.lexer.text c.in_ok-token.token) ≡ false = ap (is_among reserved) (sym c.text-word.ensures) ∙ sym c.is_reserved.ensures ∙ c.if-is_reserved.false in
    let bad : IsName (bytes_of c.next_token.new.lexer.text c.in_ok-token.token) → ⊥ = λ good. c.in_default.ensures (subst IsName (sym c.text-word.ensures) good) in
    λ n declared known. name_long c.args.strict c.args.known.now declared known n c.args.lexer.now c.next_token.new.lexer c.in_ok-token.token c.in_ok-token.ensures.next word free bad

pub returns-then-is_declared-clause-stops : goal.returns-then-is_declared-clause-stops
returns-then-is_declared-clause-stops c =
    let word = kind_is c.in_ok-token.token.kind tokens.Name c.ne.result c.ne.ensures c.if-ne.false in
    let free : is_among reserved (bytes_of c.next_token.new.lexer.text c.in_ok-token.token) ≡ false = ap (is_among reserved) (sym c.text-word.ensures) ∙ sym c.is_reserved.ensures ∙ c.if-is_reserved.false in
    let good : IsName (bytes_of c.next_token.new.lexer.text c.in_ok-token.token) = subst IsName c.text-word.ensures c.in-Some.ensures.0 in
    let again = ap (has_name c.args.known.now) (sym c.text-word.ensures) ∙ sym c.is_declared.ensures ∙ c.if-is_declared.true in
    λ n declared known. name_again c.args.strict c.args.known.now declared known n c.args.lexer.now c.next_token.new.lexer c.in_ok-token.token c.in_ok-token.ensures.next word free good c.if-strict.true again

pub returns-clause-reads : goal.returns-clause-reads
returns-clause-reads c =
    let word = kind_is c.in_ok-token.token.kind tokens.Name c.ne.result c.ne.ensures c.if-ne.false in
    let free : is_among reserved (bytes_of c.next_token.new.lexer.text c.in_ok-token.token) ≡ false = ap (is_among reserved) (sym c.text-word.ensures) ∙ sym c.is_reserved.ensures ∙ c.if-is_reserved.false in
    let is = c.in-Some.ensures in
    let good : IsName (bytes_of c.next_token.new.lexer.text c.in_ok-token.token) = subst IsName c.text-word.ensures is.0 in
    let once : c.args.strict ≡ true → has_name c.args.known.now (bytes_of c.next_token.new.lexer.text c.in_ok-token.token) ≡ false = elim c.else-strict.branch [
      | else-strict-via-then-strict+else-is_declared w ↦ λ judges. ap (has_name c.args.known.now) (sym c.text-word.ensures) ∙ sym w.is_declared.ensures ∙ w.if-is_declared.false
      | else-strict-via-else-strict w ↦ λ judges. let both : true ≡ false = sym judges ∙ w.if-strict.false in absurd cc
    ] in
    λ n declared known. subst (λ (name : List ℕ). Reads c.args.strict (AtName n declared) c.args.lexer.now c.next_token.new.lexer (AtOrbit n declared name)) (sym (is.1 ∙ c.text-word.ensures))
    (name_read c.args.strict c.args.known.now declared known n c.args.lexer.now c.next_token.new.lexer c.in_ok-token.token c.in_ok-token.ensures.next word free good once)

pub returns-in_err-token-clause-reads : goal.returns-in_err-token-clause-reads
returns-in_err-token-clause-reads c = unless_ok _ c.from_residual.result c.from_residual.ensures.0
