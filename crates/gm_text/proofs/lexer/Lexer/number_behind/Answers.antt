use Rattle.std.proofs.Common.{◌≡◌, length, refl, ap, subst, arith}
use Rattle.gm_model.specs.Tokens.{items_at}
use Rattle.gm_text.specs.inner.Cursor.{Cursor}
use Rattle.gm_text.specs.inner.Lexing.{rest_of}
use Rattle.gm_text.proofs.lexer.Lexer.number_behind.Goals as goal

pub behind_this-requires-clause-inside : goal.behind_this-requires-clause-inside
behind_this-requires-clause-inside c = omega (arith, c.if-self.false)

pub returns-in_err-place-clause-number : goal.returns-in_err-place-clause-number
returns-in_err-place-clause-number c = rw c.from_residual.ensures tt

pub returns-in_err-place-clause-none : goal.returns-in_err-place-clause-none
returns-in_err-place-clause-none c = rw c.from_residual.ensures refl

pub number_from-requires-clause-room : goal.number_from-requires-clause-room
number_from-requires-clause-room c = omega (arith, c.in_ok-place.ensures.near, c.if-self.false, ap (λ (cursor : Cursor). length cursor.text) c.self.view_is)

pub number_from-requires-clause-same : goal.number_from-requires-clause-same
number_from-requires-clause-same c = subst (λ (cursor : Cursor). rest_of cursor ≡ items_at cursor.text c.in_ok-place.place) c.self.view_is c.in_ok-place.ensures.same

pub returns-clause-number : goal.returns-clause-number
returns-clause-number c = c.number_from.ensures.number

pub returns-clause-none : goal.returns-clause-none
returns-clause-none c = c.number_from.ensures.none
