-- What a lexer is, as its callers see it: a text, and the place that it has come to.
use Rattle.std.specs.Prelude.{ℕ, List}

pub record Cursor : Type 0 where
  pub text : List ℕ
  pub place : ℕ
