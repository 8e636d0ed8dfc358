use Rattle.std.proofs.Common.{◌≡◌, ◌-◌, length, map, IfSome}
use Rattle.gm_model.specs.Rules.{rule_of}
use Rattle.gm_text.specs.inner.Lexing.{rest_of}
use Rattle.gm_script.specs.inner.SoFar.{IsKnown, IsSoFar}
use Rattle.gm_script.proofs.reading.read_tokens.Given as goal

abbrev pub invariant-loop-lexer : goal.invariant-loop-lexer
invariant-loop-lexer l = record {
  text : l.lexer.text ≡ l.bytes;
  so_far : IsSoFar l.top l.bytes (map rule_of l.rules) l.reader (rest_of l.lexer) l.compared;
  known : IfSome l.known (IsKnown (map rule_of l.rules));
}

abbrev pub decreases-loop-lexer : goal.decreases-loop-lexer
decreases-loop-lexer l = length l.lexer.text - l.lexer.place
