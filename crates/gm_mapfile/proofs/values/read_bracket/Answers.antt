use Rattle.std.proofs.Common.{◌∷◌, []}
use Rattle.gm_mapfile.proofs.ValueSteps.{sign_takes, sign_misses}
use Rattle.gm_mapfile.proofs.Joined.{on_ok, if_err}
use Rattle.gm_mapfile.proofs.values.read_bracket.Goals as goal

pub returns-clause-takes : goal.returns-clause-takes
returns-clause-takes c = on_ok c.read_sign.result (λ found is. sign_takes (c.args.sign ∷ []) c.args.lexer.now c.read_sign.new.lexer is) c.read_sign.ensures.next

pub returns-clause-misses : goal.returns-clause-misses
returns-clause-misses c = if_err c.read_sign.result (λ fault is. sign_misses (c.args.sign ∷ []) c.args.lexer.now fault is) c.read_sign.ensures.other
