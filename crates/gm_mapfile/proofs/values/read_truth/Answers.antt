use Rattle.std.proofs.Common.{[], ◌∷◌, codes}
use Rattle.std.proofs.lemmas.Result.{err_from_is_err_and}
use Rattle.gm_mapfile.specs.MapReading.{TheSign}
use Rattle.gm_model.proofs.Exits.{unless_ok}
use Rattle.gm_mapfile.proofs.Joined.{takes_then, misses_first, misses_then}
use Rattle.gm_mapfile.proofs.values.read_truth.Goals as goal

pub returns-in_err-read_bracket-clause-misses : goal.returns-in_err-read_bracket-clause-misses
returns-in_err-read_bracket-clause-misses c =
    let p = err_from_is_err_and c.from_residual.result c.from_residual.ensures.1 in
    rw (p.1, p.2) (misses_first (TheSign (codes "(") ∷ []) (TheSign (codes ")") ∷ []) c.args.lexer.now c.in_err-read_bracket.field-0.0 c.in_err-read_bracket.ensures.misses)

pub returns-in_err-read_bracket-2-clause-misses : goal.returns-in_err-read_bracket-2-clause-misses
returns-in_err-read_bracket-2-clause-misses c =
    let p = err_from_is_err_and c.from_residual-in_err-read_bracket-2.result c.from_residual-in_err-read_bracket-2.ensures.1 in
    let taken = c.in_ok-read_bracket.ensures.takes in
    rw (p.1, p.2) (misses_then (TheSign (codes "(") ∷ []) (TheSign (codes ")") ∷ []) [] c.args.lexer.now c.read_bracket.new.lexer c.in_err-read_bracket-2.field-0.0 taken c.in_err-read_bracket-2.ensures.misses)

pub returns-clause-takes : goal.returns-clause-takes
returns-clause-takes c =
    let taken = c.in_ok-read_bracket.ensures.takes in
    let taken = takes_then (TheSign (codes "(") ∷ []) (TheSign (codes ")") ∷ []) [] [] c.args.lexer.now c.read_bracket.new.lexer c.read_bracket-2.new.lexer taken c.in_ok-read_bracket-2.ensures.takes in
    taken

pub returns-in_err-read_bracket-clause-takes : goal.returns-in_err-read_bracket-clause-takes
returns-in_err-read_bracket-clause-takes c = unless_ok _ c.from_residual.result c.from_residual.ensures.0

pub returns-in_err-read_bracket-clause-kind : goal.returns-in_err-read_bracket-clause-kind
returns-in_err-read_bracket-clause-kind c = unless_ok _ c.from_residual.result c.from_residual.ensures.0

pub returns-in_err-read_bracket-2-clause-takes : goal.returns-in_err-read_bracket-2-clause-takes
returns-in_err-read_bracket-2-clause-takes c = unless_ok _ c.from_residual-in_err-read_bracket-2.result c.from_residual-in_err-read_bracket-2.ensures.0

pub returns-in_err-read_bracket-2-clause-kind : goal.returns-in_err-read_bracket-2-clause-kind
returns-in_err-read_bracket-2-clause-kind c = unless_ok _ c.from_residual-in_err-read_bracket-2.result c.from_residual-in_err-read_bracket-2.ensures.0
