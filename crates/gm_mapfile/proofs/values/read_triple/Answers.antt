use Rattle.std.proofs.Common.{refl, rules, ◌≡◌, [], ◌∷◌, to_z, of_z, codes}
use Rattle.std.specs.Int.{w64}
use Rattle.std.proofs.lemmas.Result.{err_from_is_err_and}
use Rattle.gm_mapfile.specs.MapReading.{Component, TheSign}
use Rattle.gm_model.proofs.Exits.{unless_ok}
use Rattle.gm_mapfile.proofs.Joined.{takes_then, misses_first, misses_then}
use Rattle.gm_mapfile.proofs.values.read_triple.Goals as goal

pub value_of_three-requires : goal.value_of_three-requires
value_of_three-requires c is =
    let back-x : to_z w64 (of_z w64 c.in_ok-x.x) ≡ c.in_ok-x.x = search rules in
    let back-y : to_z w64 (of_z w64 c.in_ok-x.y) ≡ c.in_ok-x.y = search rules in
    let back-z : to_z w64 (of_z w64 c.in_ok-z.z) ≡ c.in_ok-z.z = search rules in
    let both = c.in_ok-x.ensures.channels is in
    rw (back-x, back-y, back-z) (both.0, both.1, c.in_ok-z.ensures.channel is)

pub returns-in_err-x-clause-misses : goal.returns-in_err-x-clause-misses
returns-in_err-x-clause-misses c =
    let p = err_from_is_err_and c.from_residual.result c.from_residual.ensures.1 in
    rw (p.1, p.2) (misses_first (TheSign (codes "(") ∷ Component c.args.colour ∷ Component c.args.colour ∷ []) (Component c.args.colour ∷ TheSign (codes ")") ∷ []) c.args.lexer.now c.in_err-x.field-0.0 c.in_err-x.ensures.misses)

pub returns-in_err-z-clause-misses : goal.returns-in_err-z-clause-misses
returns-in_err-z-clause-misses c =
    let p = err_from_is_err_and c.from_residual-in_err-z.result c.from_residual-in_err-z.ensures.1 in
    rw (p.1, p.2) (misses_then (TheSign (codes "(") ∷ Component c.args.colour ∷ Component c.args.colour ∷ []) (Component c.args.colour ∷ TheSign (codes ")") ∷ []) (c.in_ok-x.x ∷ c.in_ok-x.y ∷ []) c.args.lexer.now c.read_two.new.lexer c.in_err-z.field-0.0 c.in_ok-x.ensures.takes (misses_first (Component c.args.colour ∷ []) (TheSign (codes ")") ∷ []) c.read_two.new.lexer c.in_err-z.field-0.0 c.in_err-z.ensures.misses))

pub returns-in_err-read_bracket-clause-misses : goal.returns-in_err-read_bracket-clause-misses
returns-in_err-read_bracket-clause-misses c =
    let p = err_from_is_err_and c.from_residual-in_err-read_bracket.result c.from_residual-in_err-read_bracket.ensures.1 in
    let taken = takes_then (TheSign (codes "(") ∷ Component c.args.colour ∷ Component c.args.colour ∷ []) (Component c.args.colour ∷ []) (c.in_ok-x.x ∷ c.in_ok-x.y ∷ []) (c.in_ok-z.z ∷ []) c.args.lexer.now c.read_two.new.lexer c.read_component.new.lexer c.in_ok-x.ensures.takes c.in_ok-z.ensures.takes in
    rw (p.1, p.2) (misses_then (TheSign (codes "(") ∷ Component c.args.colour ∷ Component c.args.colour ∷ Component c.args.colour ∷ []) (TheSign (codes ")") ∷ []) (c.in_ok-x.x ∷ c.in_ok-x.y ∷ c.in_ok-z.z ∷ []) c.args.lexer.now c.read_component.new.lexer c.in_err-read_bracket.field-0.0 taken c.in_err-read_bracket.ensures.misses)

pub returns-clause-takes : goal.returns-clause-takes
returns-clause-takes c =
    let taken = takes_then (TheSign (codes "(") ∷ Component c.args.colour ∷ Component c.args.colour ∷ []) (Component c.args.colour ∷ []) (c.in_ok-x.x ∷ c.in_ok-x.y ∷ []) (c.in_ok-z.z ∷ []) c.args.lexer.now c.read_two.new.lexer c.read_component.new.lexer c.in_ok-x.ensures.takes c.in_ok-z.ensures.takes in
    let back-x : to_z w64 (of_z w64 c.in_ok-x.x) ≡ c.in_ok-x.x = search rules in
    let back-y : to_z w64 (of_z w64 c.in_ok-x.y) ≡ c.in_ok-x.y = search rules in
    let back-z : to_z w64 (of_z w64 c.in_ok-z.z) ≡ c.in_ok-z.z = search rules in
    rw (c.value_of_three.ensures.components, back-x, back-y, back-z)
    (takes_then (TheSign (codes "(") ∷ Component c.args.colour ∷ Component c.args.colour ∷ Component c.args.colour ∷ []) (TheSign (codes ")") ∷ []) (c.in_ok-x.x ∷ c.in_ok-x.y ∷ c.in_ok-z.z ∷ []) [] c.args.lexer.now c.read_component.new.lexer c.read_bracket.new.lexer taken c.in_ok-read_bracket.ensures.takes)

pub returns-clause-kind : goal.returns-clause-kind
returns-clause-kind c = c.value_of_three.ensures.kind

pub returns-in_err-x-clause-takes : goal.returns-in_err-x-clause-takes
returns-in_err-x-clause-takes c = unless_ok _ c.from_residual.result c.from_residual.ensures.0

pub returns-in_err-x-clause-kind : goal.returns-in_err-x-clause-kind
returns-in_err-x-clause-kind c = unless_ok _ c.from_residual.result c.from_residual.ensures.0

pub returns-in_err-z-clause-takes : goal.returns-in_err-z-clause-takes
returns-in_err-z-clause-takes c = unless_ok _ c.from_residual-in_err-z.result c.from_residual-in_err-z.ensures.0

pub returns-in_err-z-clause-kind : goal.returns-in_err-z-clause-kind
returns-in_err-z-clause-kind c = unless_ok _ c.from_residual-in_err-z.result c.from_residual-in_err-z.ensures.0

pub returns-in_err-read_bracket-clause-takes : goal.returns-in_err-read_bracket-clause-takes
returns-in_err-read_bracket-clause-takes c = unless_ok _ c.from_residual-in_err-read_bracket.result c.from_residual-in_err-read_bracket.ensures.0

pub returns-in_err-read_bracket-clause-kind : goal.returns-in_err-read_bracket-clause-kind
returns-in_err-read_bracket-clause-kind c = unless_ok _ c.from_residual-in_err-read_bracket.result c.from_residual-in_err-read_bracket.ensures.0

pub read_bracket-requires-clause-sign : goal.read_bracket-requires-clause-sign
read_bracket-requires-clause-sign c = refl

pub read_bracket-requires-clause-alone : goal.read_bracket-requires-clause-alone
read_bracket-requires-clause-alone c = λ other. refl
