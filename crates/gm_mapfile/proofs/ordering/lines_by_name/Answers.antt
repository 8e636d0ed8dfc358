use Rattle.std.proofs.Common.{ℕ, List, map, subst}
use Rattle.std.specs.Prelude.{IsPermutation}
use Rattle.std.proofs.lemmas.List.Sorted.{IsPermutation-map}
use Rattle.gm_mapfile.specs.declared.ordering.Line.{Line}
use Rattle.gm_model.proofs.Exits.{unless_ok}
use Rattle.gm_mapfile.proofs.ordering.lines_by_name.Goals as goal

pub returns : goal.returns
returns c =
    let place : Line → ℕ = λ line. line.at in
    subst (λ (xs : List ℕ). IsPermutation xs (map place c.sort_unstable_by_key.new.self.items)) c.in_ok-lines.ensures
    (IsPermutation-map place c.in_ok-lines.lines.items c.sort_unstable_by_key.new.self.items c.sort_unstable_by_key.ensures.permutation)

pub returns-in_err-lines : goal.returns-in_err-lines
returns-in_err-lines c = unless_ok _ c.from_residual.result c.from_residual.ensures.0
