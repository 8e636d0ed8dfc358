use Rattle.std.proofs.Common.{◌≡◌, length, subst, sym, ap, arith}
use Rattle.gm_model.specs.declared.schema.Schema.{Schema}
use Rattle.gm_arena.specs.inner.ArenaAsMap.{as_map}
use Rattle.gm_model.proofs.Exits.{unless_ok}
use Rattle.gm_cells.specs.Cells.{HasFreeDarts}
use Rattle.gm_cells.proofs.ColouredLemmas.{written_whole}
use Rattle.gm_cells.proofs.free.count_free.Goals as goal

pub returns-in_err-free : goal.returns-in_err-free
returns-in_err-free g c = record { free = unless_ok _ c.from_residual.result c.from_residual.ensures.0 }

pub add_darts-requires-clause-lawful : goal.add_darts-requires-clause-lawful
add_darts-requires-clause-lawful g c = c.requires.lawful

pub returns : goal.returns
returns g c =
    let map = as_map c.args.arena.now in
    let free = c.add_darts.ensures.free in
    let long : length c.add_darts.new.free ≡ c.in_ok-free.free.len = omega (arith, free.one_each, c.in_ok-free.ensures.len, c.top.ensures.value, ap (λ (schema : Schema). schema.dim) c.schema.ensures) in
    record { free = subst (HasFreeDarts map) (sym (written_whole c.add_darts.new.free _ _ long)) free }
