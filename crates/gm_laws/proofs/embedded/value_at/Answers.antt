use Rattle.std.proofs.Common.{◌<◌, length, sym, ap, ◌∙◌, arith}
use Rattle.gm_arena.proofs.MapLemmas.{name_at-is}
use Rattle.gm_arena.specs.inner.ArenaAsMap.{value}
use Rattle.gm_laws.proofs.RowLemmas.{values_long, value_is}
use Rattle.gm_laws.proofs.embedded.value_at.Goals as goal

pub bounds-row-embed : goal.bounds-row-embed
bounds-row-embed g c = omega (arith, values_long c.args.arena.now c.requires.lawful _ _ c.row.ensures.dart, c.requires.embed)

pub returns-clause-value : goal.returns-clause-value
returns-clause-value g c =
    let m = c.args.arena.now in
    let within : c.args.embed < length c.row.result.values.now = omega (arith, values_long m c.requires.lawful _ _ c.row.ensures.dart, c.requires.embed) in
    sym (ap (value m c.args.embed) (name_at-is m c.args.slot.at c.row.result.name c.row.ensures.name) ∙ value_is m c.row.result.name c.args.embed _ _ c.row.ensures.dart within)
