use Rattle.std.proofs.Common.{refl, []}
use Rattle.gm_arena.proofs.MapLemmas.{IsAt-name_at}
use Rattle.gm_arena.specs.inner.ArenaMap.{name_at}
use Rattle.gm_cells.proofs.PaintedLemmas.{added}
use Rattle.gm_cells.proofs.components.add_component.Goals as goal

pub returns-clause-painted : goal.returns-clause-painted
returns-clause-painted g c = λ from first before.
    let m = c.args.arena.now in
    let slot = c.args.slot.at in
    added m c.requires.lawful c.requires.generalised from c.args.colours.now c.args.found before slot (name_at m slot) (IsAt-name_at m slot c.requires.live) first (c.requires.fresh slot [] c.requires.live refl)
    c.paint.new.colours c.in_ok-fits.fits c.in_ok-fits.ensures.painted c.first_odd.result c.args.slot refl c.first_odd.ensures.earlier c.first_odd.ensures.fits c.first_odd.ensures.here
