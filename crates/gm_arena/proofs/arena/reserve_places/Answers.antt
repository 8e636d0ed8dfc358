use Rattle.std.proofs.Common.{refl, arith, rules}
use Rattle.gm_model.proofs.Exits.{never_ok, on_err}
use Rattle.gm_arena.proofs.arena.reserve_places.Goals as goal

pub overflow_sub-capacity : goal.overflow_sub-capacity
overflow_sub-capacity c = omega (arith, c.capacity.ensures.value, c.capacity.ensures.holds_all, c.len.ensures)

pub grown-requires-clause-fits : goal.grown-requires-clause-fits
grown-requires-clause-fits c = c.requires.fits

pub grown-requires-clause-few : goal.grown-requires-clause-few
grown-requires-clause-few c = c.requires.few

pub widen_parts-requires-clause-slots : goal.widen_parts-requires-clause-slots
widen_parts-requires-clause-slots c = omega (arith, c.capacity-2.ensures.value, c.in_ok-grown.ensures.fits)

pub widen_parts-requires-clause-labels : goal.widen_parts-requires-clause-labels
widen_parts-requires-clause-labels c = c.requires.labels

pub widen_parts-requires-clause-width : goal.widen_parts-requires-clause-width
widen_parts-requires-clause-width c = c.requires.width

pub returns-then-capacity-len : goal.returns-then-capacity-len
returns-then-capacity-len c =
    record {
      room = omega (arith, c.if-capacity-len.true, c.capacity.ensures.value, c.capacity.ensures.holds_all, c.len.ensures);
      fits = c.requires.fits;
      parts = c.requires.parts;
      slots = refl;
      within = omega (arith, c.capacity.ensures.value, c.capacity.ensures.slots);
      neighbours = refl;
      values = refl;
      err = tt;
    }

pub returns-in_err-grown : goal.returns-in_err-grown
returns-in_err-grown c =
    record {
      room = never_ok _ c.from_residual.result c.from_residual.ensures.0;
      fits = c.requires.fits;
      parts = c.requires.parts;
      slots = refl;
      within = never_ok _ c.from_residual.result c.from_residual.ensures.0;
      neighbours = refl;
      values = refl;
      err = on_err c.from_residual.result refl;
    }

pub returns-in_err-widen_parts : goal.returns-in_err-widen_parts
returns-in_err-widen_parts c =
    record {
      room = never_ok _ c.from_residual-in_err-widen_parts.result c.from_residual-in_err-widen_parts.ensures.0;
      fits = c.requires.fits;
      parts = record { linked = omega (arith, c.requires.parts.linked, c.in_err-widen_parts.ensures.links_grow); long = omega (arith, c.requires.parts.long, c.in_err-widen_parts.ensures.values_grow) };
      slots = refl;
      within = never_ok _ c.from_residual-in_err-widen_parts.result c.from_residual-in_err-widen_parts.ensures.0;
      neighbours = search rules;
      values = c.in_err-widen_parts.ensures.values;
      err = on_err c.from_residual-in_err-widen_parts.result refl;
    }

pub returns : goal.returns
returns c =
    record {
      room = c.in_ok-grown.ensures.room;
      fits = c.in_ok-grown.ensures.fits;
      parts = rw (← c.capacity-2.ensures.value) c.in_ok-widen_parts.ensures.parts;
      slots = c.in_ok-grown.ensures.slots;
      within = c.in_ok-grown.ensures.within;
      neighbours = c.in_ok-widen_parts.ensures.neighbours;
      values = c.in_ok-widen_parts.ensures.values;
      err = tt;
    }
