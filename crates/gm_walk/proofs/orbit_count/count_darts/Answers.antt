use Rattle.std.proofs.Common.{ℕ, ◌+◌, ◌*◌, ◌≤◌, refl, ◌∙◌, arith, rules}
use Rattle.gm_model.proofs.Exits.{unless_ok}
use Rattle.gm_walk.proofs.orbit_count.count_darts.Goals as goal

few_steps : (dim count start after : ℕ) → after ≤ start + count + (4 * (dim + 1) + 1) * count → after ≤ start + 8 * (dim + 1) * count
few_steps dim count start after cost = grind arith

pub count_slots-requires : goal.count_slots-requires
count_slots-requires g c =
    record {
      generalised = c.requires.generalised;
      live = c.if-is_dense.ensures.live refl;
      count = c.if-is_dense.ensures.count refl;
      mask = c.requires.mask;
      pair = c.requires.pair;
      seen = c.requires.seen;
      fits = c.requires.fits;
    }

pub returns-then-is_dense : goal.returns-then-is_dense
returns-then-is_dense g c =
    let m = c.args.arena.now in
    record {
      orbits = c.count_slots.ensures.orbits;
      cost = few_steps m.schema.dim m.count c.args.steps.now c.count_slots.new.steps (omega (arith, c.count_slots.ensures.cost));
      least = c.count_slots.ensures.least;
      bound = c.count_slots.ensures.bound;
    }

pub returns-in_err-names : goal.returns-in_err-names
returns-in_err-names g c =
    record {
      orbits = unless_ok _ c.from_residual.result c.from_residual.ensures.0;
      cost = search rules;
      least = search rules;
      bound = search rules;
    }

pub count_names-requires : goal.count_names-requires
count_names-requires g c =
    record {
      generalised = c.requires.generalised;
      names = c.deref.ensures.value ∙ c.in_ok-names.ensures.names;
      mask = c.requires.mask;
      pair = c.requires.pair;
      seen = c.requires.seen;
      fits = c.requires.fits;
    }

pub returns : goal.returns
returns g c =
    let m = c.args.arena.now in
    record {
      orbits = c.count_names.ensures.orbits;
      cost = few_steps m.schema.dim m.count c.args.steps.now c.count_names.new.steps (omega (arith, c.names.ensures.cost, c.count_names.ensures.cost));
      least = omega (arith, c.names.ensures.cost, c.count_names.ensures.least);
      bound = c.count_names.ensures.bound;
    }
