use Rattle.std.proofs.Common.{◌≡◌, ℕ, ◌+◌, ◌*◌, ◌≤◌, arith}
use Rattle.std.proofs.Math.Nat.{le-add_right}
use Rattle.gm_model.proofs.Exits.{unless_ok}
use Rattle.gm_grid.proofs.Finished.{is_grid}
use Rattle.gm_grid.proofs.GridSound.{is_sound}
use Rattle.gm_grid.proofs.grid.make_grid.Goals as goal

at_most : (old new k : ℕ) → new ≤ old + 8 * (8 * k) → new ≤ old + 4096 * k
at_most old new k most = omega (arith, most)

at_least : (old new k : ℕ) → new ≡ old + 8 * (8 * k) → old + 8 * k ≤ new
at_least old new k cost = omega (arith, cost)

pub returns-clause-map : goal.returns-clause-map
returns-clause-map g c = is_grid c.args.m c.in_ok-build.field-0 c.in_ok-build.ensures.linked

pub returns-clause-sound : goal.returns-clause-sound
returns-clause-sound g c = is_sound c.args.m c.requires.greatest _ (is_grid c.args.m c.in_ok-build.field-0 c.in_ok-build.ensures.linked)

pub returns-in_err-make_script : goal.returns-in_err-make_script
returns-in_err-make_script g c = record {
  map = unless_ok _ c.from_residual.result c.from_residual.ensures.0;
  sound = unless_ok _ c.from_residual.result c.from_residual.ensures.0;
  book = unless_ok _ c.from_residual.result c.from_residual.ensures.0;
  script = unless_ok _ c.from_residual.result c.from_residual.ensures.0;
  least = unless_ok _ c.from_residual.result c.from_residual.ensures.0;
  most = le-add_right _ _;
}

pub returns-in_err-make_book : goal.returns-in_err-make_book
returns-in_err-make_book g c = record {
  map = unless_ok _ c.from_residual-in_err-make_book.result c.from_residual-in_err-make_book.ensures.0;
  sound = unless_ok _ c.from_residual-in_err-make_book.result c.from_residual-in_err-make_book.ensures.0;
  book = unless_ok _ c.from_residual-in_err-make_book.result c.from_residual-in_err-make_book.ensures.0;
  script = unless_ok _ c.from_residual-in_err-make_book.result c.from_residual-in_err-make_book.ensures.0;
  least = unless_ok _ c.from_residual-in_err-make_book.result c.from_residual-in_err-make_book.ensures.0;
  most = le-add_right _ _;
}

pub returns-in_err-build : goal.returns-in_err-build
returns-in_err-build g c = record {
  map = unless_ok _ c.from_residual-in_err-build.result c.from_residual-in_err-build.ensures.0;
  sound = unless_ok _ c.from_residual-in_err-build.result c.from_residual-in_err-build.ensures.0;
  book = unless_ok _ c.from_residual-in_err-build.result c.from_residual-in_err-build.ensures.0;
  script = unless_ok _ c.from_residual-in_err-build.result c.from_residual-in_err-build.ensures.0;
  least = unless_ok _ c.from_residual-in_err-build.result c.from_residual-in_err-build.ensures.0;
  most = at_most c.args.steps.now c.build.new.steps (c.args.m * c.args.m) c.build.ensures.most;
}

pub returns-clause-book : goal.returns-clause-book
returns-clause-book g c = c.in_ok-make_book.ensures

pub returns-clause-script : goal.returns-clause-script
returns-clause-script g c = c.in_ok-make_script.ensures

pub returns-clause-least : goal.returns-clause-least
returns-clause-least g c = at_least c.args.steps.now c.build.new.steps (c.args.m * c.args.m) c.in_ok-build.ensures.least

pub returns-clause-most : goal.returns-clause-most
returns-clause-most g c = at_most c.args.steps.now c.build.new.steps (c.args.m * c.args.m) c.build.ensures.most

pub build-requires : goal.build-requires
build-requires g c = c.requires.greatest
