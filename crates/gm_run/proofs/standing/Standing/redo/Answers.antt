use Rattle.std.proofs.Common.{◌-◌, refl}
use Rattle.gm_run.specs.inner.Standing.{nearest, nearest_entries}
use Rattle.gm_run.proofs.Stepping.{no_future, one_less, outside_kept, redone}
use Rattle.gm_run.proofs.standing.Standing.redo.Goals as goal

pub redo-requires : goal.redo-requires
redo-requires g c = record { stands = outside_kept c.args.arena.now c.args.self.now c.requires.keeps c.requires.stands c.requires.outside }

pub returns-in-Ok-clause-step : goal.returns-in-Ok-clause-step
returns-in-Ok-clause-step g c rules state entries stands =
    let r = stands.history c.requires.keeps in
    let may = stands.costs c.requires.keeps in
    let back = c.in-Ok.ensures.history (nearest r.past r.future state.history) r.stands in
    redone rules c.args.arena.now c.redo.new.arena c.args.self.now (record { keeps = record { on = c.args.self.now.keeps.on; reach = c.args.self.now.keeps.reach - 1 }; history = c.redo.new.self; group = c.args.self.now.group; scratch = c.args.self.now.scratch }) state entries c.args.steps.now c.redo.new.steps stands c.requires.keeps c.requires.outside refl
    c.requires.reach (one_less c.args.self.now.keeps.reach c.requires.reach) back.0 back.1 back.2 c.in-Ok.ensures.rises (c.in-Ok.ensures.most (nearest_entries may.past may.future entries) may.costs)

pub returns-in-Err-clause-step : goal.returns-in-Err-clause-step
returns-in-Err-clause-step g c rules state entries stands =
    let r = stands.history c.requires.keeps in
    let may = stands.costs c.requires.keeps in
    let still = c.in-Err.ensures.history (nearest r.past r.future state.history) r.stands in
    no_future rules c.args.arena.now c.redo.new.arena c.args.self.now (record { keeps = record { on = c.args.self.now.keeps.on; reach = c.args.self.now.keeps.reach - 1 }; history = c.redo.new.self; group = c.args.self.now.group; scratch = c.args.self.now.scratch }) state entries c.args.steps.now c.redo.new.steps stands c.requires.keeps c.requires.outside refl
    c.requires.reach (one_less c.args.self.now.keeps.reach c.requires.reach) still.0 still.1 still.2 (c.in-Err.ensures.most (nearest_entries may.past may.future entries) may.costs)

pub returns-in-Ok-clause-reach : goal.returns-in-Ok-clause-reach
returns-in-Ok-clause-reach g c = one_less c.args.self.now.keeps.reach c.requires.reach

pub returns-in-Err-clause-reach : goal.returns-in-Err-clause-reach
returns-in-Err-clause-reach g c = one_less c.args.self.now.keeps.reach c.requires.reach
