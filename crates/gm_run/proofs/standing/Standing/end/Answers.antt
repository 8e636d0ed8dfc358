use Rattle.std.proofs.Common.{refl, rules}
use Rattle.gm_run.specs.declared.standing.Open.TheVariants as opens
use Rattle.gm_run.specs.inner.Standing.{nearest, nearest_entries}
use Rattle.gm_run.proofs.Stepping.{inside_of, open_broken, open_group, was_dropped, was_kept, whole}
use Rattle.gm_run.proofs.standing.Standing.end.Goals as goal

pub take_back-requires : goal.take_back-requires
take_back-requires g c = record { stands = inside_of c.args.arena.now c.args.self.now c.requires.keeps c.requires.stands c.requires.inside }

pub keep-requires : goal.keep-requires
keep-requires g c = record { stands = inside_of c.args.arena.now c.args.self.now c.requires.keeps c.requires.stands c.requires.inside }

pub returns-then-is_broken-clause-step : goal.returns-then-is_broken-clause-step
returns-then-is_broken-clause-step g c rules state entries stands =
    let r = stands.history c.requires.keeps in
    let may = stands.costs c.requires.keeps in
    let group = open_group c.args.self.now.group state c.requires.inside stands.group in
    let broken = open_broken c.args.self.now.group state (c.is_broken-is_broken.ensures.broken c.if-is_broken.true) stands.group in
    was_dropped rules c.args.arena.now c.take_back.new.arena c.args.self.now (record { keeps = c.args.self.now.keeps; history = c.take_back.new.self; group = opens.Nothing; scratch = c.args.self.now.scratch }) state entries c.args.steps.now c.take_back.new.steps stands c.requires.keeps refl refl
    group.0 group.1 broken (c.take_back.ensures.map (nearest r.past r.future state.history) group.0 r.stands group.1) (c.take_back.ensures.history (nearest r.past r.future state.history) r.stands)
    (c.take_back.ensures.entries (nearest_entries may.past may.future entries) may.costs) c.take_back.ensures.rises (c.take_back.ensures.most (nearest_entries may.past may.future entries) may.costs)

pub returns-clause-step : goal.returns-clause-step
returns-clause-step g c rules state entries stands =
    let r = stands.history c.requires.keeps in
    let may = stands.costs c.requires.keeps in
    let group = open_group c.args.self.now.group state c.requires.inside stands.group in
    let unbroken = whole c.args.self.now.group state (c.is_broken-is_broken.ensures.whole c.if-is_broken.false) stands.group in
    was_kept rules c.args.arena.now c.args.arena.now c.args.self.now (record { keeps = c.args.self.now.keeps; history = c.keep.new.self; group = opens.Nothing; scratch = c.args.self.now.scratch }) state entries c.args.steps.now c.args.steps.now stands c.requires.keeps refl refl
    group.0 group.1 unbroken (c.keep.ensures.history (nearest r.past r.future state.history) group.0 r.stands group.1)
    (c.keep.ensures.entries (nearest r.past r.future state.history) group.0 (nearest_entries may.past may.future entries) r.stands group.1 may.costs)
