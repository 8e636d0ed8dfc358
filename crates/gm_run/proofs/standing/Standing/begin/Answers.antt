use Rattle.std.proofs.Common.{refl}
use Rattle.gm_run.specs.declared.standing.Open.TheVariants as opens
use Rattle.gm_run.specs.inner.Standing.{nearest, nearest_entries}
use Rattle.gm_run.proofs.Stepping.{began, outside_kept}
use Rattle.gm_run.proofs.standing.Standing.begin.Goals as goal

pub begin-requires : goal.begin-requires
begin-requires c = record { stands = outside_kept c.args.arena.now c.args.self.now c.requires.keeps c.requires.stands c.requires.outside }

pub returns : goal.returns
returns c = record {
  step = λ rules state entries steps stands.
      let r = stands.history c.requires.keeps in
      let may = stands.costs c.requires.keeps in
      began rules c.args.arena.now c.args.arena.now c.args.self.now (record { keeps = c.args.self.now.keeps; history = c.begin.new.self; group = opens.Whole; scratch = c.args.self.now.scratch }) state entries steps steps stands c.requires.keeps refl c.requires.outside refl
      (c.begin.ensures.history (nearest r.past r.future state.history) r.stands) (c.begin.ensures.entries (nearest_entries may.past may.future entries) may.costs);
  keeps = refl;
}
