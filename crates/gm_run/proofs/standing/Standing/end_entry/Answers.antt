use Rattle.gm_run.specs.inner.Standing.{nearest, nearest_entries}
use Rattle.gm_run.proofs.Stepping.{recalls_group, recalls_kept}
use Rattle.gm_run.proofs.standing.Standing.end_entry.Goals as goal

pub returns-then-self-clause-history : goal.returns-then-self-clause-history
returns-then-self-clause-history c told group remembers is keeps =
    let r = remembers c.if-self.true in
    recalls_kept c.args.self.now.keeps.reach c.keep.new.self c.args.arena.now r.past r.future r.past_far r.future_far group told (c.keep.ensures.history (nearest r.past r.future told) group r.stands is)

pub returns-then-self-clause-entries : goal.returns-then-self-clause-entries
returns-then-self-clause-entries c told group entries remembers is costs keeps =
    let r = remembers c.if-self.true in
    let may = costs c.if-self.true in
    recalls_group c.args.self.now.keeps.reach c.keep.new.self c.args.arena.now.schema.dim may.past may.future may.past_far may.future_far group entries
    (c.keep.ensures.entries (nearest r.past r.future told) group (nearest_entries may.past may.future entries) r.stands is may.costs)

pub keep-requires : goal.keep-requires
keep-requires c = record { stands = let r = c.requires.stands.2 c.if-self.true in (nearest r.past r.future c.requires.stands.0, c.requires.stands.1, r.stands, c.requires.stands.3) }
