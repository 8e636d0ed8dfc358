use Rattle.gm_run.specs.inner.Standing.{nearest, nearest_entries}
use Rattle.gm_run.proofs.standing.Standing.begin_entry.Goals as goal

pub returns-then-self-clause-history : goal.returns-then-self-clause-history
returns-then-self-clause-history c told remembers keeps =
    let r = remembers c.if-self.true in
    record { past = r.past; future = r.future; past_far = r.past_far; future_far = r.future_far; stands = c.begin.ensures.history (nearest r.past r.future told) r.stands }

pub returns-then-self-clause-entries : goal.returns-then-self-clause-entries
returns-then-self-clause-entries c entries costs keeps =
    let may = costs c.if-self.true in
    record { past = may.past; future = may.future; past_far = may.past_far; future_far = may.future_far; costs = c.begin.ensures.entries (nearest_entries may.past may.future entries) may.costs }

pub begin-requires : goal.begin-requires
begin-requires c = record { stands = let r = c.requires.stands.1 c.if-self.true in (nearest r.past r.future c.requires.stands.0, r.stands, c.requires.stands.2) }
