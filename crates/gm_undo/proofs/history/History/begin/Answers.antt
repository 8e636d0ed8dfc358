use Rattle.gm_undo.proofs.Sums.{never_more}
use Rattle.gm_undo.proofs.Tellings.{begun, begun_takes, not_open}
use Rattle.gm_undo.proofs.history.History.begin.Goals as goal

pub returns-clause-history : goal.returns-clause-history
returns-clause-history c told s =
    let outside = not_open _ c.args.arena.now (rw (← c.self.view_is) at c.requires.stands) in
    begun _ _ _ c.args.arena.now c.self.inside.made c.self.inside.group outside told (rw (← c.self.view_is) at s)

pub returns-clause-entries : goal.returns-clause-entries
returns-clause-entries c entries may =
    let outside = not_open _ c.args.arena.now (rw (← c.self.view_is) at c.requires.stands) in
    begun_takes _ _ _ c.args.arena.now c.self.inside.made c.args.arena.now.schema.dim c.self.inside.group outside entries (rw (← c.self.view_is) at may)

pub prove-unreachable-requires : goal.prove-unreachable-requires
prove-unreachable-requires c = never_more c.args.arena.now c.count.result c.count.ensures.lawful c.count.ensures.count c.if-prove.true
