use Rattle.gm_undo.proofs.Sums.{never_more}
use Rattle.gm_undo.proofs.Tellings.{kept_stands, kept_takes}
use Rattle.gm_undo.proofs.history.History.keep.Goals as goal

pub returns-clause-history : goal.returns-clause-history
returns-clause-history c told group s e = kept_stands _ _ _ c.args.arena.now c.self.inside.made c.self.inside.group told group (rw (← c.self.view_is) at s) e

pub returns-clause-entries : goal.returns-clause-entries
returns-clause-entries c told group entries s e may =
    kept_takes _ _ _ c.args.arena.now c.self.inside.made c.args.arena.now.schema.dim c.self.inside.group told group entries (rw (← c.self.view_is) at s) e (rw (← c.self.view_is) at may)

pub prove-unreachable-requires : goal.prove-unreachable-requires
prove-unreachable-requires c = never_more c.args.arena.now c.count.result c.count.ensures.lawful c.count.ensures.count c.if-prove.true
