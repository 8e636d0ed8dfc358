use Rattle.gm_host.proofs.Lookups.{from_tree-insert}
use Rattle.gm_host.proofs.mem_store.MemStore.fail_save.Goals as goal

pub returns-in_ok-insert-clause-ok : goal.returns-in_ok-insert-clause-ok
returns-in_ok-insert-clause-ok c = λ _.
    rw (from_tree-insert _ c.self.inside.failing_saves c.insert.new.self c.args.kept c.in_ok-insert.ensures.updates, c.from-call.ensures, ← c.self.view_is)
