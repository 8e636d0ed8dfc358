use Rattle.std.proofs.Common.{ap}
use Rattle.gm_model.proofs.Exits.{on_err}
use Rattle.gm_model.proofs.Entries.{entries_kept, entries_push, stats_kept, stats_pushed}
use Rattle.gm_model.specs.Statements.{Statements}
use Rattle.gm_model.proofs.script.Script.push.Goals as goal

pub returns-in_err-entry-clause-err : goal.returns-in_err-entry-clause-err
returns-in_err-entry-clause-err c =
    on_err c.from_residual.result (rw (← ap (λ (value : Statements). value.stats) c.self.view_is) (stats_kept _ _ _ _ _ c.entry_of.ensures.hooks c.entry_of.ensures.params c.self.invariant))

pub invariant_of-self-in_err-push : goal.invariant_of-self-in_err-push
invariant_of-self-in_err-push c = rw c.in_err-push.ensures.items (entries_kept _ _ _ _ _ c.entry_of.ensures.hooks c.entry_of.ensures.params c.self.invariant)

pub returns-in_err-push-clause-err : goal.returns-in_err-push-clause-err
returns-in_err-push-clause-err c =
    on_err c.from_residual-in_err-push.result (rw (c.in_err-push.ensures.items, ← ap (λ (value : Statements). value.stats) c.self.view_is) (stats_kept _ _ _ _ _ c.entry_of.ensures.hooks c.entry_of.ensures.params c.self.invariant))

pub invariant_of-self-2 : goal.invariant_of-self-2
invariant_of-self-2 c =
    rw c.in_ok-push.ensures.items (entries_push _ _ _ _ (entries_kept _ _ _ _ _ c.entry_of.ensures.hooks c.entry_of.ensures.params c.self.invariant) c.in_ok-entry.ensures.within)

pub returns-clause-ok : goal.returns-clause-ok
returns-clause-ok c =
    rw (c.in_ok-push.ensures.items, ← ap (λ (value : Statements). value.stats) c.self.view_is, ← c.in_ok-entry.ensures.stat)
    (stats_pushed _ _ _ _ _ _ c.entry_of.ensures.hooks c.entry_of.ensures.params c.self.invariant)
