use Rattle.std.proofs.Common.{◌≡◌, subst}
use Rattle.gm_arena.specs.inner.ArenaAsMap.{value}
use Rattle.gm_arena.specs.inner.ArenaMap.{name_at}
use Rattle.gm_pending.specs.inner.Results.{PendingOf}
use Rattle.gm_pending.proofs.on_values.ValuesOfDarts.{value_kept, source_node}
use Rattle.gm_pending.proofs.pending.Pending.value.Goals as goal

pub source-requires-clause-keeper : goal.source-requires-clause-keeper
source-requires-clause-keeper g c = λ kept at.
    let free = c.in-None.ensures.value kept at in
    source_node c.args.self.now c.in-None.ensures.prepared c.args.embed kept at free.0 free.1 c.args.at c.requires.dart free.2

pub returns-in-None-clause-value : goal.returns-in-None-clause-value
returns-in-None-clause-value g c = λ kept at.
    let free = c.in-None.ensures.value kept at in
    let old = subst (λ (a : PendingOf). c.value.result ≡ value a.map c.args.embed (name_at a.map c.source.result.at)) c.self.view_is c.value.ensures.value in
    value_kept c.args.self.now c.in-None.ensures.prepared c.args.embed kept at free.0 free.1 c.args.at c.requires.dart free.2 c.source.result.at c.value.result (c.source.ensures.source kept at) old
