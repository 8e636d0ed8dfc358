use Rattle.std.proofs.Common.{◌≡◌, ◌-◌, ◌*◌, length, replicate, ap, ◌∙◌, arith}
use Rattle.std.proofs.lemmas.List.{length-replicate}
use Rattle.gm_arena.proofs.ValueLemmas.{length-slice, written, written_slice}
use Rattle.gm_arena.proofs.arena.free_labels.Goals as goal

pub returns-clause-written : goal.returns-clause-written
returns-clause-written c =
    let own = c.args.own in
    let labels = c.args.labels in
    let start = own.at * labels in
    let items = c.args.neighbours.now.items in
    let grown = c.lengthen.new.vector in
    let more = replicate (length grown.items - length items) own in
    let filled : c.fill.new.self ≡ replicate labels own = c.fill.ensures.after (λ y e. e) ∙ ap (λ n. replicate n own) (length-slice start labels grown.items c.deref_mut.result.now c.deref_mut.ensures.value c.lengthen.ensures.long) in
    rw filled
    (rw (written_slice start labels grown.len grown.items c.deref_mut.result.now (replicate labels own) c.deref_mut.ensures.value (omega (arith, grown.ok.0)) c.lengthen.ensures.long (length-replicate labels own))
    (written labels items grown.items (replicate labels own) more own.at c.lengthen.ensures.items (length-replicate labels own) (omega (arith, c.lengthen.ensures.long))))
