use Rattle.std.proofs.Common.{length, List, ap, arith}
use Rattle.std.proofs.lemmas.Int.{ints}
use Rattle.gm_arena.specs.declared.slot.Slot.{Slot}
use Rattle.gm_walk.specs.inner.Lent.{slots_of}
use Rattle.gm_eval.proofs.Collected.{count_found, within}
use Rattle.gm_eval.proofs.reader.Reader.count.Goals as goal

pub returns-clause-value : goal.returns-clause-value
returns-clause-value g c =
    let orbit = c.orbit-walk.ensures.orbit in
    let same = ap (λ (slots : List Slot). length slots) c.slots.ensures.value in
    count_found c.args.self.now c.args.mask c.args.term.now (slots_of c.orbit-walk.result) orbit _ c.int.result (omega (arith, ints, same, c.slots.ensures.most)) c.int.ensures

pub returns-clause-cost : goal.returns-clause-cost
returns-clause-cost g c = within c.args.self.now c.args.mask c.args.term.now (slots_of c.orbit-walk.result) c.orbit-walk.ensures.orbit _ _ (omega (arith, c.orbit-walk.ensures.cost))
