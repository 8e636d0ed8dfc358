use Rattle.std.proofs.Common.{◌-◌, ◌*◌, length, replicate, pos, refl, arith}
use Rattle.gm_model.specs.declared.value.Value.TheVariants.{Int}
use Rattle.gm_arena.proofs.ValueLemmas.{written, written_slice}
use Rattle.gm_arena.proofs.arena.write_values.Goals as goal

pub returns-clause-written : goal.returns-clause-written
returns-clause-written c =
    let values = c.args.values.now in
    let start = c.args.slot * length values in
    let items = c.args.held.now.items in
    let grown = c.lengthen.new.vector in
    let more = replicate (length grown.items - length items) (Int (pos 0)) in
    rw c.overwrite.ensures
    (rw (written_slice start (length values) grown.len grown.items c.deref_mut.result.now values c.deref_mut.ensures.value (omega (arith, grown.ok.0)) c.lengthen.ensures.long refl)
    (written (length values) items grown.items values more c.args.slot c.lengthen.ensures.items refl (omega (arith, c.lengthen.ensures.long))))
