use Rattle.std.proofs.Common.{◌+◌, true, length, vec_capacity, arith}
use Rattle.gm_arena.specs.inner.Inside.{HasParts}
use Rattle.gm_arena.proofs.NewLemmas.{sound_empty, map_empty, named_empty}
use Rattle.gm_arena.proofs.arena.Arena.new.Goals as goal

pub invariant_of-result : goal.invariant_of-result
invariant_of-result c =
    let parts : HasParts 0 (c.top.result + 1) (length c.as_slice.result.now) (vec_capacity c.new-2.result) (vec_capacity c.new-3.result) = record { linked = omega arith; long = omega arith } in (
      rw (c.top.ensures.value, c.as_slice.ensures, c.new-2.ensures.items, c.new-3.ensures.items, c.new-4.ensures)
          (sound_empty c.args.schema c.new.result c.new.ensures.empty c.requires c.top.ensures.least c.top.ensures.greatest c.new.ensures.capacity),
      rw c.new.ensures.capacity parts,
      named_empty c.args.schema c.new.result c.new.ensures.empty true,
    )

pub returns : goal.returns
returns c =
    rw (c.top.ensures.value, c.as_slice.ensures, c.new-2.ensures.items, c.new-3.ensures.items, c.new-4.ensures)
    (map_empty c.args.schema c.new.result c.new.ensures.empty)
