use Rattle.std.proofs.Common.{◌≡◌}
use Rattle.slab.specs.Slab.{slab_len}
use Rattle.gm_arena.specs.inner.Inside.{AreNumbered}
use Rattle.gm_arena.proofs.arena.number_places.Given as goal

-- the places of the names so far
abbrev pub invariant-loop-name : goal.invariant-loop-name
invariant-loop-name l = record {
  numbered : AreNumbered l.name l.places;
  len : slab_len l.places ≡ l.name;
  capacity : l.places.capacity ≡ l.fn.places.capacity;
}
