use Rattle.std.proofs.Common.{◌≡◌, ◌+◌, ◌++◌, ℕ, List, length, take}
use Rattle.gm_model.specs.Orbits.{HasNoRepeats}
use Rattle.gm_arena.specs.inner.ArenaMap.{ArenaMap}
use Rattle.gm_arena.specs.inner.Lawful.{IsLawful}
use Rattle.gm_walk.specs.inner.Seen.{HasSeen}
use Rattle.gm_walk.specs.inner.Walks.{AreLive, names_of}
use Rattle.gm_walk.proofs.orbit_count.see_slots.Given as goal

abbrev pub invariant-loop-slot : goal.invariant-loop-slot
invariant-loop-slot l = record {
  seen : (m : ArenaMap) (before : List ℕ) → IsLawful m → AreLive m l.slots → HasSeen m l.fn.seen before → HasNoRepeats (before ++ names_of m l.slots)
      → HasSeen m l.seen (take (length before + l.slot-index) (before ++ names_of m l.slots));
  long : length l.seen ≡ length l.fn.seen;
}
