use Rattle.std.proofs.Common.{◌≡◌, ℕ, ◌++◌, map}
use Rattle.gm_arena.specs.declared.arena.Place.{Place}
use Rattle.gm_arena.specs.inner.Inside.{place_names}
use Rattle.gm_arena.proofs.arena.names_by_slot.Given as goal

-- the names so far, and those of the places that are left
abbrev pub invariant-loop-slot : goal.invariant-loop-slot
invariant-loop-slot l = l.names.items ++ map (λ (e : ℕ × Place). e.1.name) l._slot-iterator ≡ place_names l.places
