-- Where matched slots lie in the map of an arena.
use Rattle.std.specs.Prelude.{◌≡◌, ℕ, ◌+◌, ◌*◌, ◌<◌, List, slice_index_or}
use Rattle.gm_model.specs.Matches.{Placement, IsMatch}
use Rattle.gm_model.specs.Rules.{Rule, width}
use Rattle.gm_arena.specs.inner.ArenaAsMap.{as_map}
use Rattle.gm_arena.specs.inner.ArenaMap.{ArenaMap, IsLiveSlot, name_at}
use Rattle.gm_plan.specs.inner.Placed.{Placed, turn_at}
use Rattle.gm_plan.specs.inner.Plans.{IsLeftCount}

-- the number of the slot of node x at position p
abbrev pub slot_number : Placed → ℕ → ℕ → ℕ
slot_number placed x p = (slice_index_or placed.slots (p * placed.nodes + x) (record { at = 0 })).at

-- the nodes lie at the names of their slots
abbrev pub placement_in : ArenaMap → Placed → Placement
placement_in m placed = record {
  positions = placed.positions;
  turn = turn_at placed;
  dart_of = λ x p. name_at m (slot_number placed x p);
}

-- The matched slots are live, and lie where a match of the rule at these hook darts does.
pub record AreMatched (m : ArenaMap) (rule : Rule) (hooks : List ℕ) (placed : Placed) : Type 0 where
  pub nodes : IsLeftCount rule placed.nodes
  pub places : placed.places ≡ width rule
  pub live : (x p : ℕ) → x < placed.nodes → p < placed.positions → IsLiveSlot m (slot_number placed x p)
  pub is_match : IsMatch (as_map m) rule hooks (placement_in m placed)
