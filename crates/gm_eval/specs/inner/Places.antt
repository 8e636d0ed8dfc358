-- Where expressions of a rule are read in an arena: at a position of matched slots, with values for the parameters.
use Rattle.std.specs.Prelude.{ℕ, ◌+◌, ◌*◌, ◌<◌, ◌≤◌, List, IsTrue}
use Rattle.gm_model.specs.declared.rule.Side.TheVariants.{Left}
use Rattle.gm_model.specs.declared.schema.Schema.{Schema}
use Rattle.gm_model.specs.declared.value.Kind.{Kind}
use Rattle.gm_model.specs.declared.value.Value.{Value}
use Rattle.gm_model.specs.Expressions.{Reading, HasUnits}
use Rattle.gm_model.specs.Kinds.{HasKind, AreGoodParams}
use Rattle.gm_model.specs.Rules.{Rule, has_word}
use Rattle.gm_model.specs.Trees.{Tree}
use Rattle.gm_arena.specs.inner.ArenaAsMap.{as_map}
use Rattle.gm_arena.specs.inner.ArenaMap.{ArenaMap, IsLiveSlot}
use Rattle.gm_plan.specs.inner.InArena.{placement_in, slot_number}
use Rattle.gm_plan.specs.inner.Placed.{Placed}

abbrev pub reading_in : ArenaMap → Placed → ℕ → List Value → Reading
reading_in m placed position params = record { map = as_map m; place = placement_in m placed; position = position; params = params }

-- each node lies at a live slot
abbrev pub AreLiveAt : ArenaMap → Placed → ℕ → Type 0
AreLiveAt m placed position = (x : ℕ) → x < placed.nodes → IsLiveSlot m (slot_number placed x position)

-- The expression has a kind, as one of a rule whose left nodes are among the first `nodes` and whose parameters these
-- are values for.
pub record IsTypedFor (schema : Schema) (nodes : ℕ) (params : List Value) (tree : Tree) : Type 0 where
  pub rule : Rule
  pub kind : Kind
  pub has_kind : HasKind schema rule tree kind
  pub good_params : AreGoodParams rule params
  pub nodes_among : (x : ℕ) → IsTrue (has_word rule Left x) → x < nodes

-- from old to new there are at most 6(n + 1) steps for each unit of the reading
abbrev pub IsWithinUnits : Reading → Tree → ℕ → ℕ → Type 0
IsWithinUnits reading tree old new = (u : ℕ) → HasUnits reading tree u → new ≤ old + 6 * (reading.map.schema.dim + 1) * u
