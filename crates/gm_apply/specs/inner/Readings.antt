-- Where the expressions of an embedding are read, and what earlier readings read. No public clause cites this module.
use Rattle.std.specs.Prelude.{◌≡◌, ℕ, ◌<◌, ◌≤◌, List, map, slice_get, Some}
use Rattle.gm_model.specs.Expressions as model
use Rattle.gm_model.specs.inner.Collectors.{collector_count, most_collectors}
use Rattle.gm_model.specs.Rules.{Assigns, rule_of}
use Rattle.gm_model.specs.Trees.{Tree}
use Rattle.gm_eval.specs.declared.kept.Collector.{Collector}
use Rattle.gm_eval.specs.inner.Places.{reading_in}
use Rattle.gm_eval.specs.inner.Sharing.{IsShared, Reads}
use Rattle.gm_pending.specs.inner.Results.{PendingOf, instances_of, place_of}
use Rattle.gm_apply.specs.declared.reading.Reading.{Reading}

-- where the deciding instances of the embedding lie, in their order: at these nodes and positions the expressions are read
abbrev pub places_of : PendingOf → ℕ → List (ℕ × ℕ)
places_of pending e = map place_of (instances_of pending e)

-- where an expression is read at a position
abbrev pub read_at : Reading → ℕ → model.Reading
read_at reading p = reading_in reading.arena.now reading.found.now p reading.params.now

module _ (reading : Reading) (e : ℕ) where
  -- the expression is what the node assigns to the embedding
  abbrev pub IsExpression : ℕ → Tree → Type 0
  IsExpression x tree = Assigns (rule_of reading.plan.now.table) x e tree

  module _ (places : List (ℕ × ℕ)) where
    -- before the i-th, a reading of the node's expression read the collector, whose orbit there holds the collector's node at every position; the expression has no more of them than one of a book can have
    abbrev pub WasRead : ℕ → ℕ → Tree → Collector → Type 0
    WasRead i x tree c = (j : ℕ) × (p : ℕ) × (j < i) × (slice_get places j ≡ Some (x, p)) × Reads (read_at reading p) tree c × IsShared reading.arena.now reading.found.now p c × (collector_count tree ≤ most_collectors)
