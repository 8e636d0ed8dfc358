-- What an application takes where a collector that readings share is read once.
use Rattle.std.specs.Prelude.{◌≡◌, ℕ, ◌+◌, ◌*◌, ◌<◌, ◌≤◌, ◌↔◌, Bool, List, length, sum, Some, slice_get, IsTrue}
use Rattle.std.specs.List.{Contains, AllZip}
use Rattle.gm_model.specs.Applications.{Application, Decider, IsDecider, IsDeciderBefore, IsExpressionAt, IsPreUnits, IsReachedSum, IsRead, IsReady, IsUnfolded, reading_at}
use Rattle.gm_model.specs.Expressions.{IsCollected}
use Rattle.gm_model.specs.inner.Collectors.{collector_count, most_collectors}
use Rattle.gm_model.specs.Maps.{dimension}
use Rattle.gm_model.specs.Matches.{Placement}
use Rattle.gm_model.specs.Trees.{Tree}
use Rattle.gm_eval.specs.declared.kept.Collector.{Collector}
use Rattle.gm_eval.specs.inner.Keeping.{own_term}
use Rattle.gm_eval.specs.inner.Sharing.{HasUnitsBeside, Reads}

module _ (app : Application) where
  module _ (place : Placement) where
    -- the collector's orbit, from its node's dart at the position, holds the node's dart at every position
    abbrev pub IsSharedAt : ℕ → Collector → Type 0
    IsSharedAt p c = (q : ℕ) → q < place.positions → IsCollected (reading_at app place p) c.mask (own_term c.node) (place.dart_of c.node q)

    -- Over the neighbours of the unfolded map:
    module _ (IsLive : ℕ → Type 0) (alpha : ℕ → ℕ → ℕ) where
      -- The node decides at an earlier position too, for the same embedding, and there its expression reads the collector,
      -- whose orbit the positions share. The expression has no more collectors than one of a book can have.
      pub record IsReadBefore (decider : Decider) (tree : Tree) (c : Collector) : Type 0 where
        pub position : ℕ
        pub before : position < decider.position
        pub decides : IsDecider app place IsLive alpha (record { embed = decider.embed; node = decider.node; position = position })
        pub reads : Reads (reading_at app place position) tree c
        pub shared : IsSharedAt position c
        pub few : collector_count tree ≤ most_collectors

      -- what reading the expression of a deciding instance takes, where a collector that was read before may be left out
      abbrev pub IsReadOnce : Decider → ℕ → Type 0
      IsReadOnce decider u = (tree : Tree) × IsExpressionAt app place decider.embed decider.node decider.position tree × HasUnitsBeside (IsReadBefore decider tree) (reading_at app place decider.position) tree u

      -- the sum of that over the deciding instances that are read
      pub record IsReadOnceSum (u : ℕ) : Type 0 where
        pub read : List Decider
        pub ordered : (k l : ℕ) (a b : Decider) → k < l → slice_get read k ≡ Some a → slice_get read l ≡ Some b → IsDeciderBefore a b
        pub same : (decider : Decider) → Contains read decider ↔ IsRead app place IsLive alpha decider
        pub units : List ℕ
        pub units_are : AllZip IsReadOnce read units
        pub sum_is : u ≡ sum units

  -- The most steps that the application may take, where what is shared is read once. It is ready, so it can lack no more than a value.
  pub data IsBudgetOnce : ℕ → Type 0 where
    OfReady : (place : Placement) (IsLive : ℕ → Bool) (alpha : ℕ → ℕ → ℕ) (reached u w : ℕ) → IsReady app place → IsUnfolded app place (λ d. IsTrue (IsLive d)) alpha
        → IsReachedSum app place (λ d. IsTrue (IsLive d)) alpha reached → IsPreUnits app place u → IsReadOnceSum place (λ d. IsTrue (IsLive d)) alpha w
        → IsBudgetOnce (24 * (dimension app.map + 1) * (length app.rule.nodes * place.positions + reached + (u + w) + 1))
