-- What a match owes to the reading of its rule's expressions, for callers of `eval`.
use Rattle.std.proofs.Common.{ℕ, ◌<◌, List}
use Rattle.gm_model.specs.declared.value.Kind.{Kind}
use Rattle.gm_model.specs.declared.value.Value.{Value}
use Rattle.gm_model.specs.Kinds.{HasKind, AreGoodParams}
use Rattle.gm_model.specs.Rules.{Rule}
use Rattle.gm_model.specs.Trees.{Tree}
use Rattle.gm_arena.specs.inner.ArenaMap.{ArenaMap}
use Rattle.gm_plan.specs.inner.InArena.{AreMatched}
use Rattle.gm_plan.specs.inner.Placed.{Placed}
use Rattle.gm_eval.specs.inner.Places.{AreLiveAt, IsTypedFor}

module _ (m : ArenaMap) (rule : Rule) (hooks : List ℕ) (placed : Placed) (matched : AreMatched m rule hooks placed) where
  pub live_there : (position : ℕ) → position < placed.positions → AreLiveAt m placed position
  live_there position within = λ x h. matched.live x position h within

  pub typed_there : (params : List Value) (tree : Tree) (kind : Kind) → AreGoodParams rule params → HasKind m.schema rule tree kind → IsTypedFor m.schema placed.nodes params tree
  typed_there params tree kind good has_kind = record { rule = rule; kind = kind; has_kind = has_kind; good_params = good; nodes_among = λ x h. (matched.nodes x).0 h }
