-- Where what waits for an operand ends, one after another.
use Rattle.std.proofs.Common.{◌≡◌, ◌<◌, ℕ, true, false, List, [], ◌∷◌, length, Some, None, refl, ap, arith}
use Rattle.std.specs.Prelude.{nat_le}
use Rattle.gm_model.specs.Trees.{Tree}
use Rattle.gm_tree.specs.inner.Building.{Frame, least_in, is_bracket, closed, held, settled, reduced}
use Rattle.gm_tree.specs.inner.Taking.{TakesAbove, TakesShut}

pub reduced_stop : (level : ℕ) (old new : List Frame) (tree : Tree) → TakesAbove level old None new → held new tree ≡ reduced level old tree
reduced_stop level [] new tree is = ap (λ (fs : List Frame). held fs tree) is.0
reduced_stop level (frame ∷ frames) new tree is = let at : nat_le (least_in frame) level ≡ true = is.1 in rw at (ap (λ (fs : List Frame). held fs tree) is.0)

pub reduced_on : (level : ℕ) (old new : List Frame) (first : Frame) (tree : Tree) → TakesAbove level old (Some first) new → reduced level new (closed first tree) ≡ reduced level old tree
reduced_on level old new first tree is = let more : nat_le (least_in first) level ≡ false = is.1 in rw is.0 (rw more refl)

pub settled_stop : (old new : List Frame) (tree : Tree) → TakesShut old None new → held new tree ≡ settled old tree
settled_stop [] new tree is = ap (λ (fs : List Frame). held fs tree) is.0
settled_stop (frame ∷ frames) new tree is = let at : is_bracket frame ≡ true = is.1 in rw at (ap (λ (fs : List Frame). held fs tree) is.0)

pub settled_on : (old new : List Frame) (first : Frame) (tree : Tree) → TakesShut old (Some first) new → settled new (closed first tree) ≡ settled old tree
settled_on old new first tree is = let shut : is_bracket first ≡ false = is.1 in rw is.0 (rw shut refl)

pub fewer_above : (level : ℕ) (old new : List Frame) (first : Frame) → TakesAbove level old (Some first) new → length new < length old
fewer_above level old new first is = rw is.0 (omega arith)

pub fewer_shut : (old new : List Frame) (first : Frame) → TakesShut old (Some first) new → length new < length old
fewer_shut old new first is = rw is.0 (omega arith)
