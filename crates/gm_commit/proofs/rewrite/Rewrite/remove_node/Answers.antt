use Rattle.std.proofs.Common.{◌≡◌, ℕ, ◌+◌, ◌<◌, true, [], ◌∷◌, length, refl, sym, ap, ◌∙◌, arith}
use Rattle.gm_arena.specs.inner.ArenaMap.{ArenaMap}
use Rattle.gm_commit.specs.inner.InstanceEdits.{RewriteOf, concat_below, removed_in, removed_of, slot_in, told_by}
use Rattle.gm_commit.specs.inner.WrittenMap.{CanRemove, without_darts}
use Rattle.gm_commit.proofs.on_rewrite.EndsOfInstances.{none_removed}
use Rattle.gm_commit.proofs.on_commit.WrittenSoFar.{AreGone, none_gone, more_gone, can_go_on}
use Rattle.gm_commit.proofs.rewrite.Rewrite.remove_node.Goals as goal

-- the next dart can be removed
can_remove_next : (rewrite : RewriteOf) (x : ℕ) (m : ArenaMap) (begun k : ℕ) (now : ArenaMap) (steps : ℕ) → rewrite.goes x ≡ true → k < rewrite.placed.positions → CanRemove m (removed_in rewrite x) → AreGone m begun (concat_below (removed_of rewrite x) k) now steps → CanRemove now (slot_in rewrite.placed x k ∷ [])
can_remove_next rewrite x m begun k now steps removed within can gone =
    let next : CanRemove now (removed_of rewrite x k) = can_go_on m begun (removed_of rewrite x) rewrite.placed.positions k now steps within can gone in
    rw removed at next

pub loop-position-init : goal.loop-position-init
loop-position-init g c = none_gone c.args.arena.now c.args.steps.now

pub returns : goal.returns
returns g c =
    let end : c.loop-position.position ≡ c.args.self.now.placed.positions = omega (arith, c.loop-position-test.false, c.loop-position.auto.position-end, c.positions-position-end.ensures) in
    let gone = rw end at c.loop-position.invariant in
    record { map = gone.map; cost = gone.cost }

pub returns-then-not-is_removed-clause-map : goal.returns-then-not-is_removed-clause-map
returns-then-not-is_removed-clause-map g c = rw (none_removed (told_by c.args.self.now) c.args.node (sym c.is_removed.ensures.removed ∙ c.if-not-is_removed.true)) refl

pub returns-then-not-is_removed-clause-cost : goal.returns-then-not-is_removed-clause-cost
returns-then-not-is_removed-clause-cost g c = rw (none_removed (told_by c.args.self.now) c.args.node (sym c.is_removed.ensures.removed ∙ c.if-not-is_removed.true)) (omega arith)

pub left_slot-requires-clause-left : goal.left_slot-requires-clause-left
left_slot-requires-clause-left g c = c.is_removed.ensures.left c.if-not-is_removed.false

pub remove-requires-clause-live : goal.remove-requires-clause-live
remove-requires-clause-live g c = rw c.left_slot.ensures (can_remove_next (told_by c.args.self.now) c.args.node c.args.arena.now c.args.steps.now c.loop-position.position c.loop-position.arena c.loop-position.steps
    (sym c.is_removed.ensures.removed ∙ c.if-not-is_removed.false) (omega (arith, c.loop-position-test.true, c.positions-position-end.ensures)) c.requires.can c.loop-position.invariant).0

pub remove-requires-clause-alone : goal.remove-requires-clause-alone
remove-requires-clause-alone g c = rw c.left_slot.ensures (can_remove_next (told_by c.args.self.now) c.args.node c.args.arena.now c.args.steps.now c.loop-position.position c.loop-position.arena c.loop-position.steps
    (sym c.is_removed.ensures.removed ∙ c.if-not-is_removed.false) (omega (arith, c.loop-position-test.true, c.positions-position-end.ensures)) c.requires.can c.loop-position.invariant).1

pub loop-position-preserved : goal.loop-position-preserved
loop-position-preserved g c =
    let removed : (told_by c.args.self.now).goes c.args.node ≡ true = sym c.is_removed.ensures.removed ∙ c.if-not-is_removed.false in
    let here : removed_of (told_by c.args.self.now) c.args.node c.loop-position.position ≡ c.left_slot.result ∷ [] = rw (removed, c.left_slot.ensures) refl in
    more_gone c.args.arena.now c.args.steps.now (removed_of (told_by c.args.self.now) c.args.node) c.loop-position.position c.loop-position.arena c.remove.new.self c.loop-position.steps c.remove.new.steps c.loop-position.invariant
    (c.remove.ensures.map ∙ ap (without_darts c.loop-position.arena) (sym here)) (c.remove.ensures.cost ∙ ap (λ slots. c.loop-position.steps + length slots) (sym here))
