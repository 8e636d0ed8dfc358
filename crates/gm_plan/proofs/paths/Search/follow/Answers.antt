use Rattle.std.proofs.Common.{◌≡◌, ◌<◌, ℕ, true, false, Option, Some, None, length, refl, add-zero, arith}
use Rattle.std.proofs.lemmas.List.{length-set}
use Rattle.gm_model.specs.declared.step.Step.TheVariants.{Exp}
use Rattle.gm_plan.specs.inner.Searches.{row_step, rank_at}
use Rattle.gm_plan.proofs.Extended.{follow_finds}
use Rattle.gm_plan.proofs.Ranks.{rank_new, rank_other}
use Rattle.gm_plan.proofs.Rows.{row_below}
use Rattle.gm_plan.proofs.Search.{follow_starts, follow_passes, follow_ends}
use Rattle.gm_plan.proofs.paths.Search.follow.Goals as goal
use Rattle.gm_plan.proofs.paths.Search.follow.Goals.{in-Some+in_ok-push, in_default}

pub loop-node-init : goal.loop-node-init
loop-node-init c = record { long = search; count = refl; followed = λ hooks h. follow_starts _ _ _ _ _ _ _ h c.requires.rank }

pub bounds-self-to : goal.bounds-self-to
bounds-self-to c =
    let end = (c.new_end.ensures c.in-Some.to).0 c.in-Some.is in
    let within : c.in-Some.to < length c.args.rows.now = c.requires.ends _ _ _ end.1 in
    omega (arith, within, c.requires.rows)

pub loop-node-preserved : goal.loop-node-preserved
loop-node-preserved c = elim c.match-new_end.branch [
  | in-Some+in_ok-push w ↦
      let end = (c.new_end.ensures w.in-Some.to).0 w.in-Some.is in
      let within : w.in-Some.to < length c.args.rows.now = c.requires.ends _ _ _ end.1 in
      let in_table : w.in-Some.to < length c.loop-node.self.ranks = omega (arith, within, c.requires.rows, c.loop-node.invariant.long) in
      rw (w.self-is, w.has_found-is, w.in_ok-push.ensures.ok) (record {
        long = rw length-set c.loop-node.invariant.long;
        count = c.loop-node.invariant.count;
        followed = λ hooks h. follow_finds _ hooks _ _ _ _ _ _ _ _ (c.loop-node.invariant.followed hooks h) w.in-Some.to end.0 end.1 end.2 (rank_new _ _ _ in_table) (rank_other _ _ _);
      })
  | in_default w ↦ rw (w.self-is, w.has_found-is) (record {
    long = c.loop-node.invariant.long;
    count = c.loop-node.invariant.count;
    followed = λ hooks h. follow_passes _ hooks _ _ _ _ _ _ _ (c.loop-node.invariant.followed hooks h) (λ y at step. known y at step w.in_default.not-Some);
  })
]
  where
    known : (y : ℕ) → rank_at c.loop-node.self.ranks c.loop-node.node ≡ Some c.args.rank → row_step c.args.rows.now c.loop-node.node c.args.label ≡ Exp y → ((x : ℕ) → c.new_end.result ≡ Some x → ⊥) → (t : ℕ) × (rank_at c.loop-node.self.ranks y ≡ Some t)
    known y at step not_some = go (rank_at c.loop-node.self.ranks y) refl
      where
        go : (rank : Option ℕ) → rank_at c.loop-node.self.ranks y ≡ rank → (t : ℕ) × (rank_at c.loop-node.self.ranks y ≡ Some t)
        go (Some t) e = (t, e)
        go None e = absurd (not_some y ((c.new_end.ensures y).1 (at, step, e)))

pub returns-then-has_found-clause-searched : goal.returns-then-has_found-clause-searched
returns-then-has_found-clause-searched c = λ hooks h.
    follow_ends _ hooks _ _ _ _ _ _ true (rw c.if-has_found.true at (c.loop-node.invariant.followed hooks h)) (λ x y e. omega (arith, row_below _ x _ y e, c.loop-node-test.false))

pub returns-else-has_found-clause-searched : goal.returns-else-has_found-clause-searched
returns-else-has_found-clause-searched c = λ hooks h.
    rw (add-zero c.loop-node.self.count) at (follow_ends _ hooks _ _ _ _ _ _ false (rw c.if-has_found.false at (c.loop-node.invariant.followed hooks h)) (λ x y e. omega (arith, row_below _ x _ y e, c.loop-node-test.false)))
