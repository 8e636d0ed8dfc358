use Rattle.std.proofs.Common.{◌<◌, ◌≤◌, length, List, get_or, ℕ, ap, subst, arith}
use Rattle.gm_walk.proofs.NameLemmas.{live_at}
use Rattle.gm_eval.proofs.Terms.{begins, goes_on, ends}
use Rattle.gm_eval.proofs.reader.Reader.slot.Goals as goal

pub loop-label-init : goal.loop-label-init
loop-label-init g c = record { at = begins c.args.self.now c.requires.here c.args.term.now c.slot-slot.result c.requires.term.node c.slot-slot.ensures; cost = omega arith }

pub alpha-slot-requires-clause-live : goal.alpha-slot-requires-clause-live
alpha-slot-requires-clause-live g c = live_at c.args.self.now.arena.now c.loop-label.slot.at _ c.loop-label.invariant.at

pub loop-label-preserved : goal.loop-label-preserved
loop-label-preserved g c =
    let same = c.as_slice-label-items.ensures in
    let within = subst (λ (path : List ℕ). c.loop-label.label-index < length path) same c.loop-label-test.true in
    record {
      at = goes_on c.args.self.now c.args.term.now c.loop-label.label-index c.loop-label.slot.at c.alpha-slot.result.at _ within (ap (λ (path : List ℕ). get_or path c.loop-label.label-index 0) same) c.loop-label.invariant.at c.alpha-slot.ensures.neighbour;
      cost = omega (arith, c.loop-label.invariant.cost, c.alpha-slot.ensures.cost);
    }

pub returns-clause-slot : goal.returns-clause-slot
returns-clause-slot g c = ends c.args.self.now c.args.term.now c.loop-label.label-index c.loop-label.slot.at (subst (λ (path : List ℕ). length path ≤ c.loop-label.label-index) c.as_slice-label-items.ensures c.loop-label-test.false) c.loop-label.invariant.at

pub returns-clause-cost : goal.returns-clause-cost
returns-clause-cost g c = let same = ap (λ (path : List ℕ). length path) c.as_slice-label-items.ensures in omega (arith, c.loop-label.invariant.cost, same, c.loop-label-test.false, c.loop-label.auto.label-index-end)
