use Rattle.std.proofs.Common.{◌≡◌, None, inr, subst, arith}
use Rattle.gm_pending.specs.inner.ReachedDarts.{AreMarkedTo}
use Rattle.gm_pending.proofs.on_deciding.NodesOfOneOrbit.{next_absent, next_marked, none_marked_yet}
use Rattle.gm_pending.proofs.on_deciding.OrbitsWalked.{marked_darts}
use Rattle.gm_pending.proofs.pending.Pending.mark_instances.Goals as goal

pub loop-position-init : goal.loop-position-init
loop-position-init c = record { darts = c.requires.darts; marked = none_marked_yet c.args.self.now c.positions-position-end.ensures.prepared c.args.node c.requires.right c.args.marks.now c.args.index }

pub mark_new-requires : goal.mark_new-requires
mark_new-requires c =
    let l = c.loop-position in
    record {
      absent = next_absent c.args.self.now c.positions-position-end.ensures.prepared c.args.node c.requires.right c.args.marks.now l.marks c.args.index l.position c.place-at.result l.invariant.marked c.place-at.ensures.name
          c.requires.unmarked (omega (arith, c.loop-position-test.true, c.positions-position-end.ensures.positions)) c.place-at.ensures.dart l.invariant.darts;
    }

pub loop-position-preserved : goal.loop-position-preserved
loop-position-preserved c =
    let app = c.args.self.now in
    let l = c.loop-position in
    let at = c.place-at.result in
    let prepared = c.positions-position-end.ensures.prepared in
    let absent = next_absent app prepared c.args.node c.requires.right c.args.marks.now l.marks c.args.index l.position at l.invariant.marked c.place-at.ensures.name
    c.requires.unmarked (omega (arith, c.loop-position-test.true, c.positions-position-end.ensures.positions)) c.place-at.ensures.dart l.invariant.darts in
    record {
      darts = marked_darts app prepared l.marks c.mark_new.new.self at c.args.index None (inr (absent, c.in_ok-mark_new.ensures.ok)) c.place-at.ensures.dart l.invariant.darts;
      marked = rw c.in_ok-mark_new.ensures.ok (next_marked app prepared c.args.node c.requires.right c.args.marks.now l.marks c.args.index l.position at l.invariant.marked c.place-at.ensures.name);
    }

pub returns-in_err-mark_new-clause-darts : goal.returns-in_err-mark_new-clause-darts
returns-in_err-mark_new-clause-darts c = rw c.in_err-mark_new.ensures.err c.loop-position.invariant.darts

pub returns-in_err-mark_new-clause-some : goal.returns-in_err-mark_new-clause-some
returns-in_err-mark_new-clause-some c =
    (c.loop-position.position, omega (arith, c.loop-position-test.true, c.positions-position-end.ensures.positions), rw c.in_err-mark_new.ensures.err c.loop-position.invariant.marked)

pub returns-clause-darts : goal.returns-clause-darts
returns-clause-darts c = c.loop-position.invariant.darts

pub returns-clause-all : goal.returns-clause-all
returns-clause-all c =
    let end : c.loop-position.position ≡ c.args.self.now.placed.positions = omega (arith, c.loop-position.auto.position-end, c.loop-position-test.false, c.positions-position-end.ensures.positions) in
    subst (λ p. AreMarkedTo c.args.self.now c.args.marks.now c.loop-position.marks c.args.node c.args.index p) end c.loop-position.invariant.marked

pub returns-clause-some : goal.returns-clause-some
returns-clause-some c = (c.loop-position.position, omega (arith, c.loop-position.auto.position-end, c.positions-position-end.ensures.positions), c.loop-position.invariant.marked)
