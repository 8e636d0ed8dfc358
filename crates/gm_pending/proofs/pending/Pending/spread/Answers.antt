use Rattle.std.proofs.Common.{◌+◌, ◌≤◌, Some, refl, sym, ◌∙◌, arith}
use Rattle.gm_theory.proofs.Lists.{contained_at, get_contained}
use Rattle.gm_pending.specs.inner.ReachedDarts.{IsFollowedTo}
use Rattle.gm_pending.proofs.on_deciding.ArcsFollowed.{asked_next, stays_longer, followed_some, followed_follows, followed_up_to}
use Rattle.gm_pending.proofs.on_deciding.OrbitsWalked.{marked_kept, marked_darts}
use Rattle.gm_model.proofs.Exits.{never_ok}
use Rattle.gm_pending.proofs.pending.Pending.spread.Goals as goal

pub loop-label-init : goal.loop-label-init
loop-label-init g c = record {
  darts = c.requires.darts;
  kept = λ j entry f. f;
  followed = (0, omega arith, λ result before d n unfolded there late spread. spread, (λ l h t. (omega arith, c.without-asked.ensures.among l h t), λ l h late unset. c.without-asked.ensures.others l h unset), omega arith);
  least = omega arith;
}

pub neighbour-to-requires : goal.neighbour-to-requires
neighbour-to-requires g c =
    record {
      dart = c.requires.darts c.args.from c.requires.from;
      label = c.requires.prepared.lawful.schema.labels c.args.embed c.in-Some.label c.args.declared.now c.requires.embed (c.loop-label.invariant.followed.3.0 c.in-Some.label c.in-Some.ensures.0 c.in-Some.ensures.1).1;
      kept = λ h. (c.made_labels-made.ensures c.in-Some.label c.in-Some.ensures.0).0 (sym c.has.ensures ∙ h);
    }

pub loop-label-preserved : goal.loop-label-preserved
loop-label-preserved g c =
    let app = c.args.self.now in
    let prepared = c.requires.prepared in
    let l = c.loop-label in
    let from = c.args.from in
    let label = c.in-Some.label in
    let to = c.neighbour-to in
    let lowest = c.in-Some.ensures in
    let more = c.in_ok-mark_beside.ensures.ok in
    let asked = l.invariant.followed.3.0 label lowest.0 lowest.1 in
    let within : label ≤ app.map.schema.dim = prepared.lawful.schema.labels c.args.embed label c.args.declared.now c.requires.embed asked.1 in
    let so_far : IsFollowedTo app c.args.declared.now from c.args.marks.now l.marks label = followed_up_to app prepared c.args.embed c.args.declared.now c.requires.embed from c.args.marks.now l.marks l.invariant.kept l.asked l.invariant.followed.0 label asked.0 (omega (arith, lowest.0)) l.invariant.followed.2 l.invariant.followed.3 lowest.2 in
    record {
      darts = marked_darts app prepared l.marks c.mark_beside.new.self to.result from.instance (Some label) more to.ensures.dart l.invariant.darts;
      kept = λ j entry f. marked_kept app prepared l.marks c.mark_beside.new.self to.result from.instance (Some label) more j entry (l.invariant.kept j entry f);
      followed = (
        label + 1,
        omega (arith, within),
        followed_follows app prepared c.args.embed c.args.declared.now c.requires.embed from c.args.marks.now l.marks label l.invariant.kept so_far c.mark_beside.new.self to.result asked.1 l.invariant.darts c.mark_beside.ensures.distinct to.ensures.dart to.ensures.arc more,
        asked_next c.args.declared.now.mask l.asked c.without-asked-in-Some.result from.over l.invariant.followed.0 label l.invariant.followed.3 lowest.0 lowest.1 lowest.2 c.without-asked-in-Some.ensures.among c.without-asked-in-Some.ensures.others c.without-asked-in-Some.ensures.gone,
        omega (arith, asked.0, l.invariant.followed.4, to.ensures.cost),
      );
      least = omega (arith, l.invariant.least, to.ensures.least);
    }

pub returns-in_err-mark_beside : goal.returns-in_err-mark_beside
returns-in_err-mark_beside g c =
    record {
      darts = rw c.in_err-mark_beside.ensures.err c.loop-label.invariant.darts;
      followed = never_ok _ c.from_residual.result c.from_residual.ensures.0;
      grown = rw c.in_err-mark_beside.ensures.err
          (followed_some c.args.self.now c.requires.prepared c.args.embed c.args.declared.now c.requires.embed c.args.from c.args.marks.now c.loop-label.marks c.loop-label.invariant.followed.0 c.loop-label.invariant.followed.2);
      longer = rw c.in_err-mark_beside.ensures.err (stays_longer c.args.marks.now c.loop-label.marks c.loop-label.invariant.kept);
      cost = let l = c.loop-label in
          let asked = l.invariant.followed.3.0 c.in-Some.label c.in-Some.ensures.0 c.in-Some.ensures.1 in
          let within : c.in-Some.label ≤ c.args.self.now.map.schema.dim = c.requires.prepared.lawful.schema.labels c.args.embed c.in-Some.label c.args.declared.now c.requires.embed asked.1 in
          omega (arith, within, asked.0, l.invariant.followed.4, c.neighbour-to.ensures.cost);
      least = omega (arith, c.loop-label.invariant.least, c.neighbour-to.ensures.least);
    }

pub returns : goal.returns
returns g c =
    record {
      darts = c.loop-label.invariant.darts;
      followed = let l = c.loop-label in
          let dim = c.args.self.now.map.schema.dim in
          followed_up_to c.args.self.now c.requires.prepared c.args.embed c.args.declared.now c.requires.embed c.args.from c.args.marks.now l.marks l.invariant.kept l.asked l.invariant.followed.0 (dim + 1) l.invariant.followed.1
          (omega (arith, c.requires.prepared.lawful.dim)) l.invariant.followed.2 l.invariant.followed.3 (λ i h. c.in_default.ensures i (omega (arith, h, c.requires.prepared.lawful.dim)));
      grown = followed_some c.args.self.now c.requires.prepared c.args.embed c.args.declared.now c.requires.embed c.args.from c.args.marks.now c.loop-label.marks c.loop-label.invariant.followed.0 c.loop-label.invariant.followed.2;
      longer = stays_longer c.args.marks.now c.loop-label.marks c.loop-label.invariant.kept;
      cost = omega (arith, c.loop-label.invariant.followed.1, c.loop-label.invariant.followed.4);
      least = c.loop-label.invariant.least;
    }

pub mark_beside-requires : goal.mark_beside-requires
mark_beside-requires g c =
    let was = c.requires.from in
    record { from = (c.args.from, get_contained c.loop-label.marks was.0 c.args.from (c.loop-label.invariant.kept was.0 c.args.from (contained_at c.args.marks.now c.args.from was)), refl) }

pub loop-label-smaller : goal.loop-label-smaller
loop-label-smaller g c = c.without-asked-in-Some.ensures.fewer c.in-Some.label c.in-Some.ensures.0 refl c.in-Some.ensures.1
