use Rattle.std.proofs.Common.{None, sym, ◌∙◌, arith}
use Rattle.std.proofs.lemmas.Bool.{false≢true}
use Rattle.gm_model.proofs.Exits.{never_ok, on_err, unless_ok}
use Rattle.gm_walk.specs.inner.Keys.{key_of}
use Rattle.gm_pending.proofs.on_deciding.TwoLabelOrbits.{gone_on, gone_out, no_shorter}
use Rattle.gm_pending.proofs.on_marks.OneMoreMark.{key_kept}
use Rattle.gm_pending.proofs.on_deciding.OrbitsWalked.{marked_darts}
use Rattle.gm_pending.proofs.pending.Pending.go_on.Goals as goal

pub neighbour-to-requires : goal.neighbour-to-requires
neighbour-to-requires g c =
    record {
      dart = c.requires.dart;
      label = c.requires.label;
      kept = c.requires.kept;
    }

pub mark_on-requires : goal.mark_on-requires
mark_on-requires g c =
    record {
      start = c.requires.begun;
      from = c.requires.here;
      ends = c.requires.ends c.neighbour-to.result c.neighbour-to.ensures.dart c.neighbour-to.ensures.arc;
    }

-- ---- without memory

pub returns-in_err-is_new : goal.returns-in_err-is_new
returns-in_err-is_new g c =
    record {
      on = unless_ok _ c.from_residual.result c.from_residual.ensures.0;
      darts = rw c.in_err-is_new.ensures.err c.requires.darts;
      begun = rw c.in_err-is_new.ensures.err c.requires.begun;
      err = on_err c.from_residual.result c.in_err-is_new.ensures.err;
      longer = rw c.in_err-is_new.ensures.err (omega arith);
      few = never_ok _ c.from_residual.result c.from_residual.ensures.0;
      cost = c.neighbour-to.ensures.cost;
      least = c.neighbour-to.ensures.least;
    }

-- ---- where the neighbour wasn't marked

pub returns-then-is_new : goal.returns-then-is_new
returns-then-is_new g c =
    record {
      on = gone_on c.args.self.now c.requires.prepared c.args.index c.args.label c.args.start c.args.at c.neighbour-to.result c.args.marks.now c.mark_on.new.self c.requires.darts c.requires.dart c.neighbour-to.ensures.dart c.neighbour-to.ensures.arc c.in_ok-is_new.ensures.ok
          c.requires.from (c.in_ok-is_new.ensures.new.0 c.if-is_new.true);
      darts = marked_darts c.args.self.now c.requires.prepared c.args.marks.now c.mark_on.new.self c.neighbour-to.result c.args.index None c.in_ok-is_new.ensures.ok c.neighbour-to.ensures.dart c.requires.darts;
      begun = key_kept c.args.marks.now c.mark_on.new.self c.neighbour-to.result c.args.index None (key_of c.args.start) c.in_ok-is_new.ensures.ok c.requires.begun;
      err = tt;
      longer = no_shorter c.args.marks.now c.mark_on.new.self c.neighbour-to.result c.args.index None c.in_ok-is_new.ensures.ok;
      few = omega (arith, c.len.ensures.len);
      cost = c.neighbour-to.ensures.cost;
      least = c.neighbour-to.ensures.least;
    }

-- ---- and where it was

pub returns-else-is_new : goal.returns-else-is_new
returns-else-is_new g c =
    record {
      on = gone_out c.args.self.now c.requires.prepared c.args.index c.args.label c.args.start c.args.at c.neighbour-to.result c.args.marks.now c.mark_on.new.self c.requires.darts c.requires.dart c.neighbour-to.ensures.dart c.neighbour-to.ensures.arc c.in_ok-is_new.ensures.ok
          c.in_ok-is_new.ensures.distinct (λ absent. false≢true (sym c.if-is_new.false ∙ c.in_ok-is_new.ensures.new.1 absent));
      darts = marked_darts c.args.self.now c.requires.prepared c.args.marks.now c.mark_on.new.self c.neighbour-to.result c.args.index None c.in_ok-is_new.ensures.ok c.neighbour-to.ensures.dart c.requires.darts;
      begun = key_kept c.args.marks.now c.mark_on.new.self c.neighbour-to.result c.args.index None (key_of c.args.start) c.in_ok-is_new.ensures.ok c.requires.begun;
      err = tt;
      longer = no_shorter c.args.marks.now c.mark_on.new.self c.neighbour-to.result c.args.index None c.in_ok-is_new.ensures.ok;
      few = omega (arith, c.len.ensures.len);
      cost = c.neighbour-to.ensures.cost;
      least = c.neighbour-to.ensures.least;
    }
