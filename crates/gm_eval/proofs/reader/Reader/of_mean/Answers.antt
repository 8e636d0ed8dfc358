use Rattle.std.proofs.Common.{subst}
use Rattle.gm_model.specs.Trees.{Count, Sum}
use Rattle.gm_eval.specs.inner.Readers.{IsValueThere}
use Rattle.gm_eval.proofs.Parts.{binary_known, binary_there, is_there, binary_ready}
use Rattle.gm_eval.proofs.reader.Reader.of_mean.Goals as goal

pub binary-requires : goal.binary-requires
binary-requires g c =
    let reader = c.args.self.now in
    let kept = c.mean_parts-sum.ensures in
    let sum = is_there reader (Sum c.args.mask c.args.term.now c.args.embed) c.in-Some.sum _ kept.sum c.in-Some.is in
    let count = is_there reader (Count c.args.mask c.args.term.now) c.in-Some-count.count _ kept.count c.in-Some-count.is in
    record { kind = binary_known reader c.args.op (Sum c.args.mask c.args.term.now c.args.embed) (Count c.args.mask c.args.term.now) c.in-Some.sum c.in-Some-count.count c.requires.ready sum count }

pub returns : goal.returns
returns g c =
    let reader = c.args.self.now in
    let kept = c.mean_parts-sum.ensures in
    let sum = is_there reader (Sum c.args.mask c.args.term.now c.args.embed) c.in-Some.sum _ kept.sum c.in-Some.is in
    let count = is_there reader (Count c.args.mask c.args.term.now) c.in-Some-count.count _ kept.count c.in-Some-count.is in
    record {
      value = binary_there reader c.args.op (Sum c.args.mask c.args.term.now c.args.embed) (Count c.args.mask c.args.term.now) c.in-Some.sum c.in-Some-count.count c.binary.result sum count c.binary.ensures;
      read = record {
        cost = kept.cost;
        least = kept.least;
        room = kept.room;
        kept = kept.kept;
        stays = kept.stays;
        adds = kept.adds;
        left = λ some. kept.left;
      };
      once = kept.once;
    }

pub returns-in_default : goal.returns-in_default
returns-in_default g c =
    let reader = c.args.self.now in
    let kept = c.mean_parts-sum.ensures in
    record {
      value = λ v (x, y, h, k, made). subst (IsValueThere reader (Sum c.args.mask c.args.term.now c.args.embed)) c.in_default.is kept.sum x h;
      read = record {
        cost = kept.cost;
        least = kept.least;
        room = kept.room;
        kept = kept.kept;
        stays = kept.stays;
        adds = kept.adds;
        left = λ some. kept.left;
      };
      once = kept.once;
    }

pub returns-in_default-count : goal.returns-in_default-count
returns-in_default-count g c =
    let reader = c.args.self.now in
    let kept = c.mean_parts-sum.ensures in
    record {
      value = λ v (x, y, h, k, made). subst (IsValueThere reader (Count c.args.mask c.args.term.now)) c.in_default-count.is kept.count y k;
      read = record {
        cost = kept.cost;
        least = kept.least;
        room = kept.room;
        kept = kept.kept;
        stays = kept.stays;
        adds = kept.adds;
        left = λ some. kept.left;
      };
      once = kept.once;
    }

pub mean_parts-sum-requires-clause-ready : goal.mean_parts-sum-requires-clause-ready
mean_parts-sum-requires-clause-ready g c = (binary_ready c.args.self.now c.args.op (Sum c.args.mask c.args.term.now c.args.embed) (Count c.args.mask c.args.term.now) c.requires.ready).0

pub mean_parts-sum-requires-clause-fits : goal.mean_parts-sum-requires-clause-fits
mean_parts-sum-requires-clause-fits g c = c.requires.fits

pub mean_parts-sum-requires-clause-kept : goal.mean_parts-sum-requires-clause-kept
mean_parts-sum-requires-clause-kept g c = c.requires.kept
