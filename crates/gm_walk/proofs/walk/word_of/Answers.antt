use Rattle.std.proofs.Common.{sym, ◌∙◌, arith, length-set}
use Rattle.gm_walk.proofs.WordLemmas.{one_more, no_more}
use Rattle.gm_walk.proofs.walk.word_of.Goals as goal
use Rattle.gm_walk.proofs.walk.word_of.Goals.{then-has, else-has}

pub loop-label-preserved : goal.loop-label-preserved
loop-label-preserved c =
    let i = c.loop-label.invariant in
    elim c.if-has.branch [
      | then-has w ↦ record {
        whole = rw (w.letters-is, length-set) i.whole;
        used = omega (arith, w.used-is, i.used);
        front = rw (w.letters-is, w.used-is) (one_more c.args.mask _ _ _ _ (omega arith) i.front (omega arith) (sym c.has.ensures ∙ w.if-has.true));
      }
      | else-has w ↦ record {
        whole = rw w.letters-is i.whole;
        used = omega (arith, w.used-is, i.used);
        front = rw (w.letters-is, w.used-is) (no_more c.args.mask _ _ _ _ (omega arith) i.front (sym c.has.ensures ∙ w.if-has.false));
      }
    ]
