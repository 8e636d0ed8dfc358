use Rattle.std.proofs.Common.{◌∙◌, arith}
use Rattle.gm_cells.proofs.TextLemmas.{listed_before}
use Rattle.gm_cells.proofs.printing.write_numbers.Goals as goal

pub loop-left-preserved : goal.loop-left-preserved
loop-left-preserved c =
    let i = c.loop-left.invariant in
    let put = c.write_number_behind_blank-at in
    record {
      few = omega (arith, i.few);
      room = omega (arith, i.room, put.ensures.few, c.loop-left-test.true);
      within = omega (arith, i.within, put.ensures.before, put.ensures.long);
      long = put.ensures.long ∙ i.long;
      written = listed_before c.args.numbers.now c.loop-left.left _ _ c.loop-left-test.true i.few put.ensures.written i.written;
    }
