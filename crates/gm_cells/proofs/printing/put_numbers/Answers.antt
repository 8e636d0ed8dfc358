use Rattle.std.proofs.Common.{◌++◌, drop, ap, subst, ◌∙◌, arith}
use Rattle.gm_cells.proofs.TextLemmas.{listed_part, written_all}
use Rattle.gm_text.proofs.Cuts.{IsSoFar, so_far_more}
use Rattle.gm_cells.specs.CellsText.{listed}
use Rattle.gm_cells.proofs.printing.put_numbers.Goals as goal

pub returns-clause-ok : goal.returns-clause-ok
returns-clause-ok c = written_all c.args.text.now c.args.numbers.now c.loop-from.from c.loop-from.text c.loop-from-test.false c.loop-from.invariant.so_far

pub loop-from-preserved : goal.loop-from-preserved
loop-from-preserved c =
    let l = c.loop-from in
    let before = c.args.text.now in
    let text = listed c.args.numbers.now in
    let to = c.min-to.result in
    let rest = listed (drop to c.args.numbers.now) in
    let here = listed_part c.args.numbers.now l.from to (omega (arith, c.min-to.ensures, c.loop-from-test.true)) in
    record {
      within = omega (arith, c.min-to.ensures);
      long = c.write_numbers-start.ensures.long ∙ l.invariant.long;
      so_far = so_far_more before text l.text _ rest c.put_from.new.self (subst (IsSoFar before text l.text) here l.invariant.so_far)
          (c.in_ok-put_from.ensures.ok ∙ ap (λ xs. l.text ++ xs) c.write_numbers-start.ensures.written);
    }
