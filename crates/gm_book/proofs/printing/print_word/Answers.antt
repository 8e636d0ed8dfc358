use Rattle.std.proofs.Common.{◌≡◌, ◌<◌, ◌++◌, ◌∷◌, [], cond, eqb, codes, length, ap, arith}
use Rattle.std.proofs.lemmas.Bool.{ne_eqb, eq-eqb}
use Rattle.gm_book.proofs.Lines.{letters_more}
use Rattle.gm_model.proofs.Exits.{never_ok}
use Rattle.gm_book.proofs.printing.print_word.Goals as goal
use Rattle.gm_book.proofs.printing.print_word.Goals.{then-place-eq0, else-place-eq0}

pub loop-place-preserved : goal.loop-place-preserved
loop-place-preserved c =
    let place = c.loop-place.place in
    let within : place < length c.args.word.now = omega (arith, c.loop-place-test.true, c.len-place-end.ensures.value) in
    let gap : c.if-place-eq0.put.now ≡ cond (eqb place 0) [] (32 ∷ []) = elim c.if-place-eq0.branch [
      | then-place-eq0 w ↦ rw (eq-eqb place 0 w.if-place-eq0.true) (ap (λ bytes. bytes.now) w.put-is)
      | else-place-eq0 w ↦ rw (ne_eqb place 0 w.if-place-eq0.false) (ap (λ bytes. bytes.now) w.put-is)
    ] in
    letters_more c.args.word.now place c.letter.result (c.args.text.now ++ (c.args.name.now ++ codes " <")) c.loop-place.text c.if-place-eq0.put.now c.put-in-loop-place.new.self c.print_letter.new.text
    within c.letter.ensures c.loop-place.invariant gap c.in_ok-put-3.ensures.ok c.in_ok-print_letter.ensures

pub returns-in_err-put : goal.returns-in_err-put
returns-in_err-put c = never_ok _ c.from_residual.result c.from_residual.ensures.0

pub returns-in_err-put-2 : goal.returns-in_err-put-2
returns-in_err-put-2 c = never_ok _ c.from_residual-in_err-put-2.result c.from_residual-in_err-put-2.ensures.0

pub returns-in_err-put-3 : goal.returns-in_err-put-3
returns-in_err-put-3 c = never_ok _ c.from_residual-in_err-put-3.result c.from_residual-in_err-put-3.ensures.0

pub returns-in_err-print_letter : goal.returns-in_err-print_letter
returns-in_err-print_letter c = never_ok _ c.from_residual-in_err-print_letter.result c.from_residual-in_err-print_letter.ensures.0
