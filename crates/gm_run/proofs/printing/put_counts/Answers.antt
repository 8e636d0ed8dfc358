use Rattle.std.proofs.Common.{◌≡◌, ◌++◌, codes, subst}
use Rattle.std.specs.Prelude.{decimal}
use Rattle.gm_run.proofs.Told.{counts_told}
use Rattle.gm_run.proofs.printing.put_counts.Goals as goal

pub returns : goal.returns
returns c told tells =
    let counts = c.count_told-told.ensures told tells in
    counts_told c.put.result told c.count_told-told.result.done c.count_told-told.result.refused c.args.darts c.args.next c.args.text.now
    c.put_count.new.text c.put_count-2.new.text c.put_number.new.text c.put_number-2.new.text c.put.new.self counts.0 counts.1
    c.in_ok-put_count.ensures c.in_ok-put_count-2.ensures
    (subst (λ n. c.put_number.new.text ≡ c.put_count-2.new.text ++ (codes " darts " ++ decimal n)) c.from.ensures c.in_ok-put_number.ensures.ok)
    (subst (λ n. c.put_number-2.new.text ≡ c.put_number.new.text ++ (codes " next " ++ decimal n)) c.from-2.ensures c.in_ok-put_number-2.ensures.ok) c.put.ensures.ok
