use Rattle.std.proofs.Common.{◌≡◌, ◌++◌, ap, codes, subst, ◌∙◌, arith}
use Rattle.std.specs.Prelude.{OnOk, decimal}
use Rattle.std.proofs.lemmas.List.{append-nil}
use Rattle.gm_run.proofs.DoneLine.{joined, short_number}
use Rattle.gm_run.proofs.done_line.put_done_line.Goals as goal

pub write_digits-start-requires : goal.write_digits-start-requires
write_digits-start-requires c =
    let short = short_number c.args.number c.ranges.number.fits in
    let done = c.write_done-done.ensures in
    let named = c.write_word-named.ensures in
    let blank = c.write_word-blank.ensures in
    (omega (arith, short, c.requires, done.few, named.before, blank.before), omega (arith, done.before, done.long, named.before, named.long, blank.before, blank.long))

pub returns : goal.returns
returns c =
    let done = codes "done added " ++ decimal c.args.applied.added ++ codes " removed " ++ decimal c.args.applied.removed in
    let number = decimal c.args.number in
    let name = c.args.name.now in
    subst (λ line. OnOk c.put_from.result (c.put_from.new.self ≡ c.args.text.now ++ line))
    (c.write_digits-start.ensures.written ∙ ap (λ xs. number ++ xs) (c.write_word-blank.ensures.written ∙ ap (λ xs. codes " " ++ xs) (c.write_word-named.ensures.written ∙ ap (λ xs. name ++ xs) (c.write_done-done.ensures.written ∙ ap (λ xs. codes " " ++ xs) (append-nil (done ++ codes "\n")))))
    ∙ joined number (codes " ") name (codes " ") done (codes "\n"))
    c.put_from.ensures.ok
