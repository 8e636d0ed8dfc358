use Rattle.std.proofs.Common.{ℕ, List, refl, sym, subst, map}
use Rattle.gm_book.specs.Canonical.{canonical}
use Rattle.gm_model.specs.Rules.{rule_of}
use Rattle.gm_book.proofs.Printable.{printable_from_text}
use Rattle.gm_tool.specs.Answer.{IsOutput, Book, Printed}
use Rattle.gm_tool.proofs.Judging.{book_judged, output_judged}
use Rattle.gm_tool.proofs.book.show.Goals as goal

pub print_book-requires : goal.print_book-requires
print_book-requires c = printable_from_text c.args.bytes.now c.in-Ok.book.version c.in-Ok.book.schema (map rule_of c.in-Ok.book.rules) c.in-Ok.ensures.book

pub returns-in_ok-text-in-Ok : goal.returns-in_ok-text-in-Ok
returns-in_ok-text-in-Ok c =
    let rules = map rule_of c.in-Ok.book.rules in
    let output : IsOutput c.args.bytes.now Book 0 (canonical c.in-Ok.book.version c.in-Ok.book.schema rules) = Printed c.in-Ok.book.version c.in-Ok.book.schema rules c.in-Ok.ensures.book in
    output_judged c.args.bytes.now Book 0 c.in_ok-text-in-Ok.text.items c.reply_within_limit.result
    (subst (λ (t : List ℕ). IsOutput c.args.bytes.now Book 0 t) (sym c.in_ok-text-in-Ok.ensures) output) c.reply_within_limit.ensures

pub returns-in-Err : goal.returns-in-Err
returns-in-Err c = book_judged c.args.bytes.now Book c.in-Err.fault c.refused.result refl c.in-Err.ensures.fault c.refused.ensures
