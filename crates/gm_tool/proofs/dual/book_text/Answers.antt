use Rattle.gm_tool.proofs.Duals.{printable_dual, printed_dual_book}
use Rattle.gm_tool.proofs.ReadBooks.{rules_in_range, rules_typed}
use Rattle.gm_tool.proofs.dual.book_text.Goals as goal

pub dual_book-requires-clause-in_range : goal.dual_book-requires-clause-in_range
dual_book-requires-clause-in_range c = rules_in_range c.requires.read.0 c.args.book.now c.requires.read.1 c.requires.declared

pub dual_book-requires-clause-typed : goal.dual_book-requires-clause-typed
dual_book-requires-clause-typed c = rules_typed c.requires.read.0 c.args.book.now c.requires.read.1 c.requires.declared

pub print_book-requires : goal.print_book-requires
print_book-requires c = printable_dual c.requires.read.0 c.args.book.now c.in_ok-dual.dual c.requires.read.1 c.in_ok-dual.ensures.dual

pub returns : goal.returns
returns c = printed_dual_book c.args.book.now c.in_ok-dual.dual c.in_ok-dual.ensures.dual c.print_book.result c.print_book.ensures
