use Rattle.gm_dual.specs.Duals.{IsDualBook}
use Rattle.gm_dual.proofs.BookLemmas.{accepted_alike, applied_alike, all_in_range, all_typed, book_twice, ok_too, refused_alike, schema_is_dual}
use Rattle.gm_dual.proofs.book.dual_book.Goals as goal

pub returns-clause-schema : goal.returns-clause-schema
returns-clause-schema c = ok_too (IsDualBook c.args.book.now) _ c.make_dual.result (λ dual is. schema_is_dual c.args.book.now dual c.top-top.ensures.greatest c.requires.schema is) c.make_dual.ensures

pub returns-clause-in_range : goal.returns-clause-in_range
returns-clause-in_range c = ok_too (IsDualBook c.args.book.now) _ c.make_dual.result (λ dual is. all_in_range c.args.book.now dual c.top-top.ensures.greatest c.requires.schema is c.requires.in_range) c.make_dual.ensures

pub returns-clause-typed : goal.returns-clause-typed
returns-clause-typed c = ok_too (IsDualBook c.args.book.now) _ c.make_dual.result (λ dual is. all_typed c.args.book.now dual c.top-top.ensures.greatest c.requires.schema is c.requires.typed) c.make_dual.ensures

pub returns-clause-accepted : goal.returns-clause-accepted
returns-clause-accepted c = ok_too (IsDualBook c.args.book.now) _ c.make_dual.result (λ dual is. accepted_alike c.args.book.now dual c.top-top.ensures.greatest c.requires.schema is c.requires.in_range c.requires.typed) c.make_dual.ensures

pub returns-clause-applied : goal.returns-clause-applied
returns-clause-applied c = ok_too (IsDualBook c.args.book.now) _ c.make_dual.result (λ dual is. applied_alike c.args.book.now dual c.top-top.ensures.greatest c.requires.schema is) c.make_dual.ensures

pub returns-clause-refused : goal.returns-clause-refused
returns-clause-refused c = ok_too (IsDualBook c.args.book.now) _ c.make_dual.result (λ dual is. refused_alike c.args.book.now dual c.top-top.ensures.greatest c.requires.schema is) c.make_dual.ensures

pub returns-clause-twice : goal.returns-clause-twice
returns-clause-twice c = ok_too (IsDualBook c.args.book.now) _ c.make_dual.result (λ dual is. book_twice c.args.book.now dual c.top-top.ensures.greatest c.requires.schema is c.requires.in_range c.requires.typed) c.make_dual.ensures
