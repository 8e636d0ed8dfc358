-- Worked texts: the definitions give the tokens that the format's own examples name.
use Rattle.std.proofs.Common.{◌≡◌, ℕ, [], ◌∷◌, refl}
use Rattle.std.specs.Prelude.{codes}
use Rattle.gm_model.specs.declared.token.TokenKind.{TokenKind}
use Rattle.gm_model.specs.declared.token.TokenKind.TheVariants.{Name, Number, Gone, Sign}
use Rattle.gm_model.specs.Tokens.{Item, Lexed, StrayAt, EndAt, items_of}
use Rattle.gm_model.specs.Symbols.{Symbol, Word, Numeral, End, symbols_of}
use Rattle.gm_model.specs.Symbols as symbol

abbrev token : TokenKind → ℕ → ℕ → Item
token kind start end = Lexed (record { kind = kind; start = start; end = end })

digits_then_letters : items_of (codes "12ab") ≡ token Number 0 2 ∷ token Name 2 4 ∷ EndAt 4 ∷ []
digits_then_letters = refl

underscores : items_of (codes "_a __") ≡ token Gone 0 1 ∷ token Name 1 2 ∷ token Gone 3 4 ∷ token Gone 4 5 ∷ EndAt 5 ∷ []
underscores = refl

angles : items_of (codes "<>=") ≡ token Sign 0 1 ∷ token Sign 1 3 ∷ EndAt 3 ∷ []
angles = refl

bang_alone : items_of (codes "a !") ≡ token Name 0 1 ∷ StrayAt 2 ∷ []
bang_alone = refl

comment_and_line : items_of (codes "a # b\nc") ≡ token Name 0 1 ∷ token Name 6 7 ∷ EndAt 7 ∷ []
comment_and_line = refl

meanings : symbols_of (codes "dim 007 -1 _") ≡ Word (codes "dim") ∷ Numeral 7 ∷ symbol.Sign (codes "-") ∷ Numeral 1 ∷ symbol.Gone ∷ End ∷ []
meanings = refl
