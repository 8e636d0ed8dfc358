-- The words of a text are tokens.
use Rattle.std.proofs.Common.{◌≡◌, ℕ, zero, suc, ◌+◌, ◌-◌, List, [], ◌∷◌, take, drop, map, refl, sym, ap, ◌∙◌, arith, add-one}
use Rattle.std.proofs.lemmas.List.{drop-drop}
use Rattle.std.specs.List.{AllByRecursion}
use Rattle.gm_model.specs.declared.token.TokenKind.{TokenKind}
use Rattle.gm_model.specs.declared.token.TokenKind.TheVariants as kinds
use Rattle.gm_model.specs.Tokens.{Item, Front, Gap, Lexeme, Stray, front_of, size_of, item_before, items_from, IsLexeme}
use Rattle.gm_model.specs.Symbols.{Symbol, Word, symbol_of_kind, mark_of, marks_at, symbols}
use Rattle.gm_text.proofs.Longest.{IsLongest-front_of}

abbrev pub IsSound : Symbol → Type 0
IsSound (Word name) = IsLexeme kinds.Name name
IsSound _ = Unit {0}

sound_of_kind : (kind : TokenKind) (bytes : List ℕ) → IsLexeme kind bytes → IsSound (symbol_of_kind kind bytes)
sound_of_kind kinds.Name bytes lexeme = lexeme
sound_of_kind kinds.Number bytes lexeme = tt
sound_of_kind kinds.Gone bytes lexeme = tt
sound_of_kind kinds.Sign bytes lexeme = tt

sound_before : (whole : List ℕ) (b : ℕ) (bytes : List ℕ) (place : ℕ) (front : Front) (items : List Item) → drop place whole ≡ b ∷ bytes → front_of b bytes ≡ front
    → AllByRecursion IsSound (symbols (map (mark_of whole) items)) → AllByRecursion IsSound (symbols (map (mark_of whole) (item_before place front items)))
sound_before whole b bytes place (Gap size) items there is later = later
sound_before whole b bytes place (Lexeme kind size) items there is later =
    let e : place + size - place ≡ size = omega arith in
    let lexeme : IsLexeme kind (take (place + size - place) (drop place whole)) = rw (e, there) (IsLongest-front_of b bytes kind size is).lexeme in
    (sound_of_kind kind (take (place + size - place) (drop place whole)) lexeme, later)
sound_before whole b bytes place Stray items there is later = (tt, tt)

sound_from : (whole bytes : List ℕ) (place taken : ℕ) → drop place whole ≡ bytes → AllByRecursion IsSound (symbols (map (mark_of whole) (items_from place taken bytes)))
sound_from whole [] place taken there = (tt, tt)
sound_from whole (b ∷ bytes) place (suc taken) there =
    let next : drop (suc place) whole ≡ bytes = ap (λ (p : ℕ). drop p whole) (sym (add-one place)) ∙ sym (drop-drop 1 place whole) ∙ ap (drop 1) there in
    sound_from whole bytes (suc place) taken next
sound_from whole (b ∷ bytes) place zero there =
    let next : drop (suc place) whole ≡ bytes = ap (λ (p : ℕ). drop p whole) (sym (add-one place)) ∙ sym (drop-drop 1 place whole) ∙ ap (drop 1) there in
    sound_before whole b bytes place (front_of b bytes) _ there refl (sound_from whole bytes (suc place) (size_of (front_of b bytes) - 1) next)

pub words_are_lexemes : (text : List ℕ) (place : ℕ) → AllByRecursion IsSound (symbols (marks_at text place))
words_are_lexemes text place = sound_from text (drop place text) place 0 refl
