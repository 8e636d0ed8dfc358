-- A name between two spaces: wherever the bytes stand, the name is a token.
use Rattle.std.proofs.Common.{◌≡◌, ℕ, suc, ◌+◌, ◌-◌, ◌<◌, ◌≤◌, Bool, true, false, ◌&&◌, cond, List, [], ◌∷◌, ◌++◌, length, take, drop, get_or, refl, sym, ap, subst, ◌∙◌, arith}
use Rattle.std.proofs.lemmas.List.{length-append, length-take, length-drop, append_assoc, drop_more, drop_all, take_all, take_more, take-append-le, drop-append-le, get_or-drop, drop-drop, take-take}
use Rattle.std.proofs.lemmas.List.Sums.{take_while-cons}
use Rattle.std.specs.List.{take_while, list_all}
use Rattle.gm_model.specs.declared.token.TokenKind.TheVariants as kinds
use Rattle.gm_model.specs.Tokens.{Item, Lexed, Front, Lexeme, size_of, item_before, items_from, is_letter, is_name_byte, front_of, IsLexeme}
use Rattle.gm_text.proofs.Fronts.{front_of-letter}
use Rattle.gm_text.proofs.Items.{items_from-taken}
use Rattle.gm_script.specs.inner.Reading.{IsLead, sight_of_word}
use Rattle.gm_script.specs.declared.sight.Sight.TheVariants as sights

and_both : (a c : Bool) → a && c ≡ true → (a ≡ true) × (c ≡ true)
and_both true true e = (refl, refl)
and_both true false e = absurd cc
and_both false c e = absurd cc

-- the name's bytes are those before the space
run_is : (bytes rest : List ℕ) → list_all is_name_byte bytes ≡ true → take_while is_name_byte (bytes ++ 32 ∷ rest) ≡ bytes
run_is [] rest all = take_while-cons is_name_byte 32 rest
run_is (b ∷ bytes) rest all =
    let parts = and_both (is_name_byte b) (list_all is_name_byte bytes) all in
    take_while-cons is_name_byte b (bytes ++ 32 ∷ rest) ∙ ap (λ (t : Bool). cond t (b ∷ take_while is_name_byte (bytes ++ 32 ∷ rest)) []) parts.0 ∙ ap (λ (l : List ℕ). b ∷ l) (run_is bytes rest parts.1)

-- a letter and bytes of a name, between two spaces
abbrev between : ℕ → List ℕ → List ℕ
between b bytes = 32 ∷ b ∷ (bytes ++ 32 ∷ [])

module _ (b : ℕ) (bytes : List ℕ) (letter : is_letter b ≡ true) (all : list_all is_name_byte bytes ≡ true) where
  abbrev size : ℕ
  size = length bytes

  long : length (between b bytes) ≡ size + 3
  long = omega (arith, length-append bytes (32 ∷ []))

  items_are : (place : ℕ) (rest : List ℕ) → items_from place 0 (between b bytes ++ rest) ≡ Lexed (record { kind = kinds.Name; start = place + 1; end = place + (size + 3) - 1 }) ∷ items_from (place + (size + 3) - 1) 0 (32 ∷ rest)
  items_are place rest =
      let tail = bytes ++ 32 ∷ rest in
      let tail_is : (bytes ++ 32 ∷ []) ++ rest ≡ tail = append_assoc bytes (32 ∷ []) rest in
      let front : front_of b tail ≡ Lexeme kinds.Name (suc size) = front_of-letter b tail letter ∙ ap (λ (l : List ℕ). Lexeme kinds.Name (suc (length l))) (run_is bytes rest all) in
      let room : size ≤ length tail = omega (arith, length-append bytes (32 ∷ rest)) in
      let behind : drop size tail ≡ 32 ∷ rest = drop-append-le size bytes (32 ∷ rest) (omega arith) ∙ ap (λ (l : List ℕ). l ++ 32 ∷ rest) (drop_all size bytes (omega arith)) in
      let less : suc size - 1 ≡ size = omega arith in
      let start : suc place ≡ place + 1 = omega arith in
      let end : suc place + suc size ≡ place + (size + 3) - 1 = omega arith in
      let next : suc (suc place) + size ≡ place + (size + 3) - 1 = omega arith in
      ap (λ (l : List ℕ). items_from (suc place) 0 (b ∷ l)) tail_is
      ∙ ap (λ (f : Front). item_before (suc place) f (items_from (suc (suc place)) (size_of f - 1) tail)) front
      ∙ ap (λ (n : ℕ). Lexed (record { kind = kinds.Name; start = suc place; end = suc place + suc size }) ∷ items_from (suc (suc place)) n tail) less
      ∙ ap (λ (items : List Item). Lexed (record { kind = kinds.Name; start = suc place; end = suc place + suc size }) ∷ items) (items_from-taken (suc (suc place)) size tail room)
      ∙ rw (end, next, start, behind) refl

  front_is : take (size + 1) (b ∷ (bytes ++ 32 ∷ [])) ≡ b ∷ bytes
  front_is = take-append-le (size + 1) (b ∷ bytes) (32 ∷ []) (omega arith) ∙ take_all (size + 1) (b ∷ bytes) (omega arith)

  lead_is : sight_of_word (b ∷ bytes) ≡ sights.Name → IsLead (between b bytes) sights.Name
  lead_is sees =
      let last : drop (size + 3 - 1) (between b bytes) ≡ 32 ∷ [] = last_is bytes in
      record {
        some = omega (arith, long);
        items = λ place rest. rw (long, last) (items_are place rest);
        seen = let two : length (between b bytes) - 2 ≡ size + 1 = omega (arith, long) in rw (two, front_is) (sym sees);
      }
    where
      drop_front : (l : List ℕ) → drop (length l) (l ++ 32 ∷ []) ≡ 32 ∷ []
      drop_front [] = refl
      drop_front (x ∷ l) = drop_front l

      last_is : (l : List ℕ) → drop (length l + 3 - 1) (32 ∷ b ∷ (l ++ 32 ∷ [])) ≡ 32 ∷ []
      last_is l = let n : length l + 3 - 1 ≡ suc (suc (length l)) = omega arith in rw n (drop_front l)

-- a name in a text, with a space before it and one behind
pub name_lead : (text : List ℕ) (start end : ℕ) → end < length text → 0 < start → get_or text (start - 1) 0 ≡ 32 → get_or text end 0 ≡ 32
    → IsLexeme kinds.Name (take (end - start) (drop start text)) → sight_of_word (take (end - start) (drop start text)) ≡ sights.Name
    → IsLead (take (end - start + 2) (drop (start - 1) text)) sights.Name
name_lead text start end inside first before behind lexeme sees =
    by (take (end - start) (drop start text)) refl lexeme sees
  where
    by : (name : List ℕ) → take (end - start) (drop start text) ≡ name → IsLexeme kinds.Name name → sight_of_word name ≡ sights.Name → IsLead (take (end - start + 2) (drop (start - 1) text)) sights.Name
    by [] is lexeme sees = absurd lexeme
    by (b ∷ bytes) is lexeme sees =
        let some : start < end = omega (arith, ap length is, length-take {A = ℕ}) in
        let one : start - 1 + 1 ≡ start = omega (arith, first) in
        let front : drop (start - 1) text ≡ 32 ∷ drop start text = drop_more text (start - 1) 0 (omega (arith, some, inside)) ∙ rw (before, one) refl in
        let count : end - start + 2 ≡ suc (end - start + 1) = omega arith in
        let at : get_or (drop start text) (end - start) 0 ≡ 32 = get_at some ∙ behind in
        let more : take (end - start + 1) (drop start text) ≡ take (end - start) (drop start text) ++ 32 ∷ [] = take_more (drop start text) (end - start) 0 (omega (arith, some, inside, length-drop {A = ℕ})) ∙ rw at refl in
        let whole : take (end - start + 2) (drop (start - 1) text) ≡ between b bytes = rw (front, count, more, is) refl in
        subst (λ (lead : List ℕ). IsLead lead sights.Name) (sym whole) (lead_is b bytes lexeme.0 lexeme.1 sees)
      where
        get_at : start < end → get_or (drop start text) (end - start) 0 ≡ get_or text end 0
        get_at some = let there : start + (end - start) ≡ end = omega (arith, some) in get_or-drop start text (end - start) 0 ∙ ap (λ (i : ℕ). get_or text i 0) there

-- the name of a lead that stands before the place
pub name_of : (text : List ℕ) (start end : ℕ) → 0 < start → take (end - start + 2 - 2) (drop 1 (take (end - start + 2) (drop (start - 1) text))) ≡ take (end - start) (drop start text)
name_of text start end first =
    let less : end - start + 2 - 2 ≡ end - start = omega arith in
    let one : start - 1 + 1 ≡ start = omega (arith, first) in
    rw less (inner (end - start) (drop (start - 1) text)) ∙ ap (take (end - start)) (drop-drop 1 (start - 1) text ∙ ap (λ (n : ℕ). drop n text) one)
  where
    inner : (n : ℕ) (l : List ℕ) → take n (drop 1 (take (n + 2) l)) ≡ take n (drop 1 l)
    inner n [] = let two : n + 2 ≡ suc (suc n) = omega arith in rw two refl
    inner n (x ∷ l) = let two : n + 2 ≡ suc (suc n) = omega arith in rw two (take-take n (suc n) l (omega arith))
