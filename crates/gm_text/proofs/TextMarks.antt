-- The marks of a text end where no token stands, and behind each of them but the last a lexer can stand.
use Rattle.std.proofs.Common.{◌≡◌, ℕ, zero, suc, ◌+◌, ◌-◌, ◌≤◌, List, [], ◌∷◌, ◌++◌, map, drop, refl, sym, ap, ap₂, ◌∙◌, arith}
use Rattle.std.proofs.lemmas.List.{drop-drop}
use Rattle.gm_model.specs.Symbols.{Mark, mark_of, marks_of}
use Rattle.gm_model.specs.Tokens.{Item, Lexed, Front, Gap, Lexeme, Stray, front_of, size_of, item_before, items_from}
use Rattle.gm_text.specs.inner.Cursor.{Cursor}
use Rattle.gm_text.specs.inner.Lexing.{rest_of}
use Rattle.gm_text.specs.inner.SchemaAnswers.{marks_left, AtStray, AtEnd}
use Rattle.gm_text.proofs.AtLeast.{EndAsTexts}
use Rattle.gm_text.proofs.Fronts.{size_of-front_of}
use Rattle.gm_text.proofs.Items.{items_from-taken}

-- ---- the last

more_end : (mark : Mark) (marks : List Mark) → EndAsTexts marks → EndAsTexts (mark ∷ marks)
more_end mark [] end = absurd end
more_end mark (next ∷ marks) end = end

items_end : (text : List ℕ) (place taken : ℕ) (bytes : List ℕ) → EndAsTexts (map (mark_of text) (items_from place taken bytes))
items_end text place taken [] = AtEnd
items_end text place (suc taken) (b ∷ bytes) = items_end text (suc place) taken bytes
items_end text place zero (b ∷ bytes) = go (λ k. items_end text (suc place) k bytes) (front_of b bytes)
  where
    go : ((k : ℕ) → EndAsTexts (map (mark_of text) (items_from (suc place) k bytes))) → (front : Front) → EndAsTexts (map (mark_of text) (item_before place front (items_from (suc place) (size_of front - 1) bytes)))
    go behind (Gap size) = behind (size - 1)
    go behind (Lexeme kind size) = more_end (mark_of text (Lexed (record { kind = kind; start = place; end = place + size }))) (map (mark_of text) (items_from (suc place) (size - 1) bytes)) (behind (size - 1))
    go behind Stray = AtStray

pub left_end : (cursor : Cursor) → EndAsTexts (marks_left cursor)
left_end cursor = items_end cursor.text cursor.place zero (drop cursor.place cursor.text)

pub text_end : (text : List ℕ) → EndAsTexts (marks_of text)
text_end text = left_end (record { text = text; place = 0 })

-- ---- behind the others

-- the items begin at some place of these bytes, which stand at the first one
record IsFrom (place : ℕ) (bytes : List ℕ) (items : List Item) : Type 0 where
  at : ℕ
  behind : place ≤ at
  is : items ≡ items_from at 0 (drop (at - place) bytes)

further : (place b : ℕ) (bytes : List ℕ) (items : List Item) → IsFrom (suc place) bytes items → IsFrom place (b ∷ bytes) items
further place b bytes items from =
    let step : suc (from.at - suc place) ≡ from.at - place = omega (arith, from.behind) in
    record { at = from.at; behind = omega (arith, from.behind); is = from.is ∙ ap (λ (k : ℕ). items_from from.at 0 (drop k (b ∷ bytes))) step }

behind_first : (place taken : ℕ) (bytes : List ℕ) (first next : Item) (rest : List Item) → items_from place taken bytes ≡ first ∷ next ∷ rest → IsFrom place bytes (next ∷ rest)
behind_first place taken [] first next rest e = absurd cc
behind_first place (suc taken) (b ∷ bytes) first next rest e = further place b bytes (next ∷ rest) (behind_first (suc place) taken bytes first next rest e)
behind_first place zero (b ∷ bytes) first next rest e = go (λ k. behind_first (suc place) k bytes first next rest) (front_of b bytes) refl e
  where
    go : ((k : ℕ) → items_from (suc place) k bytes ≡ first ∷ next ∷ rest → IsFrom (suc place) bytes (next ∷ rest)) → (front : Front) → front_of b bytes ≡ front
        → item_before place front (items_from (suc place) (size_of front - 1) bytes) ≡ first ∷ next ∷ rest → IsFrom place (b ∷ bytes) (next ∷ rest)
    go behind (Gap size) f is = further place b bytes (next ∷ rest) (behind (size - 1) is)
    go behind (Lexeme kind size) f is =
        let sized = size_of-front_of b bytes in
        let one : size_of (front_of b bytes) ≡ size = ap size_of f in
        let tail : items_from (suc place) (size - 1) bytes ≡ next ∷ rest = cc is in
        let to : suc place + (size - 1) ≡ place + size = omega (arith, sized.some, one) in
        let gone : suc (size - 1) ≡ place + size - place = omega (arith, sized.some, one) in
        record {
          at = place + size;
          behind = omega arith;
          is = sym tail ∙ items_from-taken (suc place) (size - 1) bytes (omega (arith, sized.some, sized.within, one)) ∙ ap₂ (λ (p k : ℕ). items_from p 0 (drop k (b ∷ bytes))) to gone;
        }
    go behind Stray f is = absurd cc

next_place : (cursor : Cursor) (first next : Item) (rest : List Item) → rest_of cursor ≡ first ∷ next ∷ rest → (new : Cursor) × (new.text ≡ cursor.text) × (rest_of new ≡ next ∷ rest)
next_place cursor first next rest e =
    let from = behind_first cursor.place zero (drop cursor.place cursor.text) first next rest e in
    let at : cursor.place + (from.at - cursor.place) ≡ from.at = omega (arith, from.behind) in (
      record { text = cursor.text; place = from.at },
      refl,
      sym (from.is ∙ ap (λ (bytes : List ℕ). items_from from.at 0 bytes) (drop-drop (from.at - cursor.place) cursor.place cursor.text ∙ ap (λ (p : ℕ). drop p cursor.text) at)),
    )

next_marks : (cursor : Cursor) (first next : Mark) (rest : List Mark) → marks_left cursor ≡ first ∷ next ∷ rest → (new : Cursor) × (marks_left new ≡ next ∷ rest)
next_marks cursor first next rest e = go (rest_of cursor) refl e
  where
    go : (items : List Item) → rest_of cursor ≡ items → map (mark_of cursor.text) items ≡ first ∷ next ∷ rest → (new : Cursor) × (marks_left new ≡ next ∷ rest)
    go [] is f = absurd cc
    go (item ∷ []) is f = absurd cc
    go (item ∷ other ∷ items) is f =
        let (new, text, behind) = next_place cursor item other items is in
        let tail : map (mark_of cursor.text) (other ∷ items) ≡ next ∷ rest = cc f in
        (new, ap₂ (λ (t : List ℕ) (left : List Item). map (mark_of t) left) text behind ∙ tail)

-- a lexer can stand at each mark that is left
pub place_of_mark : (cursor : Cursor) (before : List Mark) (mark : Mark) (after : List Mark) → marks_left cursor ≡ before ++ mark ∷ after → (new : Cursor) × (marks_left new ≡ mark ∷ after)
place_of_mark cursor [] mark after e = (cursor, e)
place_of_mark cursor (first ∷ []) mark after e = next_marks cursor first mark after e
place_of_mark cursor (first ∷ second ∷ before) mark after e =
    let (new, is) = next_marks cursor first second (before ++ mark ∷ after) e in
    place_of_mark new (second ∷ before) mark after is
