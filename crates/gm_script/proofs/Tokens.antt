-- The tokens of a text lie in it.
use Rattle.std.proofs.Common.{◌≡◌, ℕ, zero, suc, ◌+◌, ◌-◌, ◌<◌, ◌≤◌, List, [], ◌∷◌, length, drop, subst, arith}
use Rattle.gm_model.specs.declared.token.Token.{Token}
use Rattle.gm_model.specs.Tokens.{Item, Lexed, StrayAt, EndAt, Front, Gap, Lexeme, Stray, front_of, size_of, item_before, items_from, items_at, items_of}
use Rattle.gm_text.proofs.Fronts.{size_of-front_of}
use Rattle.gm_script.specs.inner.Reading.{IsInText}

-- each token of the items lies in the text
abbrev pub AreInText : List ℕ → List Item → Type 0
AreInText text [] = Unit {0}
AreInText text (Lexed token ∷ items) = IsInText text token × AreInText text items
AreInText text (item ∷ items) = AreInText text items

item_in_text : (text : List ℕ) (place : ℕ) (front : Front) (items : List Item) → place + size_of front ≤ length text → AreInText text items → AreInText text (item_before place front items)
item_in_text text place (Gap size) items within inside = inside
item_in_text text place (Lexeme kind size) items within inside = (record { order = omega arith; within = within }, inside)
item_in_text text place Stray items within inside = tt

items_in_text : (text : List ℕ) (place taken : ℕ) (bytes : List ℕ) → place + length bytes ≤ length text → AreInText text (items_from place taken bytes)
items_in_text text place taken [] within = tt
items_in_text text place (suc taken) (b ∷ bytes) within = items_in_text text (suc place) taken bytes (omega arith)
items_in_text text place zero (b ∷ bytes) within =
    let sized = size_of-front_of b bytes in
    item_in_text text place (front_of b bytes) (items_from (suc place) (size_of (front_of b bytes) - 1) bytes) (omega (arith, sized.within))
    (items_in_text text (suc place) (size_of (front_of b bytes) - 1) bytes (omega arith))

pub all_in_text : (text : List ℕ) → AreInText text (items_of text)
all_in_text text = items_in_text text 0 zero (drop 0 text) (omega arith)

-- the first of the items, if it is a token, stands at or behind the place, and has bytes
abbrev StandBehind : ℕ → List Item → Type 0
StandBehind place (Lexed token ∷ items) = (place ≤ token.start) × (token.start < token.end)
StandBehind place _ = Unit {0}

stand_further : (place : ℕ) (items : List Item) → StandBehind (suc place) items → StandBehind place items
stand_further place [] behind = tt
stand_further place (Lexed token ∷ items) behind = (omega (arith, behind.0), behind.1)
stand_further place (StrayAt stray ∷ items) behind = tt
stand_further place (EndAt end ∷ items) behind = tt

item_stands : (place : ℕ) (front : Front) (items : List Item) → 1 ≤ size_of front → StandBehind (suc place) items → StandBehind place (item_before place front items)
item_stands place (Gap size) items some behind = stand_further place items behind
item_stands place (Lexeme kind size) items some behind = (omega arith, omega (arith, some))
item_stands place Stray items some behind = tt

items_stand : (place taken : ℕ) (bytes : List ℕ) → StandBehind place (items_from place taken bytes)
items_stand place taken [] = tt
items_stand place (suc taken) (b ∷ bytes) = stand_further place (items_from (suc place) taken bytes) (items_stand (suc place) taken bytes)
items_stand place zero (b ∷ bytes) =
    let behind = items_from (suc place) (size_of (front_of b bytes) - 1) bytes in
    item_stands place (front_of b bytes) behind (size_of-front_of b bytes).some (items_stand (suc place) (size_of (front_of b bytes) - 1) bytes)

pub token_stands : (text : List ℕ) (place : ℕ) (token : Token) (items : List Item) → items_at text place ≡ Lexed token ∷ items → (place ≤ token.start) × (token.start < token.end)
token_stands text place token items e = subst (StandBehind place) e (items_stand place zero (drop place text))
