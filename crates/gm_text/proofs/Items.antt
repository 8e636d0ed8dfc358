-- The items of a text, from what stands at a place to what stands behind it.
use Rattle.std.proofs.Common.{◌≡◌, ℕ, zero, suc, ◌+◌, ◌-◌, ◌<◌, ◌≤◌, List, [], ◌∷◌, length, drop, get_or, sym, ap, ◌∙◌, arith}
use Rattle.std.proofs.lemmas.List.{drop_more, drop-drop, drop_all}
use Rattle.gm_model.specs.declared.token.Token.{Token}
use Rattle.gm_model.specs.Tokens.{Item, Lexed, StrayAt, EndAt, Front, Gap, Stray, size_of, item_before, items_from, items_at}
use Rattle.gm_text.specs.inner.Lexing.{front_at, IsTokenAt}
use Rattle.gm_text.proofs.Fronts.{size_of-front_of}

-- bytes that belong to what stood before are passed over
pub items_from-taken : (place taken : ℕ) (bytes : List ℕ) → taken ≤ length bytes → items_from place taken bytes ≡ items_from (place + taken) 0 (drop taken bytes)
items_from-taken place zero bytes h =
    let e : place ≡ place + 0 = omega arith in ap (λ (p : ℕ). items_from p 0 bytes) e
items_from-taken place (suc taken) [] h = absurd (omega arith)
items_from-taken place (suc taken) (b ∷ bytes) h =
    let e : suc place + taken ≡ place + suc taken = omega arith in
    items_from-taken (suc place) taken bytes (omega arith) ∙ ap (λ (p : ℕ). items_from p 0 (drop taken bytes)) e

-- at a place inside the text
pub items_at-inside : (text : List ℕ) (place : ℕ) → place < length text → items_at text place ≡ item_before place (front_at text place) (items_at text (place + size_of (front_at text place)))
items_at-inside text place inside =
    let size = size_of (front_at text place) in
    let sized = size_of-front_of (get_or text place 0) (drop (place + 1) text) in
    let behind = drop (place + 1) text in
    let room : size - 1 ≤ length behind = omega (arith, sized.some, sized.within) in
    let to : suc place + (size - 1) ≡ place + size = omega (arith, sized.some) in
    let at : place + 1 + (size - 1) ≡ place + size = omega (arith, sized.some) in
    let rest : items_from (suc place) (size - 1) behind ≡ items_at text (place + size) = items_from-taken (suc place) (size - 1) behind room ∙ ap (λ (p : ℕ). items_from p 0 (drop (size - 1) behind)) to ∙ ap (λ (bytes : List ℕ). items_from (place + size) 0 bytes) (drop-drop (size - 1) (place + 1) text ∙ ap (λ (p : ℕ). drop p text) at) in
    ap (λ (bytes : List ℕ). items_from place 0 bytes) (drop_more text place 0 inside) ∙ ap (λ (items : List Item). item_before place (front_at text place) items) rest

pub items_at-end : (text : List ℕ) (place : ℕ) → place ≡ length text → items_at text place ≡ EndAt (length text) ∷ []
items_at-end text place e =
    ap (λ (bytes : List ℕ). items_from place 0 bytes) (drop_all place text (omega arith)) ∙ ap (λ (p : ℕ). EndAt p ∷ []) e

pub items_at-gap : (text : List ℕ) (place size : ℕ) → place < length text → front_at text place ≡ Gap size → items_at text place ≡ items_at text (place + size)
items_at-gap text place size inside e =
    items_at-inside text place inside ∙ ap (λ (front : Front). item_before place front (items_at text (place + size_of front))) e

pub items_at-stray : (text : List ℕ) (place : ℕ) → place < length text → front_at text place ≡ Stray → items_at text place ≡ StrayAt place ∷ []
items_at-stray text place inside e =
    items_at-inside text place inside ∙ ap (λ (front : Front). item_before place front (items_at text (place + size_of front))) e

pub items_at-token : (text : List ℕ) (place : ℕ) (token : Token) → place < length text → IsTokenAt text place token → items_at text place ≡ Lexed token ∷ items_at text token.end
items_at-token text place token inside there =
    let end : place + (token.end - place) ≡ token.end = omega (arith, there.not_empty) in
    items_at-inside text place inside
    ∙ ap (λ (front : Front). item_before place front (items_at text (place + size_of front))) there.front
    ∙ ap (λ (p : ℕ). Lexed (record { kind = token.kind; start = place; end = p }) ∷ items_at text p) end
    ∙ ap (λ (p : ℕ). Lexed (record { kind = token.kind; start = p; end = token.end }) ∷ items_at text token.end) (sym there.start)
