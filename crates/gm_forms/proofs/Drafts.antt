-- An assignment joins the item that was listed last.
use Rattle.std.proofs.Common.{◌≡◌, ℕ, List, [], ◌∷◌, ◌++◌, map, refl, sym, ap, subst, ◌∙◌}
use Rattle.std.proofs.lemmas.List.{map-append}
use Rattle.std.specs.List.{AllByRecursion}
use Rattle.gm_forms.specs.BookText.{Item, SetForm}
use Rattle.gm_forms.specs.declared.form.Item.{Item as CodeItem}
use Rattle.gm_forms.specs.inner.Forms.{item_of}
use Rattle.gm_forms.specs.inner.Reading.{assigned, with_set}

kept : {X : Type 0} (P : X → Type 0) (front : List X) (x y : X) → (P x → P y) → AllByRecursion P (front ++ x ∷ []) → AllByRecursion P (front ++ y ∷ [])
kept P [] x y to all = (to all.0, tt)
kept P (z ∷ front) x y to all = (all.0, kept P front x y to all.1)

-- what holds of all holds of all with another one at the end
pub last_kept : {X : Type 0} (P : X → Type 0) (items front given : List X) (x y : X) → items ≡ front ++ x ∷ [] → given ≡ front ++ y ∷ [] → (P x → P y) → AllByRecursion P items → AllByRecursion P given
last_kept P items front given x y split put to all = subst (AllByRecursion P) (sym put) (kept P front x y to (subst (AllByRecursion P) split all))

assigned_end : (set : SetForm) (front : List Item) (last : Item) → assigned set (front ++ last ∷ []) ≡ front ++ with_set set last ∷ []
assigned_end set [] last = refl
assigned_end set (item ∷ []) last = refl
assigned_end set (item ∷ next ∷ front) last = ap (λ (items : List Item). item ∷ items) (assigned_end set (next ∷ front) last)

pub assigned_in : (text : List ℕ) (set : SetForm) (items front given : List CodeItem) (x y : CodeItem) → items ≡ front ++ x ∷ [] → given ≡ front ++ y ∷ [] → item_of text y ≡ with_set set (item_of text x)
    → map (item_of text) given ≡ assigned set (map (item_of text) items)
assigned_in text set items front given x y split put is =
    ap (map (item_of text)) put ∙ map-append (item_of text) front (y ∷ []) ∙ ap (λ (item : Item). map (item_of text) front ++ item ∷ []) is
    ∙ sym (ap (assigned set) (ap (map (item_of text)) split ∙ map-append (item_of text) front (x ∷ [])) ∙ assigned_end set (map (item_of text) front) (item_of text x))
