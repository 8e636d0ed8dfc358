-- How the canonical text of a schema grows as it is printed.
use Rattle.std.proofs.Common.{◌≡◌, ℕ, zero, suc, ◌+◌, ◌<◌, ◌≤◌, ◌-◌, Bool, true, false, cond, List, [], ◌∷◌, ◌++◌, length, take, drop, get_or, refl, sym, ap, subst, ◌∙◌, append_assoc, arith, add-one, codes}
use Rattle.std.proofs.lemmas.Grind.{flat_map-append}
use borrow.Author.Count.{below_more}
use Rattle.std.proofs.lemmas.List.{append-nil, drop_more, take-append-drop, get_or_default, take_all, take_more}
use Rattle.std.proofs.lemmas.List.Elements.{recursion_from_All}
use Rattle.std.specs.Prelude.{decimal}
use Rattle.std.specs.List.{flat_map}
use Rattle.gm_model.specs.declared.schema.Embed.{Embed}
use Rattle.gm_model.specs.declared.word.Mask.{Mask}
use Rattle.gm_model.specs.Labels.{has}
use Rattle.gm_text.specs.SchemaText.{labels_below, labels_in, labels_text, embed_line}
use Rattle.gm_text.specs.inner.SchemaPrinting.{AreParts, IsCut, IsPart, gap_behind}
use Rattle.gm_text.proofs.Cuts.{cut_before, cut_behind, written_behind}

-- ---- labels

labels_snoc : (labels : List ℕ) (label : ℕ) → labels_text (labels ++ label ∷ []) ≡ labels_text labels ++ (gap_behind labels ++ decimal label)
labels_snoc [] label = append-nil (decimal label)
labels_snoc (first ∷ labels) label =
    ap (λ (bytes : List ℕ). decimal first ++ bytes) (flat_map-append (λ other. 32 ∷ decimal other) labels (label ∷ []) ∙ ap (λ (bytes : List ℕ). flat_map (λ other. 32 ∷ decimal other) labels ++ bytes) (append-nil (32 ∷ decimal label)))
    ∙ sym (append_assoc (decimal first) (flat_map (λ other. 32 ∷ decimal other) labels) (32 ∷ decimal label))

pub below_has : (mask : Mask) (k : ℕ) → has mask k ≡ true → labels_below mask (k + 1) ≡ labels_below mask k ++ k ∷ []
below_has mask k e = ap (labels_below mask) (add-one k) ∙ ap (λ (b : Bool). labels_below mask k ++ cond b (k ∷ []) []) e

pub more_text : (mask : Mask) (k : ℕ) → has mask k ≡ true → labels_text (labels_below mask (k + 1)) ≡ labels_text (labels_below mask k) ++ (gap_behind (labels_below mask k) ++ decimal k)
more_text mask k e = ap labels_text (below_has mask k e) ∙ labels_snoc (labels_below mask k) k

-- the label is printed too
pub labels_more : (mask : Mask) (k : ℕ) (old out new gap : List ℕ) → has mask k ≡ true → out ≡ old ++ labels_text (labels_below mask k) → gap ≡ gap_behind (labels_below mask k) → new ≡ out ++ (gap ++ decimal k) → new ≡ old ++ labels_text (labels_below mask (k + 1))
labels_more mask k old out new gap e so_far is_gap more =
    let front = labels_text (labels_below mask k) in
    written_behind old front (gap ++ decimal k) so_far more ∙ ap (λ (g : List ℕ). old ++ (front ++ (g ++ decimal k))) is_gap ∙ ap (λ (bytes : List ℕ). old ++ bytes) (sym (more_text mask k e))

gap_snoc : (labels : List ℕ) (label : ℕ) → codes " " ≡ gap_behind (labels ++ label ∷ [])
gap_snoc [] label = refl
gap_snoc (first ∷ labels) label = refl

pub gap_more : (mask : Mask) (k : ℕ) → has mask k ≡ true → codes " " ≡ gap_behind (labels_below mask (k + 1))
gap_more mask k e = gap_snoc (labels_below mask k) k ∙ ap gap_behind (sym (below_has mask k e))

pub none_more : (mask : Mask) (k : ℕ) → has mask k ≡ false → labels_below mask (k + 1) ≡ labels_below mask k
none_more mask k e = ap (labels_below mask) (add-one k) ∙ ap (λ (b : Bool). labels_below mask k ++ cond b (k ∷ []) []) e ∙ append-nil (labels_below mask k)

-- one more label, or none
text_grows : (mask : Mask) (k : ℕ) → (more : List ℕ) × (labels_text (labels_below mask (suc k)) ≡ labels_text (labels_below mask k) ++ more)
text_grows mask k = go (has mask k) refl
  where
    at : (b : Bool) → has mask k ≡ b → labels_below mask (suc k) ≡ labels_below mask k ++ cond b (k ∷ []) []
    at b e = ap (λ (c : Bool). labels_below mask k ++ cond c (k ∷ []) []) e

    go : (b : Bool) → has mask k ≡ b → (more : List ℕ) × (labels_text (labels_below mask (suc k)) ≡ labels_text (labels_below mask k) ++ more)
    go true e = (gap_behind (labels_below mask k) ++ decimal k, ap labels_text (at true e) ∙ labels_snoc (labels_below mask k) k)
    go false e = ([], ap labels_text (at false e ∙ append-nil (labels_below mask k)) ∙ sym (append-nil (labels_text (labels_below mask k))))

grows_by : (mask : Mask) (k m : ℕ) → (more : List ℕ) × (labels_text (labels_below mask (m + k)) ≡ labels_text (labels_below mask k) ++ more)
grows_by mask k zero = ([], ap (λ (n : ℕ). labels_text (labels_below mask n)) (let e : zero + k ≡ k = omega arith in e) ∙ sym (append-nil (labels_text (labels_below mask k))))
grows_by mask k (suc m) =
    let (less, is) = grows_by mask k m in
    let (one, grown) = text_grows mask (m + k) in
    let e : suc m + k ≡ suc (m + k) = omega arith in
    (less ++ one, ap (λ (n : ℕ). labels_text (labels_below mask n)) e ∙ grown ∙ ap (λ (bytes : List ℕ). bytes ++ one) is ∙ append_assoc (labels_text (labels_below mask k)) less one)

grows : (mask : Mask) (k m : ℕ) → k ≤ m → (more : List ℕ) × (labels_text (labels_below mask m) ≡ labels_text (labels_below mask k) ++ more)
grows mask k m h =
    let (more, is) = grows_by mask k (m - k) in
    let e : m ≡ (m - k) + k = omega (arith, h) in
    (more, ap (λ (n : ℕ). labels_text (labels_below mask n)) e ∙ is)

-- a part of one label's text, behind the labels below it
pub cut_labels : (mask : Mask) (k : ℕ) (old out new gap : List ℕ) → k < 8 → has mask k ≡ true → out ≡ old ++ labels_text (labels_below mask k) → gap ≡ gap_behind (labels_below mask k) → IsCut out (gap ++ decimal k) new → IsCut old (labels_text (labels_in mask)) new
unfolding labels_in
cut_labels mask k old out new gap low e so_far is_gap cut =
    let (more, is) = grows mask (k + 1) 8 (omega (arith, low)) in
    let done = cut.front in
    let left = cut.rest in
    let front = labels_text (labels_below mask k) in
    let one : labels_text (labels_below mask (k + 1)) ≡ front ++ (done ++ left) = more_text mask k e ∙ ap (λ (g : List ℕ). front ++ (g ++ decimal k)) (sym is_gap) ∙ ap (λ (bytes : List ℕ). front ++ bytes) cut.text_is in
    let all : labels_text (labels_in mask) ≡ (front ++ done) ++ (left ++ more) = is ∙ ap (λ (bytes : List ℕ). bytes ++ more) (one ∙ sym (append_assoc front done left)) ∙ append_assoc (front ++ done) left more in
    record { front = front ++ done; rest = left ++ more; text_is = all; after_is = cut.after_is ∙ ap (λ (bytes : List ℕ). bytes ++ done) so_far ∙ append_assoc old front done }

pub labels_all : (mask : Mask) → labels_below mask 8 ≡ labels_in mask
unfolding labels_in
labels_all mask = refl

-- ---- pieces

-- three pieces in one, and more behind them
pub all_behind : (lead bytes end rest : List ℕ) → (lead ++ (bytes ++ end)) ++ rest ≡ lead ++ (bytes ++ (end ++ rest))
all_behind lead bytes end rest = append_assoc lead (bytes ++ end) rest ∙ ap (λ (text : List ℕ). lead ++ text) (append_assoc bytes end rest)

-- ---- embeddings

-- those before the index are parts
abbrev pub ArePartsBelow : List Embed → ℕ → Type 0
ArePartsBelow embeds at = (k : ℕ) (embed : Embed) → k < at → IsPart (get_or embeds k embed)

-- one more of them is printed
pub embeds_more : (embeds : List Embed) (at : ℕ) (embed : Embed) (old out new : List ℕ) → at < length embeds → get_or embeds at embed ≡ embed → out ≡ old ++ flat_map embed_line (take at embeds) → new ≡ out ++ embed_line embed → new ≡ old ++ flat_map embed_line (take (at + 1) embeds)
embeds_more embeds at embed old out new inside is so_far more =
    let one : flat_map embed_line (take (at + 1) embeds) ≡ flat_map embed_line (take at embeds) ++ embed_line embed =
    ap (flat_map embed_line) (take_more embeds at embed inside) ∙ flat_map-append embed_line (take at embeds) (get_or embeds at embed ∷ []) ∙ ap (λ (e : Embed). flat_map embed_line (take at embeds) ++ (embed_line e ++ [])) is ∙ ap (λ (bytes : List ℕ). flat_map embed_line (take at embeds) ++ bytes) (append-nil (embed_line embed)) in
    written_behind old (flat_map embed_line (take at embeds)) (embed_line embed) so_far more ∙ ap (λ (bytes : List ℕ). old ++ bytes) (sym one)

pub parts_more : (embeds : List Embed) (at : ℕ) (embed : Embed) → at < length embeds → get_or embeds at embed ≡ embed → ArePartsBelow embeds at → IsPart embed → ArePartsBelow embeds (at + 1)
parts_more embeds at embed inside is before part k other =
    below_more (λ j. IsPart (get_or embeds j other)) at (λ j. before j other) (subst IsPart (sym is ∙ get_or_default embeds at embed other inside) part) k

pub embeds_all : (embeds : List Embed) (at : ℕ) (old out : List ℕ) → length embeds ≤ at → out ≡ old ++ flat_map embed_line (take at embeds) → out ≡ old ++ flat_map embed_line embeds
embeds_all embeds at old out end so_far = so_far ∙ ap (λ (es : List Embed). old ++ flat_map embed_line es) (take_all at embeds end)

pub parts_all : (embeds : List Embed) (at : ℕ) → length embeds ≤ at → ArePartsBelow embeds at → AreParts embeds
parts_all embeds at end before = recursion_from_All IsPart embeds (λ k embed within. before k embed (omega (arith, within, end)))

pub cut_embeds : (embeds : List Embed) (k : ℕ) (embed : Embed) (old out new : List ℕ) → k < length embeds → get_or embeds k embed ≡ embed → out ≡ old ++ flat_map embed_line (take k embeds) → IsCut out (embed_line embed) new → IsCut old (flat_map embed_line embeds) new
cut_embeds embeds k embed old out new inside is so_far cut =
    let here : drop k embeds ≡ embed ∷ drop (k + 1) embeds = drop_more embeds k embed inside ∙ ap (λ (e : Embed). e ∷ drop (k + 1) embeds) is in
    let split : embeds ≡ take k embeds ++ (embed ∷ drop (k + 1) embeds) = sym (take-append-drop k embeds) ∙ ap (λ (es : List Embed). take k embeds ++ es) here in
    let text : flat_map embed_line embeds ≡ flat_map embed_line (take k embeds) ++ (embed_line embed ++ flat_map embed_line (drop (k + 1) embeds)) = ap (flat_map embed_line) split ∙ flat_map-append embed_line (take k embeds) (embed ∷ drop (k + 1) embeds) in
    subst (λ (t : List ℕ). IsCut old t new) (sym text)
    (cut_behind old (flat_map embed_line (take k embeds)) so_far (cut_before (flat_map embed_line (drop (k + 1) embeds)) cut))
