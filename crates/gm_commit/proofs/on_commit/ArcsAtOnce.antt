-- Neighbours that are set at once are the arcs that are told position by position.
use Rattle.std.proofs.Common.{◌≡◌, ℕ, zero, suc, ◌<◌, List, [], ◌∷◌, ◌++◌, get_or, length, refl, sym, ap, ap₂, ◌∙◌, subst, arith, All}
use Rattle.std.specs.List.{zip}
use Rattle.std.proofs.lemmas.List.{append_assoc, append-nil}
use Rattle.std.proofs.lemmas.List.Elements.{All-from_get_or}
use Rattle.gm_arena.specs.declared.slot.Slot.{Slot}
use Rattle.gm_arena.specs.inner.ArenaMap.{ArenaMap, IsLiveSlot, name_at}
use Rattle.gm_arena.specs.inner.Edits.{with_alpha, with_alphas}
use Rattle.gm_commit.specs.inner.Arcs.{Arc}
use Rattle.gm_commit.specs.inner.Arcs.{End}
use Rattle.gm_commit.specs.inner.InstanceEdits.{concat_below}
use Rattle.gm_commit.specs.inner.WrittenMap.{IsLiveEnd, slot_of, end_at, with_arcs}

concat_first : {A : Type 0} (f : ℕ → List A) (n : ℕ) → concat_below f (suc n) ≡ f 0 ++ concat_below (λ p. f (suc p)) n
concat_first f zero = sym (append-nil (f 0))
concat_first f (suc n) = ap (λ xs. xs ++ f (suc n)) (concat_first f n) ∙ append_assoc (f 0) (concat_below (λ p. f (suc p)) n) (f (suc n))

-- these are the slots of so many ends
abbrev pub AreSlotsOf : List Slot → List Slot → ℕ → (ℕ → End) → Type 0
AreSlotsOf made slots count end = (p : ℕ) → p < count → get_or slots p (record { at = 0 }) ≡ slot_of made (end p)

pub slots_live : (m : ArenaMap) (made slots : List Slot) (count : ℕ) (end : ℕ → End) → length slots ≡ count → AreSlotsOf made slots count end → ((p : ℕ) → p < count → IsLiveEnd m made (end p)) → All (λ (s : Slot). IsLiveSlot m s.at) slots
slots_live m made slots count end long are live =
    All-from_get_or (λ (s : Slot). IsLiveSlot m s.at) slots (record { at = 0 }) (λ p h.
    let within : p < count = omega (arith, h, long) in
    subst (λ (s : Slot). IsLiveSlot m s.at) (sym (are p within)) (live p within).1)

pub alphas_arcs : (made : List Slot) (label : ℕ) (arc : ℕ → Arc) (from to : List Slot) (m : ArenaMap) (count : ℕ) → length from ≡ count → length to ≡ count → ((p : ℕ) → (arc p).label ≡ label)
    → AreSlotsOf made from count (λ p. (arc p).from) → AreSlotsOf made to count (λ p. (arc p).to)
    → with_alphas m label (zip from to) ≡ with_arcs (end_at m made) m (concat_below (λ p. arc p ∷ []) count)
alphas_arcs made label arc [] to m zero long also labels starts ends = refl
alphas_arcs made label arc [] to m (suc count) long also labels starts ends = absurd (omega (arith, long))
alphas_arcs made label arc (x ∷ from) [] m zero long also labels starts ends = absurd (omega (arith, long))
alphas_arcs made label arc (x ∷ from) [] m (suc count) long also labels starts ends = absurd (omega (arith, also))
alphas_arcs made label arc (x ∷ from) (y ∷ to) m zero long also labels starts ends = absurd (omega (arith, long))
alphas_arcs made label arc (x ∷ from) (y ∷ to) m (suc count) long also labels starts ends =
    let next = with_alpha m (name_at m x.at) label (name_at m y.at) in
    let rest = concat_below (λ p. arc (suc p) ∷ []) count in
    let first : next ≡ with_alpha m (end_at m made (arc 0).from) (arc 0).label (end_at m made (arc 0).to) =
    ap₂ (λ (a b : Slot). with_alpha m (name_at m a.at) label (name_at m b.at)) (starts 0 (omega arith)) (ends 0 (omega arith))
    ∙ ap (λ i. with_alpha m (end_at m made (arc 0).from) i (end_at m made (arc 0).to)) (sym (labels 0)) in
    alphas_arcs made label (λ p. arc (suc p)) from to next count (omega (arith, long)) (omega (arith, also)) (λ p. labels (suc p)) (λ p h. starts (suc p) (omega (arith, h))) (λ p h. ends (suc p) (omega (arith, h)))
    ∙ (ap (λ n. with_arcs (end_at m made) n rest) first
    ∙ ap (with_arcs (end_at m made) m) (sym (concat_first (λ p. arc p ∷ []) count)))
