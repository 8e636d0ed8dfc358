-- The labels of a map but one, and numbers by label, one label after another.
use Rattle.std.proofs.Common.{◌≡◌, ℕ, ◌+◌, ◌*◌, ◌<◌, ◌≤◌, Bool, true, false, ◌&&◌, List, [], ◌∷◌, ◌++◌, IsTrue, length, get_or, refl, sym, ap, subst, ◌∙◌, inl, inr, arith}
use Rattle.std.proofs.lemmas.Bool.{cases_lt, leb-true, false≢true}
use Rattle.std.proofs.lemmas.Nat.{mul-le}
use Rattle.std.proofs.lemmas.List.{get_or_append_left, get_or_push}
use Rattle.gm_model.specs.Labels.{has}
use Rattle.gm_model.specs.Maps.{Map, IsDart, dimension}
use Rattle.gm_model.specs.Orbits.{HasOrbits}
use Rattle.gm_model.specs.declared.word.Mask.{Mask}
use Rattle.gm_walk.proofs.OrbitLemmas.{orbits_alike}
use Rattle.gm_cells.specs.Cells.{AreByLabel, HasCellsOf, labels_but}

-- ---- sets of labels

both : (a b : Bool) → IsTrue (a && b) → IsTrue a × IsTrue b
both true b h = (refl, h)
both false b h = absurd (false≢true h)

pub but_within : (n i j : ℕ) → IsTrue (labels_but n i j) → j ≤ n
but_within n i j h = leb-true j n (both _ _ h).0

-- ---- the orbits over a mask of all labels of a map but one

module _ (map : Map) (mask : Mask) (top label : ℕ) (whole : top ≡ dimension map) (same : (i : ℕ) → has mask i ≡ labels_but top label i) where
  leaves : (i : ℕ) → has mask i ≡ labels_but (dimension map) label i
  leaves i = same i ∙ ap (λ n. labels_but n label i) whole

  within : (i : ℕ) → IsTrue (has mask i) → i ≤ dimension map
  within i h = but_within (dimension map) label i (sym (leaves i) ∙ h)

  pub mask_within : (i : ℕ) → i ≤ 7 → IsTrue (has mask i) → i ≤ dimension map
  mask_within i few h = within i h

  pub cells_counted : (count : ℕ) → HasOrbits (IsDart map) map.alpha (has mask) count → HasCellsOf map label count
  cells_counted = orbits_alike (IsDart map) map.alpha (has mask) (labels_but (dimension map) label) (λ i h. sym (leaves i) ∙ h) (λ i h. leaves i ∙ h)

-- ---- numbers by label

-- one number more
pub by_label_more : (Is : ℕ → ℕ → Type 0) (items new : List ℕ) (label x : ℕ) → length items ≡ label → new ≡ items ++ x ∷ [] → ((i : ℕ) → i < label → Is i (get_or items i 0)) → Is label x → (i : ℕ) → i < label + 1 → Is i (get_or new i 0)
by_label_more Is items new label x long e old here i less = elim (cases_lt i label) [
  | inl l ↦ subst (Is i) (sym (ap (λ xs. get_or xs i 0) e ∙ get_or_append_left items (x ∷ []) 0 i (omega arith))) (old i l)
  | inr l ↦ (let same : label ≡ i = omega arith in subst (λ k. Is k (get_or new k 0)) same (subst (Is label) (sym (ap (λ xs. get_or xs label 0) e ∙ get_or_push items x 0 label long)) here))
]

-- all of them
pub by_label_all : (Is : ℕ → ℕ → Type 0) (n label : ℕ) (items : List ℕ) → label ≡ n + 1 → length items ≡ label → ((i : ℕ) → i < label → Is i (get_or items i 0)) → AreByLabel n Is items
by_label_all Is n label items all long each = record {
  one_each = long ∙ all;
  each = λ i within. each i (omega (arith, all, within));
}

-- what one turn more takes, where another is still to come
pub one_turn_more : (turns most each start before now : ℕ) → turns ≤ most → before ≤ start + turns * each → now ≤ before + each → now ≤ start + (most + 1) * each
one_turn_more turns most each start before now few so_far here = omega (arith, so_far, here, mul-le (turns + 1) each (most + 1) each (omega (arith, few)) (omega arith))
