-- A map has one text of its numbers and its orientation.
use Rattle.std.proofs.Common.{◌≡◌, ℕ, ◌+◌, ◌≤◌, List, ◌++◌, length, sym, ◌∙◌, arith}
use Rattle.std.proofs.Math.Path.{ap₂}
use Rattle.std.proofs.lemmas.List.{same_lists, get_or_default}
use Rattle.gm_cells.specs.declared.counts.Counts.{Counts}
use Rattle.gm_cells.specs.declared.orientation.Orientation.{Orientation}
use Rattle.gm_cells.specs.Cells.{AreByLabel, AreCounts, HasCellsOf, HasFree, labels_but, labels_to}
use Rattle.gm_cells.specs.CellsText.{counts_text, orientation_text}
use Rattle.gm_cells.proofs.OneAnswer.{one_orientation}
use Rattle.gm_model.specs.Maps.{Map, IsDart, IsGeneralised, dimension}
use Rattle.gm_model.specs.Orbits.{IsLead}
use Rattle.gm_theory.proofs.ValuesUnique.{one_count}
use Rattle.gm_tool.specs.Answer.{TellsCells}

pub one_by_label : (n : ℕ) (Is : ℕ → ℕ → Type 0) → ((i a b : ℕ) → Is i a → Is i b → a ≡ b) → (xs ys : List ℕ) → AreByLabel n Is xs → AreByLabel n Is ys → xs ≡ ys
one_by_label n Is one xs ys a b = same_lists xs ys (a.one_each ∙ sym b.one_each) (λ i x within.
    let long : length xs ≡ n + 1 = a.one_each in
    let wide : length ys ≡ n + 1 = b.one_each in
    let low : i ≤ n = omega (arith, long, within) in
    get_or_default xs i x 0 within ∙ one i _ _ (a.each i low) (b.each i low) ∙ get_or_default ys i 0 x (omega (arith, wide, low)))

module _ (map : Map) where
  one_numbering : (counts other : Counts) → AreCounts map counts → AreCounts map other → counts ≡ other
  one_numbering counts other a b =
      let darts : counts.darts ≡ other.darts = one_count (IsDart map) counts.darts other.darts a.darts b.darts in
      let cells : counts.cells ≡ other.cells =
      one_by_label (dimension map) (HasCellsOf map) (λ i n k. one_count (IsLead (IsDart map) map.alpha (labels_but (dimension map) i)) n k) counts.cells other.cells a.cells b.cells in
      let components : counts.components ≡ other.components = one_count (IsLead (IsDart map) map.alpha (labels_to (dimension map))) counts.components other.components a.components b.components in
      let free : counts.free ≡ other.free =
      one_by_label (dimension map) (HasFree map) (λ i n k. one_count (λ d. IsDart map d × (map.alpha i d ≡ d)) n k) counts.free other.free a.free b.free in
      λ k. record { darts = darts k; cells = cells k; components = components k; free = free k }

  pub one_telling : IsGeneralised map → (text other : List ℕ) → TellsCells map text → TellsCells map other → text ≡ other
  one_telling lawful text other a b =
      let counts : a.counts ≡ b.counts = one_numbering a.counts b.counts a.counts_are b.counts_are in
      let orientation : a.orientation ≡ b.orientation = one_orientation map a.orientation b.orientation lawful a.orientation_is b.orientation_is in
      a.is ∙ ap₂ (λ (c : Counts) (o : Orientation). counts_text c ++ orientation_text o) counts orientation ∙ sym b.is
