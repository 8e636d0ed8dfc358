-- Edits that are written one after another, as they are told, and what they leave so far.
use Rattle.std.proofs.Common.{◌≡◌, ℕ, zero, suc, ◌+◌, ◌<◌, List, [], ◌∷◌, ◌++◌, length, unwrap_or, refl, sym, ap, ap₂, ◌∙◌, subst, inl, inr, arith, length-append}
use Rattle.std.specs.FinMap.{get}
use Rattle.std.proofs.lemmas.Bool.{cases_eq}
use Rattle.gm_arena.specs.declared.slot.Slot.{Slot}
use Rattle.gm_arena.specs.inner.ArenaMap.{ArenaMap, name_at}
use Rattle.gm_arena.specs.inner.Edits.{with_alpha}
use Rattle.gm_commit.specs.inner.Arcs.{Arc}
use Rattle.gm_commit.specs.inner.Arcs.{End}
use Rattle.gm_commit.specs.inner.InstanceEdits.{concat_below}
use Rattle.gm_commit.specs.inner.WrittenMap.{IsWritable, CanRemove, slot_of, end_at, with_arcs, without_slot, without_darts}
use Rattle.gm_commit.proofs.on_rewrite.JoinedLists.{concat_next}
use Rattle.gm_commit.proofs.on_commit.AfterArcs.{arcs_frame}

-- ---- arcs

with_append : (name : End → ℕ) (xs ys : List Arc) (m : ArenaMap) → with_arcs name m (xs ++ ys) ≡ with_arcs name (with_arcs name m xs) ys
with_append name [] ys m = refl
with_append name (arc ∷ xs) ys m = with_append name xs ys (with_alpha m (name arc.from) arc.label (name arc.to))

module _ (start : ArenaMap) (made : List Slot) (begun : ℕ) where
  -- these arcs are written, with a step for each
  pub record AreWritten (arcs : List Arc) (now : ArenaMap) (steps : ℕ) : Type 0 where
    pub map : now ≡ with_arcs (end_at start made) start arcs
    pub cost : steps ≡ begun + length arcs

  pub none_written : AreWritten [] start begun
  none_written = record { map = refl; cost = omega arith }

  module _ (arcs : List Arc) (now : ArenaMap) (steps : ℕ) (written : AreWritten arcs now steps) where
    same_slots : now.slots ≡ start.slots
    same_slots = ap (λ (m : ArenaMap). m.slots) (written.map ∙ arcs_frame (end_at start made) arcs start)

    same_ends : end_at now made ≡ end_at start made
    same_ends = ap (λ slots (end : End). unwrap_or (get slots (slot_of made end).at) 0) same_slots

    pub still_writable : (arc : Arc) → IsWritable start made arc → IsWritable now made arc
    still_writable arc was = record {
      from = (was.from.0, rw same_slots was.from.1);
      label = rw (ap (λ (m : ArenaMap). m.schema.dim) (written.map ∙ arcs_frame (end_at start made) arcs start)) was.label;
      to = (was.to.0, rw same_slots was.to.1);
    }

    then_written : (more : List Arc) (after : ArenaMap) (steps' : ℕ) → after ≡ with_arcs (end_at now made) now more → steps' ≡ steps + length more → AreWritten (arcs ++ more) after steps'
    then_written more after steps' map cost = record {
      map = map ∙ ap (λ name. with_arcs name now more) same_ends ∙ ap (λ m. with_arcs (end_at start made) m more) written.map ∙ sym (with_append (end_at start made) arcs more start);
      cost = omega (arith, cost, written.cost, length-append arcs more);
    }

  pub more_written : (f : ℕ → List Arc) (k : ℕ) (now after : ArenaMap) (steps steps' : ℕ) → AreWritten (concat_below f k) now steps → after ≡ with_arcs (end_at now made) now (f k) → steps' ≡ steps + length (f k) → AreWritten (concat_below f (k + 1)) after steps'
  more_written f k now after steps steps' written map cost = subst (λ arcs. AreWritten arcs after steps') (concat_next f k) (then_written (concat_below f k) now steps written (f k) after steps' map cost)

  -- one more arc of those that are told position by position
  pub one_written : (arc : ℕ → Arc) (k : ℕ) (now after : ArenaMap) (steps steps' : ℕ) (from to : Slot) → AreWritten (concat_below (λ p. arc p ∷ []) k) now steps → from ≡ slot_of made (arc k).from → to ≡ slot_of made (arc k).to → after ≡ with_alpha now (name_at now from.at) (arc k).label (name_at now to.at) → steps' ≡ steps + 1 →
      AreWritten (concat_below (λ p. arc p ∷ []) (k + 1)) after steps'
  one_written arc k now after steps steps' from to written e f map cost = more_written (λ p. arc p ∷ []) k now after steps steps' written (map ∙ ap₂ (λ (a b : Slot). with_alpha now (name_at now a.at) (arc k).label (name_at now b.at)) e f) cost

-- ---- darts

without_append : (xs ys : List Slot) (m : ArenaMap) → without_darts m (xs ++ ys) ≡ without_darts (without_darts m xs) ys
without_append [] ys m = refl
without_append (slot ∷ xs) ys m = without_append xs ys (without_slot m slot)

can_front : (xs ys : List Slot) (m : ArenaMap) → CanRemove m (xs ++ ys) → CanRemove m xs
can_front [] ys m can = tt
can_front (slot ∷ xs) ys m can = (can.0, can.1, can_front xs ys (without_slot m slot) can.2)

can_back : (xs ys : List Slot) (m : ArenaMap) → CanRemove m (xs ++ ys) → CanRemove (without_darts m xs) ys
can_back [] ys m can = can
can_back (slot ∷ xs) ys m can = can_back xs ys (without_slot m slot) can.2

module _ (start : ArenaMap) (begun : ℕ) where
  -- the darts at these slots are removed, with a step for each
  pub record AreGone (slots : List Slot) (now : ArenaMap) (steps : ℕ) : Type 0 where
    pub map : now ≡ without_darts start slots
    pub cost : steps ≡ begun + length slots

  pub none_gone : AreGone [] start begun
  none_gone = record { map = refl; cost = omega arith }

  pub more_gone : (f : ℕ → List Slot) (k : ℕ) (now after : ArenaMap) (steps steps' : ℕ) → AreGone (concat_below f k) now steps → after ≡ without_darts now (f k) → steps' ≡ steps + length (f k) → AreGone (concat_below f (k + 1)) after steps'
  more_gone f k now after steps steps' gone map cost = subst (λ slots. AreGone slots after steps') (concat_next f k) (record {
    map = map ∙ ap (λ m. without_darts m (f k)) gone.map ∙ sym (without_append (concat_below f k) (f k) start);
    cost = omega (arith, cost, gone.cost, length-append (concat_below f k) (f k));
  })

  can_next : (f : ℕ → List Slot) (n k : ℕ) → k < n → CanRemove start (concat_below f n) → CanRemove (without_darts start (concat_below f k)) (f k)
  can_next f zero k h can = absurd (omega arith)
  can_next f (suc n) k h can = elim (cases_eq k n) [
    | inl e ↦ rw e (can_back (concat_below f n) (f n) start can)
    | inr apart ↦ can_next f n k (omega arith) (can_front (concat_below f n) (f n) start can)
  ]

  pub can_go_on : (f : ℕ → List Slot) (n k : ℕ) (now : ArenaMap) (steps : ℕ) → k < n → CanRemove start (concat_below f n) → AreGone (concat_below f k) now steps → CanRemove now (f k)
  can_go_on f n k now steps h can gone = subst (λ m. CanRemove m (f k)) (sym gone.map) (can_next f n k h can)
