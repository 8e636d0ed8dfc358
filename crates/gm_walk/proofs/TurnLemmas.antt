-- How the turns of a walk are noted while it grows: a turn stays one, and a part of a walk is no longer than the walk.
use Rattle.std.proofs.Common.{◌≡◌, ℕ, zero, suc, ◌+◌, ◌*◌, ◌<◌, ◌≤◌, List, Some, length, get_or, slice_get, sym, ap, subst, ◌∙◌, inl, inr, arith}
use Rattle.std.specs.List.{Contains}
use Rattle.std.specs.Prelude.{slice_index}
use Rattle.std.proofs.Math.Nat.{mul-le-mul_right}
use Rattle.std.proofs.lemmas.Bool.{cases_lt}
use Rattle.std.proofs.lemmas.List.{length-map, get_or_default}
use Rattle.std.proofs.lemmas.Option.{slice_get_within, get_or_from_slice_get}
use Rattle.gm_model.specs.declared.word.Letter.{Letter}
use Rattle.gm_model.specs.Orbits.{IsWalk, IsWalkTo}
use Rattle.gm_arena.specs.declared.slot.Slot.{Slot}
use Rattle.gm_arena.specs.inner.ArenaMap.{ArenaMap, IsAt, name_at}
use Rattle.gm_walk.specs.inner.Cells.{AreCells, IsRow}
use Rattle.gm_walk.specs.inner.Room.{Room, TakesIn}
use Rattle.gm_walk.specs.inner.Turns.{IsTurn}
use Rattle.gm_walk.specs.inner.Walks.{along, names_of}
use Rattle.gm_walk.proofs.MetLemmas.{few_among}
use Rattle.gm_walk.proofs.NameLemmas.{name_there, at_name, longer_after, same_after}

-- ---- a part of a walk

module _ (next : ℕ → ℕ → ℕ) (width d : ℕ) (walk : List ℕ) (whole : IsWalk next width d walk) (q l : ℕ) (part : List ℕ) (to : IsWalkTo next width d q l part) where
  some_first : (xs : List ℕ) → slice_get xs 0 ≡ Some d → slice_index xs 0 ≡ d
  some_first xs starts = get_or_from_slice_get xs 0 d 0 starts

  -- what follows a dart of the walk is one of its darts
  followed : (e k : ℕ) → k < width → Contains walk e → Contains walk (next e k)
  followed e k place (p, h, same) = subst (λ x. Contains walk (next x k)) (get_or_default walk p 0 e h ∙ same) (whole.closed p k (inl h) h place)

  -- each dart of the part is one of the walk
  is_among : (bound p : ℕ) → p < bound → p < length part → Contains walk (slice_index part p)
  is_among zero p h k = absurd (omega arith)
  is_among (suc bound) p h k = elim (cases_lt 0 p) [
    | inl some ↦
        let s = to.least p some k in
        let at = s.2 in
        let less = at.earlier in
        subst (Contains walk) (sym at.leads) (followed (slice_index part s.0) s.1 at.place (is_among bound s.0 (omega arith) (omega arith)))
    | inr none ↦ (
        let first : p ≡ 0 = omega arith in
        let within = slice_get_within walk 0 d whole.starts in
        let here : slice_index part p ≡ d = ap (slice_index part) first ∙ some_first part to.starts in
        subst (Contains walk) (sym here) (0, within, get_or_from_slice_get walk 0 d d whole.starts)
        )
  ]

  pub part_within : length part ≤ length walk
  part_within = few_among part walk to.distinct among
    where
      among : (e : ℕ) → Contains part e → Contains walk e
      among e (p, h, same) = subst (Contains walk) (get_or_default part p 0 e h ∙ same) (is_among (length part) p h h)

-- ---- turns

module _ (m : ArenaMap) (word : List Letter) (old : Room) (slot : Slot) (new : Room) (takes : TakesIn old slot new) where
  names_longer : length (names_of m old.walked) ≤ length (names_of m new.walked)
  names_longer = omega (arith, longer_after m old slot new takes, length-map old.walked (λ (s : Slot). name_at m s.at), length-map new.walked (λ (s : Slot). name_at m s.at))

  -- names before keep their places
  same_name : (p : ℕ) → p < length (names_of m old.walked) → slice_index (names_of m new.walked) p ≡ slice_index (names_of m old.walked) p
  same_name p h =
      let none : Slot = record { at = 0 } in
      let before : p < length old.walked = omega (arith, h, length-map old.walked (λ (s : Slot). name_at m s.at)) in
      let longer = longer_after m old slot new takes in
      name_there m new.walked p none (omega arith) ∙ ap (λ (s : Slot). name_at m s.at) (same_after m old slot new takes p none before) ∙ sym (name_there m old.walked p none before)

  turn_stays : (p l q : ℕ) → p < length (names_of m old.walked) → IsTurn m word (names_of m old.walked) p l q → IsTurn m word (names_of m new.walked) p l q
  turn_stays p l q h t =
      let longer = names_longer in
      let within = t.within in
      record {
        within = omega arith;
        leads = same_name q within ∙ t.leads ∙ ap (λ e. along m word e l) (sym (same_name p h));
      }

  -- so the turns of a place, and of all before it, stay its turns
  pub row_stays : (p width : ℕ) (row : List ℕ) → p < length old.walked → IsRow (IsTurn m word (names_of m old.walked) p) width row → IsRow (IsTurn m word (names_of m new.walked) p) width row
  row_stays p width row h has x k =
      let old_turn = has x k in
      (old_turn.0, old_turn.1, turn_stays p x old_turn.0 (omega (arith, h, length-map old.walked (λ (s : Slot). name_at m s.at))) old_turn.2)

  pub cells_stay : (rows width : ℕ) (list : List ℕ) → rows ≤ length old.walked → AreCells (IsTurn m word (names_of m old.walked)) rows width list → AreCells (IsTurn m word (names_of m new.walked)) rows width list
  cells_stay rows width list few cells = record {
    long = cells.long;
    each = λ p x h k.
        let old_turn = cells.each p x h k in
        (old_turn.0, old_turn.1, turn_stays p x old_turn.0 (omega (arith, h, few, length-map old.walked (λ (s : Slot). name_at m s.at))) old_turn.2);
  }

  -- the place of the slot that was taken in is a turn
  pub turned : (p l q : ℕ) (from : Slot) → p < length old.walked → get_or old.walked p from ≡ from → IsAt m slot.at (along m word (name_at m from.at) l) → slice_get new.walked q ≡ Some slot → IsTurn m word (names_of m new.walked) p l q
  turned p l q from h here at there =
      let within = slice_get_within new.walked q slot there in
      let longer = longer_after m old slot new takes in
      let start : slice_index (names_of m new.walked) p ≡ name_at m from.at =
      name_there m new.walked p from (omega arith) ∙ ap (λ (s : Slot). name_at m s.at) (same_after m old slot new takes p from h ∙ here) in
      record {
        within = omega (arith, within, length-map new.walked (λ (s : Slot). name_at m s.at));
        leads = name_there m new.walked q slot within ∙ ap (λ (s : Slot). name_at m s.at) (get_or_from_slice_get new.walked q slot slot there) ∙ at_name m slot.at _ at ∙ ap (λ e. along m word e l) (sym start);
      }

-- ---- steps

-- those of a part of the walk, whose next place was followed, are no more than those of the walk
pub turn_steps : (start before after rows width walked : ℕ) → rows < walked → before ≤ start + rows * width → after ≤ before + width → after ≤ start + walked * width
turn_steps start before after rows width walked less a b = omega (arith, mul-le-mul_right width less, a, b)

pub all_steps : (start after rows width walked : ℕ) → rows ≤ walked → after ≤ start + rows * width → after ≤ start + walked * width
all_steps start after rows width walked most a = omega (arith, mul-le-mul_right width most, a)
