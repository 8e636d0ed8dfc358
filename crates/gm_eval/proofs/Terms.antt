-- The dart of a term, from its node's slot along its path.
use Rattle.std.proofs.Common.{◌≡◌, ℕ, ◌+◌, ◌*◌, ◌<◌, ◌≤◌, List, [], ◌∷◌, ◌++◌, length, take, get_or, Some, refl, sym, ◌∙◌, ap, subst}
use Rattle.std.proofs.lemmas.List.{take_more, take_all}
use Rattle.std.proofs.lemmas.Option.{get_or_from_slice_get}
use Rattle.gm_model.specs.declared.expr.DartTerm.{DartTerm}
use Rattle.gm_model.specs.Expressions.{dart_at}
use Rattle.gm_model.specs.Orbits.{follow}
use Rattle.gm_arena.specs.declared.slot.Slot.{Slot}
use Rattle.gm_arena.specs.inner.ArenaMap.{IsAt, alpha, name_at}
use Rattle.gm_arena.proofs.MapLemmas.{IsAt-name_at, name_at-is}
use Rattle.gm_plan.specs.inner.InArena.{slot_number}
use Rattle.gm_plan.specs.inner.Placed.{Placed, slot_at}
use Rattle.gm_eval.specs.declared.reader.Reader.{Reader}
use Rattle.gm_eval.specs.inner.Readers.{IsHere, reading_of}

follow_more : (alphas : ℕ → ℕ → ℕ) (path : List ℕ) (i d : ℕ) → follow alphas (path ++ i ∷ []) d ≡ alphas i (follow alphas path d)
follow_more alphas [] i d = refl
follow_more alphas (j ∷ path) i d = follow_more alphas path i (alphas j d)

pub slot_of_number : (placed : Placed) (x p : ℕ) (s : Slot) → slot_at placed x p ≡ Some s → slot_number placed x p ≡ s.at
slot_of_number placed x p s e = ap (λ (t : Slot). t.at) (get_or_from_slice_get placed.slots (p * placed.nodes + x) s (record { at = 0 }) e)

module _ (reader : Reader) where
  -- the dart of the term's node
  abbrev pub start_of : DartTerm → ℕ
  start_of term = name_at reader.arena.now (slot_number reader.found.now term.node reader.position)

  -- the dart after so many labels of the path
  abbrev pub dart_after : DartTerm → ℕ → ℕ
  dart_after term index = follow (alpha reader.arena.now) (take index term.path) (start_of term)

  pub begins : IsHere reader → (term : DartTerm) (s : Slot) → term.node < reader.found.now.nodes → slot_at reader.found.now term.node reader.position ≡ Some s → IsAt reader.arena.now s.at (start_of term)
  begins here term s within e =
      let m = reader.arena.now in
      let number = slot_number reader.found.now term.node reader.position in
      subst (λ k. IsAt m k (name_at m number)) (slot_of_number reader.found.now term.node reader.position s e) (IsAt-name_at m number (here.live term.node within))

  pub goes_on : (term : DartTerm) (index from to label : ℕ) → index < length term.path → label ≡ get_or term.path index 0 → IsAt reader.arena.now from (dart_after term index)
      → IsAt reader.arena.now to (alpha reader.arena.now label (name_at reader.arena.now from)) → IsAt reader.arena.now to (dart_after term (index + 1))
  goes_on term index from to label within is at there =
      let m = reader.arena.now in
      subst (IsAt m to)
      (ap (λ d. alpha m label d) (name_at-is m from (dart_after term index) at) ∙ ap (λ i. alpha m i (dart_after term index)) is ∙ sym (follow_more (alpha m) (take index term.path) (get_or term.path index 0) (start_of term)) ∙ ap (λ path. follow (alpha m) path (start_of term)) (sym (take_more term.path index 0 within)))
      there

  pub ends : (term : DartTerm) (index at : ℕ) → length term.path ≤ index → IsAt reader.arena.now at (dart_after term index) → IsAt reader.arena.now at (dart_at (reading_of reader) term)
  ends term index at long here = subst (λ path. IsAt reader.arena.now at (follow (alpha reader.arena.now) path (start_of term))) (take_all index term.path long) here
