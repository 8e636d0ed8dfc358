-- How a list of darts grows by an orbit.
use Rattle.std.proofs.Common.{◌≡◌, ℕ, ◌<◌, ◌≤◌, ◌⊎◌, List, [], ◌∷◌, ◌++◌, Some, length, get_or, slice_get, unwrap_or, sym, ap, subst, ◌∙◌, inl, inr, arith}
use Rattle.std.specs.List.{Contains}
use Rattle.std.specs.Option.{option_map}
use Rattle.std.proofs.lemmas.Bool.{cases_lt}
use Rattle.std.proofs.lemmas.List.{get_or_append_left, get_or_push, get_or_default}
use Rattle.std.proofs.lemmas.Option.{slice_get-get_or}
use Rattle.gm_model.specs.declared.word.Letter.{Letter}
use Rattle.gm_model.specs.declared.word.Letter.TheVariants.{At, Gone}
use Rattle.gm_model.specs.Orbits.{Labels, HasNoRepeats, IsInOrbit}
use Rattle.gm_model.specs.Rules.{label_of}
use Rattle.gm_arena.specs.inner.ArenaMap.{ArenaMap, alpha}
use Rattle.gm_walk.specs.inner.Seen.{HasLettersOf, IsClosed, HasGrownBy}
use Rattle.gm_walk.specs.inner.Walks.{along, label_at}
use Rattle.gm_walk.proofs.WalkLemmas.{place_cases}

pub distinct_push : (xs : List ℕ) (x : ℕ) → HasNoRepeats xs → (Contains xs x → ⊥) → HasNoRepeats (xs ++ x ∷ [])
distinct_push xs x distinct new p q less within same = elim (place_cases xs x q within) [
  | inl k ↦ distinct p q less k (sym (get_or_append_left xs (x ∷ []) 0 p (omega arith)) ∙ (same ∙ get_or_append_left xs (x ∷ []) 0 q k))
  | inr end ↦
      let k : p < length xs = omega arith in
      new (p, k, get_or_default xs p x 0 k ∙ (sym (get_or_append_left xs (x ∷ []) 0 p k) ∙ (same ∙ get_or_push xs x 0 q (sym end))))
]

-- a list with the same front has what the front had
pub contains_on : (old new : List ℕ) → length old ≤ length new → ((p : ℕ) → p < length old → get_or new p 0 ≡ get_or old p 0) → (d : ℕ) → Contains old d → Contains new d
contains_on old new longer front d (p, h, e) =
    let k : p < length new = omega arith in
    (p, k, get_or_default new p d 0 k ∙ (front p h ∙ (sym (get_or_default old p d 0 h) ∙ e)))

module _ (m : ArenaMap) (word : List Letter) where
  pub label_there : (l i : ℕ) → slice_get word l ≡ Some (At i) → label_at word l ≡ i
  label_there l i e = ap (λ x. unwrap_or (option_map label_of x) 0) e

  pub neighbour_in : (o : Labels) → HasLettersOf o word → (x l : ℕ) → l < length word → IsInOrbit (alpha m) o x (along m word x l)
  neighbour_in o has x l within =
      let letter = has.only l (get_or word l Gone) (slice_get-get_or word l Gone within) in
      let is : label_at word l ≡ letter.0 = label_there l letter.0 (slice_get-get_or word l Gone within ∙ ap Some letter.1) in
      (letter.0 ∷ [], (letter.2, tt), ap (λ i. alpha m i x) (sym is))

  -- a closed list stays closed
  pub grown_closed : (d : ℕ) (old new : List ℕ) → HasGrownBy m word d old new → IsClosed m word old → IsClosed m word new
  grown_closed d old new g closed e l (p, h, is) room =
      let there : get_or new p 0 ≡ e = get_or_default new p 0 e h ∙ is in
      elim (cases_lt p (length old)) [
        | inl less ↦ contains_on old new g.longer g.front (along m word e l) (closed e l (p, less, get_or_default old p e 0 less ∙ (sym (g.front p less) ∙ there)) room)
        | inr more ↦ subst (λ x. Contains new (along m word x l)) there (g.closed p l more h room)
      ]

  -- and has no other darts than those of the old list and of the orbit
  pub grown_only : (d : ℕ) (old new : List ℕ) → HasGrownBy m word d old new → (o : Labels) → HasLettersOf o word → (e : ℕ) → Contains new e → Contains old e ⊎ IsInOrbit (alpha m) o d e
  grown_only d old new g o has e (p, h, is) =
      let there : get_or new p 0 ≡ e = get_or_default new p 0 e h ∙ is in
      elim (cases_lt p (length old)) [
        | inl less ↦ inl (p, less, get_or_default old p e 0 less ∙ (sym (g.front p less) ∙ there))
        | inr more ↦ inr (subst (IsInOrbit (alpha m) o d) there (g.only o has p more h))
      ]
