-- How it is seen that no slot comes twice, where the slots of one node are taken already.
use Rattle.std.proofs.Common.{Bool, false, get_or, ◌==◌, ◌≡◌, ◌≢◌, ℕ, ◌+◌, ◌*◌, ◌/◌, ◌%◌, ◌<◌, length, ◌⊎◌, inl, inr, List, [], ◌∷◌, ◌++◌, Some, refl, sym, ap, subst, ◌∙◌, arith}
use Rattle.std.proofs.lemmas.Bool.{cases_lt, cases_order, eq-eqb, false≢true}
use Rattle.std.proofs.lemmas.List.Elements.{Contains-append_left, Contains-push}
use Rattle.std.proofs.lemmas.Nat.{mul-add-lt, div-mul-add, mod-mul-add}
use Rattle.std.proofs.lemmas.Option.{slice_get-get_or, slice_get_within, get_or_from_slice_get}
use Rattle.std.specs.List.{slice_get, Contains}
use Rattle.gm_model.specs.Orbits.{IsPairBefore}
use Rattle.gm_arena.specs.declared.slot.Slot.{Slot}
use Rattle.gm_plan.specs.inner.Placed.{Placed, slot_at}
use Rattle.gm_theory.proofs.Lists.{some_same}
use Rattle.gm_walk.proofs.NameLemmas.{IsNewLast}
use Rattle.gm_match.specs.inner.Taken.{AreApart, AreSlotsOf, IsAmong, TakeEachOnce, TakesEachOnce}
use Rattle.gm_match.proofs.Taking.{before_next}

module _ (found : Placed) (h : ℕ) where
  same_at : (y q x p : ℕ) → y ≡ x → q ≡ p → slot_at found y q ≡ slot_at found x p
  same_at y q x p e f = ap (λ w. slot_at found w q) e ∙ ap (slot_at found x) f

  -- at first there are those of the one node
  only : (y q : ℕ) → IsAmong found h 0 0 y q → y ≡ h
  only y q (_, inl e) = e
  only y q (_, inr (inl less)) = absurd (omega arith)
  only y q (_, inr (inr (e, less))) = absurd (omega arith)

  pub one_apart : (slots : List Slot) → AreSlotsOf found h slots → TakesEachOnce found h → AreApart found h 0 0 slots
  one_apart slots are once = record {
    here = λ y q s among at.
        let there : slice_get slots q ≡ Some s = sym (are q among.0) ∙ sym (same_at y q h q (only y q among) refl) ∙ at in
        (q, slice_get_within slots q s there, get_or_from_slice_get slots q s s there);
    distinct = λ y q z r a b before same. once q r (later y q z r (only y q a) (only z r b) before) b.0 (sym (same_at y q h q (only y q a) refl) ∙ same ∙ same_at z r h r (only z r b) refl);
  }
    where
      later : (y q z r : ℕ) → y ≡ h → z ≡ h → IsPairBefore y q z r → q < r
      later y q z r e f (inl less) = absurd (omega (arith, e, f))
      later y q z r e f (inr (_, less)) = less

  -- what is among fewer instances is apart as well
  among_fewer : (x p x2 p2 : ℕ) (slots : List Slot) → ((y q : ℕ) → IsAmong found h x2 p2 y q → IsAmong found h x p y q) → AreApart found h x p slots → AreApart found h x2 p2 slots
  among_fewer x p x2 p2 slots among apart = record {
    here = λ y q s a at. apart.here y q s (among y q a) at;
    distinct = λ y q z r a b. apart.distinct y q z r (among y q a) (among z r b);
  }

  -- the one node has nothing more to be taken
  pub hook_passed : (x : ℕ) (slots : List Slot) → x ≡ h → AreApart found h x 0 slots → AreApart found h (x + 1) 0 slots
  hook_passed x slots same = among_fewer x 0 (x + 1) 0 slots among
    where
      among : (y q : ℕ) → IsAmong found h (x + 1) 0 y q → IsAmong found h x 0 y q
      among y q (b, inl e) = (b, inl e)
      among y q (b, inr (inl less)) = elim (cases_lt y x) [ inl l ↦ (b, inr (inl l)) | inr l ↦ (b, inl (omega (arith, less, l, same))) ]
      among y q (b, inr (inr (e, less))) = absurd (omega arith)

  -- a node that is taken is behind
  pub node_passed : (x p : ℕ) (slots : List Slot) → p ≡ found.positions → AreApart found h x p slots → AreApart found h (x + 1) 0 slots
  node_passed x p slots all = among_fewer x p (x + 1) 0 slots among
    where
      among : (y q : ℕ) → IsAmong found h (x + 1) 0 y q → IsAmong found h x p y q
      among y q (b, inl e) = (b, inl e)
      among y q (b, inr (inl less)) = elim (cases_lt y x) [ inl l ↦ (b, inr (inl l)) | inr l ↦ (b, inr (inr (omega (arith, less, l), omega (arith, b, all)))) ]
      among y q (b, inr (inr (e, less))) = absurd (omega arith)

  module _ (x p : ℕ) (slots : List Slot) (apart : AreApart found h x p slots) (s : Slot) (at : slot_at found x p ≡ Some s) where
    among_next : (y q : ℕ) → IsAmong found h x (p + 1) y q → IsAmong found h x p y q ⊎ ((y ≡ x) × (q ≡ p))
    among_next y q (b, inl e) = inl (b, inl e)
    among_next y q (b, inr before) = elim (before_next y q x p before) [ inl earlier ↦ inl (b, inr earlier) | inr same ↦ inr same ]

    never : (y q z r : ℕ) → y ≡ x → q ≡ p → z ≡ x → r ≡ p → IsPairBefore y q z r → ⊥
    never y q z r e f e2 f2 (inl less) = omega (arith, e, e2)
    never y q z r e f e2 f2 (inr (_, less)) = omega (arith, f, f2)

    -- a slot that is new is apart from them
    pub next_apart : (walked : List Slot) → IsNewLast slots s walked → AreApart found h x (p + 1) walked
    next_apart walked new = subst (AreApart found h x (p + 1)) (sym new.last) (record { here = here; distinct = distinct })
      where
        fresh : (y q : ℕ) → IsAmong found h x p y q → slot_at found y q ≡ slot_at found x p → ⊥
        fresh y q among same = new.lacks (apart.here y q s among (same ∙ at))

        here : (y q : ℕ) (t : Slot) → IsAmong found h x (p + 1) y q → slot_at found y q ≡ Some t → Contains (slots ++ s ∷ []) t
        here y q t among there = elim (among_next y q among) [
          | inl old ↦ Contains-append_left slots (s ∷ []) t (apart.here y q t old there)
          | inr (e, f) ↦ subst (Contains (slots ++ s ∷ [])) (some_same s t (sym at ∙ sym (same_at y q x p e f) ∙ there)) (Contains-push slots s)
        ]

        distinct : (y q z r : ℕ) → IsAmong found h x (p + 1) y q → IsAmong found h x (p + 1) z r → IsPairBefore y q z r → slot_at found y q ≡ slot_at found z r → ⊥
        distinct y q z r a b before same = elim (among_next y q a) [
          | inl old ↦ elim (among_next z r b) [
            | inl other ↦ apart.distinct y q z r old other before same
            | inr (e, f) ↦ fresh y q old (same ∙ same_at z r x p e f)
          ]
          | inr (e, f) ↦ elim (among_next z r b) [
            | inl other ↦ fresh z r other (sym same ∙ same_at y q x p e f)
            | inr (e2, f2) ↦ never y q z r e f e2 f2 before
          ]
        ]

  -- where all nodes are taken so, each slot is taken once
  pub all_apart : (slots : List Slot) → AreApart found h found.nodes 0 slots → TakeEachOnce found
  all_apart slots apart y q z r before last q_in r_in = apart.distinct y q z r (q_in, inr (inl (below before last))) (r_in, inr last) before
    where
      below : IsPairBefore y q z r → IsPairBefore z r found.nodes 0 → y < found.nodes
      below (inl less) (inl l) = omega (arith, less, l)
      below (inr (e, less)) (inl l) = omega (arith, e, l)
      below b (inr (e, less)) = absurd (omega arith)

-- ---- slots that are compared with one another

module _ (found : Placed) (each : (place earlier : ℕ) → place < length found.slots → earlier < place → slice_get found.slots earlier ≢ slice_get found.slots place) (long : found.positions * found.nodes ≡ length found.slots) where
  place_of_pair : (y q : ℕ) → y < found.nodes → q < found.positions → q * found.nodes + y < length found.slots
  place_of_pair y q left within = omega (arith, mul-add-lt q found.nodes y found.positions within left, long)

  both_left : (y q z r : ℕ) → IsPairBefore y q z r → IsPairBefore z r found.nodes 0 → (y < found.nodes) × (z < found.nodes)
  both_left y q z r before (inl left) = elim before [ inl less ↦ (omega (arith, less, left), left) | inr same ↦ (omega (arith, same.0, left), left) ]
  both_left y q z r before (inr (_, less)) = absurd (omega arith)

  one_place : (y q z r : ℕ) → y < found.nodes → z < found.nodes → IsPairBefore y q z r → q * found.nodes + y ≡ r * found.nodes + z → ⊥
  one_place y q z r left left2 before same =
      let row : q ≡ r = sym (div-mul-add q found.nodes y left) ∙ ap (λ n. n / found.nodes) same ∙ div-mul-add r found.nodes z left2 in
      let node : y ≡ z = sym (mod-mul-add q found.nodes y left) ∙ ap (λ n. n % found.nodes) same ∙ mod-mul-add r found.nodes z left2 in
      elim before [ inl less ↦ omega (arith, less, node) | inr later ↦ omega (arith, later.1, row) ]

  pub each_once : TakeEachOnce found
  each_once y q z r before last within within2 equal =
      let left = both_left y q z r before last in
      elim (cases_order (q * found.nodes + y) (r * found.nodes + z)) [
        | inl same ↦ one_place y q z r left.0 left.1 before same
        | inr (inl less) ↦ each (r * found.nodes + z) (q * found.nodes + y) (place_of_pair z r left.1 within2) less equal
        | inr (inr less) ↦ each (q * found.nodes + y) (r * found.nodes + z) (place_of_pair y q left.0 within) less (sym equal)
      ]

-- two slots that are compared are different
pub other_slot : (slots : List Slot) (k place : ℕ) (answer : Bool) → k < length slots → place < length slots → answer ≡ ((get_or slots k (record { at = 0 })).at == (get_or slots place (record { at = 0 })).at) → answer ≡ false → slice_get slots k ≢ slice_get slots place
other_slot slots k place answer low within is differs same =
    let here = slice_get-get_or slots k (record { at = 0 }) low in
    let there = slice_get-get_or slots place (record { at = 0 }) within in
    false≢true (sym differs ∙ is ∙ eq-eqb _ _ (ap (λ (s : Slot). s.at) (some_same _ _ (sym here ∙ same ∙ there))))
